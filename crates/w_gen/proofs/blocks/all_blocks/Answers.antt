use Rattle.std.proofs.Common.{◌≡◌, ◌++◌, map, sym, ap, ap₂, ◌∙◌, append_assoc}
use Rattle.std.specs.Prelude.{slice_index}
use Rattle.std.proofs.lemmas.Result.{IfOk-weaker}
use Rattle.w_terms.specs.Read.{block}
use Rattle.w_rooms.specs.Numbers.{entry}
use Rattle.w_laws.specs.Translate.{codes_of, blocks_of}
use Rattle.w_gen.proofs.Shares.{erased, count, map_both}
use Rattle.w_gen.proofs.blocks.all_blocks.Goals as goal

pub returns : goal.returns
returns c =
    let xs = c.args.blocks.now in
    let at = slice_index c.args.places.now in
    let es = erased xs in
    let made = c.in_ok-firsts.field-0 in
    let run = c.args.runtime.items in
    let from = c.in_ok-from.ensures ∙ ap entry (sym (count xs)) in
    let firsts = c.in_ok-firsts.ensures.firsts ∙ ap (λ n. (codes_of at n es).firsts) from in
    let rest = c.in_ok-firsts.ensures.rest ∙ ap (λ n. (codes_of at n es).rest) from in
    IfOk-weaker c.put_behind.result (λ v. v.items ≡ (run ++ made.firsts.items) ++ made.rest.items)
    (λ v. map block v.items ≡ blocks_of at (map block run) es)
    (λ v e. ap (map block) e ∙ map_both (run ++ made.firsts.items) made.rest.items
    ∙ ap (λ x. x ++ map block made.rest.items) (map_both run made.firsts.items)
    ∙ append_assoc (map block run) (map block made.firsts.items) (map block made.rest.items)
    ∙ ap₂ (λ x y. map block run ++ (x ++ y)) firsts rest)
    c.put_behind.ensures
