use Rattle.std.proofs.Common.{◌≡◌, ◌++◌, ◌∙◌, ℕ, List, ap, append_assoc, length, map, take, nat_lt, min}
use Rattle.std.proofs.lemmas.List.{take_min}
use Rattle.page_core.specs.Page.{shown_byte, shown_rest, dots}
use Rattle.page_core.proofs.excerpt.write_rest.Goals as goal

both : (old shown end rest : List ℕ) (n : ℕ) → n ≡ min 100 (length rest) →
    shown ≡ old ++ map shown_byte (take n rest) → end ≡ shown ++ dots (nat_lt 100 (length rest)) →
    end ≡ old ++ shown_rest rest
both old shown end rest n few is ends =
    let cut = dots (nat_lt 100 (length rest)) in
    ends
    ∙ ap (λ t. t ++ cut)
    (is ∙ ap (λ k. old ++ map shown_byte (take k rest)) few
    ∙ ap (λ t. old ++ map shown_byte t) (take_min 100 rest))
    ∙ append_assoc old (map shown_byte (take 100 rest)) cut

pub returns : goal.returns
returns c =
    both c.args.page.now.items c.write_shown.new.page.items c.write_dots.new.page.items c.args.rest.now
    c.min-count.result c.min-count.ensures c.in_ok-write_shown.ensures c.in_ok-write_dots.ensures
