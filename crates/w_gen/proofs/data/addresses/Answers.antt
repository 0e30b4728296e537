use Rattle.std.proofs.Common.{◌≡◌, ◌+◌, List, [], ◌∷◌, ◌++◌, drop, sym, ap, ◌∙◌}
use Rattle.std.proofs.lemmas.List.{append-nil, drop_more, drop_all}
use Rattle.t_terms.specs.Read.{data_of}
use Rattle.t_terms.specs.declared.data.Data.{Data}
use Rattle.w_gen.specs.Data.{addresses_of}
use Rattle.w_gen.proofs.DataWalks.{addresses_go}
use Rattle.w_gen.proofs.data.addresses.Goals as goal

pub loop-tuple-preserved : goal.loop-tuple-preserved
loop-tuple-preserved c =
    let l = c.loop-tuple in
    let xs = c.args.heap.now in
    let x = c.tuple-item.result in
    let i = l.tuple-index in
    let next = drop_more xs i x c.loop-tuple-test.true
    ∙ ap (λ (y : Data). y ∷ drop (i + 1) xs) (sym c.tuple-item.is) in
    addresses_go l.places.items c.push.new.self.items l.next c.in_ok-first.first c.in_ok-after.after (drop i xs)
    (drop (i + 1) xs) x (addresses_of c.args.start (data_of xs)) l.invariant next c.in_ok-first.ensures
    c.in_ok-push.ensures.items c.in_ok-after.ensures

pub returns : goal.returns
returns c =
    let l = c.loop-tuple in
    let xs = c.args.heap.now in
    let none : drop l.tuple-index xs ≡ [] = drop_all l.tuple-index xs c.loop-tuple-test.false in
    sym (append-nil l.places.items)
    ∙ sym (ap (λ (ys : List Data). l.places.items ++ addresses_of l.next (data_of ys)) none) ∙ l.invariant
