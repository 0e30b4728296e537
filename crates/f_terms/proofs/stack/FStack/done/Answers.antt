use Rattle.std.proofs.Common.{ap, sym, ◌∙◌, ◌∷◌, [], map}
use Rattle.f_terms.specs.Tm.{Tm}
use Rattle.f_terms.specs.ReadTerm.{part}
use Rattle.f_terms.proofs.Stacking.{one_part}
use Rattle.f_terms.proofs.stack.FStack.done.Goals as goal

pub done-requires : goal.done-requires
done-requires c =
    let s = c.args.self in
    let one = one_part s.parts s.numbers.items s.only c.requires in
    (one.0, one.2, one.3)

pub returns : goal.returns
returns c =
    let s = c.args.self in
    let one = one_part s.parts s.numbers.items s.only c.requires in
    ap (map (part s.parts)) one.1 ∙ ap (λ (t : Tm). t ∷ []) (sym (c.done.ensures one.0 one.2))
