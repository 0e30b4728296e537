use Rattle.std.proofs.Common.{◌≡◌, ◌++◌, take, map}
use Rattle.f_terms.specs.Ty.{tys}
use Rattle.f_terms.specs.Text.{texts_at}
use Rattle.f_terms.specs.Read.{tree}
use Rattle.f_writer.proofs.types.+write_type.Given as goal

abbrev pub invariant-loop-i : goal.invariant-loop-i
invariant-loop-i l = l.text.items ≡ l.initial.text.items ++ texts_at l.depth 0
    (tys (map tree (take l.i l.part-items)))
