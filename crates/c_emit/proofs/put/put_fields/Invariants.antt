use Rattle.std.proofs.Common.{◌≡◌, ◌+◌, ◌-◌, List}
use Rattle.c_terms.specs.Stream as S
use Rattle.c_rules.specs.Emit as E
use Rattle.c_terms.specs.Read.{written}
use Rattle.c_emit.proofs.put.put_fields.Given as goal

abbrev pub invariant-loop-i : goal.invariant-loop-i
invariant-loop-i l = (rest : List S.CNd) → written l.out.items (E.fields (l.k - l.i) l.level (l.i + 1) rest)
    ≡ written l.initial.out.items (E.fields l.k l.first 1 rest)
