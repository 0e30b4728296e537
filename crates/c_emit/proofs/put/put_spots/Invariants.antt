use Rattle.std.proofs.Common.{◌≡◌, List, drop}
use Rattle.c_terms.specs.Stream as S
use Rattle.c_rules.specs.Emit as E
use Rattle.c_terms.specs.Read.{written}
use Rattle.c_emit.specs.Read.{frame}
use Rattle.c_emit.proofs.put.put_spots.Given as goal

abbrev pub invariant-loop-l : goal.invariant-loop-l
invariant-loop-l l = (rest : List S.CNd) → written l.out.items (E.spots (frame l.f) (drop l.l-index l.levels) rest)
    ≡ written l.initial.out.items (E.spots (frame l.f) l.levels rest)
