-- What the fields of a table of types keep: the nodes and the bounds of its types, the pairs that were seen to fit,
-- and the shifts, the marked types and the applied types that were made.
use Rattle.std.specs.Prelude.{ℕ, Bool, List, [], Option}
use Rattle.t_intern.specs.Fitting.{AllFit}
use Rattle.t_intern.specs.Grown.{Once, AreBounds}
use Rattle.t_intern.specs.Memo.{AreShifts, AreMarked, AreApplied}
use Rattle.t_intern.specs.Nodes.{Node, types_of, PartsFirst}

pub record IsTable (ns : List Node) (bs : List ℕ) (seen : ℕ × ℕ → Bool)
    (made : ℕ × (ℕ × ℕ) → Option ℕ) (marks apps : ℕ × ℕ → Option ℕ) : Type 0 where
  pub parts : PartsFirst 0 ns
  pub once : Once (types_of [] ns)
  pub bounds : AreBounds bs (types_of [] ns)
  pub fitted : AllFit seen (types_of [] ns)
  pub shifted : AreShifts made (types_of [] ns)
  pub marked : AreMarked marks (types_of [] ns)
  pub applied : AreApplied apps (types_of [] ns)
