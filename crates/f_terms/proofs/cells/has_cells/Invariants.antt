use Rattle.std.proofs.Common.{◌≡◌, ◌<◌, ℕ, false, get_or}
use Rattle.f_terms.specs.Cells.{is_of_cells}
use Rattle.f_terms.specs.ReadTerm.{no_node}
use Rattle.f_terms.proofs.cells.has_cells.Given as goal

abbrev pub invariant-loop-node : goal.invariant-loop-node
invariant-loop-node l = (k : ℕ) → k < l.node-index → is_of_cells (get_or l.node-items k no_node).shape ≡ false
