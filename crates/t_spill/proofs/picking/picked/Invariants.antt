use Rattle.std.proofs.Common.{◌≡◌, ℕ, List, drop}
use Rattle.t_types.specs.Tree.{TFile}
use Rattle.t_spill_code.specs.Onto.{front}
use Rattle.t_spill.specs.Known.{Knows}
use Rattle.t_spill.specs.Picking.{picked}
use Rattle.t_spill.specs.Wants.{Tells}
use Rattle.t_spill.proofs.picking.picked.Given as goal

abbrev pub invariant-loop-r : goal.invariant-loop-r
invariant-loop-r l = (n : ℕ) (x : TFile) (ws : List ℕ) → Knows n l.known x → Tells l.ahead ws →
    front l.made.items (picked l.homes.split.low ws x (drop l.r-index l.r-items))
    ≡ picked l.homes.split.low ws x l.r-items
