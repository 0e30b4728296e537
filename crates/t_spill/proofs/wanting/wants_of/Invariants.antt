use Rattle.std.proofs.Common.{◌≡◌, ℕ}
use Rattle.t_types.specs.Tree.{TFile}
use Rattle.t_types.specs.Read.{file_tree}
use Rattle.t_terms.specs.ReadProgram.{program}
use Rattle.t_spill_rules.specs.Spill.{live}
use Rattle.t_spill.specs.Known.{Knows}
use Rattle.t_spill.specs.Ready.{Ready}
use Rattle.t_spill.specs.Tails.{tail_of}
use Rattle.t_spill.specs.Wants.{join}
use Rattle.t_spill.proofs.wanting.wants_of.Given as goal

abbrev pub invariant-loop-entry : goal.invariant-loop-entry
invariant-loop-entry l =
    (n : ℕ) × (x : TFile) × Knows n l.known x × Ready (program l.program) n x (tail_of l.body l.«end» l.entry-index)
    × (join l.wants.items (live (program l.program) x (tail_of l.body l.«end» l.entry-index)) ≡ live
    (program l.program) (file_tree l.start) (tail_of l.body l.«end» 0))
