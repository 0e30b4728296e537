-- What the steps of `trace` do.
use Rattle.std.specs.Prelude.{◌≡◌, ◌++◌, ℕ, List, Some}
use Rattle.t_types.specs.Tree.{TFile, NoRegs, MoreRegs}
use Rattle.t_terms.specs.Tree.{TProg}
use Rattle.t_rules.specs.Erase.{EWord, ERegs}
use Rattle.talc_core.specs.declared.reply.Ending.{Ending}
use Rattle.talc_core.specs.declared.reply.Ending.TheVariants.{Ends, GoesOn}
use Rattle.talc_core.specs.Traced.{IsLine, HaltedStates, RunningStates}

-- each register of the file has a word
abbrev pub HaveAll : ERegs → TFile → Type 0
HaveAll r NoRegs = Unit {0}
HaveAll r (MoreRegs q t file) = ((w : EWord) × (r q ≡ Some w)) × HaveAll r file

-- the line of the state after m steps is put behind the others
abbrev pub AddsLine : TProg → ℕ → List ℕ → List ℕ → Type 0
AddsLine P m old new = (line : List ℕ) × IsLine P m line × (new ≡ old ++ line)

-- the lines of the states, and what is said behind them by how the command ends
abbrev pub StatesShown : TProg → (from to : ℕ) → Ending → List ℕ → Type 0
StatesShown P from to Ends lines = HaltedStates P from to lines
StatesShown P from to GoesOn lines = RunningStates P from to lines
