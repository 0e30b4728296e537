-- What a refusal says, where the types have the numbers of a table.
use Rattle.std.specs.Prelude.{◌≡◌, ℕ, ◌<◌, List, length, Option, None, option_map, IfSome, Result, Ok, Err}
use Rattle.idx_core.specs.declared.memory.OutOfMemory.{OutOfMemory}
use Rattle.t_types.specs.Tree.{Ty}
use Rattle.t_terms.specs.declared.fault.TFault.{TFault}
use Rattle.t_terms.specs.declared.fault.TFault.TheVariants as fault
use Rattle.t_intern.specs.Nodes.{at}
use Rattle.t_rules.specs.Mismatch as plain
use Rattle.t_rules.specs.Mismatch.{told}
use Rattle.t_rules.specs.Faults.{FaultWith}
use Rattle.t_known.specs.ReadMismatch.{mismatch_or_none}
use Rattle.t_known.specs.declared.mismatch.Mismatch.{Mismatch}
use Rattle.t_known.specs.declared.odds.Odds.{Odds}
use Rattle.t_known.specs.declared.odds.Odds.TheVariants.{Types, NoPackage, Register}
use Rattle.t_known.specs.declared.refusal.Refusal.{Refusal}
use Rattle.t_known.specs.declared.refusal.Refusal.TheVariants.{Memory, Refused, AtOdds}

-- what is at odds, by the types of these numbers
abbrev pub odds_at : List Ty → Odds → plain.Mismatch
odds_at ts (Types wanted found names) = plain.Types (at ts wanted) (at ts found) names
odds_at ts (NoPackage found names) = plain.NoPackage (at ts found) names
odds_at ts (Register r wanted found names) = plain.Register r (at ts wanted) (option_map (at ts) found) names

-- its numbers are less than n
abbrev pub OddsBelow : ℕ → Odds → Type 0
OddsBelow n (Types wanted found names) = (wanted < n) × (found < n)
OddsBelow n (NoPackage found names) = found < n
OddsBelow n (Register r wanted found names) = (wanted < n) × IfSome found (λ m. m < n)

-- the same of a refusal
abbrev pub IsBelow : ℕ → Refusal → Type 0
IsBelow n Memory = Unit {0}
IsBelow n (Refused code span) = Unit {0}
IsBelow n (AtOdds code span odds) = OddsBelow n odds

-- it is want of memory, or the fault that is described
abbrev pub SaysWith : List Ty → Refusal → FaultWith → Type 0
SaysWith ts Memory fault = Unit {0}
SaysWith ts (Refused code span) fault = fault (code, None) span
SaysWith ts (AtOdds code span odds) fault = OddsBelow (length ts) odds × fault (code, told (odds_at ts odds)) span

-- what is left of it where nobody asks what is at odds
abbrev pub fault_of : Refusal → TFault
fault_of Memory = fault.Memory
fault_of (Refused code span) = fault.Refused code span
fault_of (AtOdds code span odds) = fault.Refused code span

-- what is said in it to be at odds, unless memory was or would be wanted
abbrev pub IsMismatchOf : List Ty → Refusal → Result (Option Mismatch) OutOfMemory → Type 0
IsMismatchOf ts Memory (Ok m) = ⊥
IsMismatchOf ts (Refused code span) (Ok m) = m ≡ None
IsMismatchOf ts (AtOdds code span odds) (Ok m) = mismatch_or_none m ≡ told (odds_at ts odds)
IsMismatchOf ts f (Err e) = Unit {0}
