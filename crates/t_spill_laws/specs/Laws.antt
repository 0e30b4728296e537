-- Statements of laws.
use Rattle.std.specs.Prelude.{◌≡◌, ℕ, ◌≤◌}
use Rattle.t_types.specs.Tree.{Ty, TFile}
use Rattle.t_types.specs.Fits.{RegTypes, lookup}
use Rattle.t_terms.specs.Tree.{TValue, TInstr, TProg}
use Rattle.t_rules.specs.Rules.{Has, Typed}
use Rattle.t_rules.specs.Machine.{State, Place, After}
use Rattle.t_rules.specs.Times.{Times, Entries}
use Rattle.t_spill_laws.specs.Correct.{CountsKept}
use Rattle.t_spill_rules.specs.Spill.{type_of, next}

-- Where counts are kept and no block of the first program is entered more than n times, no place of the second is
-- executed more often.
abbrev pub SpilledRunSeldom : Type 0
SpilledRunSeldom =
    (P Q : TProg) (from : Place → Place) → CountsKept P Q from → (n : ℕ) →
    ((m : ℕ) (s : State) (p : Place) (run : After P m s p) (b : ℕ) → Entries P m s p run b ≤ n) →
    (m : ℕ) (s : State) (p : Place) (run : After Q m s p) (b i : ℕ) → Times Q m s p run b i ≤ n

-- The type of a value, and what is known of the registers after an instruction, as functions of what is known before
-- it:
-- they tell what the typing rules do.
abbrev pub TypesAreTold : Type 0
TypesAreTold =
    (P : TProg) (n : ℕ) (file : TFile) (v : TValue) (t : Ty) → Has P n (lookup file) v t → type_of P file v ≡ t

abbrev pub FilesAreTold : Type 0
FilesAreTold =
    (P : TProg) (n : ℕ) (file : TFile) (i : TInstr) (h : RegTypes) → Typed P n (lookup file) i h →
    h ≡ lookup (next P file i)
