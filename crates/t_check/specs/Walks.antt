-- What is known at a place of a program, as a file; and the walk over the places.
use Rattle.std.specs.Prelude.{◌≡◌, ℕ, List, MatchOption, Option}
use Rattle.t_types.specs.Tree.{Ty, TFile, BelowFile}
use Rattle.t_types.specs.Fits.{RegTypes, lookup}
use Rattle.t_terms.specs.Tree.{TInstr, TProg, names_after}
use Rattle.t_terms.specs.ReadProgram.{program}
use Rattle.t_terms.specs.declared.program.TProgram.{TProgram}
use Rattle.t_rules.specs.Rules.{Typed, Accepted}
use Rattle.t_rules.specs.Known.{KnownAt}
use Rattle.t_known.specs.Fitted.{Rises}
use Rattle.t_known.specs.Known.{known, IsSound}
use Rattle.t_known.specs.Labels.{AreLabels}
use Rattle.t_check.specs.Verdict.{program_in, known_at}
use Rattle.t_check.specs.declared.checker.Checker.{Checker}
use Rattle.t_check.specs.declared.walk.Stand.{Stand}
use Rattle.t_check.specs.declared.walk.Walk.{Walk}

-- the file says what g says, under n type names: its registers rise, and its types are in scope
abbrev pub IsFileOf : RegTypes → ℕ → TFile → Type 0
IsFileOf g n file = (lookup file ≡ g) × Rises file × BelowFile n file

-- at the place n type names are in scope, and the file says what is known of the registers
pub record IsKnownFile (P : TProg) (block index n : ℕ) (file : TFile) : Type 0 where
  pub known : KnownAt P block index n (lookup file)
  pub rises : Rises file
  pub scope : BelowFile n file

-- at the place n type names are in scope, and this is known of the register r
pub record IsKnownRegister (P : TProg) (block index r n : ℕ) (type : Option Ty) : Type 0 where
  pub types : RegTypes
  pub known : KnownAt P block index n types
  pub is : types r ≡ type

-- the instruction is typed at the checker's place
abbrev pub IsTyped : List Ty → Checker → TInstr → Type 0
IsTyped ts c i = ∥ ((h : RegTypes) × Typed (program_in c) c.registers.names (known_at ts c) i h) ∥₁

-- the instruction leads the checker c to d
abbrev pub IsPassed : List Ty → List Ty → Checker → Checker → TInstr → Type 0
IsPassed ts us c d i =
    Typed (program_in c) c.registers.names (known_at ts c) i (known_at us d) × IsSound us d.registers
    × (d.registers.names ≡ names_after i c.registers.names)

-- what stands there is what is known at its place
pub record IsStand (ts : List Ty) (p : TProgram) (s : Stand) : Type 0 where
  pub sound : IsSound ts s.registers
  pub known : KnownAt (program p) s.block s.index s.registers.names (known ts s.registers)

abbrev pub IsStandAt : List Ty → TProgram → ℕ → ℕ → Stand → Type 0
IsStandAt ts p block index s = IsStand ts p s × (s.block ≡ block) × (s.index ≡ index)

-- the program that a walk goes over
abbrev pub walked : Walk → TProg
walked w = program w.program.now

pub record IsWalk (w : Walk) : Type 0 where
  pub accepted : ∥ Accepted (program w.program.now) ∥₁
  pub labels : AreLabels w.types w.program.now w.labels
  pub stands : MatchOption w.stand (Unit {0}) (λ s. IsStand w.types w.program.now s)
