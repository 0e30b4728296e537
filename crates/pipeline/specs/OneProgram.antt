-- One source gives one program.
use Rattle.std.specs.Prelude.{◌≡◌, ℕ}
use Rattle.f_terms.specs.Tm.{Term}
use Rattle.f_terms.specs.Typing.{IsProgram}
use Rattle.k_laws.specs.Annotate.{cps_term}
use Rattle.c_rules.specs.Close.{close_of}
use Rattle.h_pass.specs.Hoist.{blocks_of, main_of}
use Rattle.a_laws.specs.Allocate.{alloc_prog, alloc_main}
use Rattle.t_terms.specs.Tree.{TProg}
use Rattle.t_gen_rules.specs.Gen.{generated}
use Rattle.pipeline.specs.Compilation.{IsTranslation, IsCompilation, IsCompilationWithin}
use Rattle.pipeline.specs.Made.{IsMade}

-- what a term is compiled to is one program: no name, no place, no order is left to choose
abbrev pub OneProgram : Type 0
OneProgram = (e : Term) (P Q : TProg) → IsCompilation e P → IsCompilation e Q → P ≡ Q

-- nor is it within a bound on registers
abbrev pub OneProgramWithin : Type 0
OneProgramWithin = (k : ℕ) (e : Term) (P Q : TProg) → IsCompilationWithin k e P → IsCompilationWithin k e Q → P ≡ Q

-- the forms on the way of a translation are those that the functions of the passes give
pub record AsMade (e : Term) (P : TProg) (t : IsTranslation e P) : Type 0 where
  pub converted : t.converted ≡ cps_term e
  pub closed : t.closed ≡ close_of t.converted
  pub blocks : t.blocks ≡ blocks_of t.closed
  pub main : t.main ≡ main_of t.closed
  pub allocated : t.allocated ≡ alloc_prog t.blocks t.main
  pub start : t.start ≡ alloc_main t.blocks t.main
  pub program : P ≡ generated t.allocated t.start

-- the rules of closure conversion leave nothing to choose: of one converted term there is one closed term
abbrev pub OneClosedTerm : Type 0
OneClosedTerm =
    (e : Term) (P Q : TProg) (a : IsTranslation e P) (b : IsTranslation e Q) → a.converted ≡ b.converted →
    a.closed ≡ b.closed

-- the program that the passes make of a program of the source is a translation of it by the rules, with the forms on
-- the way that they make
abbrev pub MadeIsTranslated : Type 0
MadeIsTranslated =
    (e : Term) (P : TProg) → IsProgram e → IsMade e P → (t : IsTranslation e P) × AsMade e P t
