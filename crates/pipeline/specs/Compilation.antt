-- When an assembly program is what a term of the source is compiled to.
use Rattle.std.specs.Prelude.{◌≡◌, ℕ}
use Rattle.f_terms.specs.Tm.{Term}
use Rattle.k_terms.specs.K.{KTm}
use Rattle.k_laws.specs.Translates.{cps_program}
use Rattle.c_terms.specs.C.{CTm}
use Rattle.c_laws.specs.Row as closing
use Rattle.h_terms.specs.H.{HBlks, HTm}
use Rattle.h_pass.specs.Back.{IsHoisted}
use Rattle.a_terms.specs.Tree.{ATm, AProg}
use Rattle.a_laws.specs.Stands.{Stands}
use Rattle.t_terms.specs.Tree.{TProg}
use Rattle.t_terms.specs.Whole.{WellFormedProgram}
use Rattle.t_rules.specs.Rules.{Accepted}
use Rattle.t_gen_laws.specs.Rules.{Generates}
use Rattle.t_spill_laws.specs.Bound.{RegistersUpTo}
use Rattle.t_spill_rules.specs.Spill.{spilled}
use Rattle.pipeline.specs.Made.{IsMade}
use Rattle.pipeline.specs.Meaning.{SameMeaning, RunsSeldom, HaltsSoon}
use Rattle.pipeline.specs.Work.{WorkByBound}

-- the program is a translation of the term by the rules of the passes in turn: conversion to continuation-passing
-- style, closure conversion, hoisting, allocation, code generation. The hoisted program gives the closed term when
-- codes are put back for labels, and the allocated program stands for the hoisted one. No function of a pass is named.
-- The rules leave open whether the conversion names a value more, which of equal data is named where, the types at a
-- `malloc`, which registers there are, and moves of operands within the bound of a rule; those of closure conversion
-- give one term, and those of hoisting one program
pub record IsTranslation (e : Term) (P : TProg) : Type 0 where
  pub converted : KTm
  pub closed : CTm
  pub blocks : HBlks
  pub main : HTm
  pub allocated : AProg
  pub start : ATm
  pub to_converted : cps_program e converted
  pub to_closed : closing.IsTranslation converted closed
  pub to_hoisted : IsHoisted blocks main closed
  pub to_allocated : Stands allocated start blocks main
  pub to_assembly : Generates allocated start P

-- the program is well formed, and the typing rules accept it; it means the same as the term; it is a translation of it,
-- and the one that the passes make; no place of it is executed more often than once more than the term takes turns, and
-- so it halts soon
pub record IsCompilation (e : Term) (P : TProg) : Type 0 where
  pub whole : WellFormedProgram P
  pub accepted : Accepted P
  pub meaning : SameMeaning e P
  pub translation : IsTranslation e P
  pub made : IsMade e P
  pub seldom : RunsSeldom e P
  pub soon : HaltsSoon e P

-- The same of a program that has no register above k: it is that translation of the term where that has none, and else
-- comes from it by keeping registers in tuples of the heap.
pub record IsCompilationWithin (k : ℕ) (e : Term) (P : TProg) : Type 0 where
  pub translated : TProg
  pub translation : IsTranslation e translated
  pub made : IsMade e translated
  pub whole : WellFormedProgram P
  pub accepted : Accepted P
  pub meaning : SameMeaning e P
  pub seldom : RunsSeldom e P
  pub soon : HaltsSoon e P
  pub few : RegistersUpTo k P
  pub stays : RegistersUpTo k translated → P ≡ translated
  pub framed : (RegistersUpTo k translated → ⊥) → P ≡ spilled k translated
  pub work : WorkByBound k e translated P
