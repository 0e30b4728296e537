-- When a target text means what a source text means.
use Rattle.std.specs.Prelude.{ℕ, List}
use Rattle.f_terms.specs.Ty.{TInt}
use Rattle.f_terms.specs.Tm.{Tm, plain}
use Rattle.t_terms.specs.Tree.{TProg}
use Rattle.t_terms.specs.Whole.{Whole}
use Rattle.t_text.specs.Text.{ReadsBack}
use Rattle.t_rules.specs.Rules.{Accepted}
use Rattle.t_spill_laws.specs.Bound.{RegistersUpTo}
use Rattle.pipeline.specs.Meaning.{SameMeaning, RunsSeldom, HaltsSoon}
use Rattle.talc_core.specs.FirstFault.{IsChecked}

-- The source text is a text of a program. The target text reads as an assembly program within the limit on open
-- constructs, places aside. That one is well formed, its integers have 64 bits, and the typing rules accept it. It
-- means the same: it halts with an integer exactly where the source evaluates to it, in no fewer instructions than
-- turns. Where n turns are enough for the source, each place of it is executed at most n + 1 times, so that it halts
-- within n + 1 times the number of its instructions and jumps. How it comes of the source, and the bytes in which it is
-- written, are not said here. What stands between bars is promised as a fact alone: a proof of it holds a derivation or
-- a number of steps, and none is handed out.
pub record IsCompiled (source target : List ℕ) : Type 0 where
  pub term : Tm
  pub program : TProg
  pub checked : IsChecked source term TInt
  pub reads : ReadsBack target program
  pub whole : Whole program
  pub accepted : Accepted program
  pub meaning : ∥ SameMeaning (plain term) program ∥₁
  pub seldom : RunsSeldom (plain term) program
  pub soon : ∥ HaltsSoon (plain term) program ∥₁

-- The same of a target text whose program names no register above k.
pub record IsCompiledWithin (k : ℕ) (source target : List ℕ) : Type 0 where
  pub compiled : IsCompiled source target
  pub few : ∥ RegistersUpTo k compiled.program ∥₁
