-- The trees of hoisted programs: codes stand apart, in blocks, and labels name them.
use Rattle.std.specs.Prelude.{ℕ, zero, suc, List, [], ◌∷◌, Option, Some, None}
use Rattle.c_terms.specs.C.{CTys}
use Rattle.calc_core.specs.Calculus.{Hoisted, Val, Vals, Decl, Tm}
pub use Rattle.calc_core.specs.Calculus.{Var as HVar, Int as HInt, Label as HLabel, Tuple as HTuple, Apply as HApply}
pub use Rattle.calc_core.specs.Calculus.{Pack as HPack, NoVals as NoHVals, MoreVals as MoreHVals, Name as HName}
pub use Rattle.calc_core.specs.Calculus.{Proj as HProj, Arith as HArith, Unpack as HUnpack, Cell as HCell, Get as HGet}
pub use Rattle.calc_core.specs.Calculus.{Set as HSet, Let as HLet, Call as HCall, If as HIf, Halt as HHalt}

abbrev pub HVal : Type 0
HVal = Val Hoisted

abbrev pub HVals : Type 0
HVals = Vals Hoisted

abbrev pub HDecl : Type 0
HDecl = Decl Hoisted

abbrev pub HTm : Type 0
HTm = Tm Hoisted

-- a block takes `owes` types and values of the types `args`
pub record HBlk : Type 0 where
  pub owes : ℕ
  pub args : CTys
  pub body : HTm

-- the blocks, by label
abbrev pub HBlks : Type 0
HBlks = List HBlk

abbrev pub block_at : HBlks → ℕ → Option HBlk
block_at [] l = None
block_at (k ∷ ks) zero = Some k
block_at (k ∷ ks) (suc l) = block_at ks l
