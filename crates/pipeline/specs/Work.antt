-- How much work a compiled program does: how many blocks it has, and how many instructions of each kind that computes,
-- chooses, opens, jumps or halts.
use Rattle.std.specs.Prelude.{◌≡◌, ◌⊎◌, ℕ, ◌+◌, false, length}
use Rattle.f_terms.specs.Tm.{Term}
use Rattle.k_laws.specs.Sites.{sites}
use Rattle.t_spill_laws.specs.Bound.{RegistersUpTo}
use Rattle.t_terms.specs.Tree.{TProg}
use Rattle.pipeline.specs.Weights.{Weights, term_weight, blocks_weight}

-- how many `if0`s stand in a term: what it weighs where each of them weighs 1 and nothing else weighs anything
abbrev pub only_choices : Weights
only_choices = record { operation = λ op. 0; choice = 1; opening = 0; jump = 0; halting = 0 }

abbrev pub choices : Term → ℕ
choices e = term_weight only_choices false e

-- one block for the whole, one for each `fix` and `gen` and for each application, type application and `if0` outside
-- tail place, and one for the third part of each `if0`
abbrev pub HasBlocks : Term → TProg → Type 0
HasBlocks e P = length P.blocks ≡ 1 + (sites false e + choices e)

-- however the kinds of work are weighed, the program weighs what the term weighs, and one `halt`: it has one `add`,
-- `sub` or `mul` for each of the term's, one `bnz` for each `if0`, one `unpack` for each `open` and each call, and one
-- `jmp` for each call
abbrev pub SameWeights : Term → TProg → Type 0
SameWeights e P = (w : Weights) → blocks_weight w P.blocks ≡ term_weight w false e + w.halting

-- the same of a program with frames: it has one block more, which makes the first frame and jumps
pub record FramedWork (e : Term) (P : TProg) : Type 0 where
  pub blocks : length P.blocks ≡ 2 + (sites false e + choices e)
  pub weights : (w : Weights) → blocks_weight w P.blocks ≡ w.jump + (term_weight w false e + w.halting)

-- a program within a bound on registers stays as it is, or gets frames
abbrev pub WorkWithin : Term → TProg → Type 0
WorkWithin e P = (HasBlocks e P × SameWeights e P) ⊎ FramedWork e P

-- which of both it is, by the program that is made without a bound: it stays as it is where that has no register above
-- k
pub record WorkByBound (k : ℕ) (e : Term) (unbounded P : TProg) : Type 0 where
  pub stays : RegistersUpTo k unbounded → HasBlocks e P × SameWeights e P
  pub framed : (RegistersUpTo k unbounded → ⊥) → FramedWork e P
