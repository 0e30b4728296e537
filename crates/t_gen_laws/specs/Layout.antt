-- How a generated program is laid out: block 0 holds the main term; each block has its own, and each `if0` one more for
-- its third part. A call leaves argument j in register j. Each data tuple has its own too.
use Rattle.std.specs.Prelude.{◌≡◌, ℕ, suc, ◌+◌, List, [], ◌∷◌, Some, length, slice_get}
use Rattle.t_types.specs.Tree.{NoRegs}
use Rattle.t_terms.specs.Tree.{TBlock, TProg}
use Rattle.a_terms.specs.Tree.{ATy, ATm, Let, Call, If0, Halt, ABlk, AConsts, AProg, arity}
use Rattle.a_terms.specs.Typing.{declared, more_vars, types_of}
use Rattle.a_terms.specs.Bound.{thirds, all_thirds}
use Rattle.t_gen_rules.specs.Gen.{ty_args, used, target, header, block, rows, data_of, generated}
use Rattle.t_gen_laws.specs.Counting.{first_of, first_third}

-- the third part of each `if0` of a term is a block of its own, from block at on, in the order in which the `if0`s
-- begin; it owes the type variables in scope and takes the variables that it uses in their registers
abbrev pub ThirdsAt : List TBlock → AProg → ℕ → List ℕ → List ATy → ℕ → ATm → Type 0
ThirdsAt bs p k m g at (Let x e) = ThirdsAt bs p (more_vars x k) (target m x e ∷ m) (declared p g x) at e
ThirdsAt bs p k m g at (Call v ts vs) = Unit {0}
ThirdsAt bs p k m g at (If0 v a b) =
    (slice_get bs at ≡ Some (block k (header (used b) m g) m (suc at + thirds a) b)) × ThirdsAt bs p k m g (suc at) a
    × ThirdsAt bs p k m g (suc at + thirds a) b
ThirdsAt bs p k m g at (Halt v) = Unit {0}

-- the layout of P, where p and main are the allocated program
pub record Layout (p : AProg) (main : ATm) (P : TProg) : Type 0 where
  -- block 0 is the main term, which takes no types and no registers
  pub main_block : slice_get P.blocks 0 ≡ Some (block 0 NoRegs [] (suc (length p.blocks)) main)
  -- block l + 1 is block l: it owes as many types and takes its arguments in the registers from 1 on
  pub blocks : (l : ℕ) (b : ABlk) → slice_get p.blocks l ≡ Some b →
      slice_get P.blocks (suc l) ≡ Some
      (block b.owes (ty_args b.args 1) (rows (arity b.args)) (first_of p.blocks (first_third p main) l) b.body)
  -- the third parts of the main term's `if0`s are the blocks that come then, and after them come those of each block
  pub main_thirds : ThirdsAt P.blocks p 0 [] [] (suc (length p.blocks)) main
  pub block_thirds : (l : ℕ) (b : ABlk) → slice_get p.blocks l ≡ Some b →
      ThirdsAt P.blocks p b.owes (rows (arity b.args)) (types_of b.args []) (first_of p.blocks (first_third p main) l)
      b.body
  -- there is no other block
  pub count : length P.blocks ≡ suc (length p.blocks) + (thirds main + all_thirds p.blocks)
  -- data tuple n is data tuple n, and there is no other one
  pub tuples : (n : ℕ) (x : AConsts) → slice_get p.tuples n ≡ Some x → slice_get P.heap n ≡ Some (data_of x)
  pub tuple_count : length P.heap ≡ length p.tuples

-- each generated program is laid out so
abbrev pub LaidOut : Type 0
LaidOut = (p : AProg) (main : ATm) → Layout p main (generated p main)
