-- What a term and a program weigh, where each kind of work has a weight.
use Rattle.std.specs.Prelude.{ℕ, ◌+◌, Bool, true, false, List, [], ◌∷◌}
use Rattle.idx_core.specs.declared.arith.Op.{Op}
use Rattle.f_terms.specs.Tm.{Term, MVar, MNum, MFix, MApp, MGen, MInst, MTuple, MProj, MArith, MIf0, MLet, MPack}
use Rattle.f_terms.specs.Tm.{MOpen, MRef, MDeref, MAssign, Terms, NoTerms, MoreTerms}
use Rattle.t_terms.specs.Tree.{TInstr, Arith, Bnz, Unpack, TEnd, Jmp, Halt, TSeq, Then, Ends}
use Rattle.t_terms.specs.Tree.{TBlock}

-- the weight of each operation, of a choice, of opening a package, of a jump that ends a block, and of halting
pub record Weights : Type 0 where
  pub operation : Op → ℕ
  pub choice : ℕ
  pub opening : ℕ
  pub jump : ℕ
  pub halting : ℕ

-- a call opens a closure, which is a package, and jumps
abbrev pub call_weight : Weights → ℕ
call_weight w = w.opening + w.jump

-- a value in tail place is handed to what waits for it, which is a call
abbrev pub handing : Weights → Bool → ℕ
handing w true = call_weight w
handing w false = 0

-- a choice for each `if0`, an opening for each `open`, and a call for each application, each type application and each
-- value in tail place. In tail place are the bodies of `fix` and `gen` and the branches of `if0`, and where a `let` or
-- an `open` is in tail place, its second part
abbrev mutual
  pub term_weight : Weights → Bool → Term → ℕ
  term_weight w tail (MVar i) = handing w tail
  term_weight w tail (MNum n) = handing w tail
  term_weight w tail (MFix arg res e) = handing w tail + term_weight w true e
  term_weight w tail (MApp f x) = call_weight w + (term_weight w false f + term_weight w false x)
  term_weight w tail (MGen e) = handing w tail + term_weight w true e
  term_weight w tail (MInst e t) = call_weight w + term_weight w false e
  term_weight w tail (MTuple es) = handing w tail + terms_weight w es
  term_weight w tail (MProj i e) = handing w tail + term_weight w false e
  term_weight w tail (MArith op a b) =
      handing w tail + (w.operation op + (term_weight w false a + term_weight w false b))
  term_weight w tail (MIf0 c a b) = w.choice + (term_weight w false c + (term_weight w true a + term_weight w true b))
  term_weight w tail (MLet a b) = term_weight w false a + term_weight w tail b
  term_weight w tail (MPack h e s) = handing w tail + term_weight w false e
  term_weight w tail (MOpen a b) = w.opening + (term_weight w false a + term_weight w tail b)
  term_weight w tail (MRef e) = handing w tail + term_weight w false e
  term_weight w tail (MDeref e) = handing w tail + term_weight w false e
  term_weight w tail (MAssign a b) = handing w tail + (term_weight w false a + term_weight w false b)

  pub terms_weight : Weights → Terms → ℕ
  terms_weight w NoTerms = 0
  terms_weight w (MoreTerms e es) = term_weight w false e + terms_weight w es

-- an operation for each `add`, `sub` and `mul`, a choice for each `bnz`, an opening for each `unpack`
abbrev pub instr_weight : Weights → TInstr → ℕ
instr_weight w (Arith op rd rs v) = w.operation op
instr_weight w (Bnz r v) = w.choice
instr_weight w (Unpack rd v) = w.opening
instr_weight w _ = 0

abbrev pub end_weight : Weights → TEnd → ℕ
end_weight w (Jmp v) = w.jump
end_weight w Halt = w.halting

abbrev pub seq_weight : Weights → TSeq → ℕ
seq_weight w (Then i rest) = instr_weight w i + seq_weight w rest
seq_weight w (Ends e) = end_weight w e

abbrev pub blocks_weight : Weights → List TBlock → ℕ
blocks_weight w [] = 0
blocks_weight w (b ∷ bs) = seq_weight w b.code + blocks_weight w bs
