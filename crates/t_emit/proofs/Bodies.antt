-- Instructions in front of a rest.
use Rattle.std.proofs.Common.{◌≡◌, ℕ, zero, suc, ◌<◌, List, [], ◌∷◌, ◌++◌, length, get_or, slice_set, slice_get, Some}
use Rattle.std.proofs.Common.{refl, sym, ap, ◌∙◌, arith}
use Rattle.idx_core.specs.declared.span.Span.{Span}
use Rattle.t_types.specs.Tree.{CodeTy}
use Rattle.t_types.specs.Read.{file}
use Rattle.t_terms.specs.Tree.{TBlock, TEnd, TSeq, Then, Ends}
use Rattle.t_terms.specs.Spanned.{seq_of}
use Rattle.t_terms.specs.Read.{instr, body, block, blocks_of}
use Rattle.t_terms.specs.declared.block.Block.{Block}
use Rattle.t_emit.specs.Code.{coded, fill}
use Rattle.t_terms.specs.declared.instr.Instr.{Instr}
use Rattle.t_emit.specs.Code.{onto}
use Rattle.t_terms.proofs.Items.{block_at}

pub onto_snoc : (xs : List (Instr × Span)) (x : Instr × Span) (rest : TSeq) →
    onto (xs ++ x ∷ []) rest ≡ onto xs (Then (instr x.0) rest)
onto_snoc [] x rest = refl
onto_snoc (y ∷ xs) x rest = ap (Then (instr y.0)) (onto_snoc xs x rest)

-- a body and an end
pub seq_is : (xs : List (Instr × Span)) (e : TEnd) → seq_of (body xs) e ≡ onto xs (Ends e)
seq_is [] e = refl
seq_is (x ∷ xs) e = ap (Then (instr x.0)) (seq_is xs e)

-- a block that is written in the place of one with the same header
pub set_filled : (xs : List Block) (i : ℕ) (old new : Block) (c : TSeq) → i < length xs → old ≡ get_or xs i old →
    block new ≡ coded (block old) c → blocks_of (slice_set xs i new) ≡ fill i c (blocks_of xs)
set_filled [] i old new c lt is same = absurd (omega arith)
set_filled (x ∷ xs) zero old new c lt is same =
    ap (λ b. b ∷ blocks_of xs) (same ∙ ap (λ (y : Block). coded (block y) c) is)
set_filled (x ∷ xs) (suc i) old new c lt is same =
    ap (λ bs. block x ∷ bs) (set_filled xs i old new c (omega arith) is same)

-- a block of the slice
-- the type of its label
pub label_is : (bs : List Block) (l : ℕ) (x : Block) (b : TBlock) → l < length bs → x ≡ get_or bs l x →
    slice_get (blocks_of bs) l ≡ Some b → CodeTy x.owes (file x.regs.regs.items) ≡ CodeTy b.owes b.file
label_is bs l x b lt is e =
    let same : Some (block x) ≡ Some b = sym (block_at bs l x lt is) ∙ e in
    let one : block x ≡ b = cc in
    ap (λ (y : TBlock). CodeTy y.owes y.file) one
