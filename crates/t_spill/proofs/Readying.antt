-- The places of an accepted program are ready.
use Rattle.std.proofs.Common.{ℕ, ◌<◌, ◌≤◌, ◌^◌, List, [], ◌∷◌, length, subst, sym}
use Rattle.t_types.specs.Tree.{Ty, CodeTy, TFile}
use Rattle.t_types.specs.Fits.{RegTypes, lookup}
use Rattle.t_types.specs.WellFormed.{max_names, WellFormedFile}
use Rattle.t_terms.specs.Tree.{TValue, Plain, Pack, TInstr, Arith, Bnz, Mov, Unpack, TEnd, Jmp}
use Rattle.t_terms.specs.Tree.{Halt, TSeq, Then, Ends, TBlock, TData, TProg, names_after}
use Rattle.t_terms.specs.Whole.{WellFormedEnd, WellFormedSeq, WellFormedBlocks, WellFormedData, WellFormedHeap}
use Rattle.t_terms.specs.Whole.{WellFormedProgram}
use Rattle.t_rules.specs.Rules.{Has, Typed, EndTyped, SeqAccepted, BlocksAccepted, Accepted}
use Rattle.t_spill_rules.specs.Spill.{next, SeqFew, BlocksFew, TypesFew}
use Rattle.t_spill_laws.proofs.Computed.{base_is, next_is}
use Rattle.t_spill_laws.proofs.Scopes.{scoped_regs, regs_above, LabelsScoped, DataScoped, scoped_next, labels_scoped}
use Rattle.t_spill_laws.proofs.Scopes.{data_scoped}
use Rattle.t_terms.specs.Values.{DataValues, HeapValues}
use Rattle.t_spill.specs.Ready.{Enough, Applies, InstrApplies, ReadyEnd, Ready, BlocksReady}
use Rattle.t_spill_code.specs.Onto.{HasNext}
use Rattle.t_spill.proofs.Onward.{some_value_fits}

value_applies : (P : TProg) (n : ℕ) (x : TFile) (v : TValue) (t : Ty) → Has P n (lookup x) v t → Applies P x v
value_applies P n x (Plain b []) t h = tt
value_applies P n x (Plain b (u ∷ us)) t h = subst (λ (z : Ty). Enough z (u ∷ us))
    (sym (base_is P x b (CodeTy h.0 h.1) h.2)) h.3
value_applies P n x (Pack hid v s) t h = tt

instr_applies : (P : TProg) (n : ℕ) (x : TFile) (i : TInstr) (g : RegTypes) → Typed P n (lookup x) i g →
    InstrApplies P x i
instr_applies P n x (Arith op rd rs v) g h = value_applies P n x v _ h.1
instr_applies P n x (Bnz r v) g h = value_applies P n x v _ h.1.1
instr_applies P n x (Mov rd v) g h = value_applies P n x v h.0 h.1
instr_applies P n x (Unpack rd v) g h = value_applies P n x v _ h.1
instr_applies P n x _ g h = tt

module _ (P : TProg) (labels : LabelsScoped P) (tuples : DataScoped P) where
  p : ℕ
  p = length P.blocks

  end_ready : (n : ℕ) (x : TFile) (e : TEnd) → n ≤ max_names → WellFormedFile n x → WellFormedEnd (length P.blocks)
      (length P.heap) n e → EndTyped P n (lookup x) e → ReadyEnd P n x e
  end_ready n x (Jmp v) few h w k = (few, h, w, value_applies P n x v (CodeTy 0 k.0) k.1)
  end_ready n x Halt few h w k = (few, h)

  ready : (c : TSeq) (n : ℕ) (x : TFile) → n ≤ max_names → WellFormedFile n x → WellFormedSeq (length P.blocks)
      (length P.heap) n c → SeqAccepted P n (lookup x) c → SeqFew P n x c → Ready P n x c
  ready (Then i c) n x few h w k f =
      let m = names_after i n in
      let nx = regs_above 0 (names_after i n) (next P x i)
      (scoped_next P (length P.blocks) (length P.heap) labels tuples i n x k.0 (scoped_regs 0 n x h) w.0 k.1) f.1 in (
        (few, w.1, h, w.0, instr_applies P n x i k.0 k.1),
        ready c (names_after i n)
            (next P x i) w.1 nx w.2 (subst (λ g. SeqAccepted P (names_after i n) g c) (next_is P n x i k.0 k.1) k.2)
            f.2,
      )
  ready (Ends (Jmp v)) n x few h w k f = end_ready n x (Jmp v) few h w k
  ready (Ends Halt) n x few h w k f = end_ready n x Halt few h w k

  ready_blocks : (bs : List TBlock) → WellFormedBlocks (length P.blocks) (length P.heap) bs → BlocksAccepted P bs →
      BlocksFew P bs → BlocksReady P bs
  ready_blocks [] w k f = tt
  ready_blocks (b ∷ bs) w k f = (ready b.code b.owes b.file w.0.0 w.0.1 w.0.2 k.0.1 f.0, ready_blocks bs w.1 k.1 f.1)

pub blocks_ready : (P : TProg) → WellFormedProgram P → Accepted P → TypesFew P → BlocksReady P P.blocks
blocks_ready P w k f = ready_blocks P (labels_scoped P w) (data_scoped P w) P.blocks w.1 k.2 f

data_ready : (p q : ℕ) (xs : TData) → p < 2 ^ 64 → WellFormedData p q xs → DataValues HasNext xs
data_ready p q [] few w = tt
data_ready p q (x ∷ xs) few w = (some_value_fits p q 0 x.value few w.0.0, data_ready p q xs few w.1)

ready_heap : (p q : ℕ) (hs : List TData) → p < 2 ^ 64 → WellFormedHeap p q hs → HeapValues HasNext hs
ready_heap p q [] few w = tt
ready_heap p q (x ∷ hs) few w = (data_ready p q x few w.0, ready_heap p q hs few w.1)

pub heap_ready : (P : TProg) → length P.blocks < 2 ^ 64 → WellFormedProgram P → HeapValues HasNext P.heap
heap_ready P few w = ready_heap (length P.blocks) (length P.heap) P.heap few w.2
