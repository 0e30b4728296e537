-- Typing looks at no more of the blocks around a place than at the types of their labels.
use Rattle.std.proofs.Common.{◌≡◌, ◌∙◌, ℕ, zero, suc, List, [], ◌∷◌, Some, slice_get, refl, sym, Bool, true, false}
use Rattle.std.proofs.Common.{if◌then◌else◌, subst}
use Rattle.idx_core.specs.declared.span.Span.{Span}
use Rattle.t_types.specs.Tree.{Ty, IntTy, CodeTy, ExistsTy}
use Rattle.t_types.specs.Fits.{RegTypes}
use Rattle.t_terms.specs.Tree.{TBase, Reg, Int, Label, Data, TValue, Plain, Pack, TInstr, Arith, Bnz, Ld, Malloc, Mov}
use Rattle.t_terms.specs.Tree.{St, Unpack, TEnd, Jmp, Halt, TSeq, Then, Ends, TBlock, TData, TProg, names_after}
use Rattle.t_terms.specs.Spanned.{SBlock, SProg, plain, plain_blocks, plain_program}
use Rattle.t_rules.specs.Rules.{BaseHas, Has, Enters, Typed, EndTyped, SeqAccepted, BlockAccepted}
use Rattle.t_terms.specs.Labels.{label_type}
use Rattle.t_rules.specs.Rules.{DataAccepted, HeapAccepted}
use Rattle.listing.specs.Before.{in_block, steps_to}
use Rattle.listing.specs.Cut.{cut_block, way_outs, cut_blocks}

-- each label of P is one of Q, of the same type
abbrev pub Labels : TProg → TProg → Type 0
Labels P Q =
    (l : ℕ) (b : TBlock) → slice_get P.blocks l ≡ Some b →
    (c : TBlock) × (slice_get Q.blocks l ≡ Some c) × (label_type b ≡ label_type c)

abbrev pub Tuples : TProg → TProg → Type 0
Tuples P Q = (d : ℕ) (x : TData) → slice_get P.heap d ≡ Some x → slice_get Q.heap d ≡ Some x

module _ (P Q : TProg) (labels : Labels P Q) (tuples : Tuples P Q) where
  base_moved : (g : RegTypes) (b : TBase) (t : Ty) → BaseHas P g b t → BaseHas Q g b t
  base_moved g (Reg r) t h = h
  base_moved g (Int i) t h = h
  base_moved g (Label l) t h = let c = labels l h.0 h.1 in (c.0, c.1, h.2 ∙ c.2)
  base_moved g (Data d) t h = (h.0, tuples d h.0 h.1, h.2)

  value_moved : (n : ℕ) (g : RegTypes) (v : TValue) (t : Ty) → Has P n g v t → Has Q n g v t
  value_moved n g (Plain b []) t h = base_moved g b t h
  value_moved n g (Plain b (u ∷ us)) t h = (h.0, h.1, base_moved g b (CodeTy h.0 h.1) h.2, h.3, h.4, h.5)
  value_moved n g (Pack hidden v shape) t h = (h.0, h.1, value_moved n g v h.1 h.2, h.3, h.4, h.5, h.6, h.7)

  target_moved : (n : ℕ) (g : RegTypes) (v : TValue) → Enters P n g v → Enters Q n g v
  target_moved n g v h = (h.0, value_moved n g v (CodeTy 0 h.0) h.1, h.2)

  pub instr_moved : (n : ℕ) (g : RegTypes) (i : TInstr) (h : RegTypes) → Typed P n g i h → Typed Q n g i h
  instr_moved n g (Arith op rd rs v) h t = (t.0, value_moved n g v IntTy t.1, t.2)
  instr_moved n g (Bnz r v) h t = (t.0, target_moved n g v t.1, t.2)
  instr_moved n g (Ld rd rs i) h t = t
  instr_moved n g (Malloc rd ts) h t = t
  instr_moved n g (Mov rd v) h t = (t.0, value_moved n g v t.0 t.1, t.2)
  instr_moved n g (St rd i rs) h t = t
  instr_moved n g (Unpack rd v) h t = (t.0, value_moved n g v (ExistsTy t.0) t.1, t.2)

  end_moved : (n : ℕ) (g : RegTypes) (e : TEnd) → EndTyped P n g e → EndTyped Q n g e
  end_moved n g (Jmp v) h = target_moved n g v h
  end_moved n g Halt h = h

  seq_moved : (n : ℕ) (g : RegTypes) (c : TSeq) → SeqAccepted P n g c → SeqAccepted Q n g c
  seq_moved n g (Then i rest) h = (h.0, instr_moved n g i h.0 h.1, seq_moved (names_after i n) h.0 rest h.2)
  seq_moved n g (Ends e) h = end_moved n g e h

  pub block_moved : (b : TBlock) → BlockAccepted P b → BlockAccepted Q b
  block_moved b h = (h.0, seq_moved b.owes _ b.code h.1)

  data_moved : (xs : TData) → DataAccepted P xs → DataAccepted Q xs
  data_moved [] h = tt
  data_moved (x ∷ xs) h = ((h.0.0, value_moved 0 _ x.value h.0.0 h.0.1, h.0.2, h.0.3), data_moved xs h.1)

  pub heap_moved : (xs : List TData) → HeapAccepted P xs → HeapAccepted Q xs
  heap_moved [] h = tt
  heap_moved (x ∷ xs) h = (data_moved x h.0, heap_moved xs h.1)

-- blocks whose labels have the same types, one by one
abbrev pub Alike : List SBlock → List SBlock → Type 0
Alike [] [] = Unit {0}
Alike (b ∷ bs) (c ∷ cs) = (label_type (plain b) ≡ label_type (plain c)) × Alike bs cs
Alike [] (c ∷ cs) = ⊥
Alike (b ∷ bs) [] = ⊥

alike_self : (bs : List SBlock) → Alike bs bs
alike_self [] = tt
alike_self (b ∷ bs) = (refl, alike_self bs)

pub alike_back : (bs cs : List SBlock) → Alike bs cs → Alike cs bs
alike_back [] [] h = tt
alike_back (b ∷ bs) (c ∷ cs) h = (sym h.0, alike_back bs cs h.1)
alike_back [] (c ∷ cs) h = h
alike_back (b ∷ bs) [] h = h

alike_out : (place : Span) (bs : List SBlock) → Alike bs (way_outs place bs)
alike_out place [] = tt
alike_out place (b ∷ bs) = (refl, alike_out place bs)

pub alike_cut : (place : Span) (bs : List SBlock) → Alike bs (cut_blocks place bs)
alike_cut place [] = tt
alike_cut place (b ∷ bs) = go (in_block place b) (alike_cut place bs)
  where
    go : (x : Bool) → Alike bs (cut_blocks place bs) →
        Alike (b ∷ bs)
        (if x then cut_block place (steps_to place b.body) b ∷ way_outs place bs else b ∷ cut_blocks place bs)
    go true h = (refl, alike_out place bs)
    go false h = (refl, h)

alike_at : (bs cs : List SBlock) → Alike bs cs → (l : ℕ) (b : TBlock) → slice_get (plain_blocks bs) l ≡ Some b →
    (c : TBlock) × (slice_get (plain_blocks cs) l ≡ Some c) × (label_type b ≡ label_type c)
alike_at [] [] h l b e = absurd (cc)
alike_at (x ∷ bs) (y ∷ cs) h zero b e =
    let s : plain x ≡ b = cc in (plain y, refl, subst (λ z. label_type z ≡ label_type (plain y)) s h.0)
alike_at (x ∷ bs) (y ∷ cs) h (suc l) b e = alike_at bs cs h.1 l b e
alike_at [] (y ∷ cs) h l b e = absurd h
alike_at (x ∷ bs) [] h l b e = absurd h

pub labels_alike : (P Q : SProg) → Alike P.blocks Q.blocks → Labels (plain_program P) (plain_program Q)
labels_alike P Q h l b e = alike_at P.blocks Q.blocks h l b e
