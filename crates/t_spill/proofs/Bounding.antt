-- The types of bases are bounded, and so they may be applied.
use Rattle.std.proofs.Common.{◌≡◌, ℕ, zero, suc, ◌<◌, arith, cond, Bool, true, false, nat_eq, List, [], ◌∷◌}
use Rattle.std.proofs.Common.{length, Option, Some, subst, sym, slice_get}
use Rattle.std.specs.Prelude.{option_map}
use Rattle.t_types.specs.Tree.{Ty, TFile, NoRegs, MoreRegs}
use Rattle.t_types.specs.Fits.{lookup}
use Rattle.t_types.specs.WellFormed.{RegsAbove, WellFormedFile}
use Rattle.t_terms.specs.Tree.{TBase, Reg, Int, Label, Data, Plain, TBlock, TData, TProg}
use Rattle.t_terms.specs.Whole.{WellFormedBlocks, WellFormedHeap, WellFormedProgram}
use Rattle.t_terms.specs.Labels.{label_type, data_type}
use Rattle.t_spill_rules.specs.Spill.{or_int, base_type}
use Rattle.t_types.specs.Bounds.{Bounded}
use Rattle.t_spill.specs.Ready.{Typable}
use Rattle.t_spill.specs.Applying.{MayApply}
use Rattle.t_rules.proofs.Depth.{shallow, bounded, label_bounded, data_bounded}

reg_case : (n : ℕ) (t : Ty) (b : Bool) (o : Option Ty) → Bounded n t → Bounded n (or_int o) →
    Bounded n (or_int (cond b (Some t) o))
reg_case n t true o h k = h
reg_case n t false o h k = k

reg_bounded : (n low : ℕ) (x : TFile) (r : ℕ) → RegsAbove low n x → Bounded n (or_int (lookup x r))
reg_bounded n low NoRegs r h = tt
reg_bounded n low (MoreRegs q t x) r h =
    reg_case n t (nat_eq q r) (lookup x r) (bounded n t (shallow n t h.2)) (reg_bounded n q x r h.3)

block_bounded : (n p q : ℕ) (bs : List TBlock) (l : ℕ) → WellFormedBlocks p q bs →
    Bounded n (or_int (option_map label_type (slice_get bs l)))
block_bounded n p q [] l w = tt
block_bounded n p q (b ∷ bs) l w = go l (λ k. block_bounded n p q bs k w.1)
  where
    go : (l : ℕ) → ((k : ℕ) → Bounded n (or_int (option_map label_type (slice_get bs k)))) →
        Bounded n (or_int (option_map label_type (slice_get (b ∷ bs) l)))
    go zero f = label_bounded n b.owes b.file w.0.0 w.0.1
    go (suc k) f = f k

tuple_bounded : (n p q : ℕ) (hs : List TData) (d : ℕ) → WellFormedHeap p q hs →
    Bounded n (or_int (option_map data_type (slice_get hs d)))
tuple_bounded n p q [] d w = tt
tuple_bounded n p q (x ∷ hs) d w = go d (λ k. tuple_bounded n p q hs k w.1)
  where
    go : (d : ℕ) → ((k : ℕ) → Bounded n (or_int (option_map data_type (slice_get hs k)))) →
        Bounded n (or_int (option_map data_type (slice_get (x ∷ hs) d)))
    go zero f = data_bounded n x p q w.0
    go (suc k) f = f k

base_bounded : (P : TProg) → WellFormedProgram P → (n : ℕ) (x : TFile) (b : TBase) → WellFormedFile n x →
    Bounded n (base_type P x b)
base_bounded P w n x (Reg r) h = reg_bounded n 0 x r h
base_bounded P w n x (Int i) h = tt
base_bounded P w n x (Label l) h = block_bounded n (length P.blocks) (length P.heap) P.blocks l w.1
base_bounded P w n x (Data d) h = tuple_bounded n (length P.blocks) (length P.heap) P.heap d w.2

-- a value's types may go to its base
pub may_apply : (P : TProg) → WellFormedProgram P → (x : TFile) (b : TBase) (ts : List Ty) (t : Ty) → 0 < length ts →
    t ≡ base_type P x b → Typable P x (Plain b ts) → MayApply t ts
may_apply P w x b [] t some e h = absurd (omega arith)
may_apply P w x b (u ∷ us) t some e h =
    let r = h.1 in subst (λ z. MayApply z (u ∷ us)) (sym e) (h.0, r.0, base_bounded P w h.0 x b r.1, r.2.1, r.3)
