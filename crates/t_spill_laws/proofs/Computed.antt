-- The types of values, and what is known after an instruction, as functions of a file.
use Rattle.std.proofs.Common.{◌≡◌, ℕ, [], ◌∷◌, sym, ap, ◌∙◌}
use Rattle.std.specs.Prelude.{option_map}
use Rattle.t_types.specs.Tree.{Ty, IntTy, CodeTy, ExistsTy, TupleTy, TFile, shift_file}
use Rattle.t_types.specs.Fields.{filled, empty_fields}
use Rattle.t_types.specs.Fits.{RegTypes, lookup}
use Rattle.t_terms.specs.Tree.{TBase, Reg, Int, Label, Data, TValue, Plain, Pack, TInstr, Arith, Bnz, Ld, Malloc, Mov}
use Rattle.t_terms.specs.Tree.{St, Unpack, TProg}
use Rattle.t_terms.specs.Registers.{with_reg}
use Rattle.t_rules.specs.Rules.{BaseHas, Has, Typed}
use Rattle.t_terms.specs.Labels.{label_type, data_type}
use Rattle.t_spill_rules.specs.Spill.{ins, or_int, base_type, applied_type, type_of, type_in, field_type, filled_type}
use Rattle.t_spill_rules.specs.Spill.{hidden_type, next}
use Rattle.t_spill_laws.proofs.Files.{Ascends, ascends_ins, ascends_over, lookup_ins, raised_lookup}

pub base_is : (P : TProg) (file : TFile) (b : TBase) (t : Ty) → BaseHas P (lookup file) b t → base_type P file b ≡ t
base_is P file (Reg r) t h = ap or_int h
base_is P file (Int i) t h = sym h
base_is P file (Label l) t h = ap (λ o. or_int (option_map label_type o)) h.1 ∙ sym h.2
base_is P file (Data d) t h = ap (λ o. or_int (option_map data_type o)) h.1 ∙ sym h.2

pub value_is : (P : TProg) (n : ℕ) (file : TFile) (v : TValue) (t : Ty) → Has P n (lookup file) v t →
    type_of P file v ≡ t
value_is P n file (Plain b []) t h = base_is P file b t h
value_is P n file (Plain b (u ∷ us)) t h = ap (λ s. applied_type s (u ∷ us)) (base_is P file b (CodeTy h.0 h.1) h.2)
    ∙ sym h.4
value_is P n file (Pack hidden v shape) t h = sym h.5

-- what is known of the registers after an instruction
pub next_is : (P : TProg) (n : ℕ) (file : TFile) (i : TInstr) (h : RegTypes) → Typed P n (lookup file) i h →
    h ≡ lookup (next P file i)
next_is P n file (Arith op rd rs v) h k = k.2 ∙ sym (lookup_ins rd IntTy file)
next_is P n file (Bnz r v) h k = k.2
next_is P n file (Ld rd rs i) h k =
    let e : k.1 ≡ field_type (or_int (lookup file rs)) i =
    sym (ap (λ o. field_type (or_int o) i) k.2 ∙ ap type_in k.3) in
    k.4 ∙ sym (lookup_ins rd k.1 file) ∙ ap (λ t. lookup (ins rd t file)) e
next_is P n file (Malloc rd ts) h k = k.0 ∙ sym (lookup_ins rd (TupleTy (empty_fields ts)) file)
next_is P n file (Mov rd v) h k = k.2 ∙ sym (lookup_ins rd k.0 file)
    ∙ ap (λ t. lookup (ins rd t file)) (sym (value_is P n file v k.0 k.1))
next_is P n file (St rd i rs) h k =
    k.8 ∙ sym (lookup_ins rd (TupleTy (filled k.0 i)) file)
    ∙ ap (λ o. lookup (ins rd (filled_type (or_int o) i) file)) (sym k.4)
next_is P n file (Unpack rd v) h k =
    k.2 ∙ ap (λ g. with_reg g rd k.0) (raised_lookup file) ∙ sym (lookup_ins rd k.0 (shift_file 1 0 file))
    ∙ ap (λ t. lookup (ins rd (hidden_type t) (shift_file 1 0 file))) (sym (value_is P n file v (ExistsTy k.0) k.1))

pub ascends_next : (P : TProg) (file : TFile) (i : TInstr) → Ascends file → Ascends (next P file i)
ascends_next P file (Arith op rd rs v) h = ascends_ins rd _ file h
ascends_next P file (Bnz r v) h = h
ascends_next P file (Ld rd rs i) h = ascends_ins rd _ file h
ascends_next P file (Malloc rd ts) h = ascends_ins rd _ file h
ascends_next P file (Mov rd v) h = ascends_ins rd _ file h
ascends_next P file (St rd i rs) h = ascends_ins rd _ file h
ascends_next P file (Unpack rd v) h = ascends_ins rd _ (shift_file 1 0 file) (ascends_over _ 0 file h)
