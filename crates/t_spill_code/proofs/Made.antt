-- What is made part by part.
use Rattle.std.proofs.Common.{◌≡◌, ℕ, zero, suc, ◌<◌, ◌≤◌, Bool, true, false, List, [], ◌∷◌, ◌++◌, map, refl, sym}
use Rattle.std.proofs.Common.{ap, ◌∙◌, take, drop, length, get_or, arith, nat_lt}
use Rattle.std.proofs.lemmas.List.{take_all}
use Rattle.idx_core.specs.declared.span.Span.{Span}
use Rattle.t_types.specs.declared.types.TType.{TType}
use Rattle.t_types.specs.Tree.{Ty, TFile, NoRegs, MoreRegs, TFields, NoFields, MoreFields, TupleTy, flagged}
use Rattle.t_types.specs.Read.{tree, file, flag, fields, types}
use Rattle.t_terms.specs.Tree.{TSeq, Then}
use Rattle.t_terms.specs.declared.instr.Instr.{Instr}
use Rattle.t_terms.specs.Read.{instr}
use Rattle.t_spill_rules.specs.Spill.{sp, sp_regs, sp_fields, sp_file, frame, cells, high_part, low_part, with_if}
use Rattle.t_spill_rules.specs.Spill.{frame_reg}
use Rattle.t_spill_code.specs.Onto.{onto, front, fields_onto, field_if}

-- lists of types, and of fields
abbrev pub spilled_flag : ℕ → TType × Bool → Ty × Bool
spilled_flag m x = (sp m (tree x.0), x.1)

abbrev pub celled : ℕ → ℕ × TType → Ty
celled m x = sp m (tree x.1)

fields_is : (m : ℕ) (xs : List (TType × Bool)) → sp_fields m (fields xs) ≡ flagged (map (spilled_flag m) xs)
fields_is m [] = refl
fields_is m (x ∷ xs) = ap (MoreFields (sp m (tree x.0)) x.1) (fields_is m xs)

cells_is : (m : ℕ) (xs : List (ℕ × TType)) → cells (sp_regs m (file xs)) ≡ map (celled m) xs
cells_is m [] = refl
cells_is m (x ∷ xs) = ap (λ (ts : List Ty). sp m (tree x.1) ∷ ts) (cells_is m xs)

types_is : (m : ℕ) (ts : List TType) → map (sp m) (types ts) ≡ map (λ t. sp m (tree t)) ts
types_is m [] = refl
types_is m (t ∷ ts) = ap (λ (us : List Ty). sp m (tree t) ∷ us) (types_is m ts)

pub made_fields : (m : ℕ) (ys xs : List (TType × Bool)) (n : ℕ) → map flag ys ≡ map (spilled_flag m) (take n xs) →
    length xs ≤ n → fields ys ≡ sp_fields m (fields xs)
made_fields m ys xs n done all =
    ap flagged (done ∙ ap (λ (zs : List (TType × Bool)). map (spilled_flag m) zs) (take_all n xs all))
    ∙ sym (fields_is m xs)

pub made_cells : (m : ℕ) (ys : List TType) (xs : List (ℕ × TType)) (n : ℕ) →
    map tree ys ≡ map (celled m) (take n xs) → length xs ≤ n → types ys ≡ cells (sp_regs m (file xs))
made_cells m ys xs n done all =
    done ∙ ap (λ (zs : List (ℕ × TType)). map (celled m) zs) (take_all n xs all) ∙ sym (cells_is m xs)

pub made_types : (m : ℕ) (ys xs : List TType) (n : ℕ) → map tree ys ≡ map (λ t. sp m (tree t)) (take n xs) →
    length xs ≤ n → types ys ≡ map (sp m) (types xs)
made_types m ys xs n done all =
    done ∙ ap (λ (zs : List TType). map (λ t. sp m (tree t)) zs) (take_all n xs all) ∙ sym (types_is m xs)

-- instructions, registers and fields put at the end
pub onto_snoc : (xs : List (Instr × Span)) (x : Instr × Span) (rest : TSeq) →
    onto (xs ++ x ∷ []) rest ≡ onto xs (Then (instr x.0) rest)
onto_snoc [] x rest = refl
onto_snoc (y ∷ xs) x rest = ap (Then (instr y.0)) (onto_snoc xs x rest)

pub onto_both : (xs ys : List (Instr × Span)) (rest : TSeq) → onto (xs ++ ys) rest ≡ onto xs (onto ys rest)
onto_both [] ys rest = refl
onto_both (x ∷ xs) ys rest = ap (Then (instr x.0)) (onto_both xs ys rest)

pub front_snoc : (ys : List (ℕ × TType)) (y : ℕ × TType) (rest : TFile) →
    front (ys ++ y ∷ []) rest ≡ front ys (MoreRegs y.0 (tree y.1) rest)
front_snoc [] y rest = refl
front_snoc (x ∷ ys) y rest = ap (MoreRegs x.0 (tree x.1)) (front_snoc ys y rest)

pub front_none : (ys : List (ℕ × TType)) → front ys NoRegs ≡ file ys
front_none [] = refl
front_none (y ∷ ys) = ap (MoreRegs y.0 (tree y.1)) (front_none ys)

pub fields_snoc : (ys : List (TType × Bool)) (y : TType × Bool) (rest : TFields) →
    fields_onto (ys ++ y ∷ []) rest ≡ fields_onto ys (MoreFields (tree y.0) y.1 rest)
fields_snoc [] y rest = refl
fields_snoc (x ∷ ys) y rest = ap (MoreFields (tree x.0) x.1) (fields_snoc ys y rest)

fields_none : (ys : List (TType × Bool)) → fields_onto ys NoFields ≡ fields ys
fields_none [] = refl
fields_none (y ∷ ys) = ap (MoreFields (tree y.0) y.1) (fields_none ys)

-- a file divided at register m
abbrev pub framed : ℕ → TFile → TFields
framed m x = frame (high_part m (sp_regs m x))

frame_if : (b : Bool) (r : ℕ) (t : Ty) (x : TFile) → frame (with_if b r t x) ≡ field_if b t (frame x)
frame_if true r t x = refl
frame_if false r t x = refl

-- what holds of what is divided so far, where the registers from number i on follow
abbrev pub Divides : ℕ → List (ℕ × TType) → List (ℕ × TType) → List (TType × Bool) → ℕ → Type 0
Divides m regs lows fs i =
    ((last : TFile) → front lows (low_part m (sp_regs m (file (drop i regs))) last)
    ≡ low_part m (sp_regs m (file regs)) last)
    × (fields_onto fs (framed m (file (drop i regs))) ≡ framed m (file regs))

-- one register more
divided_suc : (m : ℕ) (xs lows lows2 : List (ℕ × TType)) (fs fs2 : List (TType × Bool)) (i : ℕ) (y : ℕ × TType)
    (t : Ty)
    (x : TFile) (f : TFields) → i < length xs → y ≡ get_or xs i y → t ≡ sp m (tree y.1) →
    ((last : TFile) → front lows2 last ≡ front lows (low_part m (MoreRegs y.0 t NoRegs) last)) →
    ((rest : TFields) → fields_onto fs2 rest ≡ fields_onto fs (field_if (nat_lt m y.0) t rest)) →
    ((last : TFile) → front lows (low_part m (sp_regs m (file (drop i xs))) last) ≡ low_part m x last) →
    fields_onto fs (framed m (file (drop i xs))) ≡ f →
    ((last : TFile) → front lows2 (low_part m (sp_regs m (file (drop (suc i) xs))) last) ≡ low_part m x last)
    × (fields_onto fs2 (framed m (file (drop (suc i) xs))) ≡ f)
divided_suc m [] lows lows2 fs fs2 i y t x f lt is same l k h g = absurd (omega arith)
divided_suc m (z ∷ xs) lows lows2 fs fs2 zero y t x f lt is same l k h g =
    let e : t ≡ sp m (tree z.1) = same ∙ ap (λ (w : ℕ × TType). sp m (tree w.1)) is in (
      λ last. l (low_part m (sp_regs m (file xs)) last)
          ∙ ap (λ (w : ℕ × TType). front lows (low_part m (MoreRegs w.0 t NoRegs)
          (low_part m (sp_regs m (file xs)) last))) is
          ∙ ap (λ u. front lows (low_part m (MoreRegs z.0 u NoRegs) (low_part m (sp_regs m (file xs)) last))) e
          ∙ h last,
      k (framed m (file xs))
          ∙ ap (λ (w : ℕ × TType). fields_onto fs (field_if (nat_lt m w.0) t (framed m (file xs)))) is
          ∙ ap (λ u. fields_onto fs (field_if (nat_lt m z.0) u (framed m (file xs)))) e
          ∙ ap (fields_onto fs) (sym (frame_if (nat_lt m z.0) z.0 (sp m (tree z.1))
          (high_part m (sp_regs m (file xs))))) ∙ g,
    )
divided_suc m (z ∷ xs) lows lows2 fs fs2 (suc i) y t x f lt is same l k h g =
    divided_suc m xs lows lows2 fs fs2 i y t x f (omega arith) is same l k h g

none_left : (xs : List (ℕ × TType)) (n : ℕ) → length xs ≤ n → file (drop n xs) ≡ NoRegs
none_left [] zero le = refl
none_left [] (suc n) le = refl
none_left (x ∷ xs) zero le = absurd (omega arith)
none_left (x ∷ xs) (suc n) le = none_left xs n (omega arith)

pub divided_all : (m : ℕ) (xs lows : List (ℕ × TType)) (fs : List (TType × Bool)) (n : ℕ) (last : Ty) →
    length xs ≤ n → last ≡ TupleTy (fields fs) → Divides m xs lows fs n →
    front lows (MoreRegs (frame_reg m) last NoRegs) ≡ sp_file m (file xs)
divided_all m xs lows fs n last le is h =
    let none = none_left xs n le in
    let frame_is : fields fs ≡ framed m (file xs) =
    sym (fields_none fs) ∙ sym (ap (λ x. fields_onto fs (framed m x)) none) ∙ h.1 in
    let tail = MoreRegs (frame_reg m) (TupleTy (framed m (file xs))) NoRegs in
    ap (λ t. front lows (MoreRegs (frame_reg m) t NoRegs)) (is ∙ ap TupleTy frame_is)
    ∙ sym (ap (λ x. front lows (low_part m (sp_regs m x) tail)) none) ∙ h.0 tail

-- the registers above m
pub high_none : (m : ℕ) (ys its : List (ℕ × TType)) (whole : TFile) → length its ≡ 0 →
    front ys (high_part m (file its)) ≡ high_part m whole → file ys ≡ high_part m whole
high_none m ys [] whole z e = sym (front_none ys) ∙ e
high_none m ys (x ∷ its) whole z e = absurd (omega (arith, z))
