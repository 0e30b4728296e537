-- The code of a block so far: a slot more, and no slot more.
use Rattle.std.proofs.Common.{◌≡◌, ℕ, suc, List, [], ◌∷◌, ◌++◌, refl, sym, ap, ap₂, ◌∙◌, length, arith}
use Rattle.std.proofs.lemmas.List.{append-nil}
use Rattle.idx_core.specs.declared.span.Span.{Span}
use Rattle.t_types.specs.declared.types.TType.{TType}
use Rattle.t_types.specs.Tree.{Ty}
use Rattle.t_types.specs.Read.{tree, types}
use Rattle.t_terms.specs.Tree.{TSeq, Then, Malloc, St}
use Rattle.t_terms.specs.declared.instr.Instr.{Instr}
use Rattle.t_spill_rules.specs.Spill.{slot_reg, first_reg, before, fill_slot}
use Rattle.t_spill_code.specs.Onto.{onto}
use Rattle.t_spill_code.specs.Homes.{with_slots}
use Rattle.t_spill_code.proofs.Made.{onto_both}

types_snoc : (ts : List TType) (t : TType) (more : List Ty) → types (ts ++ t ∷ []) ++ more
    ≡ types ts ++ (tree t ∷ more)
types_snoc [] t more = refl
types_snoc (u ∷ ts) t more = ap (λ (us : List Ty). tree u ∷ us) (types_snoc ts t more)

pub one_more : (ts ts2 : List TType) (t : TType) → ts2 ≡ ts ++ t ∷ [] → length ts2 ≡ suc (length ts)
one_more ts ts2 t e = ap (λ (us : List TType). length us) e ∙ go ts
  where
    go : (us : List TType) → length (us ++ t ∷ []) ≡ suc (length us)
    go [] = refl
    go (u ∷ us) = ap suc (go us)

pub onto_none : (xs : List (Instr × Span)) (rest : TSeq) → length xs ≡ 0 → onto xs rest ≡ rest
onto_none [] rest e = refl
onto_none (x ∷ xs) rest e = absurd (omega (arith, e))

-- the text of code that is done, types of slots and code that is tail
abbrev pub whole : ℕ → List (Instr × Span) → List TType → List (Instr × Span) → List Ty → TSeq → TSeq
whole m done ts tail more rest = onto done (with_slots m (types ts) more (onto tail rest))

pub first_filled : (m : ℕ) (done tail done2 tail2 : List (Instr × Span)) (ts ts2 : List TType) (t : TType) →
    length ts ≡ 0 → done2 ≡ done ++ tail → ts2 ≡ ts ++ t ∷ [] →
    ((rest : TSeq) → onto tail2 rest ≡ Then (St (slot_reg m) 0 (first_reg m)) rest) → (more : List Ty) (rest : TSeq) →
    whole m done2 ts2 tail2 more rest
    ≡ whole m done ts tail (tree t ∷ more) (before (fill_slot m 0 (tree t ∷ more)) rest)
first_filled m done tail done2 tail2 [] ts2 t z d s o more rest =
    ap₂ (λ (xs : List (Instr × Span)) (us : List TType). onto xs (with_slots m (types us) more (onto tail2 rest))) d s
    ∙ onto_both done tail (Then (Malloc (slot_reg m) (tree t ∷ more)) (onto tail2 rest))
    ∙ ap (λ r. onto done (onto tail (Then (Malloc (slot_reg m) (tree t ∷ more)) r))) (o rest)
first_filled m done tail done2 tail2 (u ∷ ts) ts2 t z d s o more rest = absurd (omega (arith, z))

pub none_filled : (m : ℕ) (done tail : List (Instr × Span)) (ts : List TType) (more : List Ty) (rest : TSeq) →
    length ts ≡ 0 → onto done (onto tail rest) ≡ whole m done ts tail more rest
none_filled m done tail [] more rest z = refl
none_filled m done tail (u ∷ ts) more rest z = absurd (omega (arith, z))

pub slots_made : (m : ℕ) (done tail made : List (Instr × Span)) (ts : List TType) → (length ts ≡ 0 → ⊥) →
    ((rest : TSeq) → onto made rest ≡ onto done (Then (Malloc (slot_reg m) (types ts)) rest)) → (rest : TSeq) →
    onto made (onto tail rest) ≡ whole m done ts tail [] rest
slots_made m done tail made [] some h rest = absurd (some refl)
slots_made m done tail made (u ∷ ts) some h rest =
    h (onto tail rest)
    ∙ ap (λ (us : List Ty). onto done (Then (Malloc (slot_reg m) (tree u ∷ us)) (onto tail rest)))
    (sym (append-nil (types ts)))

-- all that is done, and nothing behind it
pub closed : (m : ℕ) (done tail done2 tail2 : List (Instr × Span)) (ts2 : List TType) (all : TSeq → TSeq) →
    length ts2 ≡ 0 → length tail2 ≡ 0 → done2 ≡ done ++ tail →
    ((rest : TSeq) → onto done (onto tail rest) ≡ all rest) →
    ((rest : TSeq) → onto done2 rest ≡ all rest)
    × ((more : List Ty) (rest : TSeq) → whole m done2 ts2 tail2 more rest ≡ all rest)
closed m done tail done2 (x ∷ tail2) ts2 all z n d h = absurd (omega (arith, n))
closed m done tail done2 [] ts2 all z n d h = (
  here,
  λ more rest. sym (none_filled m done2 [] ts2 more rest z)
      ∙ here rest,
)
  where
    here : (rest : TSeq) → onto done2 rest ≡ all rest
    here rest = ap (λ (xs : List (Instr × Span)). onto xs rest) d ∙ onto_both done tail rest ∙ h rest
