-- Types that are written one by one.
use Rattle.std.proofs.Common.{◌≡◌, ℕ, List, [], ◌∷◌, refl, ap, ap₂, ◌∙◌, sym, Bool, ◌++◌, ◌<◌, ◌+◌, length, take}
use Rattle.std.proofs.Common.{get_or, ◌≤◌, zero, suc, arith}
use Rattle.t_types.specs.Tree.{TFile, NoRegs, MoreRegs, TFields, NoFields, MoreFields, Ty}
use Rattle.t_types.specs.Read.{tree, file, fields, types}
use Rattle.t_types.specs.declared.types.TType.{TType}
use Rattle.t_gen_rules.specs.Gen.{ty, tys, ty_args, ty_fields}
use Rattle.a_terms.specs.Tree as a
use Rattle.a_terms.specs.Tree.{arity}
use Rattle.a_terms.specs.Read.{atree, atrees, afields}
use Rattle.a_terms.specs.declared.types.AType.{AType}
use Rattle.a_terms.specs.ReadLaws.{asnoc, fsnoc, atrees_snoc, afields_snoc, took}

-- one more at the end
abbrev pub rsnoc : TFile → ℕ → Ty → TFile
rsnoc NoRegs r t = MoreRegs r t NoRegs
rsnoc (MoreRegs q u f) r t = MoreRegs q u (rsnoc f r t)

abbrev tsnoc : TFields → Ty → Bool → TFields
tsnoc NoFields t b = MoreFields t b NoFields
tsnoc (MoreFields u c f) t b = MoreFields u c (tsnoc f t b)

pub file_snoc : (xs : List (ℕ × TType)) (x : ℕ × TType) → file (xs ++ x ∷ []) ≡ rsnoc (file xs) x.0 (tree x.1)
file_snoc [] x = refl
file_snoc (y ∷ ys) x = ap (MoreRegs y.0 (tree y.1)) (file_snoc ys x)

tfields_snoc : (xs : List (TType × Bool)) (x : TType × Bool) → fields (xs ++ x ∷ []) ≡ tsnoc (fields xs) (tree x.0) x.1
tfields_snoc [] x = refl
tfields_snoc (y ∷ ys) x = ap (MoreFields (tree y.0) y.1) (tfields_snoc ys x)

args_snoc : (us : a.ATys) (t : a.ATy) (r q : ℕ) → q ≡ r + arity us →
    ty_args (asnoc us t) r ≡ rsnoc (ty_args us r) q (ty t)
args_snoc a.NoATys t r q e = let z : r ≡ q = omega arith in ap (λ i. MoreRegs i (ty t) NoRegs) z
args_snoc (a.MoreATys u us) t r q e = ap (MoreRegs r (ty u)) (args_snoc us t (suc r) q (omega arith))

ty_fsnoc : (us : a.AFields) (t : a.ATy) (b : Bool) → ty_fields (fsnoc us t b) ≡ tsnoc (ty_fields us) (ty t) b
ty_fsnoc a.NoAFields t b = refl
ty_fsnoc (a.MoreAFields u c us) t b = ap (MoreFields (ty u) c) (ty_fsnoc us t b)

pub arity_take : (ts : List AType) (i : ℕ) → i ≤ length ts → arity (atrees (take i ts)) ≡ i
arity_take ts zero le = refl
arity_take [] (suc i) le = absurd (omega arith)
arity_take (t ∷ ts) (suc i) le = ap suc (arity_take ts i (omega arith))

pub args_push : (xs : List (ℕ × TType)) (r : ℕ) (x : TType) (ts : List AType) (i : ℕ) (t : AType)
    (new : List (ℕ × TType)) → r ≡ i + 1 → i < length ts → t ≡ get_or ts i t → new ≡ xs ++ (r, x) ∷ [] →
    tree x ≡ ty (atree t) → file xs ≡ ty_args (atrees (take i ts)) 1 → file new ≡ ty_args (atrees (take (i + 1) ts)) 1
args_push xs r x ts i t new e lt is n same h =
    ap file n ∙ file_snoc xs (r, x) ∙ ap₂ (λ f u. rsnoc f r u) h same
    ∙ sym (args_snoc (atrees (take i ts)) (atree t) 1 r (omega (arith, arity_take ts i (omega arith))))
    ∙ ap (λ us. ty_args us 1) (sym (ap atrees (took ts i t lt is) ∙ atrees_snoc (take i ts) t))

pub written_push : (xs : List (TType × Bool)) (x : TType) (ts : List (AType × Bool)) (i : ℕ) (t : AType × Bool)
    (new : List (TType × Bool)) → i < length ts → t ≡ get_or ts i t → new ≡ xs ++ (x, t.1) ∷ [] →
    tree x ≡ ty (atree t.0) → fields xs ≡ ty_fields (afields (take i ts)) →
    fields new ≡ ty_fields (afields (take (i + 1) ts))
written_push xs x ts i t new lt is n same h =
    ap fields n ∙ tfields_snoc xs (x, t.1) ∙ ap₂ (λ us u. tsnoc us u t.1) h same
    ∙ sym (ty_fsnoc (afields (take i ts)) (atree t.0) t.1)
    ∙ ap ty_fields (sym (ap afields (took ts i t lt is) ∙ afields_snoc (take i ts) t))

types_snoc : (xs : List TType) (x : TType) → types (xs ++ x ∷ []) ≡ types xs ++ tree x ∷ []
types_snoc [] x = refl
types_snoc (y ∷ ys) x = ap (λ us. tree y ∷ us) (types_snoc ys x)

tys_snoc : (us : a.ATys) (t : a.ATy) → tys (asnoc us t) ≡ tys us ++ ty t ∷ []
tys_snoc a.NoATys t = refl
tys_snoc (a.MoreATys u us) t = ap (λ xs. ty u ∷ xs) (tys_snoc us t)

assoc_one : (xs ys : List Ty) (t : Ty) → (xs ++ ys) ++ t ∷ [] ≡ xs ++ (ys ++ t ∷ [])
assoc_one [] ys t = refl
assoc_one (x ∷ xs) ys t = ap (λ zs. x ∷ zs) (assoc_one xs ys t)

pub types_push : (us : List Ty) (xs : List TType) (x : TType) (ts : List AType) (i : ℕ) (t : AType)
    (new : List TType) → i < length ts → t ≡ get_or ts i t → new ≡ xs ++ x ∷ [] → tree x ≡ ty (atree t) →
    types xs ≡ us ++ tys (atrees (take i ts)) → types new ≡ us ++ tys (atrees (take (i + 1) ts))
types_push us xs x ts i t new lt is n same h =
    ap types n ∙ types_snoc xs x ∙ ap₂ (λ vs u. vs ++ u ∷ []) h same
    ∙ assoc_one us (tys (atrees (take i ts))) (ty (atree t))
    ∙ ap (λ vs. us ++ vs)
    (sym (tys_snoc (atrees (take i ts)) (atree t))
    ∙ ap tys (sym (ap atrees (took ts i t lt is) ∙ atrees_snoc (take i ts) t)))

pub types_none : (us : List Ty) → us ≡ us ++ []
types_none [] = refl
types_none (u ∷ us) = ap (λ vs. u ∷ vs) (types_none us)
