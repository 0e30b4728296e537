-- Fields of tuples, and types applied one after the other.
use Rattle.std.proofs.Common.{◌≡◌, ℕ, zero, suc, ◌+◌, ◌<◌, ◌≤◌, ◌++◌, List, [], ◌∷◌, length, drop, take, get_or, set}
use Rattle.std.proofs.Common.{Bool, true, Option, Some, None, refl, sym, ap, ap₂, ◌∙◌, arith}
use Rattle.std.proofs.lemmas.List.{drop_more, drop_all}
use Rattle.a_terms.specs.Tree as a
use Rattle.a_terms.specs.Tree.{ashift, aput_types}
use Rattle.a_terms.specs.Typing.{aflagged, applied, afilled, field_of, filled_of}
use Rattle.a_terms.specs.Read.{atree, atrees, afields}
use Rattle.a_terms.specs.declared.types.AType.{AType}
use Rattle.a_terms.specs.ReadLaws.{asnoc, fsnoc, atrees_snoc, afields_snoc, took}

-- fields
pub field_in : (xs : List (AType × Bool)) (i k : ℕ) (x : AType × Bool) → i ≡ suc k → k < length xs →
    x ≡ get_or xs k x → atree x.0 ≡ field_of i (Some (a.ATuple (afields xs)))
field_in xs i k x e lt is = go xs k lt is ∙ ap (λ j. field_of j (Some (a.ATuple (afields xs)))) (sym e)
  where
    go : (ys : List (AType × Bool)) (k : ℕ) → k < length ys → x ≡ get_or ys k x →
        atree x.0 ≡ field_of (suc k) (Some (a.ATuple (afields ys)))
    go [] k lt is = absurd (omega arith)
    go (y ∷ ys) zero lt is = ap (λ (z : AType × Bool). atree z.0) is
    go (y ∷ ys) (suc k) lt is = go ys k (omega arith) is

pub field_out : (xs : List (AType × Bool)) (i k : ℕ) → i ≡ suc k → length xs ≤ k →
    a.AInt ≡ field_of i (Some (a.ATuple (afields xs)))
field_out xs i k e le = go xs k le ∙ ap (λ j. field_of j (Some (a.ATuple (afields xs)))) (sym e)
  where
    go : (ys : List (AType × Bool)) (k : ℕ) → length ys ≤ k → a.AInt ≡ field_of (suc k) (Some (a.ATuple (afields ys)))
    go [] k le = refl
    go (y ∷ ys) zero le = absurd (omega arith)
    go (y ∷ ys) (suc k) le = go ys k (omega arith)

pub filled_in : (xs : List (AType × Bool)) (i k : ℕ) (x : AType × Bool) → i ≡ suc k → k < length xs →
    x ≡ get_or xs k x → a.ATuple (afields (set xs k (x.0, true))) ≡ filled_of i (Some (a.ATuple (afields xs)))
filled_in xs i k x e lt is = ap a.ATuple (go xs k lt is) ∙ ap (λ j. filled_of j (Some (a.ATuple (afields xs)))) (sym e)
  where
    go : (ys : List (AType × Bool)) (k : ℕ) → k < length ys → x ≡ get_or ys k x →
        afields (set ys k (x.0, true)) ≡ afilled (afields ys) k
    go [] k lt is = absurd (omega arith)
    go (y ∷ ys) zero lt is = ap (λ (z : AType × Bool). a.MoreAFields (atree z.0) true (afields ys)) is
    go (y ∷ ys) (suc k) lt is = ap (a.MoreAFields (atree y.0) y.1) (go ys k (omega arith) is)

pub filled_out : (xs : List (AType × Bool)) (i k : ℕ) → i ≡ suc k → length xs ≤ k →
    a.ATuple (afields xs) ≡ filled_of i (Some (a.ATuple (afields xs)))
filled_out xs i k e le = ap a.ATuple (sym (go xs k le)) ∙ ap (λ j. filled_of j (Some (a.ATuple (afields xs)))) (sym e)
  where
    go : (ys : List (AType × Bool)) (k : ℕ) → length ys ≤ k → afilled (afields ys) k ≡ afields ys
    go [] k le = refl
    go (y ∷ ys) zero le = absurd (omega arith)
    go (y ∷ ys) (suc k) le = ap (a.MoreAFields (atree y.0) y.1) (go ys k (omega arith))

-- types applied one after the other
pub applied_one : (n m : ℕ) (us : a.ATys) (t : a.ATy) → n ≡ suc m →
    Some (a.ACode m (aput_types m (ashift m 0 t) us)) ≡ applied (Some (a.ACode n us)) (a.MoreATys t a.NoATys)
applied_one zero m us t e = absurd (omega arith)
applied_one (suc n) m us t e =
    let x : m ≡ n = omega arith in ap (λ i. Some (a.ACode i (aput_types i (ashift i 0 t) us))) x

split : (o : Option a.ATy) (t : a.ATy) (ts : a.ATys) →
    applied o (a.MoreATys t ts) ≡ applied (applied o (a.MoreATys t a.NoATys)) ts
split None t ts = refl
split (Some a.AInt) t ts = refl
split (Some (a.AVar n)) t ts = refl
split (Some (a.ATuple fs)) t ts = refl
split (Some (a.ACode zero us)) t ts = refl
split (Some (a.ACode (suc n) us)) t ts = refl
split (Some (a.AExists u)) t ts = refl

none_applied : (o : Option a.ATy) → applied o a.NoATys ≡ o
none_applied None = refl
none_applied (Some s) = refl

pub apply_next : (o p q : Option a.ATy) (ts : List AType) (i : ℕ) (t : AType) → i < length ts → t ≡ get_or ts i t →
    p ≡ applied o (a.MoreATys (atree t) a.NoATys) → applied o (atrees (drop i ts)) ≡ q →
    applied p (atrees (drop (i + 1) ts)) ≡ q
apply_next o p q ts i t lt is e h =
    ap (λ x. applied x (atrees (drop (i + 1) ts))) e ∙ sym (split o (atree t) (atrees (drop (i + 1) ts)))
    ∙ ap (applied o)
    (ap (λ y. a.MoreATys (atree y) (atrees (drop (i + 1) ts))) is ∙ sym (ap atrees (drop_more ts i t lt))) ∙ h

pub apply_end : (o q : Option a.ATy) (ts : List AType) (i : ℕ) → length ts ≤ i → applied o (atrees (drop i ts)) ≡ q →
    o ≡ q
apply_end o q ts i le h = sym (none_applied o) ∙ ap (λ us. applied o (atrees us)) (sym (drop_all i ts le)) ∙ h

-- tuples that are made field by field
flagged_snoc : (b : Bool) (us : a.ATys) (t : a.ATy) → aflagged b (asnoc us t) ≡ fsnoc (aflagged b us) t b
flagged_snoc b a.NoATys t = refl
flagged_snoc b (a.MoreATys u us) t = ap (a.MoreAFields u b) (flagged_snoc b us t)

pub flagged_push : (b : Bool) (xs : List (AType × Bool)) (x : AType) (ts : List AType) (i : ℕ) (t : AType)
    (new : List (AType × Bool)) → i < length ts → t ≡ get_or ts i t → new ≡ xs ++ (x, b) ∷ [] → atree x ≡ atree t →
    afields xs ≡ aflagged b (atrees (take i ts)) → afields new ≡ aflagged b (atrees (take (i + 1) ts))
flagged_push b xs x ts i t new lt is n same h =
    ap afields n ∙ afields_snoc xs (x, b) ∙ ap₂ (λ us u. fsnoc us u b) h same
    ∙ sym (flagged_snoc b (atrees (take i ts)) (atree t))
    ∙ ap (aflagged b) (sym (ap atrees (took ts i t lt is) ∙ atrees_snoc (take i ts) t))
