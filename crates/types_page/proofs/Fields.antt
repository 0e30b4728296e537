-- The fields of a tuple, one more at a time.
use Rattle.std.proofs.Common.{◌≡◌, ℕ, List, [], ◌∷◌, ◌++◌, map, refl, sym, ap, ◌∙◌, append_assoc}
use Rattle.std.proofs.lemmas.List.{append-nil}
use Rattle.f_terms.specs.Ty.{Ty, TTuple, Tys, NoTys, MoreTys, tys}
use Rattle.f_terms.specs.Tm.{Tms, NoTms, MoreTms, plain, plain_all}
use Rattle.f_terms.specs.Noted.{type_of, types_of}
use Rattle.f_terms.specs.Read.{tree}
use Rattle.f_terms.specs.declared.types.FType.{FType}
use Rattle.types_page.specs.Binders.{Binder}
use Rattle.types_page.specs.Walk.{Named, Now, context, with_field, all_visited, all_binders, binders}

abbrev pub state : List Binder → List Named → List Ty → ℕ → Now
state f s ts n = record { found = f; scope = s; types = ts; around = n }

pub state_is : (f g : List Binder) (s : List Named) (ts us : List Ty) (n m : ℕ) → f ≡ g → ts ≡ us → n ≡ m →
    state f s ts n ≡ state g s us m
state_is f g s ts us n m a b c =
    ap (λ (z : List Binder). state z s ts n) a ∙ ap (λ (z : List Ty). state g s z n) b
    ∙ ap (λ (z : ℕ). state g s us z) c

-- some fields, and others behind them
abbrev joined : Tys → Tys → Tys
joined NoTys us = us
joined (MoreTys t ts) us = MoreTys t (joined ts us)

joined_none : (ts : Tys) → joined ts NoTys ≡ ts
joined_none NoTys = refl
joined_none (MoreTys t ts) = ap (MoreTys t) (joined_none ts)

joined_more : (ts us : Tys) (t : Ty) → joined (with_field ts t) us ≡ joined ts (MoreTys t us)
joined_more NoTys us t = refl
joined_more (MoreTys u ts) us t = ap (MoreTys u) (joined_more ts us t)

more : (s : List Named) (ts : List Ty) (n : ℕ) (es : Tms) (f : List Binder) (us : Tys) →
    all_visited es (state f s (TTuple us ∷ ts) n)
    ≡ state (f ++ all_binders es n (context n s)) s
    (TTuple (joined us (types_of (plain_all es) (context n s))) ∷ ts) n
more s ts n NoTms f us =
    state_is f (f ++ []) s (TTuple us ∷ ts) (TTuple (joined us NoTys) ∷ ts) n n (sym (append-nil f))
    (ap (λ (z : Tys). TTuple z ∷ ts) (sym (joined_none us))) refl
more s ts n (MoreTms e es) f us =
    let g = context n s in
    let t = type_of (plain e) g in
    let vs = types_of (plain_all es) g in
    more s ts n es (f ++ binders e n g) (with_field us t)
    ∙ state_is ((f ++ binders e n g) ++ all_binders es n g) (f ++ (binders e n g ++ all_binders es n g)) s
    (TTuple (joined (with_field us t) vs) ∷ ts) (TTuple (joined us (MoreTys t vs)) ∷ ts) n n
    (append_assoc f (binders e n g) (all_binders es n g))
    (ap (λ (z : Tys). TTuple z ∷ ts) (joined_more us vs t)) refl

-- all fields of a tuple
pub fields : (es : Tms) (f : List Binder) (s : List Named) (ts : List Ty) (n : ℕ) →
    all_visited es (state f s (TTuple NoTys ∷ ts) n)
    ≡ state (f ++ all_binders es n (context n s)) s (TTuple (types_of (plain_all es) (context n s)) ∷ ts) n
fields es f s ts n = more s ts n es f NoTys

-- the tree of a tuple with a field more
pub pushed : (xs : List FType) (x : FType) → tys (map tree (xs ++ x ∷ [])) ≡ with_field (tys (map tree xs)) (tree x)
pushed [] x = refl
pushed (y ∷ xs) x = ap (MoreTys (tree y)) (pushed xs x)
