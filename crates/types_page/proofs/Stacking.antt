-- Stacks, read from the last item on.
use Rattle.std.proofs.Common.{◌≡◌, ◌≤◌, ℕ, zero, suc, ◌+◌, ◌-◌, List, [], ◌∷◌, ◌++◌, length, get_or, Some, None, Option}
use Rattle.std.proofs.Common.{refl, sym, ap, ◌∙◌, arith}
use Rattle.std.specs.Prelude.{MatchOption, option_to_list}
use Rattle.std.proofs.lemmas.List.{append-nil, map-set}
use Rattle.f_terms.specs.Ty.{TInt, shift}
use Rattle.f_terms.specs.Typing.{ty_at}
use Rattle.f_terms.specs.Noted.{or_int}
use Rattle.f_terms.specs.Read.{tree}
use Rattle.types_page.specs.Walk.{back_on, back, Named, named, context, rest}
use Rattle.types_page.specs.declared.state.Name.{Name}

-- an item more is the first one
pub back_push : {A B : Type 0} (f : A → B) (bs : List B) (xs : List A) (a : A) →
    back_on f bs (xs ++ a ∷ []) ≡ f a ∷ back_on f bs xs
back_push f bs [] a = refl
back_push f bs (x ∷ xs) a = back_push f (f x ∷ bs) xs a

pub back_none : {A B : Type 0} (f : A → B) (xs : List A) → length xs ≡ 0 → back f xs ≡ []
back_none f [] e = refl
back_none f (x ∷ xs) e = absurd (omega (arith, e))

-- what stands below the names of a list
past : (n : ℕ) (bs : List Named) (xs : List Name) (j : ℕ) →
    ty_at (context n (back_on named bs xs)) (length xs + j) ≡ ty_at (context n bs) j
past n bs [] j = ap (ty_at (context n bs)) (omega arith)
past n bs (x ∷ xs) j =
    let e : j + 1 ≡ suc j = omega arith in
    ap (ty_at (context n (back_on named (named x ∷ bs) xs))) (omega arith) ∙ past n (named x ∷ bs) xs (j + 1)
    ∙ ap (ty_at (context n (named x ∷ bs))) e

-- name q is the q-th from the last
pub name_at : (n : ℕ) (bs : List Named) (xs : List Name) (q k : ℕ) (d : Name) → k + q + 1 ≡ length xs →
    ty_at (context n (back_on named bs xs)) q
    ≡ Some (shift (n - (get_or xs k d).around) 0 (tree (get_or xs k d).ty))
name_at n bs [] q k d e = absurd (omega (arith, e))
name_at n bs (x ∷ xs) q zero d e =
    ap (ty_at (context n (back_on named (named x ∷ bs) xs))) (omega (arith, e)) ∙ past n (named x ∷ bs) xs 0
name_at n bs (x ∷ xs) q (suc k) d e = name_at n (named x ∷ bs) xs q k d (omega (arith, e))

-- there are no more names
pub no_name : (n : ℕ) (xs : List Name) (q : ℕ) → length xs ≤ q → or_int (ty_at (context n (back named xs)) q) ≡ TInt
no_name n xs q le =
    ap or_int (ap (ty_at (context n (back named xs))) (omega (arith, le)) ∙ past n [] xs (q - length xs))

-- so it has this type under n type names
pub name_is : (n by : ℕ) (xs : List Name) (q k : ℕ) (x : Name) → k + q + 1 ≡ length xs → x ≡ get_or xs k x →
    by ≡ n - x.around → or_int (ty_at (context n (back named xs)) q) ≡ shift by 0 (tree x.ty)
name_is n by xs q k x long is same =
    ap or_int (name_at n [] xs q k x long)
    ∙ ap (λ (y : Name). shift (n - y.around) 0 (tree y.ty)) (sym is)
    ∙ ap (λ (m : ℕ). shift m 0 (tree x.ty)) (sym same)

-- without the last item
pub popped : {A B : Type 0} (f : A → B) (r : Option A) (old new : List A) (n m : ℕ) → n ≡ length old →
    old ≡ new ++ option_to_list r → MatchOption r ((n ≡ 0) × (m ≡ 0)) (λ t. m + 1 ≡ n) →
    back f new ≡ rest (back f old)
popped {B = B} f None old new n m count items cases =
    let gone : back f old ≡ [] = back_none f old (omega (arith, count, cases.0)) in
    let same : back f new ≡ back f old = ap (back f) (sym (items ∙ append-nil new)) in
    same ∙ gone ∙ sym (ap (λ (bs : List B). rest bs) gone)
popped {B = B} f (Some t) old new n m count items cases =
    sym (ap (λ (bs : List B). rest bs) (ap (back f) items ∙ back_push f [] new t))

-- an item becomes another
pub ruleset set_facts = (map-set)
