-- What is bound around a term.
use Rattle.std.proofs.Common.{◌≡◌, ℕ, zero, suc, ◌+◌, ◌-◌, ◌<◌, List, [], ◌∷◌, ◌++◌, map, length, get_or, take, Some}
use Rattle.std.proofs.Common.{refl, ap, ◌∙◌, sym, arith, append_assoc}
use Rattle.std.proofs.lemmas.List.{take-map, length-append}
use Rattle.std.proofs.Math.Seq.{take-append_seam}
use Rattle.idx_core.specs.Laws as laws
use Rattle.f_terms.specs.Ty.{Ty, Tys, MoreTys, shift}
use Rattle.f_terms.specs.TyLaws.{types_part, types_over, shift_none}
use Rattle.f_terms.specs.Typing.{ty_at, raised}
use Rattle.f_check.specs.declared.scope.Binder.{Binder}
use Rattle.f_check.specs.Scopes.{Bound, bound, names, IsBound, IsScope}

-- a name more, as it stands under n type names
abbrev pub more : ℕ → Bound → Tys → Tys
more n b g = MoreTys (shift (n - b.at) 0 b.ty) g

pub names_push : (n : ℕ) (g : Tys) (bs : List Bound) (b : Bound) → names n g (bs ++ b ∷ []) ≡ more n b (names n g bs)
names_push n g [] b = refl
names_push n g (c ∷ bs) b = names_push n (more n c g) bs b

-- as it was bound
pub same_now : (n : ℕ) (t : Ty) → shift (n - n) 0 t ≡ t
same_now n t = let z : n - n ≡ 0 = omega arith in ap (λ m. shift m 0 t) z ∙ shift_none t

pub push_now : (n : ℕ) (g : Tys) (bs : List Bound) (t : Ty) →
    names n g (bs ++ record { ty = t; at = n } ∷ []) ≡ MoreTys t (names n g bs)
push_now n g bs t = names_push n g bs (record { ty = t; at = n }) ∙ ap (λ u. MoreTys u (names n g bs)) (same_now n t)

pub push_both : (n : ℕ) (g : Tys) (bs : List Bound) (s t : Ty) →
    names n g (bs ++ record { ty = s; at = n } ∷ record { ty = t; at = n } ∷ []) ≡ MoreTys t (MoreTys s (names n g bs))
push_both n g bs s t =
    let a : Bound = record { ty = s; at = n } in
    let b : Bound = record { ty = t; at = n } in
    ap (names n g) (sym (append_assoc bs (a ∷ []) (b ∷ []))) ∙ push_now n g (bs ++ a ∷ []) t
    ∙ ap (MoreTys t) (push_now n g bs s)

pub raised_names : (n : ℕ) (g : Tys) (bs : List Bound) → IsScope n bs →
    raised (names n g bs) ≡ names (n + 1) (raised g) bs
raised_names n g [] ok = refl
raised_names n g (b ∷ bs) ok =
    let le = ok.0.0 in
    let e : (n - b.at) + 1 ≡ n + 1 - b.at = omega (arith, le) in
    let up : shift 1 0 (shift (n - b.at) 0 b.ty) ≡ shift (n + 1 - b.at) 0 b.ty =
    laws.shift_add_law types_part types_over (n - b.at) 1 0 b.ty ∙ ap (λ m. shift m 0 b.ty) e in
    raised_names n (more n b g) bs ok.1 ∙ ap (λ t. names (n + 1) (MoreTys t (raised g)) bs) up

pub scope_more : (n : ℕ) (bs : List Bound) → IsScope n bs → IsScope (n + 1) bs
scope_more n [] ok = tt
scope_more n (b ∷ bs) ok = let le = ok.0.0 in ((omega (arith, le), ok.0.1, ok.0.2), scope_more n bs ok.1)

pub scope_push : (n : ℕ) (bs : List Bound) (b : Bound) → IsScope n bs → IsBound n b → IsScope n (bs ++ b ∷ [])
scope_push n [] b ok h = (h, tt)
scope_push n (c ∷ bs) b ok h = (ok.0, scope_push n bs b ok.1 h)

pub scope_two : (n : ℕ) (bs : List Bound) (b c : Bound) → IsScope n bs → IsBound n b → IsBound n c →
    IsScope n (bs ++ b ∷ c ∷ [])
scope_two n [] b c ok h k = (h, (k, tt))
scope_two n (d ∷ bs) b c ok h k = (ok.0, scope_two n bs b c ok.1 h k)

pub bounds_push : (bs : List Binder) (b : Binder) → map bound (bs ++ b ∷ []) ≡ map bound bs ++ bound b ∷ []
bounds_push [] b = refl
bounds_push (c ∷ bs) b = ap (λ (xs : List Bound). bound c ∷ xs) (bounds_push bs b)

pub bounds_length : (bs : List Binder) → length (map bound bs) ≡ length bs
bounds_length [] = refl
bounds_length (b ∷ bs) = omega (arith, bounds_length bs)

-- all but the last
pub bounds_pop : (bs cs : List Binder) (ws vs : List Bound) → map bound bs ≡ ws ++ vs →
    cs ≡ take (length bs - length vs) bs → map bound cs ≡ ws
bounds_pop bs cs ws vs e ec =
    let long : length bs - length vs ≡ length ws =
    omega (arith, sym (bounds_length bs), ap length e, length-append ws vs) in
    ap (map bound) (ec ∙ ap (λ k. take k bs) long) ∙ sym (take-map bound (length ws) bs) ∙ ap (take (length ws)) e
    ∙ take-append_seam ws vs

pub tail_is : {A : Type 0} {x y : A} {xs ys : List A} → x ∷ xs ≡ y ∷ ys → xs ≡ ys
tail_is e = cc

pub head_is : {A : Type 0} {x y : A} {xs ys : List A} → x ∷ xs ≡ y ∷ ys → x ≡ y
head_is e = cc

-- where one name is bound, the list of the names is not empty
pub last_bound : (bs : List Binder) (ws : List Bound) (b : Bound) → map bound bs ≡ ws ++ b ∷ [] →
    (cs : List Binder) × (c : Binder) × (bs ≡ cs ++ c ∷ [])
last_bound [] ws b e = absurd (omega (arith, ap length e, length-append ws (b ∷ [])))
last_bound (c ∷ []) ws b e = ([], c, refl)
last_bound (c ∷ d ∷ bs) [] b e = absurd (omega (arith, ap length e))
last_bound (c ∷ d ∷ bs) (w ∷ ws) b e =
    let r = last_bound (d ∷ bs) ws b (tail_is e) in
    (c ∷ r.0, r.1, ap (λ (xs : List Binder). c ∷ xs) r.2)

past : (n : ℕ) (g : Tys) (bs : List Bound) (j : ℕ) → ty_at (names n g bs) (length bs + j) ≡ ty_at g j
past n g [] j = ap (ty_at g) (omega arith)
past n g (b ∷ bs) j =
    let e : j + 1 ≡ suc j = omega arith in
    ap (ty_at (names n (more n b g) bs)) (omega arith) ∙ past n (more n b g) bs (j + 1) ∙ ap (ty_at (more n b g)) e

-- name q is the q-th from the last
pub name_at : (n : ℕ) (g : Tys) (bs : List Binder) (q k : ℕ) (d : Binder) → k + q + 1 ≡ length bs →
    ty_at (names n g (map bound bs)) q ≡ Some (shift (n - (bound (get_or bs k d)).at) 0 (bound (get_or bs k d)).ty)
name_at n g [] q k d e = absurd (omega (arith, e))
name_at n g (b ∷ bs) q zero d e =
    ap (ty_at (names n (more n (bound b) g) (map bound bs))) (omega (arith, e, bounds_length bs))
    ∙ past n (more n (bound b) g) (map bound bs) 0
name_at n g (b ∷ bs) q (suc k) d e = name_at n (more n (bound b) g) bs q k d (omega (arith, e))

pub scope_at : (n : ℕ) (bs : List Binder) (k : ℕ) (d : Binder) → k < length bs → IsScope n (map bound bs) →
    IsBound n (bound (get_or bs k d))
scope_at n [] k d lt ok = absurd (omega (arith, lt))
scope_at n (b ∷ bs) zero d lt ok = ok.0
scope_at n (b ∷ bs) (suc k) d lt ok = scope_at n bs k d (omega (arith, lt)) ok.1
