-- The file of the variables that are used.
use Rattle.std.proofs.Common.{◌≡◌, ℕ, zero, suc, ◌+◌, ◌-◌, ◌<◌, ◌≤◌, List, [], ◌∷◌, length, map, drop, get_or, refl}
use Rattle.std.proofs.Common.{sym, ap, ◌∙◌, subst, arith, slice_get, ⊎_elim}
use Rattle.std.specs.Prelude.{Bool, false, ◌==◌, nat_lt, cond}
use Rattle.std.specs.Ordering.{nat_cmp, match_ordering}
use Rattle.std.specs.declared.cmp.Ordering.TheVariants.{Less, Equal, Greater}
use Rattle.std.specs.BTreeMap.{insert_entry}
use Rattle.std.proofs.lemmas.Bool.{eq-eqb, ne_eqb, lt-ltb, le-ltb, cases_order}
use Rattle.std.proofs.lemmas.List.{drop_more}
use Rattle.t_types.specs.Tree.{TFile, NoRegs, MoreRegs}
use Rattle.t_types.specs.Read.{tree, file as file_tree}
use Rattle.t_types.specs.declared.types.TType.{TType}
use Rattle.a_terms.specs.Tree as a
use Rattle.a_scope.specs.Scope.{shown, scope, homes}
use Rattle.a_scope.specs.declared.scope.Entry.{Entry}
use Rattle.a_scope.proofs.Scopes.{var_in, var_out}
use Rattle.t_gen_rules.specs.Gen.{ty, place, insert, header}
use Rattle.t_emit.specs.Code.{Listed, with_type, chosen}
use Rattle.t_emit.proofs.Emitted.{home_in}

-- a map's entry is put where the file has it
pub inserted : (es : List (ℕ × TType)) (r : ℕ) (t : TType) →
    file_tree (insert_entry nat_cmp es r t) ≡ insert r (tree t) (file_tree es)
inserted [] r t = refl
inserted (e ∷ es) r t = ⊎_elim
    (λ (same : r ≡ e.0).
    let x = ne_lt r e.0 same in
    let y = eq-eqb r e.0 same in
    ap (λ b. file_tree
    (match_ordering (cond b Less (cond (r == e.0) Equal Greater)) ((r, t) ∷ e ∷ es) ((e.0, t) ∷ es)
    (e ∷ insert_entry nat_cmp es r t))) x
    ∙ ap (λ b. file_tree
    (match_ordering (cond b Equal Greater) ((r, t) ∷ e ∷ es) ((e.0, t) ∷ es) (e ∷ insert_entry nat_cmp es r t))) y
    ∙ ap (λ q. MoreRegs q (tree t) (file_tree es)) (sym same)
    ∙ sym (ap (λ b. cond b (MoreRegs r (tree t) (file_tree es))
    (cond (nat_lt r e.0) (MoreRegs r (tree t) (file_tree (e ∷ es)))
    (MoreRegs e.0 (tree e.1) (insert r (tree t) (file_tree es))))) y))
    (λ o. ⊎_elim
    (λ (lt : r < e.0).
    let x = lt-ltb r e.0 lt in
    let y = ne_eqb r e.0 (λ z. absurd (omega arith)) in
    ap (λ b. file_tree
    (match_ordering (cond b Less (cond (r == e.0) Equal Greater)) ((r, t) ∷ e ∷ es) ((e.0, t) ∷ es)
    (e ∷ insert_entry nat_cmp es r t))) x
    ∙ sym (ap (λ b. cond b (MoreRegs r (tree t) (file_tree (e ∷ es)))
    (MoreRegs e.0 (tree e.1) (insert r (tree t) (file_tree es)))) x)
    ∙ sym (ap (λ b. cond b (MoreRegs r (tree t) (file_tree es))
    (cond (nat_lt r e.0) (MoreRegs r (tree t) (file_tree (e ∷ es)))
    (MoreRegs e.0 (tree e.1) (insert r (tree t) (file_tree es))))) y))
    (λ (gt : e.0 < r).
    let x = le-ltb r e.0 (omega arith) in
    let y = ne_eqb r e.0 (λ z. absurd (omega arith)) in
    ap (λ b. file_tree
    (match_ordering (cond b Less (cond (r == e.0) Equal Greater)) ((r, t) ∷ e ∷ es) ((e.0, t) ∷ es)
    (e ∷ insert_entry nat_cmp es r t))) x
    ∙ ap (λ b. file_tree
    (match_ordering (cond b Equal Greater) ((r, t) ∷ e ∷ es) ((e.0, t) ∷ es) (e ∷ insert_entry nat_cmp es r t))) y
    ∙ ap (MoreRegs e.0 (tree e.1)) (inserted es r t)
    ∙ sym (ap (λ b. cond b (MoreRegs r (tree t) (file_tree (e ∷ es)))
    (MoreRegs e.0 (tree e.1) (insert r (tree t) (file_tree es)))) x)
    ∙ sym (ap (λ b. cond b (MoreRegs r (tree t) (file_tree es))
    (cond (nat_lt r e.0) (MoreRegs r (tree t) (file_tree (e ∷ es)))
    (MoreRegs e.0 (tree e.1) (insert r (tree t) (file_tree es))))) y)) o)
    (cases_order r e.0)
  where
    ne_lt : (r q : ℕ) → r ≡ q → nat_lt r q ≡ false
    ne_lt r q e = le-ltb r q (omega arith)

-- one more variable
pub typed_in : (n : ℕ) (es : List Entry) (k i : ℕ) (e : Entry) (f : TFile) → i + suc n ≡ length es →
    e ≡ get_or es i e →
    insert e.register (ty (shown k e)) f ≡ with_type (place (homes es) n) (slice_get (scope k es) n) f
typed_in n es k i e f count at =
    ap (λ r. insert r (ty (shown k e)) f) (home_in es n i e count at)
    ∙ ap (λ o. with_type (place (homes es) n) o f) (var_in k es n i e count at)

pub typed_out : (n : ℕ) (es : List Entry) (k : ℕ) (f : TFile) → length es ≤ n →
    f ≡ with_type (place (homes es) n) (slice_get (scope k es) n) f
typed_out n es k f le = ap (λ o. with_type (place (homes es) n) o f) (var_out k es n le)

pub chosen_next : (xs : List ℕ) (j left d : ℕ) (m : List ℕ) (g : List a.ATy) (old new : TFile) → left ≡ suc j →
    j < length xs → new ≡ with_type (place m (get_or xs j d)) (slice_get g (get_or xs j d)) old →
    old ≡ chosen (drop left xs) m g → new ≡ chosen (drop j xs) m g
chosen_next xs j left d m g old new l lt put h =
    let n = get_or xs j d in
    put ∙ ap (with_type (place m n) (slice_get g n)) (h ∙ ap (λ q. chosen (drop q xs) m g) (l ∙ omega arith))
    ∙ sym (ap (λ ys. chosen ys m g) (drop_more xs j d lt))

pub chosen_none : (xs : List ℕ) (left : ℕ) (m : List ℕ) (g : List a.ATy) → length xs ≤ left →
    NoRegs ≡ chosen (drop left xs) m g
chosen_none [] zero m g le = refl
chosen_none [] (suc i) m g le = refl
chosen_none (x ∷ xs) zero m g le = absurd (omega arith)
chosen_none (x ∷ xs) (suc i) m g le = chosen_none xs i m g (omega arith)

-- the numbers lowered by one
abbrev lowered : List ℕ → List ℕ
lowered xs = map (λ x. x - 1) xs

lowered_listed : (xs : List ℕ) (u : ℕ → Bool) (n : ℕ) → Listed u (suc n) xs → Listed (λ i. u (suc i)) n (lowered xs)
lowered_listed [] u n h = λ i le. h (suc i) (omega arith)
lowered_listed (x ∷ xs) u n h =
    let back : suc (x - 1) ≡ x = omega (arith, h.0) in (
      omega (arith, h.0),
      (λ i le lt. h.1 (suc i) (omega arith) (omega arith)),
      ap u back ∙ h.2,
      lowered_listed xs u (suc (x - 1)) (subst (λ k. Listed u (suc k) xs) (sym back) h.3),
    )

lowered_chosen : (xs : List ℕ) (u : ℕ → Bool) (n r : ℕ) (m : List ℕ) (t : a.ATy) (g : List a.ATy) →
    Listed u (suc n) xs → chosen xs (r ∷ m) (t ∷ g) ≡ chosen (lowered xs) m g
lowered_chosen [] u n r m t g h = refl
lowered_chosen (zero ∷ xs) u n r m t g h = absurd (omega (arith, h.0))
lowered_chosen (suc x ∷ xs) u n r m t g h =
    let back : x ≡ suc x - 1 = omega arith in
    ap (with_type (place m x) (slice_get g x)) (lowered_chosen xs u (suc x) r m t g h.3)
    ∙ ap (λ q. with_type (place m q) (slice_get g q) (chosen (lowered xs) m g)) back

no_types : (xs : List ℕ) (m : List ℕ) → chosen xs m [] ≡ NoRegs
no_types [] m = refl
no_types (x ∷ xs) m = no_types xs m

pub chosen_is : (m : List ℕ) (g : List a.ATy) (xs : List ℕ) (u : ℕ → Bool) → length m ≡ length g → Listed u 0 xs →
    chosen xs m g ≡ header u m g
chosen_is m [] xs u e h = no_types xs m
chosen_is [] (t ∷ g) xs u e h = absurd (omega arith)
chosen_is (r ∷ m) (t ∷ g) [] u e h =
    let f = header (λ i. u (suc i)) m g in
    chosen_is m g [] (λ i. u (suc i)) (omega arith) (λ i le. h (suc i) (omega arith))
    ∙ sym (ap (λ b. cond b (insert r (ty t) f) f) (h 0 (omega arith)))
chosen_is (r ∷ m) (t ∷ g) (zero ∷ xs) u e h =
    let f = header (λ i. u (suc i)) m g in
    ap (insert r (ty t))
    (lowered_chosen xs u 0 r m t g h.3
    ∙ chosen_is m g (lowered xs) (λ i. u (suc i)) (omega arith) (lowered_listed xs u 0 h.3))
    ∙ sym (ap (λ b. cond b (insert r (ty t) f) f) h.2)
chosen_is (r ∷ m) (t ∷ g) (suc x ∷ xs) u e h =
    let f = header (λ i. u (suc i)) m g in
    let k : Listed u 1 (suc x ∷ xs) = (omega arith, (λ i le lt. h.1 i (omega arith) lt), h.2, h.3) in
    lowered_chosen (suc x ∷ xs) u 0 r m t g k
    ∙ chosen_is m g (lowered (suc x ∷ xs)) (λ i. u (suc i)) (omega arith) (lowered_listed (suc x ∷ xs) u 0 k)
    ∙ sym (ap (λ b. cond b (insert r (ty t) f) f) (h.1 0 (omega arith) (omega arith)))
