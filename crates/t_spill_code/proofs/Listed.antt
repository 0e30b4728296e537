-- The keys of a map are the registers that it has, in order.
use Rattle.std.proofs.Common.{◌≡◌, ℕ, ◌<◌, cond, Bool, true, false, List, [], ◌∷◌, ◌++◌, refl, sym, ap, ◌∙◌, arith}
use Rattle.std.proofs.Common.{nat_eq, length}
use Rattle.std.specs.Prelude.{◌||◌}
use Rattle.std.specs.Ordering.{nat_cmp, is_eq, eq_by_cmp}
use Rattle.std.specs.Cmp.{nat_cmp_is}
use Rattle.std.specs.List.{AllByRecursion}
use Rattle.std.specs.List.Sorted.{IsStrictlySortedBy}
use Rattle.std.specs.Set.{is_member}
use Rattle.std.specs.declared.cmp.Ordering.TheVariants.{Less, Equal, Greater}
use Rattle.std.proofs.Math.Logic.{⊎_elim}
use Rattle.std.proofs.lemmas.Bool.{cases_order, eq-eqb, ne_eqb}
use Rattle.t_spill_rules.specs.Spill.{among}
use Rattle.t_spill_code.specs.Homes.{Above, Ascending}
use Rattle.std.proofs.lemmas.List.{append-nil as no_more}
use Rattle.idx_core.proofs.Numbers.{before}

pub ascending : (xs : List ℕ) → IsStrictlySortedBy nat_cmp xs → Ascending xs
unfolding IsStrictlySortedBy
ascending [] h = tt
ascending (x ∷ xs) h = above x xs h.0 h.1
  where
    above : (x : ℕ) (xs : List ℕ) → AllByRecursion (λ y. nat_cmp x y ≡ Less) xs → IsStrictlySortedBy nat_cmp xs →
        Above x xs
    above x [] a s = tt
    above x (y ∷ ys) a s = (before x y a.0, above y ys s.0 s.1)

same_key : (q k : ℕ) → eq_by_cmp nat_cmp q k ≡ nat_eq k q
same_key q k =
    ⊎_elim
    (λ (e : q ≡ k). ap is_eq (sym (nat_cmp_is q k Equal e)) ∙ sym (eq-eqb k q (sym e)))
    (⊎_elim
    (λ (lt : q < k). ap is_eq (sym (nat_cmp_is q k Less lt)) ∙ sym (ne_eqb k q (λ e. absurd (omega (arith, e, lt)))))
    (λ (gt : k < q). ap is_eq (sym (nat_cmp_is q k Greater gt))
    ∙ sym (ne_eqb k q (λ e. absurd (omega (arith, e, gt))))))
    (cases_order q k)

pub member_is : (xs : List ℕ) (q : ℕ) → is_member (eq_by_cmp nat_cmp) xs q ≡ among q xs
member_is [] q = refl
member_is (x ∷ xs) q = go (member_is xs q) (eq_by_cmp nat_cmp q x) (nat_eq x q) (same_key q x)
  where
    go : is_member (eq_by_cmp nat_cmp) xs q ≡ among q xs → (a b : Bool) → a ≡ b →
        (a || is_member (eq_by_cmp nat_cmp) xs q) ≡ cond b true (among q xs)
    go h true true e = refl
    go h true false e = cc
    go h false true e = cc
    go h false false e = h

pub all_listed : (xs its ks : List ℕ) → length its ≡ 0 → xs ++ its ≡ ks → xs ≡ ks
all_listed xs [] ks none h = sym (no_more xs) ∙ h
all_listed xs (y ∷ its) ks none h = absurd (omega (arith, none))
