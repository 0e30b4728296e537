-- One type put for one variable is put.
use Rattle.std.proofs.Common.{◌≡◌, ◌<◌, ◌⊎◌, inl, inr, ℕ, zero, suc, ◌-◌, Some, None, refl, sym, ap, ◌∙◌, arith}
use Rattle.std.proofs.lemmas.Bool.{cases_order}
use Rattle.idx_core.specs.Over.{putted}
use Rattle.idx_core.specs.Laws.{putted_lt, putted_eq, putted_gt, shift_zero_law}
use Rattle.c_terms.specs.C.{CTy, TCVar}
use Rattle.c_terms.specs.Puts.{further_one, without, var_or, cput}
use Rattle.calc_core.specs.Walks.{over, shift, put}
use Rattle.calc_core.specs.TyLaws.{types_over}
use Rattle.calc_core.proofs.Bridge.{IsPut, sub_is}
use Rattle.c_terms.proofs.Putting.{put_sub}

without_same : (n : ℕ) → without n n ≡ None
without_same zero = refl
without_same (suc n) = ap further_one (without_same n)

without_lt : (n i : ℕ) → i < n → without n i ≡ Some i
without_lt zero i h = absurd (omega (arith, h))
without_lt (suc n) zero h = refl
without_lt (suc n) (suc i) h = ap further_one (without_lt n i (omega (arith, h)))

without_gt : (n i : ℕ) → n < suc i → without n (suc i) ≡ Some i
without_gt zero i h = refl
without_gt (suc n) zero h = absurd (omega (arith, h))
without_gt (suc n) (suc i) h = ap further_one (without_gt n i (omega (arith, h)))

without_more : (n i : ℕ) → n < i → without n i ≡ Some (i - 1)
without_more n zero h = absurd (omega (arith, h))
without_more n (suc i) h = without_gt n i h ∙ ap Some (let e : i ≡ suc i - 1 = omega arith in e)

without_put : (n : ℕ) (s : CTy) → IsPut (λ i. var_or (without n i) s) n s n
without_put n s i = here (cases_order i n)
  where
    here : (i ≡ n) ⊎ ((i < n) ⊎ (n < i)) → var_or (without n i) s ≡ putted TCVar over n s n i
    here (inl e) =
        ap (λ j. var_or (without n j) s) e
        ∙ ap (λ o. var_or o s) (without_same n)
        ∙ sym (shift_zero_law types_over 0 s)
        ∙ ap (λ k. shift k 0 s) (let z : 0 ≡ n - n = omega arith in z) ∙ sym (putted_eq TCVar over n s n i e)
    here (inr (inl l)) = ap (λ o. var_or o s) (without_lt n i l) ∙ sym (putted_lt TCVar over n s n i l)
    here (inr (inr l)) = ap (λ o. var_or o s) (without_more n i l) ∙ sym (putted_gt TCVar over n s n i l)

pub cput_is : (n : ℕ) (s t : CTy) → cput n s t ≡ put n s t
cput_is n s t = put_sub t n s (λ i. var_or (without n i) s) (λ i. refl)
    ∙ sub_is t (λ i. var_or (without n i) s) n s n (omega arith) (without_put n s)
