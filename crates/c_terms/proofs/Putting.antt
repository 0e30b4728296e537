-- One type at a time comes to the same as all types at once.
use Rattle.std.proofs.Common.{◌≡◌, ℕ, zero, suc, Option, Some, None, refl, sym, ap, ◌∙◌, ap₂}
use Rattle.calc_core.specs.Ends.{lift}
use Rattle.c_terms.specs.C.{CTy, CTys, TCInt, TCVar, TCTuple, TCCode, TCExists, TCRef, NoCTys, MoreCTys, ccount}
use Rattle.c_terms.specs.Typing.{cren, scons, cup, csub, csubs, names}
use Rattle.c_terms.specs.Puts.{further_one, without, var_or, cput, cputs, capply}
use Rattle.calc_core.proofs.Substituting.{ren_ren, subs_same, up_same, sub_up, subs_sub, names_up, ren_none, up_up}
use Rattle.calc_core.proofs.Lifts.{lift_zero, lift_suc}

-- put is a substitution
var_suc : (o : Option ℕ) (m : ℕ) (u : CTy) →
    var_or (further_one o) (cren (lift (suc m)) u) ≡ cren suc (var_or o (cren (lift m) u))
var_suc None m u = sym (ren_ren u suc (lift m) (lift (suc m)) (λ i. refl))
var_suc (Some j) m u = refl

put_up : (m n : ℕ) (u : CTy) (s : ℕ → CTy) → ((i : ℕ) → var_or (without n i) u ≡ s i) → (i : ℕ) →
    var_or (without (lift m n) i) (cren (lift m) u) ≡ cup m s i
put_up zero n u s f i = ap (var_or (without n i)) (ren_none u) ∙ f i
put_up (suc m) n u s f zero = refl
put_up (suc m) n u s f (suc i) = var_suc (without (lift m n) i) m u ∙ ap (cren suc) (put_up m n u s f i)

mutual
  pub put_sub : (t : CTy) (n : ℕ) (u : CTy) (s : ℕ → CTy) → ((i : ℕ) → var_or (without n i) u ≡ s i) →
      cput n u t ≡ csub s t
  put_sub TCInt n u s f = refl
  put_sub (TCVar i) n u s f = f i
  put_sub (TCTuple ts) n u s f = ap TCTuple (puts_sub ts n u s f)
  put_sub (TCCode m ts) n u s f = ap (TCCode m) (puts_sub ts (lift m n) (cren (lift m) u) (cup m s) (put_up m n u s f))
  put_sub (TCRef t) n u s f = ap TCRef (put_sub t n u s f)
  put_sub (TCExists t) n u s f =
      ap TCExists (ap (λ x. cput (suc n) x t) (sym (one u))
      ∙ put_sub t (suc n) (cren (lift 1) u) (cup 1 s) (put_up 1 n u s f))
    where
      one : (x : CTy) → cren (lift 1) x ≡ cren suc x
      one x = refl

  pub puts_sub : (ts : CTys) (n : ℕ) (u : CTy) (s : ℕ → CTy) → ((i : ℕ) → var_or (without n i) u ≡ s i) →
      cputs n u ts ≡ csubs s ts
  puts_sub NoCTys n u s f = refl
  puts_sub (MoreCTys t ts) n u s f = ap₂ MoreCTys (put_sub t n u s f) (puts_sub ts n u s f)

put_first : (u : CTy) (i : ℕ) → var_or (without 0 i) u ≡ scons u TCVar i
put_first u zero = refl
put_first u (suc i) = refl

put_at : (n : ℕ) (u : CTy) (args : CTys) → cputs n (cren (lift n) u) args ≡ csubs (cup n (scons u TCVar)) args
put_at n u args =
    puts_sub args n (cren (lift n) u) (cup n (scons u TCVar))
    (λ i. ap (λ k. var_or (without k i) (cren (lift n) u)) (sym (lift_zero n))
    ∙ put_up n 0 u (scons u TCVar) (put_first u) i)

-- types put one after the other are put at once
pub one_by_one : (ts : CTys) (owes : ℕ) (args : CTys) →
    capply (TCCode (lift owes (ccount ts)) args) ts ≡ Some (TCCode owes (csubs (cup owes (names ts TCVar)) args))
one_by_one NoCTys owes args =
    ap₂ (λ n xs. Some (TCCode n xs)) (lift_zero owes)
    (sym (subs_same args (cup owes TCVar) (up_same owes TCVar (λ i. refl))))
one_by_one (MoreCTys t ts) owes args =
    ap (λ n. capply (TCCode n args) (MoreCTys t ts)) (lift_suc owes (ccount ts))
    ∙ one_by_one ts owes (cputs (lift owes (ccount ts)) (cren (lift (lift owes (ccount ts))) t) args)
    ∙ ap (λ xs. Some (TCCode owes (csubs (cup owes (names ts TCVar)) xs))) (put_at (lift owes (ccount ts)) t args)
    ∙ ap (λ xs. Some (TCCode owes xs))
    (subs_sub args (cup owes (names ts TCVar)) (cup (lift owes (ccount ts)) (scons t TCVar))
    (cup owes (names ts (scons t TCVar)))
    (λ i. ap (csub (cup owes (names ts TCVar))) (up_up owes (ccount ts) (scons t TCVar) i)
    ∙ sub_up owes (names ts TCVar) (cup (ccount ts) (scons t TCVar)) (names ts (scons t TCVar))
    (names_up ts (scons t TCVar)) i))
