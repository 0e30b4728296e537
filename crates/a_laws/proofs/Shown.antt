-- The words of values that stand for hoisted ones, and of the constants in the data.
use Rattle.std.proofs.Common.{◌≡◌, ◌<◌, ℕ, zero, suc, ◌-◌, List, [], ◌∷◌, Option, Some, None, refl, sym, ap, ap₂, ◌∙◌}
use Rattle.std.proofs.Common.{subst, arith}
use Rattle.std.specs.Prelude.{map, option_map, slice_get, Bool, true, false, ◌&&◌, not}
use Rattle.c_terms.specs.C.{CTy, CTys}
use Rattle.h_terms.specs.H.{HVal, HVar, HInt, HLabel, HTuple, HApply, HPack, HVals, NoHVals, MoreHVals}
use Rattle.calc_core.specs.Words.{WTuple, NoWords, MoreWords, at}
use Rattle.h_terms.specs.Meaning.{HWord, HWords, hv_value, hvs_value}
use Rattle.a_terms.specs.Meaning.{AHeap, AWord, ZInt, ZLabel, ZTuple, datum, pick, value, values, with_first}
use Rattle.a_terms.specs.Meaning.{with_more}
use Rattle.a_terms.specs.Tree.{AConsts, AVal, Var, Num, Lab, Data, Apply, Pack}
use Rattle.a_laws.specs.Allocate.{all_closed, atype, atypes, closed, is_label}
use Rattle.a_laws.specs.Constants.{Constants, constant, constant_at, constants, is_package, packed, two}
use Rattle.a_laws.specs.Stands.{scope, Thing, Is, Made, Gone, thing_at, Means, Stands_v, Stands_vs, Carries}
use Rattle.a_laws.specs.Stands.{Carries_fields, Carries_v, listed}
use Rattle.a_laws.proofs.OneValue.{form}
use Rattle.a_laws.proofs.Rel.{Holds, Moves, Rel, Rels, rel_moves}
use Rattle.a_laws.proofs.Inside.{inside, applied, content, first_value, more_values, no_values}
use Rattle.a_laws.proofs.Cells.{none_some}
use Rattle.std.proofs.lemmas.Bool.{and_parts as both_true}
use Rattle.std.proofs.lemmas.Option.{same_Some}

-- equal values have one form
pub other : (v w : HVal) → v ≡ w → (form v ≡ form w → ⊥) → ⊥
other v w e f = f (ap form e)

-- the data tuple of a constant
pub carries_at : (ds : List HVal) (xs : List AConsts) (us : List HVal) (n : ℕ) (c : HVal) → Carries ds xs us →
    slice_get us n ≡ Some c →
    (x : AConsts) × (vs : HVals) × (slice_get xs n ≡ Some x) × (c ≡ HTuple vs) × Carries_fields ds x vs
carries_at ds [] us n c s e = absurd (none_some c (sym (ap (λ z. slice_get z n) s) ∙ e))
carries_at ds (x ∷ xs) us zero c s e =
    let q = ap (λ z. slice_get z 0) s.2 in
    (x, s.0, refl, same_Some _ _ (sym e ∙ q), s.3)
carries_at ds (x ∷ xs) us (suc n) c s e = carries_at ds xs s.1 n c s.4 (sym (ap (λ z. slice_get z (suc n)) s.2) ∙ e)

-- the constants that variables name are their values
abbrev pub Known : Constants → HWords → Type 0
Known os ys = (i : ℕ) (c : HVal) → constant_at os i ≡ Some c → at ys i ≡ hv_value c NoWords

pub known_more : (os : Constants) (ys : HWords) (o : Option HVal) (y : HWord) → Known os ys →
    ((c : HVal) → o ≡ Some c → y ≡ hv_value c NoWords) → Known (o ∷ os) (MoreWords y ys)
known_more os ys o y k f zero c e = f c e
known_more os ys o y k f (suc i) c e = k i c e

label_value : (v : HVal) (ys : HWords) → is_label v ≡ true → hv_value v ys ≡ hv_value v NoWords
label_value (HVar i) ys e = cc
label_value (HInt n) ys e = refl
label_value (HLabel l) ys e = refl
label_value (HTuple vs) ys e = cc
label_value (HApply v ts) ys e = cc
label_value (HPack h v s) ys e = cc

module _ (os : Constants) (ys : HWords) where
  of_tuple : (vs : HVals) (c : HVal) (o : Option HVals) → constants os vs ≡ o → option_map HTuple o ≡ Some c →
      ((cs : HVals) → constants os vs ≡ Some cs → hvs_value vs ys ≡ hvs_value cs NoWords) →
      hv_value (HTuple vs) ys ≡ hv_value c NoWords
  of_tuple vs c None q e f = absurd (none_some c e)
  of_tuple vs c (Some cs) q e f = ap WTuple (f cs q) ∙ ap (λ z. hv_value z NoWords) (same_Some _ _ e)

  of_apply : (v : HVal) (ts : CTys) (c : HVal) (b : Bool) → is_label v && all_closed 0 (atypes ts) ≡ b →
      pick b (Some (HApply v ts)) None ≡ Some c → hv_value v ys ≡ hv_value c NoWords
  of_apply v ts c true q e =
      label_value v ys (both_true (is_label v) (all_closed 0 (atypes ts)) q).0
      ∙ ap (λ z. hv_value z NoWords) (same_Some _ _ e)
  of_apply v ts c false q e = absurd (none_some c e)

  of_picked : (h : CTy) (d : HVal) (s : CTy) (c : HVal) (b : Bool) → pick b (Some (HPack h d s)) None ≡ Some c →
      hv_value d NoWords ≡ hv_value c NoWords
  of_picked h d s c true e = ap (λ z. hv_value z NoWords) (same_Some _ _ e)
  of_picked h d s c false e = absurd (none_some c e)

  of_pack : (h : CTy) (v : HVal) (s : CTy) (c : HVal) (o : Option HVal) → constant os v ≡ o → packed h s o ≡ Some c →
      ((d : HVal) → constant os v ≡ Some d → hv_value v ys ≡ hv_value d NoWords) →
      hv_value v ys ≡ hv_value c NoWords
  of_pack h v s c None q e f = absurd (none_some c e)
  of_pack h v s c (Some d) q e f =
      f d q ∙ of_picked h d s c (not (is_package d) && (closed 0 (atype h) && closed 0 (atype s))) e

  of_both : (v : HVal) (vs cs : HVals) (o : Option HVal) (p : Option HVals) → constant os v ≡ o →
      constants os vs ≡ p → two o p ≡ Some cs →
      ((d : HVal) → constant os v ≡ Some d → hv_value v ys ≡ hv_value d NoWords) →
      ((ds : HVals) → constants os vs ≡ Some ds → hvs_value vs ys ≡ hvs_value ds NoWords) →
      hvs_value (MoreHVals v vs) ys ≡ hvs_value cs NoWords
  of_both v vs cs None p q r e f g = absurd (none_some cs e)
  of_both v vs cs (Some d) None q r e f g = absurd (none_some cs e)
  of_both v vs cs (Some d) (Some ds) q r e f g =
      ap₂ MoreWords (f d q) (g ds r) ∙ ap (λ z. hvs_value z NoWords) (same_Some _ _ e)

  module _ (known : Known os ys) where
    mutual
      pub constant_is : (v c : HVal) → constant os v ≡ Some c → hv_value v ys ≡ hv_value c NoWords
      constant_is (HVar i) c e = known i c e
      constant_is (HInt n) c e = ap (λ z. hv_value z NoWords) (same_Some _ _ e)
      constant_is (HLabel l) c e = ap (λ z. hv_value z NoWords) (same_Some _ _ e)
      constant_is (HTuple vs) c e = of_tuple vs c (constants os vs) refl e (λ cs q. constants_are vs cs q)
      constant_is (HApply v ts) c e = of_apply v ts c (is_label v && all_closed 0 (atypes ts)) refl e
      constant_is (HPack h v s) c e = of_pack h v s c (constant os v) refl e (λ d q. constant_is v d q)

      pub constants_are : (vs cs : HVals) → constants os vs ≡ Some cs → hvs_value vs ys ≡ hvs_value cs NoWords
      constants_are NoHVals cs e = ap (λ z. hvs_value z NoWords) (same_Some _ _ e)
      constants_are (MoreHVals v vs) cs e =
          of_both v vs cs (constant os v) (constants os vs) refl refl e (λ d q. constant_is v d q)
          (λ ds q. constants_are vs ds q)

-- a word of what a variable stands for, where k variables of the hoisted term have the values ys
abbrev pub Fits : List ℕ → AHeap → ℕ → HWords → Thing → AWord → Type 0
Fits m h k ys (Is l) w = (l < k) × Rel m h (at ys (k - suc l)) w
Fits m h k ys (Made l j fs) w = (j < suc k) × (j ≡ k → Rel m h (WTuple (hvs_value (listed fs) ys)) w)
Fits m h k ys Gone w = Unit {0}

abbrev pub Agree : List ℕ → AHeap → ℕ → HWords → List Thing → List AWord → Type 0
Agree m h k ys [] [] = Unit {0}
Agree m h k ys [] (w ∷ vars) = ⊥
Agree m h k ys (x ∷ env) [] = ⊥
Agree m h k ys (x ∷ env) (w ∷ vars) = Fits m h k ys x w × Agree m h k ys env vars

fits_move : (m m2 : List ℕ) (h h2 : AHeap) (k : ℕ) (ys : HWords) (x : Thing) (w : AWord) → Moves m h m2 h2 →
    Fits m h k ys x w → Fits m2 h2 k ys x w
fits_move m m2 h h2 k ys (Is l) w g a = (a.0, rel_moves (at ys (k - suc l)) w m m2 h h2 g a.1)
fits_move m m2 h h2 k ys (Made l j fs) w g a =
    (a.0, λ e. rel_moves (WTuple (hvs_value (listed fs) ys)) w m m2 h h2 g (a.1 e))
fits_move m m2 h h2 k ys Gone w g a = tt

pub agree_moves : (m m2 : List ℕ) (h h2 : AHeap) (k : ℕ) (ys : HWords) (env : List Thing) (vars : List AWord) →
    Moves m h m2 h2 → Agree m h k ys env vars → Agree m2 h2 k ys env vars
agree_moves m m2 h h2 k ys [] [] g a = tt
agree_moves m m2 h h2 k ys [] (w ∷ vars) g a = absurd a
agree_moves m m2 h h2 k ys (x ∷ env) [] g a = absurd a
agree_moves m m2 h h2 k ys (x ∷ env) (w ∷ vars) g a =
    (fits_move m m2 h h2 k ys x w g a.0, agree_moves m m2 h h2 k ys env vars g a.1)

module _ (m : List ℕ) (h : AHeap) where
  fits_later : (k : ℕ) (ys : HWords) (y : HWord) (x : Thing) (w : AWord) → Fits m h k ys x w →
      Fits m h (suc k) (MoreWords y ys) x w
  fits_later k ys y (Is l) w a =
      let e : suc k - suc l ≡ suc (k - suc l) = omega (arith, a.0) in
      let b : l < suc k = omega (arith, a.0) in
      (b, subst (λ n. Rel m h (at (MoreWords y ys) n) w) (sym e) a.1)
  fits_later k ys y (Made l j fs) w a =
      let b : j < suc (suc k) = omega (arith, a.0) in
      (b, λ e. absurd (omega (arith, a.0, e)))
  fits_later k ys y Gone w a = tt

  agree_later : (k : ℕ) (ys : HWords) (y : HWord) (env : List Thing) (vars : List AWord) → Agree m h k ys env vars →
      Agree m h (suc k) (MoreWords y ys) env vars
  agree_later k ys y [] [] a = tt
  agree_later k ys y [] (w ∷ vars) a = absurd a
  agree_later k ys y (x ∷ env) [] a = absurd a
  agree_later k ys y (x ∷ env) (w ∷ vars) a = (fits_later k ys y x w a.0, agree_later k ys y env vars a.1)

  -- one more variable on both sides
  pub agree_more : (k : ℕ) (ys : HWords) (y : HWord) (w : AWord) (env : List Thing) (vars : List AWord) → Rel m h y w →
      Agree m h k ys env vars → Agree m h (suc k) (MoreWords y ys) (Is k ∷ env) (w ∷ vars)
  agree_more k ys y w env vars r a =
      let e : suc k - suc k ≡ 0 = omega arith in
      let b : k < suc k = omega arith in
      ((b, subst (λ n. Rel m h (at (MoreWords y ys) n) w) (sym e) r), agree_later k ys y env vars a)

  -- a value and its word
  abbrev pub Reads : List AWord → AVal → HWord → Type 0
  Reads vars v y = (w : AWord) × (value vars v ≡ Some w) × Rel m h y w

  module _ (D : List AConsts) (ds : List HVal) (carried : Carries ds D ds) (holds : Holds D m h) where
    mutual
      show_v : (w : HVal) (v : AVal) → Carries_v ds v w → Reads [] v (hv_value w NoWords)
      show_v w (Var i) s = absurd s
      show_v w (Num n) s = (ZInt n, refl, subst (λ z. Rel m h (hv_value z NoWords) (ZInt n)) (sym s) refl)
      show_v w (Lab l) s = (ZLabel l, refl, subst (λ z. Rel m h (hv_value z NoWords) (ZLabel l)) (sym s) refl)
      show_v (HTuple vs) (Data n) s =
          let x = carries_at ds D ds n (HTuple vs) carried s in
          let there = holds n x.0 x.2 in
          let ws = show_vs vs x.0 (subst (Carries_fields ds x.0) (sym (inside x.3)) x.4) in
          (ZTuple n, refl, (n, ws.0, refl, there.0 ∙ ap Some ws.1, there.1, ws.2))
      show_v (HVar i) (Data n) s =
          absurd (let x = carries_at ds D ds n (HVar i) carried s in other _ _ x.3 (λ e. omega (arith, e)))
      show_v (HInt i) (Data n) s =
          absurd (let x = carries_at ds D ds n (HInt i) carried s in other _ _ x.3 (λ e. omega (arith, e)))
      show_v (HLabel i) (Data n) s =
          absurd (let x = carries_at ds D ds n (HLabel i) carried s in other _ _ x.3 (λ e. omega (arith, e)))
      show_v (HApply u ts) (Data n) s =
          absurd (let x = carries_at ds D ds n (HApply u ts) carried s in other _ _ x.3 (λ e. omega (arith, e)))
      show_v (HPack a u b) (Data n) s =
          absurd (let x = carries_at ds D ds n (HPack a u b) carried s in other _ _ x.3 (λ e. omega (arith, e)))
      show_v (HApply u ts) (Apply v us) s = show_v u v (subst (Carries_v ds v) (sym (applied s.2)) s.4)
      show_v (HVar i) (Apply v us) s = absurd (other _ _ s.2 (λ e. omega (arith, e)))
      show_v (HInt i) (Apply v us) s = absurd (other _ _ s.2 (λ e. omega (arith, e)))
      show_v (HLabel i) (Apply v us) s = absurd (other _ _ s.2 (λ e. omega (arith, e)))
      show_v (HTuple vs) (Apply v us) s = absurd (other _ _ s.2 (λ e. omega (arith, e)))
      show_v (HPack a u b) (Apply v us) s = absurd (other _ _ s.2 (λ e. omega (arith, e)))
      show_v (HPack a u b) (Pack c v d) s = show_v u v (subst (Carries_v ds v) (sym (content s.3)) s.6)
      show_v (HVar i) (Pack c v d) s = absurd (other _ _ s.3 (λ e. omega (arith, e)))
      show_v (HInt i) (Pack c v d) s = absurd (other _ _ s.3 (λ e. omega (arith, e)))
      show_v (HLabel i) (Pack c v d) s = absurd (other _ _ s.3 (λ e. omega (arith, e)))
      show_v (HTuple vs) (Pack c v d) s = absurd (other _ _ s.3 (λ e. omega (arith, e)))
      show_v (HApply u ts) (Pack c v d) s = absurd (other _ _ s.3 (λ e. omega (arith, e)))

      show_vs : (vs : HVals) (cs : AConsts) → Carries_fields ds cs vs →
          (ws : List AWord) × (datum cs ≡ map Some ws) × Rels m h (hvs_value vs NoWords) ws
      show_vs NoHVals [] s = ([], refl, refl)
      show_vs NoHVals (c ∷ cs) s = absurd (no_values s.2)
      show_vs (MoreHVals v vs) [] s = absurd (no_values (sym s))
      show_vs (MoreHVals v vs) (c ∷ cs) s =
          let a = show_v v c.value (subst (Carries_v ds c.value) (sym (first_value s.2)) s.3) in
          let b = show_vs vs cs (subst (Carries_fields ds cs) (sym (more_values s.2)) s.4) in
          (a.0 ∷ b.0, ap₂ (λ o q. o ∷ q) a.1 b.1, (a.0, b.0, refl, a.2, b.2))

    module _ (os : Constants) (k : ℕ) (ys : HWords) (known : Known os ys) where
      var_reads : (env : List Thing) (vars : List AWord) (i : ℕ) (w : HVal) → Agree m h k ys env vars →
          Means os (thing_at env i) k w → Reads vars (Var i) (hv_value w ys)
      var_reads [] [] i w a s = absurd s
      var_reads [] (x ∷ vars) i w a s = absurd a
      var_reads (y ∷ env) [] i w a s = absurd a
      var_reads (Is l ∷ env) (x ∷ vars) zero w a s =
          (x, refl, subst (λ z. Rel m h (hv_value z ys) x) (sym s) a.0.1)
      var_reads (Made l j fs ∷ env) (x ∷ vars) zero w a s =
          (x, refl, subst (λ z. Rel m h (hv_value z ys) x) (sym s.1) (a.0.1 s.0))
      var_reads (Gone ∷ env) (x ∷ vars) zero w a s = absurd s
      var_reads (y ∷ env) (x ∷ vars) (suc i) w a s = var_reads env vars i w a.1 s

      module _ (env : List Thing) (vars : List AWord) (agree : Agree m h k ys env vars) where
        pub value_reads : (v : AVal) (w : HVal) → Stands_v (scope ds os env k) v w → Reads vars v (hv_value w ys)
        value_reads (Var i) w s = var_reads env vars i w agree s
        value_reads (Num n) w s = (ZInt n, refl, subst (λ z. Rel m h (hv_value z ys) (ZInt n)) (sym s) refl)
        value_reads (Lab l) w s = (ZLabel l, refl, subst (λ z. Rel m h (hv_value z ys) (ZLabel l)) (sym s) refl)
        value_reads (Data n) w s =
            let r = show_v s.1 (Data n) s.4 in
            (r.0, r.1, subst (λ y. Rel m h y r.0) (sym (constant_is os ys known w s.1 s.3)) r.2)
        value_reads (Apply v ts) w s =
            let r = value_reads v s.0 s.4 in
            (r.0, r.1, subst (λ z. Rel m h (hv_value z ys) r.0) (sym s.2) r.2)
        value_reads (Pack a v b) w s =
            let r = value_reads v s.1 s.6 in
            (r.0, r.1, subst (λ z. Rel m h (hv_value z ys) r.0) (sym s.3) r.2)

        pub values_read : (vs : List AVal) (ws : HVals) → Stands_vs (scope ds os env k) vs ws →
            (xs : List AWord) × (values vars vs ≡ Some xs) × Rels m h (hvs_value ws ys) xs
        values_read [] ws s = ([], refl, subst (λ z. Rels m h (hvs_value z ys) []) (sym s) refl)
        values_read (v ∷ vs) ws s =
            let r = value_reads v s.0 s.3 in
            let q = values_read vs s.1 s.4 in
            let all = r.0 ∷ q.0 in (
              all,
              ap (λ o. with_first o (values vars vs)) r.1 ∙ ap (with_more r.0) q.1,
              subst (λ z. Rels m h (hvs_value z ys) all) (sym s.2) (r.0, q.0, refl, r.2, q.2),
            )
