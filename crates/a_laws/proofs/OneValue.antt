-- A value that stands for a hoisted one is one value, but for the numbers of its data.
use Rattle.std.proofs.Common.{◌≡◌, ◌<◌, ◌-◌, ℕ, zero, suc, List, [], ◌∷◌, length, Option, Some, None, inl, inr, ◌⊎◌}
use Rattle.std.proofs.Common.{refl, sym, ap, ap₂, ◌∙◌, subst, arith}
use Rattle.h_terms.specs.H.{HVal, HVar, HInt, HLabel, HTuple, HApply, HPack}
use Rattle.a_terms.specs.Tree.{AVal, Var, Num, Lab, Data, Apply, Pack}
use Rattle.a_laws.specs.Allocate.{atype, atypes}
use Rattle.a_laws.specs.Constants.{Constants, constant}
use Rattle.a_laws.specs.OneAllocation.{unnumbered}
use Rattle.a_laws.specs.Stands.{scope, Thing, Is, Made, Gone, thing_at, Means, tuple_of, takes, made_at, Stands_v}
use Rattle.a_laws.proofs.Inside.{integer, label, applied, types, hidden, content, shape}

-- each variable and each tuple stands at one place
abbrev Real : Thing → Type 0
Real (Is l) = Unit {0}
Real (Made l k fs) = Unit {0}
Real Gone = ⊥

pub record Good (env : List Thing) (k : ℕ) : Type 0 where
  pub apart : (i j : ℕ) (x : Thing) → Real x → thing_at env i ≡ x → thing_at env j ≡ x → i ≡ j
  pub below : (i l : ℕ) → thing_at env i ≡ Is l → l < k
  pub small : (i l m : ℕ) (fs : List HVal) → thing_at env i ≡ Made l m fs → l < length env

abbrev is_what : Thing → ℕ
is_what (Is l) = 0
is_what (Made l k fs) = 1
is_what Gone = 2

abbrev number : Thing → ℕ
number (Is l) = l
number (Made l k fs) = l
number Gone = 0

two_zero : ◌≡◌ {A = ℕ} 2 0 → ⊥
two_zero e = omega (arith, e)

two_one : ◌≡◌ {A = ℕ} 2 1 → ⊥
two_one e = omega (arith, e)

zero_one : ◌≡◌ {A = ℕ} 0 1 → ⊥
zero_one e = omega (arith, e)

pub good_none : (k : ℕ) → Good [] k
good_none k = record {
  apart = λ i j x r e f. absurd (subst Real (sym e) r);
  below = λ i l e. absurd (two_zero (ap is_what e));
  small = λ i l m fs e. absurd (two_one (ap is_what e));
}

module _ (env : List Thing) (k : ℕ) (good : Good env k) where
  pub good_gone : Good (Gone ∷ env) k
  good_gone = record { apart = apart; below = below; small = small }
    where
      apart : (i j : ℕ) (x : Thing) → Real x → thing_at (Gone ∷ env) i ≡ x → thing_at (Gone ∷ env) j ≡ x → i ≡ j
      apart zero j x r e f = absurd (subst Real (sym e) r)
      apart (suc i) zero x r e f = absurd (subst Real (sym f) r)
      apart (suc i) (suc j) x r e f = ap suc (good.apart i j x r e f)

      below : (i l : ℕ) → thing_at (Gone ∷ env) i ≡ Is l → l < k
      below zero l e = absurd (two_zero (ap is_what e))
      below (suc i) l e = good.below i l e

      small : (i l m : ℕ) (fs : List HVal) → thing_at (Gone ∷ env) i ≡ Made l m fs → l < suc (length env)
      small zero l m fs e = absurd (two_one (ap is_what e))
      small (suc i) l m fs e = let x = good.small i l m fs e in omega (arith, x)

  pub good_is : Good (Is k ∷ env) (suc k)
  good_is = record { apart = apart; below = below; small = small }
    where
      new : (j : ℕ) (x : Thing) → Is k ≡ x → thing_at env j ≡ x → ⊥
      new j x e f = let lt = good.below j k (f ∙ sym e) in omega (arith, lt)

      apart : (i j : ℕ) (x : Thing) → Real x → thing_at (Is k ∷ env) i ≡ x → thing_at (Is k ∷ env) j ≡ x → i ≡ j
      apart zero zero x r e f = refl
      apart zero (suc j) x r e f = absurd (new j x e f)
      apart (suc i) zero x r e f = absurd (new i x f e)
      apart (suc i) (suc j) x r e f = ap suc (good.apart i j x r e f)

      below : (i l : ℕ) → thing_at (Is k ∷ env) i ≡ Is l → l < suc k
      below zero l e = let x = ap number e in omega (arith, x)
      below (suc i) l e = let x = good.below i l e in omega (arith, x)

      small : (i l m : ℕ) (fs : List HVal) → thing_at (Is k ∷ env) i ≡ Made l m fs → l < suc (length env)
      small zero l m fs e = absurd (zero_one (ap is_what e))
      small (suc i) l m fs e = let x = good.small i l m fs e in omega (arith, x)

  pub good_made : (fs : List HVal) → Good (made_at env k fs ∷ env) k
  good_made fs = record { apart = apart; below = below; small = small }
    where
      new : (j : ℕ) (x : Thing) → made_at env k fs ≡ x → thing_at env j ≡ x → ⊥
      new j x e f = let lt = good.small j (length env) k fs (f ∙ sym e) in omega (arith, lt)

      apart : (i j : ℕ) (x : Thing) → Real x → thing_at (made_at env k fs ∷ env) i ≡ x →
          thing_at (made_at env k fs ∷ env) j ≡ x → i ≡ j
      apart zero zero x r e f = refl
      apart zero (suc j) x r e f = absurd (new j x e f)
      apart (suc i) zero x r e f = absurd (new i x f e)
      apart (suc i) (suc j) x r e f = ap suc (good.apart i j x r e f)

      below : (i l : ℕ) → thing_at (made_at env k fs ∷ env) i ≡ Is l → l < k
      below zero l e = absurd (zero_one (sym (ap is_what e)))
      below (suc i) l e = good.below i l e

      small : (i l m : ℕ) (gs : List HVal) → thing_at (made_at env k fs ∷ env) i ≡ Made l m gs → l < suc (length env)
      small zero l m gs e = let x = ap number e in omega (arith, x)
      small (suc i) l m gs e = let x = good.small i l m gs e in omega (arith, x)

-- which form a value has
abbrev pub form : HVal → ℕ
form (HVar i) = 0
form (HInt n) = 1
form (HLabel l) = 2
form (HTuple vs) = 3
form (HApply v ts) = 4
form (HPack h v s) = 5

abbrev index : HVal → ℕ
index (HVar i) = i
index (HInt n) = 0
index (HLabel l) = 0
index (HTuple vs) = 0
index (HApply v ts) = 0
index (HPack h v s) = 0

var_form : (os : Constants) (x : Thing) (m : ℕ) (w : HVal) → Means os x m w → (form w ≡ 0) ⊎ (form w ≡ 3)
var_form os (Is l) m w e = inl (ap form e)
var_form os (Made l k fs) m w e = inr (ap form e.1)
var_form os Gone m w e = absurd e

-- a variable stands for no value of another form
not_var : (os : Constants) (x : Thing) (m : ℕ) (w : HVal) (n : ℕ) → Means os x m w → form w ≡ n → (n ≡ 0 → ⊥) →
    (n ≡ 3 → ⊥) → ⊥
not_var os x m w n e f a b = go (var_form os x m w e)
  where
    go : (form w ≡ 0) ⊎ (form w ≡ 3) → ⊥
    go (inl p) = a (sym f ∙ p)
    go (inr p) = b (sym f ∙ p)

some_none : (c : HVal) → Some c ≡ None → ⊥
some_none c e = cc

not_data : (os : Constants) (x : Thing) (m : ℕ) (w : HVal) (c : HVal) → Means os x m w → form w ≡ 3 →
    constant os w ≡ Some c → ⊥
not_data os (Is l) m w c e f q = let x = ap form e in let y : 3 ≡ 0 = sym f ∙ x in omega (arith, y)
not_data os (Made l k fs) m w c e f q = some_none c (sym q ∙ e.2)
not_data os Gone m w c e f q = e

nothing : (x : Thing) → [] ≡ x ∷ [] → ⊥
nothing x e = cc

only : (x y : Thing) → x ∷ [] ≡ y ∷ [] → x ≡ y
only x y e = cc

module _ (ds : List HVal) (os : Constants) (env : List Thing) (k : ℕ) (good : Good env k) where
  one_var : (x y : Thing) (i j : ℕ) (w : HVal) → thing_at env i ≡ x → thing_at env j ≡ y → Means os x k w →
      Means os y k w → tuple_of x ≡ tuple_of y → i ≡ j
  one_var (Is l) (Is m) i j w ex ey a b t =
      let lt = good.below i l ex in
      let mt = good.below j m ey in
      let same : k - suc l ≡ k - suc m = ap index (sym a ∙ b) in
      let is : l ≡ m = omega (arith, lt, mt, same) in
      good.apart i j (Is m) tt (ex ∙ ap Is is) ey
  one_var (Is l) (Made m n fs) i j w ex ey a b t = absurd (nothing (Made m n fs) t)
  one_var (Made l n fs) (Is m) i j w ex ey a b t = absurd (nothing (Made l n fs) (sym t))
  one_var (Made l n fs) (Made m o gs) i j w ex ey a b t =
      good.apart i j (Made m o gs) tt (ex ∙ only (Made l n fs) (Made m o gs) t) ey
  one_var (Is l) Gone i j w ex ey a b t = absurd b
  one_var (Made l n fs) Gone i j w ex ey a b t = absurd b
  one_var Gone y i j w ex ey a b t = absurd a

  differs : (m n : ℕ) (w : HVal) → form w ≡ m → form w ≡ n → (m ≡ n → ⊥) → ⊥
  differs m n w a b c = c (sym a ∙ b)

  pub one_value : (v u : AVal) (w : HVal) → Stands_v (scope ds os env k) v w → Stands_v (scope ds os env k) u w →
      takes env v ≡ takes env u → unnumbered v ≡ unnumbered u
  one_value (Var i1) (Var i2) w s r t = ap Var (one_var (thing_at env i1) (thing_at env i2) i1 i2 w refl refl s r t)
  one_value (Var i1) (Num n2) w s r t =
      absurd (not_var os (thing_at env i1) k w 1 s (ap form r) (λ e. omega (arith, e)) (λ e. omega (arith, e)))
  one_value (Var i1) (Lab l2) w s r t =
      absurd (not_var os (thing_at env i1) k w 2 s (ap form r) (λ e. omega (arith, e)) (λ e. omega (arith, e)))
  one_value (Var i1) (Data d2) w s r t = absurd (not_data os (thing_at env i1) k w r.1 s (ap form r.2) r.3)
  one_value (Var i1) (Apply v2 ts2) w s r t =
      absurd (not_var os (thing_at env i1) k w 4 s (ap form r.2) (λ e. omega (arith, e)) (λ e. omega (arith, e)))
  one_value (Var i1) (Pack h2 v2 s2) w s r t =
      absurd (not_var os (thing_at env i1) k w 5 s (ap form r.3) (λ e. omega (arith, e)) (λ e. omega (arith, e)))
  one_value (Num n1) (Var i2) w s r t =
      absurd (not_var os (thing_at env i2) k w 1 r (ap form s) (λ e. omega (arith, e)) (λ e. omega (arith, e)))
  one_value (Num n1) (Num n2) w s r t = ap Num (integer (sym s ∙ r))
  one_value (Num n1) (Lab l2) w s r t = absurd (differs 1 2 w (ap form s) (ap form r) (λ e. omega (arith, e)))
  one_value (Num n1) (Data d2) w s r t = absurd (differs 1 3 w (ap form s) (ap form r.2) (λ e. omega (arith, e)))
  one_value (Num n1) (Apply v2 ts2) w s r t = absurd (differs 1 4 w (ap form s) (ap form r.2) (λ e. omega (arith, e)))
  one_value (Num n1) (Pack h2 v2 s2) w s r t =
      absurd (differs 1 5 w (ap form s) (ap form r.3) (λ e. omega (arith, e)))
  one_value (Lab l1) (Var i2) w s r t =
      absurd (not_var os (thing_at env i2) k w 2 r (ap form s) (λ e. omega (arith, e)) (λ e. omega (arith, e)))
  one_value (Lab l1) (Num n2) w s r t = absurd (differs 2 1 w (ap form s) (ap form r) (λ e. omega (arith, e)))
  one_value (Lab l1) (Lab l2) w s r t = ap Lab (label (sym s ∙ r))
  one_value (Lab l1) (Data d2) w s r t = absurd (differs 2 3 w (ap form s) (ap form r.2) (λ e. omega (arith, e)))
  one_value (Lab l1) (Apply v2 ts2) w s r t = absurd (differs 2 4 w (ap form s) (ap form r.2) (λ e. omega (arith, e)))
  one_value (Lab l1) (Pack h2 v2 s2) w s r t =
      absurd (differs 2 5 w (ap form s) (ap form r.3) (λ e. omega (arith, e)))
  one_value (Data d1) (Var i2) w s r t = absurd (not_data os (thing_at env i2) k w s.1 r (ap form s.2) s.3)
  one_value (Data d1) (Num n2) w s r t = absurd (differs 3 1 w (ap form s.2) (ap form r) (λ e. omega (arith, e)))
  one_value (Data d1) (Lab l2) w s r t = absurd (differs 3 2 w (ap form s.2) (ap form r) (λ e. omega (arith, e)))
  one_value (Data d1) (Data d2) w s r t = refl
  one_value (Data d1) (Apply v2 ts2) w s r t =
      absurd (differs 3 4 w (ap form s.2) (ap form r.2) (λ e. omega (arith, e)))
  one_value (Data d1) (Pack h2 v2 s2) w s r t =
      absurd (differs 3 5 w (ap form s.2) (ap form r.3) (λ e. omega (arith, e)))
  one_value (Apply v1 ts1) (Var i2) w s r t =
      absurd (not_var os (thing_at env i2) k w 4 r (ap form s.2) (λ e. omega (arith, e)) (λ e. omega (arith, e)))
  one_value (Apply v1 ts1) (Num n2) w s r t = absurd (differs 4 1 w (ap form s.2) (ap form r) (λ e. omega (arith, e)))
  one_value (Apply v1 ts1) (Lab l2) w s r t = absurd (differs 4 2 w (ap form s.2) (ap form r) (λ e. omega (arith, e)))
  one_value (Apply v1 ts1) (Data d2) w s r t =
      absurd (differs 4 3 w (ap form s.2) (ap form r.2) (λ e. omega (arith, e)))
  one_value (Apply v1 ts1) (Apply v2 ts2) w s r t =
      let e = sym s.2 ∙ r.2 in
      let inner = subst (λ z. Stands_v (scope ds os env k) v2 z) (sym (applied e)) r.4 in
      ap₂ Apply (one_value v1 v2 s.0 s.4 inner t) (sym s.3 ∙ ap atypes (types e) ∙ r.3)
  one_value (Apply v1 ts1) (Pack h2 v2 s2) w s r t =
      absurd (differs 4 5 w (ap form s.2) (ap form r.3) (λ e. omega (arith, e)))
  one_value (Pack h1 v1 s1) (Var i2) w s r t =
      absurd (not_var os (thing_at env i2) k w 5 r (ap form s.3) (λ e. omega (arith, e)) (λ e. omega (arith, e)))
  one_value (Pack h1 v1 s1) (Num n2) w s r t =
      absurd (differs 5 1 w (ap form s.3) (ap form r) (λ e. omega (arith, e)))
  one_value (Pack h1 v1 s1) (Lab l2) w s r t =
      absurd (differs 5 2 w (ap form s.3) (ap form r) (λ e. omega (arith, e)))
  one_value (Pack h1 v1 s1) (Data d2) w s r t =
      absurd (differs 5 3 w (ap form s.3) (ap form r.2) (λ e. omega (arith, e)))
  one_value (Pack h1 v1 s1) (Apply v2 ts2) w s r t =
      absurd (differs 5 4 w (ap form s.3) (ap form r.2) (λ e. omega (arith, e)))
  one_value (Pack h1 v1 s1) (Pack h2 v2 s2) w s r t =
      let e = sym s.3 ∙ r.3 in
      let inner = subst (λ z. Stands_v (scope ds os env k) v2 z) (sym (content e)) r.6 in
      ap (λ z. Pack z (unnumbered v1) s1) (sym s.4 ∙ ap atype (hidden e) ∙ r.4)
      ∙ ap₂ (Pack h2) (one_value v1 v2 s.1 s.6 inner t) (sym s.5 ∙ ap atype (shape e) ∙ r.5)

  -- so many tuples does a value take
  abbrev tops_if : Option HVal → ℕ
  tops_if None = 1
  tops_if (Some c) = 0

  abbrev tops : HVal → ℕ
  tops (HVar i) = 0
  tops (HInt n) = 0
  tops (HLabel l) = 0
  tops (HTuple vs) = tops_if (constant os (HTuple vs))
  tops (HApply v ts) = tops v
  tops (HPack h v s) = tops v

  of_thing : (x : Thing) (w : HVal) → Means os x k w → length (tuple_of x) ≡ tops w
  of_thing (Is l) w e = sym (ap tops e)
  of_thing (Made l m fs) w e = sym (ap tops e.1 ∙ ap tops_if (ap (constant os) (sym e.1) ∙ e.2))
  of_thing Gone w e = absurd e

  how_many : (v : AVal) (w : HVal) → Stands_v (scope ds os env k) v w → length (takes env v) ≡ tops w
  how_many (Var i) w s = of_thing (thing_at env i) w s
  how_many (Num n) w s = sym (ap tops s)
  how_many (Lab l) w s = sym (ap tops s)
  how_many (Data n) w s = sym (ap tops s.2 ∙ ap tops_if (ap (constant os) (sym s.2) ∙ s.3))
  how_many (Apply v ts) w s = how_many v s.0 s.4 ∙ sym (ap tops s.2)
  how_many (Pack h v u) w s = how_many v s.1 s.6 ∙ sym (ap tops s.3)

  -- two values that stand for one take as many
  pub as_many : (v u : AVal) (w : HVal) → Stands_v (scope ds os env k) v w → Stands_v (scope ds os env k) u w →
      length (takes env v) ≡ length (takes env u)
  as_many v u w s r = how_many v w s ∙ sym (how_many u w r)
