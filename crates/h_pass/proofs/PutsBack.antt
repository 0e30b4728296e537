-- Each block's code put back for its label gives the closed term, and the labels stand in order.
use Rattle.std.proofs.Common.{◌≡◌, ◌<◌, ◌≤◌, ◌⊎◌, inl, inr, ℕ, zero, suc, List, [], ◌∷◌, ◌++◌, refl, sym, ap, ap₂, ◌∙◌}
use Rattle.std.proofs.Common.{subst, subst₂, append_assoc, length, ◌+◌, arith, eq-eqb, cond, lt-ltb}
use Rattle.std.proofs.lemmas.List.{length-append, append-nil}
use Rattle.std.proofs.lemmas.Bool.{ne_eqb}
use Rattle.calc_core.specs.Ends.{lift}
use Rattle.c_terms.specs.C.{CApply, CArith, CCall, CCell, CCode, CDecl, CGet, CHalt, CIf, CInt, CLet, CName, CPack}
use Rattle.c_terms.specs.C.{CProj, CSet, CTm, CTuple, CUnpack, CVal, CVals, CVar, MoreCVals, NoCVals, ccount, cd_next}
use Rattle.c_terms.specs.C.{ct_next, cv_next, cvs_next}
use Rattle.c_terms.specs.Scope.{CScoped, CScoped_d, CScoped_v, CScoped_vs}
use Rattle.h_terms.specs.H.{HBlks}
use Rattle.h_pass.proofs.Spots.{deep, deep_suc, first_or, near, self}
use Rattle.h_pass.specs.Back.{BodiesInOrder, InOrder_d, InOrder_t, InOrder_v, InOrder_vs, IsHoisted, Next, back_d}
use Rattle.h_pass.specs.Back.{back_t, back_v, back_vs, code_at, codes, codes_d, codes_t, codes_v, codes_vs, if_own}
use Rattle.h_pass.specs.Back.{missing, name_or}
use Rattle.h_pass.specs.Hoist.{Code, Lost, Near, Nobody, Own, Self, Spot, blocks_d, blocks_of, blocks_t, blocks_v}
use Rattle.h_pass.specs.Hoist.{blocks_vs, deeper, hoist_d, hoist_t, hoist_v, hoist_vs, main_of, spot, spot_value}
use Rattle.calc_core.proofs.Lifts.{lift_add}

-- the numbers of codes
mutual
  pub many_v : (b : ℕ) (v : CVal) → cv_next b v ≡ b + length (codes_v v)
  many_v b (CVar i) = omega arith
  many_v b (CInt n) = omega arith
  many_v b (CTuple vs) = many_vs b vs
  many_v b (CCode owes args body) = many_t (suc b) body ∙ omega arith
  many_v b (CApply v ts) = many_v b v
  many_v b (CPack h v s) = many_v b v

  pub many_vs : (b : ℕ) (vs : CVals) → cvs_next b vs ≡ b + length (codes_vs vs)
  many_vs b NoCVals = omega arith
  many_vs b (MoreCVals v vs) =
      omega (arith, many_vs (cv_next b v) vs, many_v b v, length-append (codes_v v) (codes_vs vs))

  pub many_d : (b : ℕ) (e : CDecl) → cd_next b e ≡ b + length (codes_d e)
  many_d b (CName v) = many_v b v
  many_d b (CProj i v) = many_v b v
  many_d b (CArith op v w) = omega (arith, many_v (cv_next b v) w, many_v b v, length-append (codes_v v) (codes_v w))
  many_d b (CUnpack v) = many_v b v
  many_d b (CCell v) = many_v b v
  many_d b (CGet v) = many_v b v
  many_d b (CSet v w) = omega (arith, many_v (cv_next b v) w, many_v b v, length-append (codes_v v) (codes_v w))

  pub many_t : (b : ℕ) (t : CTm) → ct_next b t ≡ b + length (codes_t t)
  many_t b (CLet e t) = omega (arith, many_t (cd_next b e) t, many_d b e, length-append (codes_d e) (codes_t t))
  many_t b (CCall f ts vs) =
      omega (arith, many_vs (cv_next b f) vs, many_v b f, length-append (codes_v f) (codes_vs vs))
  many_t b (CIf v t u) =
      omega (
        arith,
        many_t (ct_next (cv_next b v) t) u,
        many_t (cv_next b v) t,
        many_v b v,
        length-append (codes_v v) (codes_t t ++ codes_t u),
        length-append (codes_t t) (codes_t u),
      )
  many_t b (CHalt v) = many_v b v

-- f gives these codes from label b on
abbrev Holds : (ℕ → CVal) → ℕ → List CVal → Type 0
Holds f b [] = Unit {0}
Holds f b (x ∷ xs) = (f b ≡ x) × Holds f (suc b) xs

split : (f : ℕ → CVal) (b c : ℕ) (xs ys : List CVal) → c ≡ b + length xs → Holds f b (xs ++ ys) →
    Holds f b xs × Holds f c ys
split f b c [] ys e h =
    let same : b ≡ c = omega (arith, e) in
    (tt, subst (λ n. Holds f n ys) same h)
split f b c (x ∷ xs) ys e h =
    let r = split f (suc b) c xs ys (omega (arith, e)) h.1 in
    ((h.0, r.0), r.1)

-- the label of the code around is smaller
abbrev Older : Own → ℕ → Type 0
Older Nobody b = Unit {0}
Older (Code k) b = k < b

older_than : (own : Own) (b c : ℕ) → b ≤ c → Older own b → Older own c
older_than Nobody b c le h = tt
older_than (Code k) b c le h = omega (arith, le, h)

other_name : (own : Own) (d b : ℕ) (v : CVal) → Older own b → name_or own d b v ≡ v
other_name Nobody d b v h = refl
other_name (Code k) d b v h = ap (λ x. if_own x (CVar d) v) (ne_eqb k b (λ e. absurd (omega (arith, h, e))))

-- a variable comes back
back_near : (own : Own) (d i : ℕ) (f : ℕ → CVal) → i < d → back_v own d f (spot_value (spot own d i)) ≡ CVar i
back_near own d i f lt =
    ap (λ s. back_v own d f (spot_value s)) (near own d i lt) ∙ ap (λ x. cond x (CVar i) missing) (lt-ltb i d lt)

back_self : (k d i : ℕ) (f : ℕ → CVal) → (i < d) ⊎ (i ≡ d) → back_v (Code k) d f (spot_value (spot (Code k) d i))
    ≡ CVar i
back_self k d i f (inl lt) = back_near (Code k) d i f lt
back_self k d i f (inr is) =
    ap (λ j. back_v (Code k) d f (spot_value (spot (Code k) d j))) is
    ∙ ap (λ s. back_v (Code k) d f (spot_value s)) (self k d)
    ∙ ap (λ x. if_own x (CVar d) (f k)) (eq-eqb k k refl)
    ∙ ap CVar (sym is)

back_var : (own : Own) (d i : ℕ) (f : ℕ → CVal) → i < deep own d → back_v own d f (spot_value (spot own d i)) ≡ CVar i
back_var Nobody d i f lt = back_near Nobody d i f lt
back_var (Code k) d i f lt = back_self k d i f (first_or d i lt)

-- the label of a variable is the name of the code around
module _ (f : ℕ → CVal) (e b : ℕ) where
  deeper_order : (own : Own) (s : Spot) → InOrder_v own e f b (spot_value s) →
      InOrder_v own e f b (spot_value (deeper s))
  deeper_order own (Near i) h = tt
  deeper_order own (Self l) h = h
  deeper_order own Lost h = tt

  var_order : (own : Own) (d i : ℕ) → InOrder_v own e f b (spot_value (spot own d i))
  var_order Nobody zero i = tt
  var_order (Code l) zero zero = λ other. absurd (other refl)
  var_order (Code l) zero (suc i) = tt
  var_order own (suc d) zero = tt
  var_order own (suc d) (suc i) = deeper_order own (spot own d i) (var_order own d i)

is_next : (own : Own) (b : ℕ) → Next own b b
is_next Nobody b = refl
is_next (Code k) b = λ other. refl

-- what is hoisted comes back, and its labels stand in order
module _ (f : ℕ → CVal) where
  abbrev Comes_v : Own → ℕ → ℕ → CVal → Type 0
  Comes_v own d b v = (back_v own d f (hoist_v own d b v) ≡ v) × InOrder_v own d f b (hoist_v own d b v)

  abbrev Comes_vs : Own → ℕ → ℕ → CVals → Type 0
  Comes_vs own d b vs = (back_vs own d f (hoist_vs own d b vs) ≡ vs) × InOrder_vs own d f b (hoist_vs own d b vs)

  abbrev Comes_d : Own → ℕ → ℕ → CDecl → Type 0
  Comes_d own d b e = (back_d own d f (hoist_d own d b e) ≡ e) × InOrder_d own d f b (hoist_d own d b e)

  abbrev Comes_t : Own → ℕ → ℕ → CTm → Type 0
  Comes_t own d b t = (back_t own d f (hoist_t own d b t) ≡ t) × InOrder_t own d f b (hoist_t own d b t)

  mutual
    comes_v : (own : Own) (d b : ℕ) (v : CVal) → Older own b → CScoped_v (deep own d) v → Holds f b (codes_v v) →
        Comes_v own d b v
    comes_v own d b (CVar i) o s h = (back_var own d i f s, var_order f d b own d i)
    comes_v own d b (CInt n) o s h = (refl, tt)
    comes_v own d b (CTuple vs) o s h = let r = comes_vs own d b vs o s h in (ap CTuple r.0, r.1)
    comes_v own d b (CCode owes args body) o s h = (other_name own d b (f b) o ∙ h.0, is_next own b)
    comes_v own d b (CApply v ts) o s h = let r = comes_v own d b v o s h in (ap (λ x. CApply x ts) r.0, r.1)
    comes_v own d b (CPack k v t) o s h = let r = comes_v own d b v o s h in (ap (λ x. CPack k x t) r.0, r.1)

    comes_vs : (own : Own) (d b : ℕ) (vs : CVals) → Older own b → CScoped_vs (deep own d) vs →
        Holds f b (codes_vs vs) → Comes_vs own d b vs
    comes_vs own d b NoCVals o s h = (refl, tt)
    comes_vs own d b (MoreCVals v vs) o s h =
        let c = cv_next b v in
        let r = split f b c (codes_v v) (codes_vs vs) (many_v b v) h in
        let x = comes_v own d b v o s.0 r.0 in
        let y = comes_vs own d c vs (older_than own b c (omega (arith, many_v b v)) o) s.1 r.1 in (
          ap₂ MoreCVals x.0 y.0,
          (x.1, subst (λ w. InOrder_vs own d f (cv_next b w) (hoist_vs own d c vs)) (sym x.0) y.1),
        )

  -- two values
  comes_both : (own : Own) (d b : ℕ) (v w : CVal) → Older own b → CScoped_v (deep own d) v →
      CScoped_v (deep own d) w → Holds f b (codes_v v ++ codes_v w) → Comes_v own d b v
      × (back_v own d f (hoist_v own d (cv_next b v) w) ≡ w)
      × InOrder_v own d f (cv_next b (back_v own d f (hoist_v own d b v))) (hoist_v own d (cv_next b v) w)
  comes_both own d b v w o s q h =
      let c = cv_next b v in
      let r = split f b c (codes_v v) (codes_v w) (many_v b v) h in
      let x = comes_v own d b v o s r.0 in
      let y = comes_v own d c w (older_than own b c (omega (arith, many_v b v)) o) q r.1 in
      (x, y.0, subst (λ u. InOrder_v own d f (cv_next b u) (hoist_v own d c w)) (sym x.0) y.1)

  comes_d : (own : Own) (d b : ℕ) (e : CDecl) → Older own b → CScoped_d (deep own d) e → Holds f b (codes_d e) →
      Comes_d own d b e
  comes_d own d b (CName v) o s h = let r = comes_v own d b v o s h in (ap CName r.0, r.1)
  comes_d own d b (CProj i v) o s h = let r = comes_v own d b v o s h in (ap (CProj i) r.0, r.1)
  comes_d own d b (CArith op v w) o s h =
      let r = comes_both own d b v w o s.0 s.1 h in (ap₂ (CArith op) r.0.0 r.1, (r.0.1, r.2))
  comes_d own d b (CUnpack v) o s h = let r = comes_v own d b v o s h in (ap CUnpack r.0, r.1)
  comes_d own d b (CCell v) o s h = let r = comes_v own d b v o s h in (ap CCell r.0, r.1)
  comes_d own d b (CGet v) o s h = let r = comes_v own d b v o s h in (ap CGet r.0, r.1)
  comes_d own d b (CSet v w) o s h =
      let r = comes_both own d b v w o s.0 s.1 h in (ap₂ CSet r.0.0 r.1, (r.0.1, r.2))

  comes_t : (own : Own) (d b : ℕ) (t : CTm) → Older own b → CScoped (deep own d) t → Holds f b (codes_t t) →
      Comes_t own d b t
  comes_t own d b (CLet e t) o s h =
      let c = cd_next b e in
      let r = split f b c (codes_d e) (codes_t t) (many_d b e) h in
      let inner : CScoped (deep own (suc d)) t = subst (λ m. CScoped m t) (sym (deep_suc own d)) s.1 in
      let x = comes_d own d b e o s.0 r.0 in
      let y = comes_t own (suc d) c t (older_than own b c (omega (arith, many_d b e)) o) inner r.1 in (
        ap₂ CLet x.0 y.0,
        (x.1, subst (λ u. InOrder_t own (suc d) f (cd_next b u) (hoist_t own (suc d) c t)) (sym x.0) y.1),
      )
  comes_t own d b (CCall g ts vs) o s h =
      let c = cv_next b g in
      let r = split f b c (codes_v g) (codes_vs vs) (many_v b g) h in
      let x = comes_v own d b g o s.0 r.0 in
      let y = comes_vs own d c vs (older_than own b c (omega (arith, many_v b g)) o) s.1 r.1 in (
        ap₂ (λ u us. CCall u ts us) x.0 y.0,
        (x.1, subst (λ u. InOrder_vs own d f (cv_next b u) (hoist_vs own d c vs)) (sym x.0) y.1),
      )
  comes_t own d b (CIf v t u) o s h =
      let c = cv_next b v in
      let n = ct_next c t in
      let r = split f b c (codes_v v) (codes_t t ++ codes_t u) (many_v b v) h in
      let q = split f c n (codes_t t) (codes_t u) (many_t c t) r.1 in
      let at_c : Older own c = older_than own b c (omega (arith, many_v b v)) o in
      let at_u : Older own n = older_than own c n (omega (arith, many_t c t)) at_c in
      let x = comes_v own d b v o s.0 r.0 in
      let y = comes_t own d c t at_c s.1 q.0 in
      let z = comes_t own d n u at_u s.2 q.1 in (
        ap₂ (λ a e. CIf a e (back_t own d f (hoist_t own d n u))) x.0 y.0 ∙ ap (CIf v t) z.0,
        (
          x.1,
          subst (λ a. InOrder_t own d f (cv_next b a) (hoist_t own d c t)) (sym x.0) y.1,
          subst₂ (λ a e. InOrder_t own d f (ct_next (cv_next b a) e) (hoist_t own d n u)) (sym x.0) (sym y.0) z.1,
        ),
      )
  comes_t own d b (CHalt v) o s h = let r = comes_v own d b v o s h in (ap CHalt r.0, r.1)

-- the list of codes gives its codes
first_at : (b : ℕ) (x : CVal) (xs : List CVal) → code_at b (x ∷ xs) b ≡ x
first_at zero x xs = refl
first_at (suc b) x xs = first_at b x xs

later_at : (b l : ℕ) (x : CVal) (xs : List CVal) → suc b ≤ l → code_at b (x ∷ xs) l ≡ code_at (suc b) xs l
later_at b zero x xs le = absurd (omega (arith, le))
later_at zero (suc l) x [] le = refl
later_at zero (suc l) x (y ∷ ys) le = refl
later_at (suc b) (suc l) x [] le = later_at b l x [] (omega (arith, le))
later_at (suc b) (suc l) x (y ∷ ys) le = later_at b l x (y ∷ ys) (omega (arith, le))

holds_same : (f g : ℕ → CVal) (b : ℕ) (xs : List CVal) → ((l : ℕ) → b ≤ l → f l ≡ g l) → Holds g b xs → Holds f b xs
holds_same f g b [] same h = tt
holds_same f g b (x ∷ xs) same h =
    (same b (omega arith) ∙ h.0, holds_same f g (suc b) xs (λ l le. same l (omega (arith, le))) h.1)

holds_all : (b : ℕ) (xs : List CVal) → Holds (code_at b xs) b xs
holds_all b [] = tt
holds_all b (x ∷ xs) = (
  first_at b x xs,
  holds_same (code_at b (x ∷ xs)) (code_at (suc b) xs) (suc b) xs (λ l le. later_at b l x xs le)
      (holds_all (suc b) xs),
)

holds_front : (b : ℕ) (xs ys : List CVal) → Holds (code_at b (xs ++ ys)) b xs
holds_front b xs ys = (split (code_at b (xs ++ ys)) b (b + length xs) xs ys refl (holds_all b (xs ++ ys))).0

-- before the blocks `later` the blocks ks, from label b on, have the codes vs, and their labels stand in order
record Found (b c : ℕ) (ks later : HBlks) (vs : List CVal) : Type 0 where
  is : codes b (ks ++ later) ≡ vs ++ codes c later
  order : BodiesInOrder c later → BodiesInOrder b (ks ++ later)

join : (a b c : ℕ) (ks js later : HBlks) (vs ws : List CVal) → Found a b ks (js ++ later) vs → Found b c js later ws →
    Found a c (ks ++ js) later (vs ++ ws)
join a b c ks js later vs ws f g = record {
  is = ap (codes a) (append_assoc ks js later) ∙ f.is ∙ ap (λ us. vs ++ us) g.is
      ∙ sym (append_assoc vs ws (codes c later));
  order = λ h. subst (BodiesInOrder a) (sym (append_assoc ks js later)) (f.order (g.order h));
}

mutual
  found_v : (b e : ℕ) (v : CVal) (later : HBlks) → CScoped_v e v →
      Found b (cv_next b v) (blocks_v b v) later (codes_v v)
  found_v b e (CVar i) later s = record { is = refl; order = λ h. h }
  found_v b e (CInt n) later s = record { is = refl; order = λ h. h }
  found_v b e (CTuple vs) later s = found_vs b e vs later s
  found_v b e (CCode owes args body) later s =
      let inner = found_t (suc b) (lift (ccount args) 1) body later s in
      let scope : lift (ccount args) 1 ≡ suc (ccount args) = omega (arith, lift_add (ccount args) 1) in
      let here = comes_t _ (Code b) (ccount args) (suc b) body (omega arith) (subst (λ m. CScoped m body) scope s)
      (holds_front (suc b) (codes_t body) (codes (ct_next (suc b) body) later)) in
      let hoisted = hoist_t (Code b) (ccount args) (suc b) body in record {
        is = ap₂ (λ x xs. CCode owes args x ∷ xs)
            (ap (λ xs. back_t (Code b) (ccount args) (code_at (suc b) xs) hoisted) inner.is ∙ here.0) inner.is;
        order = λ h. (
          subst (λ xs. InOrder_t (Code b) (ccount args) (code_at (suc b) xs) (suc b) hoisted) (sym inner.is) here.1,
          inner.order h,
        );
      }
  found_v b e (CApply v ts) later s = found_v b e v later s
  found_v b e (CPack k v t) later s = found_v b e v later s

  found_vs : (b e : ℕ) (vs : CVals) (later : HBlks) → CScoped_vs e vs →
      Found b (cvs_next b vs) (blocks_vs b vs) later (codes_vs vs)
  found_vs b e NoCVals later s = record { is = refl; order = λ h. h }
  found_vs b e (MoreCVals v vs) later s =
      let c = cv_next b v in
      join b c (cvs_next c vs) (blocks_v b v) (blocks_vs c vs) later (codes_v v) (codes_vs vs)
      (found_v b e v (blocks_vs c vs ++ later) s.0) (found_vs c e vs later s.1)

  found_d : (b e : ℕ) (x : CDecl) (later : HBlks) → CScoped_d e x →
      Found b (cd_next b x) (blocks_d b x) later (codes_d x)
  found_d b e (CName v) later s = found_v b e v later s
  found_d b e (CProj i v) later s = found_v b e v later s
  found_d b e (CArith op v w) later s =
      let c = cv_next b v in
      join b c (cv_next c w) (blocks_v b v) (blocks_v c w) later (codes_v v) (codes_v w)
      (found_v b e v (blocks_v c w ++ later) s.0) (found_v c e w later s.1)
  found_d b e (CUnpack v) later s = found_v b e v later s
  found_d b e (CCell v) later s = found_v b e v later s
  found_d b e (CGet v) later s = found_v b e v later s
  found_d b e (CSet v w) later s =
      let c = cv_next b v in
      join b c (cv_next c w) (blocks_v b v) (blocks_v c w) later (codes_v v) (codes_v w)
      (found_v b e v (blocks_v c w ++ later) s.0) (found_v c e w later s.1)

  found_t : (b e : ℕ) (t : CTm) (later : HBlks) → CScoped e t →
      Found b (ct_next b t) (blocks_t b t) later (codes_t t)
  found_t b e (CLet x t) later s =
      let c = cd_next b x in
      join b c (ct_next c t) (blocks_d b x) (blocks_t c t) later (codes_d x) (codes_t t)
      (found_d b e x (blocks_t c t ++ later) s.0) (found_t c (suc e) t later s.1)
  found_t b e (CCall g ts vs) later s =
      let c = cv_next b g in
      join b c (cvs_next c vs) (blocks_v b g) (blocks_vs c vs) later (codes_v g) (codes_vs vs)
      (found_v b e g (blocks_vs c vs ++ later) s.0) (found_vs c e vs later s.1)
  found_t b e (CIf v t u) later s =
      let c = cv_next b v in
      let d = ct_next c t in
      join b c (ct_next d u) (blocks_v b v) (blocks_t c t ++ blocks_t d u) later (codes_v v) (codes_t t ++ codes_t u)
      (found_v b e v ((blocks_t c t ++ blocks_t d u) ++ later) s.0)
      (join c d (ct_next d u) (blocks_t c t) (blocks_t d u) later (codes_t t) (codes_t u)
      (found_t c e t (blocks_t d u ++ later) s.1) (found_t d e u later s.2))
  found_t b e (CHalt v) later s = found_v b e v later s

pub is_hoisted : (t : CTm) → CScoped 0 t → IsHoisted (blocks_of t) (main_of t) t
is_hoisted t s =
    let found = found_t 0 0 t [] s in
    let all : codes 0 (blocks_t 0 t) ≡ codes_t t =
    ap (codes 0) (sym (append-nil (blocks_t 0 t))) ∙ found.is ∙ append-nil (codes_t t) in
    let here = comes_t (code_at 0 (codes_t t)) Nobody 0 0 t tt s (holds_all 0 (codes_t t)) in record {
      codes = all;
      back = ap (λ xs. back_t Nobody 0 (code_at 0 xs) (main_of t)) all ∙ here.0;
      order = (
        subst (λ xs. InOrder_t Nobody 0 (code_at 0 xs) 0 (main_of t)) (sym all) here.1,
        subst (BodiesInOrder 0) (append-nil (blocks_t 0 t)) (found.order tt),
      );
    }
