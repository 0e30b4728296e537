-- The registers in use from one term to the next.
use Rattle.std.proofs.Common.{◌≡◌, ℕ, zero, suc, ◌+◌, ◌<◌, ◌≤◌, List, [], ◌∷◌, length, take, get_or, refl, sym, ap}
use Rattle.std.proofs.Common.{ap₂, ◌∙◌, subst, arith, ⊎_elim, ◌⊎◌, inl, inr}
use Rattle.std.specs.Prelude.{Bool, true, false, ◌&&◌, ◌||◌, ◌==◌, not, max}
use Rattle.std.proofs.lemmas.Bool.{eq-eqb, eqb-true, or_left, or_right, or_cases, and_from, and_parts, cases_lt}
use Rattle.std.proofs.lemmas.Bool.{not-true as not_true}
use Rattle.a_terms.specs.Tree as a
use Rattle.t_gen.specs.Uses.{Listed, mem, Ending}
use Rattle.t_gen.specs.declared.told.Ahead.{Ahead}
use Rattle.t_gen.proofs.Sets.{or_none, listed_mem, or_more}
use Rattle.t_gen_rules.specs.Gen.{place, top, busy, picked, free, uses, uses_decl, used, target, rows}
use Rattle.t_gen_laws.specs.Registers.{Own}
use Rattle.t_gen_laws.proofs.Free.{busy_place, busy_found}
use Rattle.t_gen_laws.proofs.Own.{own_fewer, own_next, top_is}
use Rattle.t_emit.specs.Code.{kept}
use Rattle.t_gen.specs.Registers.{Holds, Greatest}
use Rattle.calc_core.specs.Row.{top as top_of, others}
use Rattle.a_terms.specs.NodeTrees.{no_term}
use Rattle.t_gen.specs.Pending.{Parting}
use Rattle.t_gen.specs.Keeps.{Keeps, among, each, stores}
use Rattle.t_gen.specs.declared.registers.Registers.{Registers}
use Rattle.t_gen.proofs.Gapped.{gaps_same}
use Rattle.idx_core.proofs.Bools.{either as bool_cases}
use Rattle.t_gen.proofs.Telling.{or_swap}

not_both : {x : Bool} → x ≡ true → x ≡ false → ⊥
not_both y z = cc

bool_same : (x y : Bool) → (x ≡ true → y ≡ true) → (y ≡ true → x ≡ true) → x ≡ y
bool_same true y f g = sym (f refl)
bool_same false true f g = g refl
bool_same false false f g = refl

pub and_true : (x : Bool) → x ≡ (x && true)
and_true true = refl
and_true false = refl

and_not : (x y z : Bool) → ((x && not y) && not z) ≡ (x && not (y || z))
and_not true true z = refl
and_not true false z = refl
and_not false y z = refl

-- the same registers in use
pub holds_same : (s : Registers) (h i : ℕ → Bool) → Holds s h → ((r : ℕ) → 1 ≤ r → h r ≡ i r) → Holds s i
holds_same s h i k e =
    record { busy = λ r le. k.busy r le ∙ e r le; gaps = gaps_same s.gaps h i k.gaps (λ r le lt. e r le) }

-- one variable more
among_next : (p : ℕ → Bool) (m xs : List ℕ) (k d r : ℕ) → k < length xs →
    among p m (take (k + 1) xs) r ≡ (among p m (take k xs) r || (p (get_or xs k d) && place m (get_or xs k d) == r))
among_next p m [] k d r lt = absurd (omega arith)
among_next p m (x ∷ xs) zero d r lt = sym (or_none (p x && place m x == r))
among_next p m (x ∷ xs) (suc k) d r lt =
    let more : suc k + 1 ≡ suc (k + 1) = omega arith in
    ap (λ q. among p m (take q (x ∷ xs)) r) more
    ∙ ap (λ b. (p x && place m x == r) || b) (among_next p m xs k d r (omega arith))
    ∙ sym (or_more (p x && place m x == r) (among p m (take k xs) r)
    (p (get_or xs k d) && place m (get_or xs k d) == r))

pub taken_next : (s : Registers) (m xs : List ℕ) (k d q : ℕ) → k < length xs → q ≡ place m (get_or xs k d) →
    Holds s (λ r. (q == r) || among each m (take k xs) r) → Holds s (among each m (take (k + 1) xs))
taken_next s m xs k d q lt is h =
    holds_same s (λ r. (q == r) || among each m (take k xs) r) (among each m (take (k + 1) xs)) h
    (λ r le. or_swap (q == r) (among each m (take k xs) r) ∙ ap (λ x. among each m (take k xs) r || (x == r)) is
    ∙ sym (among_next each m xs k d r lt))

pub released_next : (s : Registers) (h p : ℕ → Bool) (m xs : List ℕ) (k d : ℕ) → k < length xs →
    Holds s (λ r. (h r && not (among p m (take k xs) r)) && not (p (get_or xs k d) && place m (get_or xs k d) == r)) →
    Holds s (λ r. h r && not (among p m (take (k + 1) xs) r))
released_next s h p m xs k d lt k0 =
    holds_same s
    (λ r. (h r && not (among p m (take k xs) r)) && not (p (get_or xs k d) && place m (get_or xs k d) == r))
    (λ r. h r && not (among p m (take (k + 1) xs) r)) k0
    (λ r le. and_not (h r) (among p m (take k xs) r) (p (get_or xs k d) && place m (get_or xs k d) == r)
    ∙ ap (λ b. h r && not b) (sym (among_next p m xs k d r lt)))

-- a variable whose register it is
among_found : (p : ℕ → Bool) (m xs : List ℕ) (r : ℕ) → among p m xs r ≡ true → (x : ℕ) × (mem xs x ≡ true)
    × (p x ≡ true) × (place m x ≡ r)
among_found p m [] r e = absurd (not_both e refl)
among_found p m (x ∷ xs) r e = ⊎_elim
    (λ y. let c = and_parts (p x) (place m x == r) y in
    (x, or_left (x == x) (mem xs x) (eq-eqb x x refl), c.0, eqb-true (place m x) r c.1))
    (λ y. let c = among_found p m xs r y in (c.0, or_right (x == c.0) (mem xs c.0) c.1, c.2, c.3))
    (or_cases (p x && place m x == r) (among p m xs r) e)

among_put : (p : ℕ → Bool) (m xs : List ℕ) (r x : ℕ) → mem xs x ≡ true → p x ≡ true → place m x ≡ r →
    among p m xs r ≡ true
among_put p m [] r x e y at = absurd (not_both e refl)
among_put p m (z ∷ xs) r x e y at = ⊎_elim
    (λ w. let same : z ≡ x = eqb-true z x w in
    or_left (p z && place m z == r) (among p m xs r)
    (and_from (p z) (place m z == r) (ap p same ∙ y) (eq-eqb (place m z) r (ap (place m) same ∙ at))))
    (λ w. or_right (p z && place m z == r) (among p m xs r) (among_put p m xs r x w y at))
    (or_cases (z == x) (mem xs x) e)

-- those of the variables that are listed
listed_busy : (xs m : List ℕ) (u : ℕ → Bool) → Listed u 0 xs → (r : ℕ) → 1 ≤ r → among each m xs r ≡ busy r m u
listed_busy xs m u l r le = bool_same (among each m xs r) (busy r m u)
    (λ e. let c = among_found each m xs r e in busy_place r m u c.0 le (sym (listed_mem xs u c.0 l) ∙ c.1) c.3)
    (λ e. let c = busy_found r m u e in among_put each m xs r c.0 (listed_mem xs u c.0 l ∙ c.1) refl c.2)

pub keeps_of : (s : Registers) (m : List ℕ) (u : ℕ → Bool) (xs : List ℕ) → Holds s (among each m xs) → Listed u 0 xs →
    Own m u → Keeps s m u
keeps_of s m u xs h l o =
    record { holds = holds_same s (among each m xs) (λ r. busy r m u) h (listed_busy xs m u l); own = o }

-- the registers of variables that are let go: u tells those in use, and all tells more of them
module _ (m xs : List ℕ) (all u v p : ℕ → Bool) (own : Own m all) (less : (n : ℕ) → u n ≡ true → all n ≡ true)
    (gone : (n : ℕ) → mem xs n ≡ true → all n ≡ true)
    (left : (n : ℕ) → (u n && not (mem xs n && p n)) ≡ v n) where
  stays : (r : ℕ) → 1 ≤ r → (busy r m u && not (among p m xs r)) ≡ true → busy r m v ≡ true
  stays r le e =
      let c = and_parts (busy r m u) (not (among p m xs r)) e in
      let d = busy_found r m u c.0 in
      busy_place r m v d.0 le (⊎_elim
      (λ y. let q = and_parts (mem xs d.0) (p d.0) y in
      absurd (not_both (among_put p m xs r d.0 q.0 q.1 d.2) (not_true (among p m xs r) c.1)))
      (λ y. sym (left d.0) ∙ ap₂ (λ x z. x && not z) d.1 y)
      (bool_cases (mem xs d.0 && p d.0))) d.2

  stayed : (r : ℕ) → 1 ≤ r → busy r m v ≡ true → (busy r m u && not (among p m xs r)) ≡ true
  stayed r le e =
      let d = busy_found r m v e in
      let c = and_parts (u d.0) (not (mem xs d.0 && p d.0)) (left d.0 ∙ d.1) in
      and_from (busy r m u) (not (among p m xs r)) (busy_place r m u d.0 le c.0 d.2) (⊎_elim
      (λ y.
      let x = among_found p m xs r y in
      let same : d.0 ≡ x.0 = own d.0 x.0 (less d.0 c.0) (gone x.0 x.1) (omega (arith, le, d.2)) (d.2 ∙ sym x.3) in
      absurd (not_both (and_from (mem xs d.0) (p d.0) (ap (mem xs) same ∙ x.1) (ap p same ∙ x.2))
      (not_true (mem xs d.0 && p d.0) c.1)))
      (λ y. ap not y)
      (bool_cases (among p m xs r)))

  pub let_go : (s : Registers) → Holds s (λ r. busy r m u && not (among p m xs r)) → Holds s (λ r. busy r m v)
  let_go s h =
      holds_same s (λ r. busy r m u && not (among p m xs r)) (λ r. busy r m v) h
      (λ r le. bool_same (busy r m u && not (among p m xs r)) (busy r m v) (stays r le) (stayed r le))

-- what is kept until it is stored
kept_is : (d : a.ADecl) (e : a.ATm) (n : ℕ) → kept d e n ≡ (stores d n || used e (suc n))
kept_is (a.Value v) e n = refl
kept_is (a.Proj i v) e n = refl
kept_is (a.Arith o v w) e n = refl
kept_is (a.Unpack v) e n = refl
kept_is (a.Malloc ts) e n = refl
kept_is (a.Init v i w) e n = refl

stores_uses : (d : a.ADecl) (n : ℕ) → stores d n ≡ true → uses_decl d n ≡ true
stores_uses (a.Value v) n y = absurd (not_both y refl)
stores_uses (a.Proj i v) n y = absurd (not_both y refl)
stores_uses (a.Arith o v w) n y = absurd (not_both y refl)
stores_uses (a.Unpack v) n y = absurd (not_both y refl)
stores_uses (a.Malloc ts) n y = absurd (not_both y refl)
stores_uses (a.Init v i w) n y = or_right (uses v n) (uses w n) y

first_left : (x y s : Bool) → (s ≡ true → x ≡ true) → ((x || y) && not ((x && not y) && not s)) ≡ (s || y)
first_left true true true f = refl
first_left true true false f = refl
first_left true false true f = refl
first_left true false false f = refl
first_left false true true f = refl
first_left false true false f = refl
first_left false false true f = f refl
first_left false false false f = refl

then_left : (x y s : Bool) → (s ≡ true → x ≡ true) → ((s || y) && not ((x && not y) && true)) ≡ y
then_left true true true f = refl
then_left true true false f = refl
then_left true false true f = refl
then_left true false false f = refl
then_left false true true f = refl
then_left false true false f = refl
then_left false false true f = sym (f refl)
then_left false false false f = refl

-- a declaration: first all is let go but what is stored, then that too, and then the new one is taken
module _ (d : a.ADecl) (e : a.ATm) (w : Ahead) (m : List ℕ) (ending : Ending d e w) (own : Own m (used (a.Let d e)))
  where
    ended : (n : ℕ) → mem w.gone.items n ≡ true → used (a.Let d e) n ≡ true
    ended n y = or_left (uses_decl d n) (used e (suc n))
        (and_parts (uses_decl d n) (not (used e (suc n))) (sym (ending.2 n) ∙ y)).0

    kept_used : (n : ℕ) → kept d e n ≡ true → used (a.Let d e) n ≡ true
    kept_used n y = ⊎_elim
        (λ z. or_left (uses_decl d n) (used e (suc n)) (stores_uses d n z))
        (λ z. or_right (uses_decl d n) (used e (suc n)) z)
        (or_cases (stores d n) (used e (suc n)) (sym (kept_is d e n) ∙ y))

    pub first_gone : (s : Registers) (but : ℕ → Bool) → ((n : ℕ) → but n ≡ stores d n) →
        Holds s (λ r. busy r m (used (a.Let d e)) && not (among (λ n. not (but n)) m w.gone.items r)) →
        Holds s (λ r. busy r m (kept d e))
    first_gone s but is h =
        let_go m w.gone.items (used (a.Let d e)) (used (a.Let d e)) (kept d e) (λ n. not (but n)) own (λ n y. y) ended
        (λ n. ap₂ (λ x y. (uses_decl d n || used e (suc n)) && not (x && not y)) (ending.2 n) (is n)
        ∙ first_left (uses_decl d n) (used e (suc n)) (stores d n) (stores_uses d n) ∙ sym (kept_is d e n))
        s h

    pub then_gone : (s : Registers) → Holds s (λ r. busy r m (kept d e) && not (among each m w.gone.items r)) →
        Holds s (λ r. busy r m (λ n. used e (suc n)))
    then_gone s h = let_go m w.gone.items (used (a.Let d e)) (kept d e) (λ n. used e (suc n)) each own kept_used ended
        (λ n. ap₂ (λ x y. x && not (y && true)) (kept_is d e n) (ending.2 n)
        ∙ then_left (uses_decl d n) (used e (suc n)) (stores d n) (stores_uses d n))
        s h

    pub free_is : (f from : ℕ) → from ≡ suc w.arguments → f ≡ picked w.wanted from m (kept d e) →
        f ≡ free m (kept d e) e
    free_is f from next is = is ∙ ap₂ (λ h s. picked h s m (kept d e)) ending.3 (next ∙ ap suc ending.4)

    pub chosen : (s : Registers) (rd : ℕ) → rd ≡ target m d e →
        Holds s (λ r. (w.new && rd == r) || busy r m (λ n. used e (suc n))) → Keeps s (rd ∷ m) (used e)
    chosen s rd is h = record {
      holds = holds_same s (λ r. (w.new && rd == r) || busy r m (λ n. used e (suc n))) (λ r. busy r (rd ∷ m) (used e)) h
          (λ r le. ap (λ b. (b && rd == r) || busy r m (λ n. used e (suc n))) ending.1);
      own = subst (λ x. Own (x ∷ m) (used e)) (sym is) (own_next d e m own);
    }

-- a choice: its third part has the registers of what it uses, and the second those of what is not let go
parted_left : (x y z : Bool) → ((x || (y || z)) && not (((x || z) && not y) && true)) ≡ y
parted_left true true z = refl
parted_left true false z = refl
parted_left false true true = refl
parted_left false true false = refl
parted_left false false true = refl
parted_left false false false = refl

module _ (v : a.AVal) (ts : List a.ATm) (w : Ahead) (m : List ℕ) (parting : Parting v ts w)
    (own : Own m (used (a.If0 v (top_of no_term ts) (top_of no_term (others ts))))) where
  abbrev first : a.ATm
  first = top_of no_term ts

  abbrev second : a.ATm
  second = top_of no_term (others ts)

  in_second : (n : ℕ) → used first n ≡ true → used (a.If0 v first second) n ≡ true
  in_second n y = or_right (uses v n) (used first n || used second n) (or_left (used first n) (used second n) y)

  in_third : (n : ℕ) → used second n ≡ true → used (a.If0 v first second) n ≡ true
  in_third n y = or_right (uses v n) (used first n || used second n) (or_right (used first n) (used second n) y)

  parted : (n : ℕ) → mem w.gone.items n ≡ true → used (a.If0 v first second) n ≡ true
  parted n y = ⊎_elim
      (λ z. or_left (uses v n) (used first n || used second n) z)
      (λ z. in_third n z)
      (or_cases (uses v n) (used second n)
      (and_parts (uses v n || used second n) (not (used first n)) (sym (parting.1 n) ∙ y)).0)

  pub second_keeps : (s : Registers) →
      Holds s (λ r. busy r m (used (a.If0 v first second)) && not (among each m w.gone.items r)) →
      Keeps s m (used first)
  second_keeps s h = record {
    holds = let_go m w.gone.items (used (a.If0 v first second)) (used (a.If0 v first second)) (used first) each own
        (λ n y. y) parted
        (λ n. ap (λ x. (uses v n || (used first n || used second n)) && not (x && true)) (parting.1 n)
        ∙ parted_left (uses v n) (used first n) (used second n))
        s h;
    own = own_fewer m (used (a.If0 v first second)) (used first) in_second own;
  }

  pub third_keeps : (s : Registers) → Holds s (among each m w.third.items) → Keeps s m (used second)
  third_keeps s h =
      keeps_of s m (used second) w.third.items h parting.0
      (own_fewer m (used (a.If0 v first second)) (used second) in_third own)

-- the top
pub above_is : (b t x : ℕ) (m : List ℕ) (u : ℕ → Bool) → Greatest t (λ r. busy r m u) → x ≡ max t b → x ≡ top b m u
above_is b t x m u g e =
    let i : (b ≤ x) × (t ≤ x) × ((x ≡ b) ⊎ (x ≡ t)) =
    subst (λ y. (b ≤ y) × (t ≤ y) × ((y ≡ b) ⊎ (y ≡ t))) (sym e) (max_of b t) in
    top_is b m u x i.0
    (⊎_elim (λ y. inl y)
    (λ y. ⊎_elim (λ z. inl (omega (arith, i.0, y, z))) (λ z. inr (ap (λ r. busy r m u) y ∙ z)) g.0) i.2)
    (λ r lt. g.1 r (omega (arith, lt, i.1)))
  where
    max_of : (b t : ℕ) → (b ≤ max t b) × (t ≤ max t b) × ((max t b ≡ b) ⊎ (max t b ≡ t))
    max_of b t = (
      omega arith,
      omega arith,
      ⊎_elim (λ (y : t < b). inl (omega arith)) (λ (y : b ≤ t). inr (omega arith))
          (cases_lt t b),
    )

-- the first registers, one each
rows_place : (n i : ℕ) → 1 ≤ place (rows n) i → place (rows n) i + i ≡ n
rows_place zero i le = absurd (omega (arith, le))
rows_place (suc n) zero le = omega arith
rows_place (suc n) (suc i) le = omega (arith, rows_place n i le)

pub rows_own : (n : ℕ) (u : ℕ → Bool) → Own (rows n) u
rows_own n u i j x y le e = omega (arith, rows_place n i le, rows_place n j (omega (arith, le, e)), e)
