-- What is known of the registers that hold the variables that are used.
use Rattle.std.proofs.Common.{◌≡◌, ℕ, zero, suc, ◌+◌, ◌<◌, ◌≤◌, List, [], ◌∷◌, length, map, Option, Some, None, refl}
use Rattle.std.proofs.Common.{sym, ap, ◌∙◌, subst, arith, cond, slice_get, ⊎_elim}
use Rattle.std.specs.Prelude.{◌≢◌, ◌==◌, nat_lt, option_map, Bool, true, false}
use Rattle.std.proofs.lemmas.Bool.{eq-eqb, ne_eqb, eqb-true, cond_both, cond-true, cases_eq}
use Rattle.std.proofs.lemmas.Option.{slice_get-map, slice_get_within}
use Rattle.idx_core.specs.Over.{shifted}
use Rattle.a_terms.specs.Tree.{ATy, ATys, NoATys, MoreATys, ashift, arity}
use Rattle.a_terms.specs.Typing.{types_of}
use Rattle.a_terms.specs.TypeLaws.{length_types_of}
use Rattle.t_types.specs.Tree.{Ty, VarTy, TFile, NoRegs, MoreRegs, shift}
use Rattle.t_types.specs.Fits.{Fits, FitsFile, RegTypes, lookup}
use Rattle.t_types.proofs.FitsLaws.{fits_over, fits_same}
use Rattle.t_terms.specs.Registers.{with_reg, raised}
use Rattle.t_gen_rules.specs.Gen.{ty, ty_args, place, over, insert, header, rows}
use Rattle.t_gen_laws.proofs.Free.{top_place}
use Rattle.t_gen_laws.proofs.TypeLaws.{ty_shift}

pub look_same : (g : RegTypes) (r : ℕ) (t : Ty) → with_reg g r t r ≡ Some t
look_same g r t = ap (λ b. cond b (Some t) (g r)) (eq-eqb r r refl)

pub look_other : (g : RegTypes) (r q : ℕ) (t : Ty) → q ≢ r → with_reg g r t q ≡ g q
look_other g r q t ne = ap (λ b. cond b (Some t) (g q)) (ne_eqb r q (λ e. absurd (ne (omega arith))))

-- the types of the variables that are used: each register, which is below b, has one that fits
abbrev pub Live : RegTypes → List ℕ → List ATy → ℕ → (ℕ → Bool) → Type 0
Live f m g b u =
    (n : ℕ) (t : ATy) → u n ≡ true → slice_get g n ≡ Some t → (s : Ty) × (f (place m n) ≡ Some s) × Fits s (ty t)
    × (place m n < b)

pub live_kept : (f h : RegTypes) (m : List ℕ) (g : List ATy) (b : ℕ) (u : ℕ → Bool) → ((q : ℕ) → q < b → h q ≡ f q) →
    Live f m g b u → Live h m g b u
live_kept f h m g b u k a = λ n t y x. let c = a n t y x in (c.0, k (place m n) c.3 ∙ c.1, c.2, c.3)

pub live_fewer : (f : RegTypes) (m : List ℕ) (g : List ATy) (b : ℕ) (u v : ℕ → Bool) →
    ((n : ℕ) → v n ≡ true → u n ≡ true) → Live f m g b u → Live f m g b v
live_fewer f m g b u v k a = λ n t y x. a n t (k n y) x

pub live_above : (f : RegTypes) (m : List ℕ) (g : List ATy) (b c : ℕ) (u : ℕ → Bool) → b ≤ c → Live f m g b u →
    Live f m g c u
live_above f m g b c u le a = λ n t y x. let k = a n t y x in (k.0, k.1, k.2, omega (arith, k.3))

-- one more variable, in register r
live_more : (f : RegTypes) (m : List ℕ) (g : List ATy) (b : ℕ) (v : ℕ → Bool) (r : ℕ) (t : ATy) (s : Ty) →
    Live f m g b (λ n. v (suc n)) → f r ≡ Some s → Fits s (ty t) → r < suc b → Live f (r ∷ m) (t ∷ g) (suc b) v
live_more f m g b v r t s a here fit lt = go
  where
    go : (n : ℕ) (x : ATy) → v n ≡ true → slice_get (t ∷ g) n ≡ Some x → (z : Ty) × (f (place (r ∷ m) n) ≡ Some z)
        × Fits z (ty x) × (place (r ∷ m) n < suc b)
    go zero x y e = let same : t ≡ x = cc in (s, here, subst (λ z. Fits s (ty z)) same fit, lt)
    go (suc n) x y e = let c = a n x y e in (c.0, c.1, c.2, omega (arith, c.3))

-- the registers of the variables that are used keep what they hold
abbrev pub Keeps : RegTypes → RegTypes → List ℕ → (ℕ → Bool) → Type 0
Keeps f h m u = (n : ℕ) → u n ≡ true → h (place m n) ≡ f (place m n)

pub live_stays : (f h : RegTypes) (m : List ℕ) (g : List ATy) (b : ℕ) (u : ℕ → Bool) → Keeps f h m u → Live f m g b u →
    Live h m g b u
live_stays f h m g b u k a = λ n t y x. let c = a n t y x in (c.0, k n y ∙ c.1, c.2, c.3)

-- the least bound
pub live_over : (f : RegTypes) (m : List ℕ) (g : List ATy) (b : ℕ) (u : ℕ → Bool) → Live f m g b u →
    Live f m g (over m u) u
live_over f m g b u a = λ n t y x. let k = a n t y x in let w = top_place 0 m u n y in (k.0, k.1, k.2, omega (arith, w))

-- one more variable, in register r, with the least bound
pub live_next : (f : RegTypes) (m : List ℕ) (g : List ATy) (b : ℕ) (v : ℕ → Bool) (r : ℕ) (t : ATy) (s : Ty) →
    Live f m g b (λ n. v (suc n)) → f r ≡ Some s → Fits s (ty t) → Live f (r ∷ m) (t ∷ g) (over (r ∷ m) v) v
live_next f m g b v r t s a here fit = go
  where
    go : (n : ℕ) (x : ATy) → v n ≡ true → slice_get (t ∷ g) n ≡ Some x → (z : Ty) × (f (place (r ∷ m) n) ≡ Some z)
        × Fits z (ty x) × (place (r ∷ m) n < over (r ∷ m) v)
    go zero x y e =
        let same : t ≡ x = cc in
        let w = top_place 0 (r ∷ m) v 0 y in (s, here, subst (λ z. Fits s (ty z)) same fit, omega (arith, w))
    go (suc n) x y e = let c = a n x y e in let w = top_place 0 (r ∷ m) v (suc n) y in (c.0, c.1, c.2, omega (arith, w))

-- under one more type variable
pub live_shift : (f : RegTypes) (m : List ℕ) (g : List ATy) (b : ℕ) (u : ℕ → Bool) → Live f m g b u →
    Live (raised f) m (map (ashift 1 0) g) b u
live_shift f m g b u a = λ n t y x. go n y (slice_get g n) refl t (sym (slice_get-map (ashift 1 0) g n) ∙ x)
  where
    go : (n : ℕ) → u n ≡ true → (o : Option ATy) → slice_get g n ≡ o → (t : ATy) → option_map (ashift 1 0) o ≡ Some t →
        (s : Ty) × (raised f (place m n) ≡ Some s) × Fits s (ty t) × (place m n < b)
    go n y None e t x = cc
    go n y (Some z) e t x =
        let c = a n z y e in
        let same : ashift 1 0 z ≡ t = cc in (
          shift 1 0 c.0,
          ap (option_map (shift 1 0)) c.1,
          subst (Fits (shift 1 0 c.0)) (sym (ty_shift z 1 0) ∙ ap ty same)
              (fits_over (shifted VarTy 1) 0 c.0 (ty z) c.2),
          c.3,
        )

-- files in ascending order
pub fits_insert : (f : RegTypes) (r : ℕ) (t s : Ty) (x : TFile) → f r ≡ Some s → Fits s t → FitsFile f x →
    FitsFile f (insert r t x)
fits_insert f r t s NoRegs e fit h = ((s, e, fit), tt)
fits_insert f r t s (MoreRegs q u x) e fit h =
    let first : (z : Ty) × (f r ≡ Some z) × Fits z t = (s, e, fit) in
    cond_both (r == q) (MoreRegs r t x)
    (cond (nat_lt r q) (MoreRegs r t (MoreRegs q u x)) (MoreRegs q u (insert r t x))) (FitsFile f)
    (λ c. (first, h.1))
    (λ c. cond_both (nat_lt r q) (MoreRegs r t (MoreRegs q u x)) (MoreRegs q u (insert r t x)) (FitsFile f)
    (λ d. (first, h)) (λ d. (h.0, fits_insert f r t s x e fit h.1)))

pub fits_header : (f : RegTypes) (m : List ℕ) (g : List ATy) (b : ℕ) (u : ℕ → Bool) → Live f m g b u →
    FitsFile f (header u m g)
fits_header f m [] b u a = tt
fits_header f [] (t ∷ g) b u a = tt
fits_header f (r ∷ m) (t ∷ g) b u a =
    let rest = fits_header f m g b (λ n. u (suc n)) (λ n x y e. a (suc n) x y e) in
    cond_both (u 0) (insert r (ty t) (header (λ n. u (suc n)) m g)) (header (λ n. u (suc n)) m g) (FitsFile f)
    (λ c. let own = a 0 t c refl in fits_insert f r (ty t) own.0 (header (λ n. u (suc n)) m g) own.1 own.2 rest)
    (λ c. rest)

pub look_insert : (r : ℕ) (t : Ty) (x : TFile) → (lookup (insert r t x) r ≡ Some t)
    × ((q : ℕ) → q ≢ r → lookup (insert r t x) q ≡ lookup x q)
look_insert r t NoRegs = (look_same (lookup NoRegs) r t, λ q ne. look_other (lookup NoRegs) r q t ne)
look_insert r t (MoreRegs p u x) =
    cond_both (r == p) (MoreRegs r t x)
    (cond (nat_lt r p) (MoreRegs r t (MoreRegs p u x)) (MoreRegs p u (insert r t x)))
    (λ z. (lookup z r ≡ Some t) × ((q : ℕ) → q ≢ r → lookup z q ≡ lookup (MoreRegs p u x) q))
    (λ c. let same = eqb-true r p c in (
      look_same (lookup x) r t,
      λ q ne. look_other (lookup x) r q t ne
          ∙ sym (look_other (lookup x) p q u (λ z. ne (z ∙ sym same))),
    ))
    (λ c. cond_both (nat_lt r p) (MoreRegs r t (MoreRegs p u x)) (MoreRegs p u (insert r t x))
    (λ z. (lookup z r ≡ Some t) × ((q : ℕ) → q ≢ r → lookup z q ≡ lookup (MoreRegs p u x) q))
    (λ d. (look_same (lookup (MoreRegs p u x)) r t, λ q ne. look_other (lookup (MoreRegs p u x)) r q t ne))
    (λ d.
    let i = look_insert r t x in
    let apart : r ≢ p = λ z. clash (sym (eq-eqb r p z) ∙ c) in (
      look_other (lookup (insert r t x)) p r u apart ∙ i.0,
      λ q ne. ⊎_elim (λ z. at_p i.1 q z ne)
          (λ no. look_other (lookup (insert r t x)) p q u no ∙ i.1 q ne ∙ sym (look_other (lookup x) p q u no))
          (cases_eq q p),
    )))
  where
    clash : true ≡ false → ⊥
    clash y = cc

    at_p : ((q : ℕ) → q ≢ r → lookup (insert r t x) q ≡ lookup x q) → (q : ℕ) → q ≡ p → q ≢ r →
        lookup (MoreRegs p u (insert r t x)) q ≡ lookup (MoreRegs p u x) q
    at_p i q z ne = ap (λ b. cond b (Some u) (lookup (insert r t x) q)) (eq-eqb p q (sym z))
        ∙ sym (ap (λ b. cond b (Some u) (lookup x q)) (eq-eqb p q (sym z)))

-- each variable that is used has a register of its own
pub record Apart (m : List ℕ) (g : List ATy) (u : ℕ → Bool) : Type 0 where
  pub same : length m ≡ length g
  pub own : (i j : ℕ) → u i ≡ true → u j ≡ true → i < length m → j < length m → place m i ≡ place m j → i ≡ j

pub apart_fewer : (m : List ℕ) (g : List ATy) (u v : ℕ → Bool) → ((n : ℕ) → v n ≡ true → u n ≡ true) → Apart m g u →
    Apart m g v
apart_fewer m g u v k a = record { same = a.same; own = λ i j x y. a.own i j (k i x) (k j y) }

-- the header gives each its type
pub look_header : (m : List ℕ) (g : List ATy) (u : ℕ → Bool) (n : ℕ) (t : ATy) →
    ((i j : ℕ) → u i ≡ true → u j ≡ true → i < length m → j < length m → place m i ≡ place m j → i ≡ j) → u n ≡ true →
    n < length m → slice_get g n ≡ Some t → lookup (header u m g) (place m n) ≡ Some (ty t)
look_header m [] u n t own y lt e = cc
look_header [] (x ∷ g) u n t own y lt e = absurd (omega arith)
look_header (r ∷ m) (x ∷ g) u zero t own y lt e =
    let f = header (λ n. u (suc n)) m g in
    let same : x ≡ t = cc in
    ap (λ z. lookup z r) (cond-true (u 0) (insert r (ty x) f) f y) ∙ (look_insert r (ty x) f).0
    ∙ ap (λ z. Some (ty z)) same
look_header (r ∷ m) (x ∷ g) u (suc n) t own y lt e =
    let f = header (λ n. u (suc n)) m g in
    let rest = look_header m g (λ n. u (suc n)) n t
    (λ i j a b c d z. let k = own (suc i) (suc j) a b (omega arith) (omega arith) z in omega arith) y
    (omega arith) e in
    cond_both (u 0) (insert r (ty x) f) f (λ z. lookup z (place m n) ≡ Some (ty t))
    (λ c. (look_insert r (ty x) f).1 (place m n) (λ z. let k = own 0 (suc n) c y (omega arith) lt (sym z) in
    absurd (omega arith)) ∙ rest)
    (λ c. rest)

-- and nothing else is in it
pub header_only : (m : List ℕ) (g : List ATy) (u : ℕ → Bool) (r : ℕ) (s : Ty) → lookup (header u m g) r ≡ Some s →
    (n : ℕ) × (u n ≡ true) × (n < length g) × (place m n ≡ r)
header_only m [] u r s e = absurd (none_some s e)
  where
    none_some : (s : Ty) → None ≡ Some s → ⊥
    none_some s x = cc
header_only [] (x ∷ g) u r s e = absurd (none_some s e)
  where
    none_some : (s : Ty) → None ≡ Some s → ⊥
    none_some s x = cc
header_only (q ∷ m) (x ∷ g) u r s e =
    let f = header (λ n. u (suc n)) m g in
    let more : lookup f r ≡ Some s → (n : ℕ) × (u n ≡ true) × (n < suc (length g)) × (place (q ∷ m) n ≡ r) = λ y.
    (let z = header_only m g (λ n. u (suc n)) r s y in (suc z.0, z.1, omega (arith, z.2), z.3)) in
    cond_both (u 0) (insert q (ty x) f) f
    (λ z. lookup z r ≡ Some s → (n : ℕ) × (u n ≡ true) × (n < suc (length g)) × (place (q ∷ m) n ≡ r))
    (λ c y. ⊎_elim
    (λ (same : r ≡ q). (0, c, omega arith, sym same))
    (λ ne. more (sym ((look_insert q (ty x) f).1 r ne) ∙ y))
    (cases_eq r q))
    (λ c y. more y) e

pub in_scope : (m : List ℕ) (g : List ATy) (u : ℕ → Bool) (n : ℕ) (t : ATy) → Apart m g u → slice_get g n ≡ Some t →
    n < length m
in_scope m g u n t a e = let w = slice_get_within g n t e in omega (arith, w, a.same)

pub live_header : (m : List ℕ) (g : List ATy) (u : ℕ → Bool) → Apart m g u →
    Live (lookup (header u m g)) m g (over m u) u
live_header m g u a = λ n t y e.
    let lt = in_scope m g u n t a e in
    let le = top_place 0 m u n y in
    (ty t, look_header m g u n t a.own y lt e, fits_same (ty t), omega (arith, le))

-- the arguments of a block, in the registers from 1 on
args_live : (ts : ATys) (g : List ATy) (f : RegTypes) → Live f (rows (length g)) g (suc (length g)) (λ n. true) →
    FitsFile f (ty_args ts (suc (length g))) →
    Live f (rows (length (types_of ts g))) (types_of ts g) (suc (length (types_of ts g))) (λ n. true)
args_live NoATys g f a h = a
args_live (MoreATys t ts) g f a h =
    args_live ts (t ∷ g) f
    (live_more f (rows (length g)) g (suc (length g)) (λ n. true) (suc (length g)) t h.0.0 a h.0.1 h.0.2 (omega arith))
    h.1

fits_own : (ts : ATys) (r : ℕ) (f : RegTypes) → ((q : ℕ) → r ≤ q → f q ≡ lookup (ty_args ts r) q) →
    FitsFile f (ty_args ts r)
fits_own NoATys r f k = tt
fits_own (MoreATys t ts) r f k = (
  (ty t, k r (omega arith) ∙ look_same (lookup (ty_args ts (suc r))) r (ty t), fits_same (ty t)),
  fits_own ts (suc r) f
      (λ q le. k q (omega arith) ∙ look_other (lookup (ty_args ts (suc r))) r q (ty t) (λ z. absurd (omega arith))),
)

pub live_args : (ts : ATys) →
    Live (lookup (ty_args ts 1)) (rows (arity ts)) (types_of ts []) (suc (length (types_of ts []))) (λ n. true)
live_args ts =
    subst (λ n. Live (lookup (ty_args ts 1)) (rows n) (types_of ts []) (suc (length (types_of ts []))) (λ n. true))
    (length_types_of ts)
    (args_live ts [] (lookup (ty_args ts 1)) (λ n t y e. absurd (none n t e))
    (fits_own ts 1 (lookup (ty_args ts 1)) (λ q le. refl)))
  where
    none : (n : ℕ) (t : ATy) → slice_get [] n ≡ Some t → ⊥
    none n t e = cc

pub length_rows : (n : ℕ) → length (rows n) ≡ n
length_rows zero = refl
length_rows (suc n) = ap suc (length_rows n)

place_rows : (n i : ℕ) → i < n → place (rows n) i + i ≡ n
place_rows zero i lt = absurd (omega arith)
place_rows (suc n) zero lt = omega arith
place_rows (suc n) (suc i) lt = let r = place_rows n i (omega arith) in omega (arith, r)

pub apart_args : (ts : ATys) (u : ℕ → Bool) → Apart (rows (arity ts)) (types_of ts []) u
apart_args ts u =
    let n = length_rows (arity ts) in
    record {
      same = n ∙ sym (length_types_of ts);
      own = λ i j x y li lj e.
          (let a = place_rows (arity ts) i (omega (arith, n)) in let b = place_rows (arity ts) j (omega (arith, n)) in
          omega (arith, a, b, e));
    }
