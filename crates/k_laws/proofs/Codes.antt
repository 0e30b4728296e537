-- How many codes a conversion has.
use Rattle.std.proofs.Common.{◌≡◌, ℕ, suc, ◌+◌, Bool, true, false, List, [], ◌∷◌, ◌++◌, refl, ap, arith}
use Rattle.f_terms.specs.Ty.{NoTys}
use Rattle.f_terms.specs.Tm.{Term}
use Rattle.k_terms.specs.K.{KTy, KVal, KDecl, KProj, KArith, KUnpack, KCell, KGet, KSet, KTm, KLet, KIf}
use Rattle.k_terms.specs.Size.{codes_v, codes_vs, codes_d, codes_t}
use Rattle.f_terms.specs.Noted.{Noted, EVar, ENum, EFix, EApp, EGen, EInst, ETuple, EProj, EArith, EIf, ELet, EPack}
use Rattle.f_terms.specs.Noted.{EOpen, ERef, EDeref, EAssign, Noteds, NoNoteds, MoreNoteds, bare, bare_all}
use Rattle.k_laws.specs.Cps.{Atom, Level, Literal, Rest, Bind, Pass, value, values, deliver, as_value, bound_once}
use Rattle.k_laws.specs.Cps.{atom_at, kat, packing, to_call, to_inst, to_one, to_two, to_tuple, cps, cps_all, halting}
use Rattle.k_laws.specs.Annotate.{annotate, cps_term}
use Rattle.k_laws.specs.Sites.{unless, sites, sites_all}
use Rattle.k_laws.proofs.Types.{same}

no_code : (a : Atom) (d : ℕ) → codes_v (value a d) ≡ 0
no_code (Level l) d = refl
no_code (Literal n) d = refl

no_codes : (xs : List Atom) (d : ℕ) → codes_vs (values xs d) ≡ 0
no_codes [] d = refl
no_codes (a ∷ xs) d = omega (arith, no_code a d, no_codes xs d)

-- a rest has n codes; a name has none, and is in tail place
abbrev Counted : Rest → Bool → ℕ → Type 0
Counted (Bind form) tail n = (tail ≡ false) × ((td d : ℕ) (a : Atom) → codes_t (form td d a) ≡ n)
Counted (Pass l) tail n = (tail ≡ true) × (n ≡ 0)

given : (k : Rest) (tail : Bool) (n td d : ℕ) (a : Atom) → Counted k tail n → codes_t (deliver k td d a) ≡ n
given (Bind form) tail n td d a h = h.1 td d a
given (Pass l) tail n td d a h = omega (arith, no_code a d, h.1)

handed : (k : Rest) (tail : Bool) (n td d : ℕ) (t : KTy) → Counted k tail n →
    codes_v (as_value t k td d) ≡ unless tail + n
handed (Bind form) tail n td d t h = omega (arith, h.1 td (suc (suc d)) (Level (suc d)), ap unless h.0)
handed (Pass l) tail n td d t h = omega (arith, ap unless h.0, h.1)

bound : (k : Rest) (tail : Bool) (n td d : ℕ) (t : KTy) (body : ℕ → ℕ → KTm) (m : ℕ) → Counted k tail n →
    ((d l : ℕ) → codes_t (body d l) ≡ m) → codes_t (bound_once t k td d body) ≡ unless tail + n + m
bound (Bind form) tail n td d t body m h all =
    omega (arith, h.1 td (suc (suc d)) (Level (suc d)), ap unless h.0, all (suc d) d)
bound (Pass l) tail n td d t body m h all = omega (arith, ap unless h.0, h.1, all d l)

abbrev CountsAt : Noted → Type 0
CountsAt e = (td d : ℕ) (tl : List ℕ) (names : List Atom) (k : Rest) (tail : Bool) (n : ℕ) → Counted k tail n →
    codes_t (cps e td d tl names k) ≡ sites tail (bare e) + n

-- one part and a declaration of it, two parts and a declaration of them
counts_one : (e : Noted) → CountsAt e → (make : ℕ → KVal → KDecl) →
    ((td : ℕ) (v : KVal) → codes_d (make td v) ≡ codes_v v) →
    (td d : ℕ) (tl : List ℕ) (names : List Atom) (k : Rest) (tail : Bool) (n : ℕ) → Counted k tail n →
    codes_t (cps e td d tl names (to_one make k)) ≡ sites false (bare e) + n
counts_one e ce make one td d tl names k tail n h =
    ce td d tl names (to_one make k) false n
    (refl, λ td1 d1 a. omega (arith, one td1 (value a d1), no_code a d1, given k tail n td1 (suc d1) (Level d1) h))

counts_two : (x y : Noted) → CountsAt x → CountsAt y → (make : KVal → KVal → KDecl) →
    ((v w : KVal) → codes_d (make v w) ≡ codes_v v + codes_v w) →
    (td d : ℕ) (tl : List ℕ) (names : List Atom) (k : Rest) (tail : Bool) (n : ℕ) → Counted k tail n →
    codes_t (cps x td d tl names (Bind (λ td1 d1 a. cps y td1 d1 tl names (to_two make a k)))) ≡ sites false (bare x)
    + sites false (bare y) + n
counts_two x y cx cy make two td d tl names k tail n h =
    let inner : (td1 d1 : ℕ) (a : Atom) → codes_t (cps y td1 d1 tl names (to_two make a k)) ≡ sites false (bare y) + n =
    λ td1 d1 a. cy td1 d1 tl names (to_two make a k) false n (
      refl,
      λ td2 d2 b.
          omega (
            arith,
            two (value a d2) (value b d2),
            no_code a d2,
            no_code b d2,
            given k tail n td2 (suc d2) (Level d2) h,
          ),
    ) in
    omega (
      arith,
      cx td d tl names (Bind (λ td1 d1 a. cps y td1 d1 tl names (to_two make a k))) false
          (sites false (bare y) + n) (refl, inner),
    )

mutual
  counts : (e : Noted) → CountsAt e
  counts (EVar i) td d tl names k tail n h = omega (arith, given k tail n td d (atom_at names i) h)
  counts (ENum i) td d tl names k tail n h = omega (arith, given k tail n td d (Literal i) h)
  counts (EFix arg res e) td d tl names k tail n h =
      omega (
        arith,
        given k tail n td (suc d) (Level d) h,
        counts e td (suc (suc (suc d))) tl (Level (suc d) ∷ Level d ∷ names) (Pass (suc (suc d))) true 0
            (refl, refl),
      )
  counts (EGen e t) td d tl names k tail n h =
      omega (
        arith,
        given k tail n td (suc d) (Level d) h,
        counts e (suc td) (suc (suc d)) (td ∷ tl) names (Pass (suc d)) true 0 (refl, refl),
      )
  counts (EApp f x t) td d tl names k tail n h =
      let inner : (td1 d1 : ℕ) (a : Atom) → codes_t (cps x td1 d1 tl names (to_call tl a t k)) ≡ sites false (bare x)
      + (unless tail + n) =
      λ td1 d1 a. counts x td1 d1 tl names (to_call tl a t k) false (unless tail + n)
      (refl, λ td2 d2 b. omega (arith, no_code a d2, no_code b d2, handed k tail n td2 d2 (kat td2 tl t) h)) in
      omega (
        arith,
        counts f td d tl names (Bind (λ td1 d1 a. cps x td1 d1 tl names (to_call tl a t k))) false
            (sites false (bare x) + (unless tail + n)) (refl, inner),
      )
  counts (EInst e s t) td d tl names k tail n h =
      omega (
        arith,
        counts e td d tl names (to_inst tl s t k) false (unless tail + n)
            (refl, λ td1 d1 a. omega (arith, no_code a d1, handed k tail n td1 d1 (kat td1 tl t) h)),
      )
  counts (ETuple es t) td d tl names k tail n h =
      counts_all es td d tl names [] (to_tuple k) n
      (λ td1 d1 xs. omega (arith, no_codes xs d1, given k tail n td1 (suc d1) (Level d1) h))
  counts (EProj i e t) td d tl names k tail n h =
      counts_one e (counts e) (λ td1 v. KProj i v) (λ td1 v. refl) td d tl names k tail n h
  counts (EArith op x y) td d tl names k tail n h =
      counts_two x y (counts x) (counts y) (KArith op) (λ v w. refl) td d tl names k tail n h
  counts (EIf c a b t) td d tl names k tail n h =
      let both = sites true (bare a) + sites true (bare b) in
      let whole : (d1 l : ℕ) →
      codes_t (cps c td d1 tl names
      (Bind (λ td2 d2 ca. KIf (value ca d2) (cps a td2 d2 tl names (Pass l)) (cps b td2 d2 tl names (Pass l)))))
      ≡ sites false (bare c) + both =
      λ d1 l. counts c td d1 tl names
      (Bind (λ td2 d2 ca. KIf (value ca d2) (cps a td2 d2 tl names (Pass l)) (cps b td2 d2 tl names (Pass l))))
      false both (
        refl,
        λ td2 d2 ca.
            omega (
              arith,
              no_code ca d2,
              counts a td2 d2 tl names (Pass l) true 0 (refl, refl),
              counts b td2 d2 tl names (Pass l) true 0 (refl, refl),
            ),
      ) in
      omega (
        arith,
        bound k tail n td d (kat td tl t)
            (λ d1 l. cps c td d1 tl names
            (Bind (λ td2 d2 ca. KIf (value ca d2) (cps a td2 d2 tl names (Pass l)) (cps b td2 d2 tl names (Pass l)))))
            (sites false (bare c) + both) h whole,
      )
  counts (ELet x y) td d tl names k tail n h =
      omega (
        arith,
        counts x td d tl names (Bind (λ td1 d1 a. cps y td1 d1 tl (a ∷ names) k)) false
            (sites tail (bare y) + n) (refl, λ td1 d1 a. counts y td1 d1 tl (a ∷ names) k tail n h),
      )
  counts (EPack hid e s) td d tl names k tail n h =
      counts_one e (counts e) (packing tl hid s) (λ td1 v. refl) td d tl names k tail n h
  counts (EOpen x y t) td d tl names k tail n h =
      omega (
        arith,
        counts x td d tl names
            (Bind (λ td1 d1 a. KLet (KUnpack (value a d1)) (cps y (suc td1) (suc d1) (td1 ∷ tl) (Level d1 ∷ names) k)))
            false (sites tail (bare y) + n) (
              refl,
              λ td1 d1 a.
                  omega (arith, no_code a d1, counts y (suc td1) (suc d1) (td1 ∷ tl) (Level d1 ∷ names) k tail n h),
            ),
      )
  counts (ERef e t) td d tl names k tail n h =
      counts_one e (counts e) (λ td1 v. KCell v) (λ td1 v. refl) td d tl names k tail n h
  counts (EDeref e t) td d tl names k tail n h =
      counts_one e (counts e) (λ td1 v. KGet v) (λ td1 v. refl) td d tl names k tail n h
  counts (EAssign x y) td d tl names k tail n h =
      counts_two x y (counts x) (counts y) KSet (λ v w. refl) td d tl names k tail n h

  counts_all : (es : Noteds) (td d : ℕ) (tl : List ℕ) (names : List Atom) (done : List Atom)
      (make : ℕ → ℕ → List Atom → KTm) (n : ℕ) → ((td d : ℕ) (xs : List Atom) → codes_t (make td d xs) ≡ n) →
      codes_t (cps_all es td d tl names done make) ≡ sites_all (bare_all es) + n
  counts_all NoNoteds td d tl names done make n h = omega (arith, h td d done)
  counts_all (MoreNoteds e es) td d tl names done make n h =
      let inner : (td1 d1 : ℕ) (a : Atom) → codes_t (cps_all es td1 d1 tl names (done ++ a ∷ []) make)
      ≡ sites_all (bare_all es) + n = λ td1 d1 a. counts_all es td1 d1 tl names (done ++ a ∷ []) make n h in
      omega (
        arith,
        counts e td d tl names (Bind (λ td1 d1 a. cps_all es td1 d1 tl names (done ++ a ∷ []) make)) false
            (sites_all (bare_all es) + n) (refl, inner),
      )

pub codes_are_sites : (e : Term) → codes_t (cps_term e) ≡ sites false e
codes_are_sites e =
    omega (
      arith,
      counts (annotate false e NoTys) 0 0 [] [] halting false 0 (refl, λ td d a. no_code a d),
      ap (sites false) (same false e NoTys),
    )
