-- Conversion doesn't read the types that stand in tail place, so any types that are a term's own give one conversion.
use Rattle.std.proofs.Common.{◌≡◌, ℕ, suc, ◌+◌, List, [], ◌∷◌, ◌++◌, Bool, true, false, refl, sym, ap, ap₂, ◌∙◌, subst}
use Rattle.f_terms.specs.Ty.{Ty, TInt, TArrow, TAll, TTuple, TSome, TRef, Tys, NoTys, MoreTys, shift, put}
use Rattle.f_terms.specs.Tm.{MApp, MInst, MTuple, MProj, MRef, MDeref}
use Rattle.f_terms.specs.Typing.{raised, in_fix, in_open, HasType, HaveTypes}
use Rattle.f_terms.specs.Noted.{Noted, EVar, ENum, EFix, EApp, EGen, EInst, ETuple, EProj, EArith, EIf, ELet, EPack}
use Rattle.f_terms.specs.Noted.{EOpen, ERef, EDeref, EAssign, Noteds, NoNoteds, MoreNoteds, bare, bare_all, opened_of}
use Rattle.f_terms.specs.Noted.{type_of, Beside, AllBeside}
use Rattle.k_terms.specs.K.{KTm, KCode, KProj, KArith, KUnpack, KCell, KGet, KSet, KLet, KIf, NoKTys, MoreKTys}
use Rattle.k_laws.specs.Annotated.{Annotated, AllAnnotated}
use Rattle.k_laws.specs.Annotate.{kept, annotate, annotate_all, cps_term}
use Rattle.k_laws.specs.Cps.{Atom, Level, Rest, Bind, Pass, value, name, bound_once, kat, kcat, packing, to_call}
use Rattle.k_laws.specs.Cps.{to_inst, to_one, to_two, to_tuple, cps, cps_all, cps_of, halting}
use Rattle.k_laws.proofs.Types.{type_is}

mutual
  pub noted : (tail : Bool) (e : Noted) (n : ℕ) (g : Tys) (t : Ty) → HasType (bare e) n g t → Beside e g →
      Annotated tail e n g t
  noted tail (EVar i) n g t h b = h
  noted tail (ENum i) n g t h b = h
  noted tail (EFix arg res e) n g t h b = (h.0, h.1, h.2, noted true e n (in_fix arg res g) res h.3 b)
  noted tail (EApp f x u) n g t h b = (
    λ z. b.0 ∙ type_is (MApp (bare f) (bare x)) n g t h,
    (h.0, noted false f n g (TArrow h.0 t) h.1 b.1, noted false x n g h.0 h.2 b.2),
  )
  noted tail (EGen e u) n g t h b =
      let is : u ≡ h.0 = b.0 ∙ type_is (bare e) (n + 1) (raised g) h.0 h.2 in (
        h.1 ∙ ap TAll (sym is),
        subst (Annotated true e (n + 1) (raised g)) (sym is) (noted true e (n + 1) (raised g) h.0 h.2 b.1),
      )
  noted tail (EInst e s u) n g t h b =
      (λ z. b.0 ∙ type_is (MInst (bare e) s) n g t h, (h.0, h.1, h.2, noted false e n g (TAll h.0) h.3 b.1))
  noted tail (ETuple es u) n g t h b =
      (b.0 ∙ type_is (MTuple (bare_all es)) n g t h, (h.0, h.1, all_noted es n g h.0 h.2 b.1))
  noted tail (EProj i e u) n g t h b =
      (b.0 ∙ type_is (MProj i (bare e)) n g t h, (h.0, h.1, noted false e n g (TTuple h.0) h.2 b.1))
  noted tail (EArith op x y) n g t h b = (h.0, noted false x n g TInt h.1 b.0, noted false y n g TInt h.2 b.1)
  noted tail (EIf c x y u) n g t h b = (
    λ z. b.0 ∙ type_is (bare x) n g t h.1,
    noted false c n g TInt h.0 b.1,
    noted true x n g t h.1 b.2,
    noted true y n g t h.2 b.3,
  )
  noted tail (ELet x y) n g t h b = (
    h.0,
    noted false x n g h.0 h.1 b.0,
    noted tail y n (MoreTys h.0 g) t h.2
        (subst (λ u. Beside y (MoreTys u g)) (type_is (bare x) n g h.0 h.1) b.1),
  )
  noted tail (EPack hid e s) n g t h b = (h.0, h.1, h.2, h.3, h.4, noted false e n g (put 0 hid h.0) h.5 b)
  noted tail (EOpen x y u) n g t h b =
      let is : h.0 ≡ u = sym (b.0 ∙ ap opened_of (type_is (bare x) n g (TSome h.0) h.2)) in (
        h.1,
        noted false x n g (TSome u) (subst (λ w. HasType (bare x) n g (TSome w)) is h.2) b.1,
        noted tail y (n + 1) (in_open u g) (shift 1 0 t)
            (subst (λ w. HasType (bare y) (n + 1) (in_open w g) (shift 1 0 t)) is h.3) b.2,
      )
  noted tail (ERef e u) n g t h b = (b.0 ∙ type_is (MRef (bare e)) n g t h, (h.0, h.1, noted false e n g h.0 h.2 b.1))
  noted tail (EDeref e u) n g t h b = (b.0 ∙ type_is (MDeref (bare e)) n g t h, noted false e n g (TRef t) h b.1)
  noted tail (EAssign x y) n g t h b = (h.0, h.1, noted false x n g (TRef h.0) h.2 b.0, noted false y n g h.0 h.3 b.1)

  all_noted : (es : Noteds) (n : ℕ) (g ts : Tys) → HaveTypes (bare_all es) n g ts → AllBeside es g →
      AllAnnotated es n g ts
  all_noted NoNoteds n g ts h b = h
  all_noted (MoreNoteds e es) n g ts h b = (h.0, h.1, h.2, noted false e n g h.0 h.3 b.0, all_noted es n g h.1 h.4 b.1)

-- the term without the types in tail place
abbrev mutual
  quiet : Bool → Noted → Noted
  quiet tail (EVar i) = EVar i
  quiet tail (ENum n) = ENum n
  quiet tail (EFix arg res e) = EFix arg res (quiet true e)
  quiet tail (EApp f x t) = EApp (quiet false f) (quiet false x) (kept tail t)
  quiet tail (EGen e t) = EGen (quiet true e) t
  quiet tail (EInst e s t) = EInst (quiet false e) s (kept tail t)
  quiet tail (ETuple es t) = ETuple (quiet_all es) t
  quiet tail (EProj i e t) = EProj i (quiet false e) t
  quiet tail (EArith op a b) = EArith op (quiet false a) (quiet false b)
  quiet tail (EIf c a b t) = EIf (quiet false c) (quiet true a) (quiet true b) (kept tail t)
  quiet tail (ELet a b) = ELet (quiet false a) (quiet tail b)
  quiet tail (EPack hid e s) = EPack hid (quiet false e) s
  quiet tail (EOpen a b t) = EOpen (quiet false a) (quiet tail b) t
  quiet tail (ERef e t) = ERef (quiet false e) t
  quiet tail (EDeref e t) = EDeref (quiet false e) t
  quiet tail (EAssign a b) = EAssign (quiet false a) (quiet false b)

  quiet_all : Noteds → Noteds
  quiet_all NoNoteds = NoNoteds
  quiet_all (MoreNoteds e es) = MoreNoteds (quiet false e) (quiet_all es)

mutual
  quiet_is : (tail : Bool) (e : Noted) (g : Tys) → Beside e g → quiet tail e ≡ annotate tail (bare e) g
  quiet_is tail (EVar i) g b = refl
  quiet_is tail (ENum n) g b = refl
  quiet_is tail (EFix arg res e) g b = ap (EFix arg res) (quiet_is true e (in_fix arg res g) b)
  quiet_is tail (EApp f x t) g b =
      ap₂ (λ u v. EApp u v (kept tail t)) (quiet_is false f g b.1) (quiet_is false x g b.2)
      ∙ ap (λ u. EApp (annotate false (bare f) g) (annotate false (bare x) g) (kept tail u)) b.0
  quiet_is tail (EGen e t) g b = ap₂ EGen (quiet_is true e (raised g) b.1) b.0
  quiet_is tail (EInst e s t) g b = ap₂ (λ u v. EInst u s (kept tail v)) (quiet_is false e g b.1) b.0
  quiet_is tail (ETuple es t) g b = ap₂ ETuple (quiet_all_is es g b.1) b.0
  quiet_is tail (EProj i e t) g b = ap₂ (EProj i) (quiet_is false e g b.1) b.0
  quiet_is tail (EArith op x y) g b = ap₂ (EArith op) (quiet_is false x g b.0) (quiet_is false y g b.1)
  quiet_is tail (EIf c x y t) g b =
      ap₂ (λ u v. EIf u (quiet true x) (quiet true y) (kept tail v)) (quiet_is false c g b.1) b.0
      ∙ ap₂ (λ u v. EIf (annotate false (bare c) g) u v (kept tail (type_of (bare x) g))) (quiet_is true x g b.2)
      (quiet_is true y g b.3)
  quiet_is tail (ELet x y) g b =
      ap₂ ELet (quiet_is false x g b.0) (quiet_is tail y (MoreTys (type_of (bare x) g) g) b.1)
  quiet_is tail (EPack hid e s) g b = ap (λ u. EPack hid u s) (quiet_is false e g b)
  quiet_is tail (EOpen x y t) g b =
      ap₂ (λ u v. EOpen u v t) (quiet_is false x g b.1) (quiet_is tail y (in_open t g) b.2)
      ∙ ap (λ w. EOpen (annotate false (bare x) g) (annotate tail (bare y) (in_open w g)) w) b.0
  quiet_is tail (ERef e t) g b = ap₂ ERef (quiet_is false e g b.1) b.0
  quiet_is tail (EDeref e t) g b = ap₂ EDeref (quiet_is false e g b.1) b.0
  quiet_is tail (EAssign x y) g b = ap₂ EAssign (quiet_is false x g b.0) (quiet_is false y g b.1)

  quiet_all_is : (es : Noteds) (g : Tys) → AllBeside es g → quiet_all es ≡ annotate_all (bare_all es) g
  quiet_all_is NoNoteds g b = refl
  quiet_all_is (MoreNoteds e es) g b = ap₂ MoreNoteds (quiet_is false e g b.0) (quiet_all_is es g b.1)

ext_two : {A B C : Type 0} {f g : A → B → C} → ((a : A) (b : B) → f a b ≡ g a b) → f ≡ g
ext_two h = λ i a b. h a b i

ext : {A B C D : Type 0} {f g : A → B → C → D} → ((a : A) (b : B) (c : C) → f a b c ≡ g a b c) → f ≡ g
ext h = λ i a b c. h a b c i

ext_four : {A B C D E : Type 0} {f g : A → B → C → D → E} → ((a : A) (b : B) (c : C) (d : D) → f a b c d ≡ g a b c d) →
    f ≡ g
ext_four h = λ i a b c d. h a b c d i

abbrev InTail : Bool → Rest → Type 0
InTail true (Bind form) = ⊥
InTail true (Pass l) = Unit {0}
InTail false k = Unit {0}

abbrev choice : Noted → Noted → List ℕ → List Atom → ℕ → Rest
choice a b tl ls l = Bind (λ td2 d2 ca. KIf (value ca d2) (cps a td2 d2 tl ls (Pass l)) (cps b td2 d2 tl ls (Pass l)))

abbrev SameAt : Bool → Noted → Type 0
SameAt tail e = (td d : ℕ) (tl : List ℕ) (ls : List Atom) (k : Rest) → InTail tail k →
    cps (quiet tail e) td d tl ls k ≡ cps e td d tl ls k

abbrev RestForm : Type 0
RestForm = ℕ → ℕ → Atom → KTm

chooses : (c a b : Noted) → SameAt false c → SameAt true a → SameAt true b →
    (tl : List ℕ) (ls : List Atom) (td d l : ℕ) →
    cps (quiet false c) td d tl ls (choice (quiet true a) (quiet true b) tl ls l)
    ≡ cps c td d tl ls (choice a b tl ls l)
chooses c a b mc ma mb tl ls td d l =
    mc td d tl ls (choice (quiet true a) (quiet true b) tl ls l) tt
    ∙ ap (λ (form : RestForm). cps c td d tl ls (Bind form))
    (ext (λ td2 d2 ca. ap₂ (KIf (value ca d2)) (ma td2 d2 tl ls (Pass l) tt) (mb td2 d2 tl ls (Pass l) tt)))

-- a part, and then one that goes on by a rest of its own
applied : (f x : Noted) → SameAt false f → SameAt false x →
    (td d : ℕ) (tl : List ℕ) (ls : List Atom) (rest : Atom → Rest) →
    cps (quiet false f) td d tl ls (Bind (λ td1 d1 a. cps (quiet false x) td1 d1 tl ls (rest a)))
    ≡ cps f td d tl ls (Bind (λ td1 d1 a. cps x td1 d1 tl ls (rest a)))
applied f x mf mx td d tl ls rest =
    mf td d tl ls (Bind (λ td1 d1 a. cps (quiet false x) td1 d1 tl ls (rest a))) tt
    ∙ ap (λ (form : RestForm). cps f td d tl ls (Bind form)) (ext (λ td1 d1 a. mx td1 d1 tl ls (rest a) tt))

-- a part, and then one that is in tail place where the whole is
followed : (tail : Bool) (a b : Noted) → SameAt false a → SameAt tail b →
    (td d : ℕ) (tl : List ℕ) (ls : List Atom) (k : Rest) → InTail tail k →
    (make : ℕ → ℕ → Atom → (ℕ → ℕ → List ℕ → List Atom → KTm) → KTm) →
    cps (quiet false a) td d tl ls
    (Bind (λ td1 d1 x. make td1 d1 x (λ e d2 ts names. cps (quiet tail b) e d2 ts names k)))
    ≡ cps a td d tl ls (Bind (λ td1 d1 x. make td1 d1 x (λ e d2 ts names. cps b e d2 ts names k)))
followed tail a b ma mb td d tl ls k it make =
    ma td d tl ls (Bind (λ td1 d1 x. make td1 d1 x (λ e d2 ts names. cps (quiet tail b) e d2 ts names k))) tt
    ∙ ap (λ (form : RestForm). cps a td d tl ls (Bind form))
    (ext (λ td1 d1 x. ap (make td1 d1 x) (ext_four (λ e d2 ts names. mb e d2 ts names k it))))

mutual
  same : (tail : Bool) (e : Noted) → SameAt tail e
  same tail (EVar i) td d tl ls k it = refl
  same tail (ENum n) td d tl ls k it = refl
  same tail (EFix arg res e) td d tl ls k it =
      ap (λ (m : KTm). name (KCode 0 (MoreKTys (kat td tl arg) (MoreKTys (kcat td tl res) NoKTys)) m) k td d)
      (same true e td (suc (suc (suc d))) tl (Level (suc d) ∷ Level d ∷ ls) (Pass (suc (suc d))) tt)
  same tail (EGen e t) td d tl ls k it =
      ap (λ (m : KTm). name (KCode 1 (MoreKTys (kcat (suc td) (td ∷ tl) t) NoKTys) m) k td d)
      (same true e (suc td) (suc (suc d)) (td ∷ tl) ls (Pass (suc d)) tt)
  same false (EApp f x t) td d tl ls k it =
      applied f x (same false f) (same false x) td d tl ls (λ fa. to_call tl fa t k)
  same true (EApp f x t) td d tl ls (Bind form) it = absurd it
  same true (EApp f x t) td d tl ls (Pass l) it =
      applied f x (same false f) (same false x) td d tl ls (λ fa. to_call tl fa t (Pass l))
  same false (EInst e s t) td d tl ls k it = same false e td d tl ls (to_inst tl s t k) tt
  same true (EInst e s t) td d tl ls (Bind form) it = absurd it
  same true (EInst e s t) td d tl ls (Pass l) it = same false e td d tl ls (to_inst tl s t (Pass l)) tt
  same tail (ETuple es t) td d tl ls k it = same_all es td d tl ls [] (to_tuple k)
  same tail (EProj i e t) td d tl ls k it = same false e td d tl ls (to_one (λ td1 v. KProj i v) k) tt
  same tail (EArith op a b) td d tl ls k it =
      applied a b (same false a) (same false b) td d tl ls (λ aa. to_two (KArith op) aa k)
  same false (EIf c a b t) td d tl ls k it =
      ap (λ (body : ℕ → ℕ → KTm). bound_once (kat td tl t) k td d body)
      (ext_two (λ d1 l. chooses c a b (same false c) (same true a) (same true b) tl ls td d1 l))
  same true (EIf c a b t) td d tl ls (Bind form) it = absurd it
  same true (EIf c a b t) td d tl ls (Pass l) it = chooses c a b (same false c) (same true a) (same true b) tl ls td d l
  same tail (ELet a b) td d tl ls k it =
      followed tail a b (same false a) (same tail b) td d tl ls k it (λ td1 d1 x go. go td1 d1 tl (x ∷ ls))
  same tail (EPack hid e s) td d tl ls k it = same false e td d tl ls (to_one (packing tl hid s) k) tt
  same tail (EOpen a b t) td d tl ls k it =
      followed tail a b (same false a) (same tail b) td d tl ls k it
      (λ td1 d1 x go. KLet (KUnpack (value x d1)) (go (suc td1) (suc d1) (td1 ∷ tl) (Level d1 ∷ ls)))
  same tail (ERef e t) td d tl ls k it = same false e td d tl ls (to_one (λ td1 v. KCell v) k) tt
  same tail (EDeref e t) td d tl ls k it = same false e td d tl ls (to_one (λ td1 v. KGet v) k) tt
  same tail (EAssign a b) td d tl ls k it =
      applied a b (same false a) (same false b) td d tl ls (λ aa. to_two KSet aa k)

  same_all : (es : Noteds) (td d : ℕ) (tl : List ℕ) (ls : List Atom) (done : List Atom)
      (form : ℕ → ℕ → List Atom → KTm) →
      cps_all (quiet_all es) td d tl ls done form ≡ cps_all es td d tl ls done form
  same_all NoNoteds td d tl ls done form = refl
  same_all (MoreNoteds e es) td d tl ls done form =
      same false e td d tl ls (Bind (λ td1 d1 a. cps_all (quiet_all es) td1 d1 tl ls (done ++ a ∷ []) form)) tt
      ∙ ap (λ (f : RestForm). cps e td d tl ls (Bind f))
      (ext (λ td1 d1 a. same_all es td1 d1 tl ls (done ++ a ∷ []) form))

pub one_conversion : (e : Noted) → Beside e NoTys → cps_of e ≡ cps_term (bare e)
one_conversion e b = sym (same false e 0 0 [] [] halting tt) ∙ ap cps_of (quiet_is false e NoTys b)
