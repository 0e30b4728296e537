-- What the forms of a source term bind, with its types by the typing rules, in the order of the text.
use Rattle.std.specs.Prelude.{◌≡◌, ℕ, ◌+◌, List, [], ◌∷◌, ◌++◌}
use Rattle.f_terms.specs.Ty.{Ty, TSome, Tys, MoreTys}
use Rattle.f_terms.specs.Tm.{Spn, Tm, SVar, SNum, SFix, SApp, SGen, SInst, STuple, SProj, SArith, SIf0, SLet, SPack}
use Rattle.f_terms.specs.Tm.{SOpen, SRef, SDeref, SAssign, Tms, NoTms, MoreTms, plain}
use Rattle.f_terms.specs.Typing.{HasType, raised, in_fix, in_open}

-- what a form binds: a value of this type; a function, and in it its argument, of these types of the argument and of
-- the result; a type name; or a type name, and a value of this type inside of it
pub data Kind : Type 0 where
  Value : (t : Ty) → Kind
  Function : (arg res : Ty) → Kind
  TypeName : Kind
  Opened : (t : Ty) → Kind

-- it, with the byte at which the form begins, and how many type names are around the form
pub record Binder : Type 0 where
  pub at : ℕ
  pub names : ℕ
  pub kind : Kind

abbrev pub binder : Spn → ℕ → Kind → Binder
binder s n k = record { at = s.0; names = n; kind = k }

-- first one binder, then such ones; first such ones, then those
abbrev pub Then : Binder → (List Binder → Type 0) → List Binder → Type 0
Then b P bs = (cs : List Binder) × P cs × (bs ≡ b ∷ cs)

abbrev pub Both : (P Q : List Binder → Type 0) → List Binder → Type 0
Both P Q bs = (cs ds : List Binder) × P cs × Q ds × (bs ≡ cs ++ ds)

-- The term binds these, under n type names, where g has the types of the value names. A `let` binds a value of the type
-- that its first part has, an `open` one of the type that is under the `some` of its first part's type.
abbrev mutual
  pub Binds : Tm → ℕ → Tys → List Binder → Type 0
  Binds (SVar s i) n g bs = bs ≡ []
  Binds (SNum s z) n g bs = bs ≡ []
  Binds (SFix s arg res e) n g bs = Then (binder s n (Function arg res)) (Binds e n (in_fix arg res g)) bs
  Binds (SApp s f x) n g bs = Both (Binds f n g) (Binds x n g) bs
  Binds (SGen s e) n g bs = Then (binder s n TypeName) (Binds e (n + 1) (raised g)) bs
  Binds (SInst s e t) n g bs = Binds e n g bs
  Binds (STuple s es) n g bs = AllBind es n g bs
  Binds (SProj s i e) n g bs = Binds e n g bs
  Binds (SArith s op a b) n g bs = Both (Binds a n g) (Binds b n g) bs
  Binds (SIf0 s c a b) n g bs = Both (Binds c n g) (Both (Binds a n g) (Binds b n g)) bs
  Binds (SLet s a b) n g bs = (t : Ty) × HasType (plain a) n g t
      × Then (binder s n (Value t)) (Both (Binds a n g) (Binds b n (MoreTys t g))) bs
  Binds (SPack s h e r) n g bs = Binds e n g bs
  Binds (SOpen s a b) n g bs = (t : Ty) × HasType (plain a) n g (TSome t)
      × Then (binder s n (Opened t)) (Both (Binds a n g) (Binds b (n + 1) (in_open t g))) bs
  Binds (SRef s e) n g bs = Binds e n g bs
  Binds (SDeref s e) n g bs = Binds e n g bs
  Binds (SAssign s a b) n g bs = Both (Binds a n g) (Binds b n g) bs

  pub AllBind : Tms → ℕ → Tys → List Binder → Type 0
  AllBind NoTms n g bs = bs ≡ []
  AllBind (MoreTms e es) n g bs = Both (Binds e n g) (AllBind es n g) bs

-- The law: a term binds in one way at most.
abbrev pub OneBinding : Type 0
OneBinding = (e : Tm) (n : ℕ) (g : Tys) (bs cs : List Binder) → Binds e n g bs → Binds e n g cs → bs ≡ cs
