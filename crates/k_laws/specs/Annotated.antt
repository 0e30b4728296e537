-- A term of a type with types beside its parts that are its own.
use Rattle.std.specs.Prelude.{◌≡◌, ℕ, ◌+◌, Some, Bool, true, false}
use Rattle.f_terms.specs.Ty.{Ty, TInt, TArrow, TAll, TTuple, TSome, TRef, Tys, NoTys, MoreTys, shift}
use Rattle.f_terms.specs.Ty.{put, Below}
use Rattle.f_terms.specs.Typing.{ty_at, field_ty, raised, in_fix, in_open}
use Rattle.f_terms.specs.Noted.{Noted, EVar, ENum, EFix, EApp, EGen, EInst, ETuple, EProj, EArith, EIf, ELet, EPack}
use Rattle.f_terms.specs.Noted.{EOpen, ERef, EDeref, EAssign, Noteds, NoNoteds, MoreNoteds}

-- In tail place the type of an application, a type application and an `if0` may be any: it is not read
abbrev mutual
  pub Annotated : Bool → Noted → ℕ → Tys → Ty → Type 0
  Annotated tail (EVar i) n g t = ty_at g i ≡ Some t
  Annotated tail (ENum i) n g t = t ≡ TInt
  Annotated tail (EFix arg res e) n g t = (t ≡ TArrow arg res) × Below n arg × Below n res
      × Annotated true e n (in_fix arg res g) res
  Annotated tail (EApp f x u) n g t = (tail ≡ false → u ≡ t)
      × ((s : Ty) × Annotated false f n g (TArrow s t) × Annotated false x n g s)
  Annotated tail (EGen e u) n g t = (t ≡ TAll u) × Annotated true e (n + 1) (raised g) u
  Annotated tail (EInst e s u) n g t = (tail ≡ false → u ≡ t)
      × ((b : Ty) × (t ≡ put 0 s b) × Below n s × Annotated false e n g (TAll b))
  Annotated tail (ETuple es u) n g t = (u ≡ t) × ((ts : Tys) × (t ≡ TTuple ts) × AllAnnotated es n g ts)
  Annotated tail (EProj i e u) n g t = (u ≡ t)
      × ((ts : Tys) × (field_ty ts i ≡ Some t) × Annotated false e n g (TTuple ts))
  Annotated tail (EArith op a b) n g t = (t ≡ TInt) × Annotated false a n g TInt × Annotated false b n g TInt
  Annotated tail (EIf c a b u) n g t = (tail ≡ false → u ≡ t) × Annotated false c n g TInt × Annotated true a n g t
      × Annotated true b n g t
  Annotated tail (ELet a b) n g t = (s : Ty) × Annotated false a n g s × Annotated tail b n (MoreTys s g) t
  Annotated tail (EPack h e s) n g t = (u : Ty) × (s ≡ TSome u) × (t ≡ s) × Below n h × Below n s
      × Annotated false e n g (put 0 h u)
  Annotated tail (EOpen a b u) n g t = Below n t × Annotated false a n g (TSome u)
      × Annotated tail b (n + 1) (in_open u g) (shift 1 0 t)
  Annotated tail (ERef e u) n g t = (u ≡ t) × ((s : Ty) × (t ≡ TRef s) × Annotated false e n g s)
  Annotated tail (EDeref e u) n g t = (u ≡ t) × Annotated false e n g (TRef t)
  Annotated tail (EAssign a b) n g t = (s : Ty) × (t ≡ TTuple NoTys) × Annotated false a n g (TRef s)
      × Annotated false b n g s

  pub AllAnnotated : Noteds → ℕ → Tys → Tys → Type 0
  AllAnnotated NoNoteds n g ts = ts ≡ NoTys
  AllAnnotated (MoreNoteds e es) n g ts = (t : Ty) × (us : Tys) × (ts ≡ MoreTys t us) × Annotated false e n g t
      × AllAnnotated es n g us
