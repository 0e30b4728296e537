-- The first fault of typing: each part in turn, whole, with what is asked of it, and then the form itself; a `fix` has
-- its type looked at before its body, and a `pack` its two types before its part.
use Rattle.std.specs.Prelude.{◌≡◌, ℕ, ◌+◌, Option, Some, None}
use Rattle.text_core.specs.Refusals.{Refusal, nothing, refuse, check, part}
use Rattle.f_terms.specs.Ty.{Ty, TInt, TArrow, TAll, TTuple, TSome, TRef, Tys, NoTys, MoreTys, shift, put, Below}
use Rattle.f_terms.specs.Tm.{Spn, Tm, SVar, SNum, SFix, SApp, SGen, SInst, STuple, SProj, SArith, SIf0, SLet, SPack}
use Rattle.f_terms.specs.Tm.{SOpen, SRef, SDeref, SAssign, Tms, NoTms}
use Rattle.f_terms.specs.Tm.{MoreTms, span_of}
use Rattle.f_terms.specs.Limits.{Shallow, Small, Within}
use Rattle.f_terms.specs.Typing.{ty_at, field_ty, raised, in_fix, in_open}
use Rattle.f_terms.specs.Mismatch.{Wanted, WType, WFunction, WPolymorphic, WTuple, WField, WPackage, WReference}
use Rattle.f_terms.specs.Mismatch.{WOutside, Mismatch, odds}
use Rattle.f_terms.specs.declared.fault.Code.{Code}
use Rattle.f_terms.specs.declared.fault.Code.TheVariants.{E07, E08, E09, E10, E11, E12, E13, E14, E16, E17, E18}
use Rattle.f_terms.specs.declared.fault.Code.TheVariants.{E21, E22, L4, L5}

-- a type under n type names and one more, in which that one isn't: it is t outside of it
abbrev pub IsOutside : ℕ → Ty → Ty → Type 0
IsOutside n v t = (v ≡ shift 1 0 t) × Below n t

-- every check of the term holds, and t is its type: source typing, with the limits L4 and L5 where types are made
abbrev mutual
  pub Passes : Tm → ℕ → Tys → Ty → Type 0
  Passes (SVar s i) n g t = ty_at g i ≡ Some t
  Passes (SNum s i) n g t = t ≡ TInt
  Passes (SFix s arg res e) n g t =
      (t ≡ TArrow arg res) × Below n arg × Below n res × Within (TArrow arg res) × Passes e n (in_fix arg res g) res
  Passes (SApp s f x) n g t = (u : Ty) × Passes f n g (TArrow u t) × Passes x n g u
  Passes (SGen s e) n g t = (u : Ty) × (t ≡ TAll u) × Passes e (n + 1) (raised g) u × Within (TAll u)
  Passes (SInst s e a) n g t = (b : Ty) × (t ≡ put 0 a b) × Below n a × Passes e n g (TAll b) × Within a
      × Within (put 0 a b)
  Passes (STuple s es) n g t = (ts : Tys) × (t ≡ TTuple ts) × PassAll es n g ts × Within (TTuple ts)
  Passes (SProj s i e) n g t = (ts : Tys) × (field_ty ts i ≡ Some t) × Passes e n g (TTuple ts)
  Passes (SArith s op a b) n g t = (t ≡ TInt) × Passes a n g TInt × Passes b n g TInt
  Passes (SIf0 s c a b) n g t = Passes c n g TInt × Passes a n g t × Passes b n g t
  Passes (SLet s a b) n g t = (u : Ty) × Passes a n g u × Passes b n (MoreTys u g) t
  Passes (SPack s h e r) n g t = (u : Ty) × (r ≡ TSome u) × (t ≡ r) × Below n h × Below n r × Passes e n g (put 0 h u)
      × Within h × Within r
  Passes (SOpen s a b) n g t = (u : Ty) × Below n t × Passes a n g (TSome u)
      × Passes b (n + 1) (in_open u g) (shift 1 0 t)
  Passes (SRef s e) n g t = (u : Ty) × (t ≡ TRef u) × Passes e n g u × Within (TRef u)
  Passes (SDeref s e) n g t = Passes e n g (TRef t)
  Passes (SAssign s a b) n g t = (u : Ty) × (t ≡ TTuple NoTys) × Passes a n g (TRef u) × Passes b n g u

  pub PassAll : Tms → ℕ → Tys → Tys → Type 0
  PassAll NoTms n g ts = ts ≡ NoTys
  PassAll (MoreTms e es) n g ts = (t : Ty) × (us : Tys) × (ts ≡ MoreTys t us) × Passes e n g t × PassAll es n g us

-- a code, with what is at odds
abbrev pub Note : Type 0
Note = Code × Option Mismatch

-- a fault that says no more than its code, and one that says what was wanted of which type under n type names
abbrev pub bare : Code → Spn → Refusal Note Spn
bare code s = refuse (code, None) s

abbrev pub at_odds : Code → ℕ → Wanted → Ty → Spn → Refusal Note Spn
at_odds code n w t s = refuse (code, odds n w t) s

-- L4 and L5 of a type, L4 first
abbrev pub limits : Ty → Spn → Refusal Note Spn → Refusal Note Spn
limits t s rest = check (Shallow t) (bare L4 s) (check (Small t) (bare L5 s) rest)

-- by the form of a type
abbrev pub if_arrow : Ty → Refusal Note Spn → (Ty → Ty → Refusal Note Spn) → Refusal Note Spn
if_arrow (TArrow a b) other go = go a b
if_arrow _ other go = other

abbrev pub if_all : Ty → Refusal Note Spn → (Ty → Refusal Note Spn) → Refusal Note Spn
if_all (TAll t) other go = go t
if_all _ other go = other

abbrev pub if_tuple : Ty → Refusal Note Spn → (Tys → Refusal Note Spn) → Refusal Note Spn
if_tuple (TTuple ts) other go = go ts
if_tuple _ other go = other

abbrev pub if_some : Ty → Refusal Note Spn → (Ty → Refusal Note Spn) → Refusal Note Spn
if_some (TSome t) other go = go t
if_some _ other go = other

abbrev pub if_ref : Ty → Refusal Note Spn → (Ty → Refusal Note Spn) → Refusal Note Spn
if_ref (TRef t) other go = go t
if_ref _ other go = other

abbrev pub if_none : Option Ty → Refusal Note Spn → Refusal Note Spn
if_none None fault = fault
if_none (Some t) fault = nothing

-- E17 of a part of type t under n type names, where w was wanted: named where it keeps the limits on types
abbrev pub fitting : ℕ → Ty → Ty → Spn → Refusal Note Spn
fitting n w t s = check (Within w) (bare E17 s) (at_odds E17 n (WType w) t s)

-- the first fault of a term under n type variables, with the types g of the value variables
abbrev mutual
  pub FaultNoted : Tm → ℕ → Tys → Refusal Note Spn
  FaultNoted (SVar s i) n g = nothing
  FaultNoted (SNum s i) n g = nothing
  FaultNoted (SFix s arg res e) n g =
      limits (TArrow arg res) s (part (FaultNoted e n (in_fix arg res g)) (Passes e n (in_fix arg res g))
      (λ t. check (t ≡ res) (at_odds E14 n (WType res) t (span_of e)) nothing))
  FaultNoted (SApp s f x) n g =
      part (FaultNoted f n g) (Passes f n g) (λ t.
      if_arrow t (at_odds E07 n WFunction t (span_of f)) (λ a b.
      part (FaultNoted x n g) (Passes x n g) (λ u.
      check (u ≡ a) (at_odds E08 n (WType a) u (span_of x)) nothing)))
  FaultNoted (SGen s e) n g = part (FaultNoted e (n + 1) (raised g)) (Passes e (n + 1) (raised g))
      (λ t. limits (TAll t) s nothing)
  FaultNoted (SInst s e a) n g =
      part (FaultNoted e n g) (Passes e n g)
      (λ t. if_all t (at_odds E09 n WPolymorphic t (span_of e))
      (λ b. limits a s (limits (put 0 a b) s nothing)))
  FaultNoted (STuple s es) n g =
      part (FaultAllNoted es n g) (PassAll es n g) (λ ts. limits (TTuple ts) s nothing)
  FaultNoted (SProj s i e) n g =
      part (FaultNoted e n g) (Passes e n g)
      (λ t. if_tuple t (at_odds E10 n WTuple t (span_of e))
      (λ ts. if_none (field_ty ts i) (at_odds E11 n WField t s)))
  FaultNoted (SArith s op a b) n g =
      part (FaultNoted a n g) (Passes a n g)
      (λ t. check (t ≡ TInt) (at_odds E12 n (WType TInt) t (span_of a))
      (part (FaultNoted b n g) (Passes b n g)
      (λ u. check (u ≡ TInt) (at_odds E12 n (WType TInt) u (span_of b)) nothing)))
  FaultNoted (SIf0 s c a b) n g =
      part (FaultNoted c n g) (Passes c n g)
      (λ t. check (t ≡ TInt) (at_odds E12 n (WType TInt) t (span_of c))
      (part (FaultNoted a n g) (Passes a n g)
      (λ u. part (FaultNoted b n g) (Passes b n g)
      (λ v. check (v ≡ u) (at_odds E13 n (WType u) v (span_of b)) nothing))))
  FaultNoted (SLet s a b) n g = part (FaultNoted a n g) (Passes a n g) (λ t. FaultNoted b n (MoreTys t g))
  FaultNoted (SPack s h e r) n g =
      if_some r (at_odds E16 n WPackage r s) (λ u. limits h s (limits r s
      (part (FaultNoted e n g) (Passes e n g)
      (λ t. check (t ≡ put 0 h u) (fitting n (put 0 h u) t (span_of e)) nothing))))
  FaultNoted (SOpen s a b) n g =
      part (FaultNoted a n g) (Passes a n g)
      (λ t. if_some t (at_odds E16 n WPackage t (span_of a)) (λ u.
      part (FaultNoted b (n + 1) (in_open u g)) (Passes b (n + 1) (in_open u g))
      (λ v. check ((w : Ty) × IsOutside n v w) (at_odds E18 (n + 1) WOutside v (span_of b)) nothing)))
  FaultNoted (SRef s e) n g = part (FaultNoted e n g) (Passes e n g) (λ t. limits (TRef t) s nothing)
  FaultNoted (SDeref s e) n g = part (FaultNoted e n g) (Passes e n g)
      (λ t. if_ref t (at_odds E21 n WReference t (span_of e)) (λ u. nothing))
  FaultNoted (SAssign s a b) n g =
      part (FaultNoted a n g) (Passes a n g)
      (λ t. if_ref t (at_odds E21 n WReference t (span_of a)) (λ u.
      part (FaultNoted b n g) (Passes b n g)
      (λ v. check (v ≡ u) (at_odds E22 n (WType u) v (span_of b)) nothing)))

  pub FaultAllNoted : Tms → ℕ → Tys → Refusal Note Spn
  FaultAllNoted NoTms n g = nothing
  FaultAllNoted (MoreTms e es) n g = part (FaultNoted e n g) (Passes e n g) (λ t. FaultAllNoted es n g)

-- the first fault, its place, and what is at odds in it
abbrev pub FaultWith : Tm → ℕ → Tys → Code → Spn → Option Mismatch → Type 0
FaultWith e n g c p m = FaultNoted e n g (c, m) p

-- the first fault and its place
abbrev pub Fault : Tm → ℕ → Tys → Code → Spn → Type 0
Fault e n g c p = (m : Option Mismatch) × FaultWith e n g c p m
