-- What passes each check has no fault, and two first faults are equal.
use Rattle.std.proofs.Common.{◌≡◌, ℕ, ◌+◌, refl, ap}
use Rattle.text_core.proofs.Refusals.{Clear, clear_nothing, clear_check, clear_part, One, one_nothing, one_refuse}
use Rattle.text_core.proofs.Refusals.{one_check, one_part}
use Rattle.f_terms.specs.Ty.{Ty, TInt, TArrow, TAll, TTuple, TSome, TRef, Tys, MoreTys, shift, put}
use Rattle.f_terms.specs.Tm.{Tm, SVar, SNum, SFix, SApp, SGen, SInst, STuple, SProj, SArith, SIf0, SLet, SPack, SOpen}
use Rattle.f_terms.specs.Tm.{SRef, SDeref, SAssign, Tms, NoTms, MoreTms, plain, plain_all}
use Rattle.f_terms.specs.Typing.{field_ty, raised, in_fix, in_open, HasType, HaveTypes}
use Rattle.f_terms.specs.Faults.{Note, Passes, PassAll, FaultNoted, FaultAllNoted}
use Rattle.f_terms.specs.Laws.{NoFaultBesideAPass, OneFault, OneMismatch}
use Rattle.f_terms.specs.OneType.{one_type, one_list}
use Rattle.f_terms.proofs.Refusals.{clear_limits, clear_package, clear_some, one_limits, one_fitting, one_arrow}
use Rattle.f_terms.proofs.Refusals.{one_all, one_tuple, one_some, one_ref, one_none}

mutual
  pub has_type : (e : Tm) (n : ℕ) (g : Tys) (t : Ty) → Passes e n g t → HasType (plain e) n g t
  has_type (SVar s i) n g t h = h
  has_type (SNum s i) n g t h = h
  has_type (SFix s arg res e) n g t h = (h.0, h.1, h.2, has_type e n (in_fix arg res g) res h.4)
  has_type (SApp s f x) n g t h = (h.0, has_type f n g (TArrow h.0 t) h.1, has_type x n g h.0 h.2)
  has_type (SGen s e) n g t h = (h.0, h.1, has_type e (n + 1) (raised g) h.0 h.2)
  has_type (SInst s e a) n g t h = (h.0, h.1, h.2, has_type e n g (TAll h.0) h.3)
  has_type (STuple s es) n g t h = (h.0, h.1, have_types es n g h.0 h.2)
  has_type (SProj s i e) n g t h = (h.0, h.1, has_type e n g (TTuple h.0) h.2)
  has_type (SArith s op a b) n g t h = (h.0, has_type a n g TInt h.1, has_type b n g TInt h.2)
  has_type (SIf0 s c a b) n g t h = (has_type c n g TInt h.0, has_type a n g t h.1, has_type b n g t h.2)
  has_type (SLet s a b) n g t h = (h.0, has_type a n g h.0 h.1, has_type b n (MoreTys h.0 g) t h.2)
  has_type (SPack s x e r) n g t h = (h.0, h.1, h.2, h.3, h.4, has_type e n g (put 0 x h.0) h.5)
  has_type (SOpen s a b) n g t h =
      (h.0, h.1, has_type a n g (TSome h.0) h.2, has_type b (n + 1) (in_open h.0 g) (shift 1 0 t) h.3)
  has_type (SRef s e) n g t h = (h.0, h.1, has_type e n g h.0 h.2)
  has_type (SDeref s e) n g t h = has_type e n g (TRef t) h
  has_type (SAssign s a b) n g t h = (h.0, h.1, has_type a n g (TRef h.0) h.2, has_type b n g h.0 h.3)

  pub have_types : (es : Tms) (n : ℕ) (g ts : Tys) → PassAll es n g ts → HaveTypes (plain_all es) n g ts
  have_types NoTms n g ts h = h
  have_types (MoreTms e es) n g ts h = (h.0, h.1, h.2, has_type e n g h.0 h.3, have_types es n g h.1 h.4)

pub one_pass : (e : Tm) (n : ℕ) (g : Tys) (t u : Ty) → Passes e n g t → Passes e n g u → t ≡ u
one_pass e n g t u h k = one_type (plain e) n g t u (has_type e n g t h) (has_type e n g u k)

pub one_pass_all : (es : Tms) (n : ℕ) (g t u : Tys) → PassAll es n g t → PassAll es n g u → t ≡ u
one_pass_all es n g t u h k = one_list (plain_all es) n g t u (have_types es n g t h) (have_types es n g u k)

mutual
  no_fault : (e : Tm) (n : ℕ) (g : Tys) (t : Ty) → Passes e n g t → Clear (FaultNoted e n g)
  no_fault (SVar s i) n g t h = clear_nothing
  no_fault (SNum s i) n g t h = clear_nothing
  no_fault (SFix s arg res e) n g t h =
      clear_limits (TArrow arg res) s h.3
      (clear_part res h.4 (no_fault e n _ res h.4) (λ u k. one_pass e n _ res u h.4 k)
      (clear_check refl clear_nothing))
  no_fault (SApp s f x) n g t h =
      clear_part (TArrow h.0 t) h.1 (no_fault f n g _ h.1) (λ u k. one_pass f n g _ u h.1 k)
      (clear_part h.0 h.2 (no_fault x n g _ h.2) (λ u k. one_pass x n g _ u h.2 k) (clear_check refl clear_nothing))
  no_fault (SGen s e) n g t h =
      clear_part h.0 h.2 (no_fault e _ _ _ h.2) (λ u k. one_pass e _ _ _ u h.2 k)
      (clear_limits (TAll h.0) s h.3 clear_nothing)
  no_fault (SInst s e a) n g t h =
      clear_part (TAll h.0) h.3 (no_fault e n g _ h.3) (λ u k. one_pass e n g _ u h.3 k)
      (clear_limits a s h.4 (clear_limits (put 0 a h.0) s h.5 clear_nothing))
  no_fault (STuple s es) n g t h =
      clear_part h.0 h.2 (no_faults es n g h.0 h.2) (λ u k. one_pass_all es n g _ u h.2 k)
      (clear_limits (TTuple h.0) s h.3 clear_nothing)
  no_fault (SProj s i e) n g t h =
      clear_part (TTuple h.0) h.2 (no_fault e n g _ h.2) (λ u k. one_pass e n g _ u h.2 k)
      (clear_some _ h.1)
  no_fault (SArith s op a b) n g t h =
      clear_part TInt h.1 (no_fault a n g _ h.1) (λ u k. one_pass a n g _ u h.1 k) (clear_check refl
      (clear_part TInt h.2 (no_fault b n g _ h.2) (λ u k. one_pass b n g _ u h.2 k) (clear_check refl clear_nothing)))
  no_fault (SIf0 s c a b) n g t h =
      clear_part TInt h.0 (no_fault c n g _ h.0) (λ u k. one_pass c n g _ u h.0 k) (clear_check refl
      (clear_part t h.1 (no_fault a n g _ h.1) (λ u k. one_pass a n g _ u h.1 k)
      (clear_part t h.2 (no_fault b n g _ h.2) (λ u k. one_pass b n g _ u h.2 k) (clear_check refl clear_nothing))))
  no_fault (SLet s a b) n g t h =
      clear_part h.0 h.1 (no_fault a n g _ h.1) (λ u k. one_pass a n g _ u h.1 k) (no_fault b n (MoreTys h.0 g) t h.2)
  no_fault (SPack s x e r) n g t h =
      clear_package _ _ h.1 (clear_limits x s h.6 (clear_limits r s h.7
      (clear_part (put 0 x h.0) h.5 (no_fault e n g _ h.5) (λ u k. one_pass e n g _ u h.5 k)
      (clear_check refl clear_nothing))))
  no_fault (SOpen s a b) n g t h =
      clear_part (TSome h.0) h.2 (no_fault a n g _ h.2) (λ u k. one_pass a n g _ u h.2 k)
      (clear_part (shift 1 0 t) h.3 (no_fault b _ _ _ h.3) (λ u k. one_pass b _ _ _ u h.3 k)
      (clear_check (t, (refl, h.1)) clear_nothing))
  no_fault (SRef s e) n g t h =
      clear_part h.0 h.2 (no_fault e n g _ h.2) (λ u k. one_pass e n g _ u h.2 k)
      (clear_limits (TRef h.0) s h.3 clear_nothing)
  no_fault (SDeref s e) n g t h =
      clear_part (TRef t) h (no_fault e n g _ h) (λ u k. one_pass e n g _ u h k) clear_nothing
  no_fault (SAssign s a b) n g t h =
      clear_part (TRef h.0) h.2 (no_fault a n g _ h.2) (λ u k. one_pass a n g _ u h.2 k)
      (clear_part h.0 h.3 (no_fault b n g _ h.3) (λ u k. one_pass b n g _ u h.3 k) (clear_check refl clear_nothing))

  no_faults : (es : Tms) (n : ℕ) (g ts : Tys) → PassAll es n g ts → Clear (FaultAllNoted es n g)
  no_faults NoTms n g ts h = clear_nothing
  no_faults (MoreTms e es) n g ts h =
      clear_part h.0 h.3 (no_fault e n g _ h.3) (λ u k. one_pass e n g _ u h.3 k) (no_faults es n g h.1 h.4)

mutual
  fault_one : (e : Tm) (n : ℕ) (g : Tys) → One (FaultNoted e n g)
  fault_one (SVar s i) n g = one_nothing
  fault_one (SNum s i) n g = one_nothing
  fault_one (SFix s arg res e) n g =
      one_limits (TArrow arg res) s
      (one_part (fault_one e n _) (no_fault e n _) (one_pass e n _) (λ t. one_check one_refuse one_nothing))
  fault_one (SApp s f x) n g =
      one_part (fault_one f n g) (no_fault f n g) (one_pass f n g) (λ t. one_arrow t one_refuse (λ a b.
      one_part (fault_one x n g) (no_fault x n g) (one_pass x n g) (λ u. one_check one_refuse one_nothing)))
  fault_one (SGen s e) n g =
      one_part (fault_one e _ _) (no_fault e _ _) (one_pass e _ _) (λ t. one_limits (TAll t) s one_nothing)
  fault_one (SInst s e a) n g =
      one_part (fault_one e n g) (no_fault e n g) (one_pass e n g)
      (λ t. one_all t one_refuse (λ b. one_limits a s (one_limits (put 0 a b) s one_nothing)))
  fault_one (STuple s es) n g =
      one_part (faults_one es n g) (no_faults es n g) (one_pass_all es n g)
      (λ ts. one_limits (TTuple ts) s one_nothing)
  fault_one (SProj s i e) n g =
      one_part (fault_one e n g) (no_fault e n g) (one_pass e n g)
      (λ t. one_tuple t one_refuse (λ ts. one_none _ (field_ty ts i) one_refuse))
  fault_one (SArith s op a b) n g =
      one_part (fault_one a n g) (no_fault a n g) (one_pass a n g) (λ t. one_check one_refuse
      (one_part (fault_one b n g) (no_fault b n g) (one_pass b n g) (λ u. one_check one_refuse one_nothing)))
  fault_one (SIf0 s c a b) n g =
      one_part (fault_one c n g) (no_fault c n g) (one_pass c n g) (λ t. one_check one_refuse
      (one_part (fault_one a n g) (no_fault a n g) (one_pass a n g) (λ u.
      one_part (fault_one b n g) (no_fault b n g) (one_pass b n g) (λ v. one_check one_refuse one_nothing))))
  fault_one (SLet s a b) n g =
      one_part (fault_one a n g) (no_fault a n g) (one_pass a n g) (λ t. fault_one b n (MoreTys t g))
  fault_one (SPack s x e r) n g =
      one_some r one_refuse (λ u. one_limits x s (one_limits r s
      (one_part (fault_one e n g) (no_fault e n g) (one_pass e n g)
      (λ t. one_check (one_fitting _ _ _ _) one_nothing))))
  fault_one (SOpen s a b) n g =
      one_part (fault_one a n g) (no_fault a n g) (one_pass a n g) (λ t. one_some t one_refuse (λ u.
      one_part (fault_one b _ _) (no_fault b _ _) (one_pass b _ _) (λ v. one_check one_refuse one_nothing)))
  fault_one (SRef s e) n g =
      one_part (fault_one e n g) (no_fault e n g) (one_pass e n g) (λ t. one_limits (TRef t) s one_nothing)
  fault_one (SDeref s e) n g =
      one_part (fault_one e n g) (no_fault e n g) (one_pass e n g) (λ t. one_ref t one_refuse (λ u. one_nothing))
  fault_one (SAssign s a b) n g =
      one_part (fault_one a n g) (no_fault a n g) (one_pass a n g) (λ t. one_ref t one_refuse (λ u.
      one_part (fault_one b n g) (no_fault b n g) (one_pass b n g) (λ v. one_check one_refuse one_nothing)))

  faults_one : (es : Tms) (n : ℕ) (g : Tys) → One (FaultAllNoted es n g)
  faults_one NoTms n g = one_nothing
  faults_one (MoreTms e es) n g = one_part (fault_one e n g) (no_fault e n g) (one_pass e n g) (λ t. faults_one es n g)

pub no_fault_beside : NoFaultBesideAPass
no_fault_beside e n g t c p h k = (no_fault e n g t h).clear (c, k.0) p k.1

pub one_fault : OneFault
one_fault e n g c d p q h k =
    let same = (fault_one e n g).one (c, h.0) (d, k.0) p q h.1 k.1 in (ap (λ (x : Note). x.0) same.0, same.1)

pub one_mismatch : OneMismatch
one_mismatch e n g c d p q m k h i =
    ap (λ (x : Note). x.1) ((fault_one e n g).one (c, m) (d, k) p q h i).0
