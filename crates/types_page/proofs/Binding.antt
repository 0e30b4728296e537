-- What the forms of a typed term bind, and that they bind it in one way.
use Rattle.std.proofs.Common.{◌≡◌, ℕ, ◌+◌, List, [], ◌∷◌, ◌++◌, refl, sym, ap, ap₂, ◌∙◌, subst}
use Rattle.f_terms.specs.Ty.{Ty, TInt, TArrow, TAll, TTuple, TSome, TRef, Tys, MoreTys, shift, put}
use Rattle.f_terms.specs.Tm.{Term, MVar, MNum, MFix, MApp, MGen, MInst, MTuple, MProj, MArith, MIf0, MLet, MPack, MOpen}
use Rattle.f_terms.specs.Tm.{MRef, MDeref, MAssign, Terms, NoTerms, MoreTerms}
use Rattle.f_terms.specs.Tm.{Tm, SVar, SNum, SFix, SApp, SGen, SInst, STuple, SProj, SArith, SIf0, SLet, SPack}
use Rattle.f_terms.specs.Tm.{SOpen, SRef, SDeref, SAssign, Tms, NoTms, MoreTms, plain, plain_all}
use Rattle.f_terms.specs.TyLaws.{unshift}
use Rattle.f_terms.specs.Typing.{HasType, HaveTypes, field_ty, raised, in_fix, in_open}
use Rattle.f_terms.specs.Noted.{or_int, result_of, body_of, fields_of, opened_of, held_of, outside, type_of, types_of}
use Rattle.f_terms.specs.OneType.{one_type, hidden_is}
use Rattle.types_page.specs.Binders.{Value, Function, TypeName, Opened, Binder, binder, Then, Both, Binds, AllBind}
use Rattle.types_page.specs.Binders.{OneBinding}
use Rattle.types_page.specs.Walk.{binders, all_binders}

-- the type of a typed term
mutual
  typed : (e : Term) (n : ℕ) (g : Tys) (t : Ty) → HasType e n g t → type_of e g ≡ t
  typed (MVar i) n g t h = ap or_int h
  typed (MNum z) n g t h = sym h
  typed (MFix arg res e) n g t h = sym h.0
  typed (MApp f x) n g t h = ap result_of (typed f n g (TArrow h.0 t) h.1)
  typed (MGen e) n g t h = ap TAll (typed e (n + 1) (raised g) h.0 h.2) ∙ sym h.1
  typed (MInst e s) n g t h = ap (λ u. put 0 s (body_of u)) (typed e n g (TAll h.0) h.3) ∙ sym h.1
  typed (MTuple es) n g t h = ap TTuple (all_typed es n g h.0 h.2) ∙ sym h.1
  typed (MProj i e) n g t h =
      ap (λ u. or_int (field_ty (fields_of u) i)) (typed e n g (TTuple h.0) h.2) ∙ ap or_int h.1
  typed (MArith op a b) n g t h = sym h.0
  typed (MIf0 c a b) n g t h = typed a n g t h.1
  typed (MLet a b) n g t h =
      ap (λ u. type_of b (MoreTys u g)) (typed a n g h.0 h.1) ∙ typed b n (MoreTys h.0 g) t h.2
  typed (MPack x e s) n g t h = sym h.2
  typed (MOpen a b) n g t h =
      ap (λ u. outside (type_of b (in_open (opened_of u) g))) (typed a n g (TSome h.0) h.2)
      ∙ ap outside (typed b (n + 1) (in_open h.0 g) (shift 1 0 t) h.3) ∙ unshift t
  typed (MRef e) n g t h = ap TRef (typed e n g h.0 h.2) ∙ sym h.1
  typed (MDeref e) n g t h = ap held_of (typed e n g (TRef t) h)
  typed (MAssign a b) n g t h = sym h.1

  all_typed : (es : Terms) (n : ℕ) (g ts : Tys) → HaveTypes es n g ts → types_of es g ≡ ts
  all_typed NoTerms n g ts h = sym h
  all_typed (MoreTerms e es) n g ts h =
      ap₂ MoreTys (typed e n g h.0 h.3) (all_typed es n g h.1 h.4) ∙ sym h.2

-- the function gives what a typed term binds
mutual
  pub binds : (e : Tm) (n : ℕ) (g : Tys) (t : Ty) → HasType (plain e) n g t → Binds e n g (binders e n g)
  binds (SVar s i) n g t h = refl
  binds (SNum s z) n g t h = refl
  binds (SFix s arg res e) n g t h =
      (binders e n (in_fix arg res g), binds e n (in_fix arg res g) res h.3, refl)
  binds (SApp s f x) n g t h =
      (binders f n g, binders x n g, binds f n g (TArrow h.0 t) h.1, binds x n g h.0 h.2, refl)
  binds (SGen s e) n g t h = (binders e (n + 1) (raised g), binds e (n + 1) (raised g) h.0 h.2, refl)
  binds (SInst s e a) n g t h = binds e n g (TAll h.0) h.3
  binds (STuple s es) n g t h = all_bind es n g h.0 h.2
  binds (SProj s i e) n g t h = binds e n g (TTuple h.0) h.2
  binds (SArith s op a b) n g t h =
      (binders a n g, binders b n g, binds a n g TInt h.1, binds b n g TInt h.2, refl)
  binds (SIf0 s c a b) n g t h = (
    binders c n g,
    binders a n g ++ binders b n g,
    binds c n g TInt h.0,
    (binders a n g, binders b n g, binds a n g t h.1, binds b n g t h.2, refl),
    refl,
  )
  binds (SLet s a b) n g t h =
      let u = type_of (plain a) g in
      let is : h.0 ≡ u = sym (typed (plain a) n g h.0 h.1) in
      let first = subst (λ (v : Ty). HasType (plain a) n g v) is h.1 in
      let second = subst (λ (v : Ty). HasType (plain b) n (MoreTys v g) t) is h.2 in (
        u,
        first,
        (
          binders a n g ++ binders b n (MoreTys u g),
          (binders a n g, binders b n (MoreTys u g), binds a n g u first, binds b n (MoreTys u g) t second, refl),
          refl,
        ),
      )
  binds (SPack s x e r) n g t h = binds e n g (put 0 x h.0) h.5
  binds (SOpen s a b) n g t h =
      let u = opened_of (type_of (plain a) g) in
      let is : h.0 ≡ u = sym (ap opened_of (typed (plain a) n g (TSome h.0) h.2)) in
      let first = subst (λ (v : Ty). HasType (plain a) n g (TSome v)) is h.2 in
      let second = subst (λ (v : Ty). HasType (plain b) (n + 1) (in_open v g) (shift 1 0 t)) is h.3 in (
        u,
        first,
        (
          binders a n g ++ binders b (n + 1) (in_open u g),
          (
            binders a n g,
            binders b (n + 1) (in_open u g),
            binds a n g (TSome u) first,
            binds b (n + 1) (in_open u g) (shift 1 0 t) second,
            refl,
          ),
          refl,
        ),
      )
  binds (SRef s e) n g t h = binds e n g h.0 h.2
  binds (SDeref s e) n g t h = binds e n g (TRef t) h
  binds (SAssign s a b) n g t h =
      (binders a n g, binders b n g, binds a n g (TRef h.0) h.2, binds b n g h.0 h.3, refl)

  all_bind : (es : Tms) (n : ℕ) (g ts : Tys) → HaveTypes (plain_all es) n g ts → AllBind es n g (all_binders es n g)
  all_bind NoTms n g ts h = refl
  all_bind (MoreTms e es) n g ts h =
      (binders e n g, all_binders es n g, binds e n g h.0 h.3, all_bind es n g h.1 h.4, refl)

-- one list at most
abbrev IsOne : (List Binder → Type 0) → Type 0
IsOne P = (bs cs : List Binder) → P bs → P cs → bs ≡ cs

none : IsOne (λ bs. bs ≡ [])
none bs cs h k = h ∙ sym k

then_one : (b : Binder) (P : List Binder → Type 0) → IsOne P → IsOne (Then b P)
then_one b P one bs cs h k = h.2 ∙ ap (λ (zs : List Binder). b ∷ zs) (one h.0 k.0 h.1 k.1) ∙ sym k.2

both_one : (P Q : List Binder → Type 0) → IsOne P → IsOne Q → IsOne (Both P Q)
both_one P Q one two bs cs h k =
    h.4 ∙ ap₂ (λ (xs ys : List Binder). xs ++ ys) (one h.0 k.0 h.2 k.2) (two h.1 k.1 h.3 k.3) ∙ sym k.4

mutual
  one : (e : Tm) (n : ℕ) (g : Tys) → IsOne (Binds e n g)
  one (SVar s i) n g = none
  one (SNum s z) n g = none
  one (SFix s arg res e) n g =
      then_one (binder s n (Function arg res)) (Binds e n (in_fix arg res g)) (one e n (in_fix arg res g))
  one (SApp s f x) n g = both_one (Binds f n g) (Binds x n g) (one f n g) (one x n g)
  one (SGen s e) n g = then_one (binder s n TypeName) (Binds e (n + 1) (raised g)) (one e (n + 1) (raised g))
  one (SInst s e t) n g = one e n g
  one (STuple s es) n g = all_one es n g
  one (SProj s i e) n g = one e n g
  one (SArith s op a b) n g = both_one (Binds a n g) (Binds b n g) (one a n g) (one b n g)
  one (SIf0 s c a b) n g =
      both_one (Binds c n g) (Both (Binds a n g) (Binds b n g)) (one c n g)
      (both_one (Binds a n g) (Binds b n g) (one a n g) (one b n g))
  one (SLet s a b) n g = λ bs cs h k.
      let is : k.0 ≡ h.0 = one_type (plain a) n g k.0 h.0 k.1 h.1 in
      let same = subst (λ (u : Ty). Then (binder s n (Value u)) (Both (Binds a n g) (Binds b n (MoreTys u g))) cs) is
      k.2 in
      then_one (binder s n (Value h.0)) (Both (Binds a n g) (Binds b n (MoreTys h.0 g)))
      (both_one (Binds a n g) (Binds b n (MoreTys h.0 g)) (one a n g) (one b n (MoreTys h.0 g))) bs cs h.2 same
  one (SPack s x e r) n g = one e n g
  one (SOpen s a b) n g = λ bs cs h k.
      let is : k.0 ≡ h.0 = hidden_is (one_type (plain a) n g (TSome k.0) (TSome h.0) k.1 h.1) in
      let same = subst
      (λ (u : Ty). Then (binder s n (Opened u)) (Both (Binds a n g) (Binds b (n + 1) (in_open u g))) cs) is k.2 in
      then_one (binder s n (Opened h.0)) (Both (Binds a n g) (Binds b (n + 1) (in_open h.0 g)))
      (both_one (Binds a n g) (Binds b (n + 1) (in_open h.0 g)) (one a n g) (one b (n + 1) (in_open h.0 g))) bs cs
      h.2 same
  one (SRef s e) n g = one e n g
  one (SDeref s e) n g = one e n g
  one (SAssign s a b) n g = both_one (Binds a n g) (Binds b n g) (one a n g) (one b n g)

  all_one : (es : Tms) (n : ℕ) (g : Tys) → IsOne (AllBind es n g)
  all_one NoTms n g = none
  all_one (MoreTms e es) n g = both_one (Binds e n g) (AllBind es n g) (one e n g) (all_one es n g)

pub one_binding : OneBinding
one_binding e n g bs cs h k = one e n g bs cs h k
