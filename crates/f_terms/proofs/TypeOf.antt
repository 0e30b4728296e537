-- The type that a term passes with is its type.
use Rattle.std.proofs.Common.{◌≡◌, ℕ, ◌+◌, sym, ap, ap₂, ◌∙◌}
use Rattle.f_terms.specs.Ty.{Ty, TArrow, TAll, TTuple, TSome, TRef, Tys, MoreTys, shift, put}
use Rattle.f_terms.specs.Tm.{Tm, SVar, SNum, SFix, SApp, SGen, SInst, STuple, SProj, SArith, SIf0, SLet, SPack, SOpen}
use Rattle.f_terms.specs.Tm.{SRef, SDeref, SAssign, Tms, NoTms, MoreTms, plain, plain_all}
use Rattle.f_terms.specs.TyLaws.{unshift}
use Rattle.f_terms.specs.Typing.{field_ty, raised, in_open}
use Rattle.f_terms.specs.Faults.{Passes, PassAll}
use Rattle.f_terms.specs.Noted.{or_int, result_of, body_of, fields_of, opened_of, held_of, outside, type_of, types_of}

mutual
  pub type_passed : (e : Tm) (n : ℕ) (g : Tys) (t : Ty) → Passes e n g t → type_of (plain e) g ≡ t
  type_passed (SVar s i) n g t h = ap or_int h
  type_passed (SNum s i) n g t h = sym h
  type_passed (SFix s arg res e) n g t h = sym h.0
  type_passed (SApp s f x) n g t h = ap result_of (type_passed f n g (TArrow h.0 t) h.1)
  type_passed (SGen s e) n g t h = ap TAll (type_passed e (n + 1) (raised g) h.0 h.2) ∙ sym h.1
  type_passed (SInst s e a) n g t h = ap (λ u. put 0 a (body_of u)) (type_passed e n g (TAll h.0) h.3) ∙ sym h.1
  type_passed (STuple s es) n g t h = ap TTuple (types_passed es n g h.0 h.2) ∙ sym h.1
  type_passed (SProj s i e) n g t h =
      ap (λ u. or_int (field_ty (fields_of u) i)) (type_passed e n g (TTuple h.0) h.2) ∙ ap or_int h.1
  type_passed (SArith s op a b) n g t h = sym h.0
  type_passed (SIf0 s c a b) n g t h = type_passed a n g t h.1
  type_passed (SLet s a b) n g t h =
      ap (λ u. type_of (plain b) (MoreTys u g)) (type_passed a n g h.0 h.1) ∙ type_passed b n (MoreTys h.0 g) t h.2
  type_passed (SPack s x e r) n g t h = sym h.2
  type_passed (SOpen s a b) n g t h =
      ap (λ u. outside (type_of (plain b) (in_open (opened_of u) g))) (type_passed a n g (TSome h.0) h.2)
      ∙ ap outside (type_passed b (n + 1) (in_open h.0 g) (shift 1 0 t) h.3) ∙ unshift t
  type_passed (SRef s e) n g t h = ap TRef (type_passed e n g h.0 h.2) ∙ sym h.1
  type_passed (SDeref s e) n g t h = ap held_of (type_passed e n g (TRef t) h)
  type_passed (SAssign s a b) n g t h = sym h.1

  types_passed : (es : Tms) (n : ℕ) (g ts : Tys) → PassAll es n g ts → types_of (plain_all es) g ≡ ts
  types_passed NoTms n g ts h = sym h
  types_passed (MoreTms e es) n g ts h = ap₂ MoreTys (type_passed e n g h.0 h.3) (types_passed es n g h.1 h.4) ∙ sym h.2
