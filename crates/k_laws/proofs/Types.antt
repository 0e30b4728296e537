-- The types beside a term.
use Rattle.std.proofs.Common.{◌≡◌, ℕ, ◌+◌, Bool, true, false, refl, sym, ap, ap₂, ◌∙◌, subst}
use Rattle.f_terms.specs.Ty.{Ty, TInt, TArrow, TAll, TTuple, TSome, TRef, Tys, NoTys, MoreTys, shift, put}
use Rattle.f_terms.specs.Tm.{Term, MVar, MNum, MFix, MApp, MGen, MInst, MTuple, MProj, MArith, MIf0, MLet, MPack}
use Rattle.f_terms.specs.Tm.{MOpen, MRef, MDeref, MAssign, Terms, NoTerms, MoreTerms}
use Rattle.f_terms.specs.Typing.{field_ty, raised, in_fix, in_open, HasType, HaveTypes, IsProgram}
use Rattle.k_laws.specs.Annotated.{Annotated, AllAnnotated}
use Rattle.f_terms.specs.Noted.{bare, bare_all, or_int, result_of, body_of, fields_of, opened_of, held_of, outside}
use Rattle.f_terms.specs.Noted.{type_of, types_of}
use Rattle.f_terms.specs.TyLaws.{unshift}
use Rattle.k_laws.specs.Annotate.{kept, annotate, annotate_all, cps_term}
use Rattle.k_laws.specs.Translates.{cps_program}
use Rattle.k_laws.proofs.Fits.{meets_program}

mutual
  pub type_is : (e : Term) (n : ℕ) (g : Tys) (t : Ty) → HasType e n g t → type_of e g ≡ t
  type_is (MVar i) n g t h = ap or_int h
  type_is (MNum i) n g t h = sym h
  type_is (MFix arg res e) n g t h = sym h.0
  type_is (MApp f x) n g t h = ap result_of (type_is f n g (TArrow h.0 t) h.1)
  type_is (MGen e) n g t h = ap TAll (type_is e (n + 1) (raised g) h.0 h.2) ∙ sym h.1
  type_is (MInst e s) n g t h = ap (λ u. put 0 s (body_of u)) (type_is e n g (TAll h.0) h.3) ∙ sym h.1
  type_is (MTuple es) n g t h = ap TTuple (types_are es n g h.0 h.2) ∙ sym h.1
  type_is (MProj i e) n g t h =
      ap (λ u. or_int (field_ty (fields_of u) i)) (type_is e n g (TTuple h.0) h.2) ∙ ap or_int h.1
  type_is (MArith op a b) n g t h = sym h.0
  type_is (MIf0 c a b) n g t h = type_is a n g t h.1
  type_is (MLet a b) n g t h =
      ap (λ u. type_of b (MoreTys u g)) (type_is a n g h.0 h.1) ∙ type_is b n (MoreTys h.0 g) t h.2
  type_is (MPack hid e s) n g t h = sym h.2
  type_is (MOpen a b) n g t h =
      ap (λ u. outside (type_of b (in_open (opened_of u) g))) (type_is a n g (TSome h.0) h.2)
      ∙ ap outside (type_is b (n + 1) (in_open h.0 g) (shift 1 0 t) h.3) ∙ unshift t
  type_is (MRef e) n g t h = ap TRef (type_is e n g h.0 h.2) ∙ sym h.1
  type_is (MDeref e) n g t h = ap held_of (type_is e n g (TRef t) h)
  type_is (MAssign a b) n g t h = sym h.1

  pub types_are : (es : Terms) (n : ℕ) (g ts : Tys) → HaveTypes es n g ts → types_of es g ≡ ts
  types_are NoTerms n g ts h = sym h
  types_are (MoreTerms e es) n g ts h = ap₂ MoreTys (type_is e n g h.0 h.3) (types_are es n g h.1 h.4) ∙ sym h.2

kept_is : (tail : Bool) (u t : Ty) → u ≡ t → tail ≡ false → kept tail u ≡ t
kept_is true u t e h = let x : true ≡ false = h in cc
kept_is false u t e h = e

mutual
  annotated : (tail : Bool) (e : Term) (n : ℕ) (g : Tys) (t : Ty) → HasType e n g t →
      Annotated tail (annotate tail e g) n g t
  annotated tail (MVar i) n g t h = h
  annotated tail (MNum i) n g t h = h
  annotated tail (MFix arg res e) n g t h = (h.0, h.1, h.2, annotated true e n (in_fix arg res g) res h.3)
  annotated tail (MApp f x) n g t h = (
    kept_is tail _ t (type_is (MApp f x) n g t h),
    (h.0, annotated false f n g (TArrow h.0 t) h.1, annotated false x n g h.0 h.2),
  )
  annotated tail (MGen e) n g t h =
      let is = type_is e (n + 1) (raised g) h.0 h.2 in (
        h.1 ∙ ap TAll (sym is),
        subst (Annotated true (annotate true e (raised g)) (n + 1) (raised g)) (sym is)
            (annotated true e (n + 1) (raised g) h.0 h.2),
      )
  annotated tail (MInst e s) n g t h =
      (kept_is tail _ t (type_is (MInst e s) n g t h), (h.0, h.1, h.2, annotated false e n g (TAll h.0) h.3))
  annotated tail (MTuple es) n g t h = (type_is (MTuple es) n g t h, (h.0, h.1, all_annotated es n g h.0 h.2))
  annotated tail (MProj i e) n g t h = (type_is (MProj i e) n g t h, (h.0, h.1, annotated false e n g (TTuple h.0) h.2))
  annotated tail (MArith op a b) n g t h = (h.0, annotated false a n g TInt h.1, annotated false b n g TInt h.2)
  annotated tail (MIf0 c a b) n g t h = (
    kept_is tail _ t (type_is a n g t h.1),
    annotated false c n g TInt h.0,
    annotated true a n g t h.1,
    annotated true b n g t h.2,
  )
  annotated tail (MLet a b) n g t h = (
    h.0,
    annotated false a n g h.0 h.1,
    subst (λ (u : Ty). Annotated tail (annotate tail b (MoreTys u g)) n (MoreTys h.0 g) t)
        (sym (type_is a n g h.0 h.1)) (annotated tail b n (MoreTys h.0 g) t h.2),
  )
  annotated tail (MPack hid e s) n g t h = (h.0, h.1, h.2, h.3, h.4, annotated false e n g (put 0 hid h.0) h.5)
  annotated tail (MOpen a b) n g t h =
      let is : h.0 ≡ opened_of (type_of a g) = sym (ap opened_of (type_is a n g (TSome h.0) h.2)) in (
        h.1,
        subst (λ (u : Ty). Annotated false (annotate false a g) n g (TSome u)) is
            (annotated false a n g (TSome h.0) h.2),
        subst (λ (u : Ty). Annotated tail (annotate tail b (in_open u g)) (n + 1) (in_open u g) (shift 1 0 t)) is
            (annotated tail b (n + 1) (in_open h.0 g) (shift 1 0 t) h.3),
      )
  annotated tail (MRef e) n g t h = (type_is (MRef e) n g t h, (h.0, h.1, annotated false e n g h.0 h.2))
  annotated tail (MDeref e) n g t h = (type_is (MDeref e) n g t h, annotated false e n g (TRef t) h)
  annotated tail (MAssign a b) n g t h = (h.0, h.1, annotated false a n g (TRef h.0) h.2, annotated false b n g h.0 h.3)

  all_annotated : (es : Terms) (n : ℕ) (g ts : Tys) → HaveTypes es n g ts → AllAnnotated (annotate_all es g) n g ts
  all_annotated NoTerms n g ts h = h
  all_annotated (MoreTerms e es) n g ts h = (h.0, h.1, h.2, annotated false e n g h.0 h.3, all_annotated es n g h.1 h.4)

mutual
  pub same : (tail : Bool) (e : Term) (g : Tys) → bare (annotate tail e g) ≡ e
  same tail (MVar i) g = refl
  same tail (MNum i) g = refl
  same tail (MFix arg res e) g = ap (MFix arg res) (same true e (in_fix arg res g))
  same tail (MApp f x) g = ap₂ MApp (same false f g) (same false x g)
  same tail (MGen e) g = ap MGen (same true e (raised g))
  same tail (MInst e s) g = ap (λ u. MInst u s) (same false e g)
  same tail (MTuple es) g = ap MTuple (same_all es g)
  same tail (MProj i e) g = ap (MProj i) (same false e g)
  same tail (MArith op a b) g = ap₂ (MArith op) (same false a g) (same false b g)
  same tail (MIf0 c a b) g =
      ap₂ (λ u v. MIf0 u v (bare (annotate true b g))) (same false c g) (same true a g) ∙ ap (MIf0 c a) (same true b g)
  same tail (MLet a b) g = ap₂ MLet (same false a g) (same tail b (MoreTys (type_of a g) g))
  same tail (MPack hid e s) g = ap (λ u. MPack hid u s) (same false e g)
  same tail (MOpen a b) g = ap₂ MOpen (same false a g) (same tail b (in_open (opened_of (type_of a g)) g))
  same tail (MRef e) g = ap MRef (same false e g)
  same tail (MDeref e) g = ap MDeref (same false e g)
  same tail (MAssign a b) g = ap₂ MAssign (same false a g) (same false b g)

  same_all : (es : Terms) (g : Tys) → bare_all (annotate_all es g) ≡ es
  same_all NoTerms g = refl
  same_all (MoreTerms e es) g = ap₂ MoreTerms (same false e g) (same_all es g)

pub translated : (e : Term) → IsProgram e → cps_program e (cps_term e)
translated e h =
    subst (λ u. cps_program u (cps_term e)) (same false e NoTys)
    (meets_program (annotate false e NoTys) (annotated false e 0 NoTys TInt h))
