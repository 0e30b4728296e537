-- A term has at most one type.
use Rattle.std.proofs.Common.{◌≡◌, ℕ, ◌+◌, sym, ap, ap₂, ◌∙◌, subst, Some}
use Rattle.f_terms.specs.Ty.{Ty, TInt, TArrow, TAll, TTuple, TSome, TRef, Tys, MoreTys, shift, put}
use Rattle.f_terms.specs.Tm.{Term, MVar, MNum, MFix, MApp, MGen, MInst, MTuple, MProj, MArith, MIf0, MLet, MPack, MOpen}
use Rattle.f_terms.specs.Tm.{MRef, MDeref, MAssign, Terms, NoTerms}
use Rattle.f_terms.specs.Tm.{MoreTerms}
use Rattle.f_terms.specs.TyLaws.{unshift}
use Rattle.f_terms.specs.Typing.{field_ty, raised, in_open, HasType, HaveTypes}
use Rattle.f_terms.specs.Laws.{OneType}

pub some_is : {A : Type 0} {a b : A} → Some a ≡ Some b → a ≡ b
some_is e = cc

pub result_is : {a b c d : Ty} → TArrow a b ≡ TArrow c d → b ≡ d
result_is e = cc

pub body_is : {a b : Ty} → TAll a ≡ TAll b → a ≡ b
body_is e = cc

pub fields_are : {a b : Tys} → TTuple a ≡ TTuple b → a ≡ b
fields_are e = cc

pub hidden_is : {a b : Ty} → TSome a ≡ TSome b → a ≡ b
hidden_is e = cc

pub held_is : {a b : Ty} → TRef a ≡ TRef b → a ≡ b
held_is e = cc

-- a shifted type is that of one type
pub shifted_is : (t u : Ty) → shift 1 0 t ≡ shift 1 0 u → t ≡ u
shifted_is t u e = sym (unshift t) ∙ ap (put 0 TInt) e ∙ unshift u

mutual
  one : (e : Term) (n : ℕ) (g : Tys) (t u : Ty) → HasType e n g t → HasType e n g u → t ≡ u
  one (MVar i) n g t u h k = some_is (sym h ∙ k)
  one (MNum i) n g t u h k = h ∙ sym k
  one (MFix arg res e) n g t u h k = h.0 ∙ sym k.0
  one (MApp f x) n g t u h k = result_is (one f n g (TArrow h.0 t) (TArrow k.0 u) h.1 k.1)
  one (MGen e) n g t u h k = h.1 ∙ ap TAll (one e (n + 1) (raised g) h.0 k.0 h.2 k.2) ∙ sym k.1
  one (MInst e s) n g t u h k = h.1 ∙ ap (put 0 s) (body_is (one e n g (TAll h.0) (TAll k.0) h.3 k.3)) ∙ sym k.1
  one (MTuple es) n g t u h k = h.1 ∙ ap TTuple (one_list es n g h.0 k.0 h.2 k.2) ∙ sym k.1
  one (MProj i e) n g t u h k = some_is
      (sym h.1 ∙ ap (λ ts. field_ty ts i) (fields_are (one e n g (TTuple h.0) (TTuple k.0) h.2 k.2)) ∙ k.1)
  one (MArith op a b) n g t u h k = h.0 ∙ sym k.0
  one (MIf0 c a b) n g t u h k = one a n g t u h.1 k.1
  one (MLet a b) n g t u h k =
      let e = one a n g h.0 k.0 h.1 k.1 in
      one b n (MoreTys k.0 g) t u (subst (λ s. HasType b n (MoreTys s g) t) e h.2) k.2
  one (MPack x e s) n g t u h k = h.2 ∙ sym k.2
  one (MOpen a b) n g t u h k =
      let e = hidden_is (one a n g (TSome h.0) (TSome k.0) h.2 k.2) in
      shifted_is t u (one b (n + 1) (in_open k.0 g) (shift 1 0 t) (shift 1 0 u)
      (subst (λ s. HasType b (n + 1) (in_open s g) (shift 1 0 t)) e h.3) k.3)
  one (MRef e) n g t u h k = h.1 ∙ ap TRef (one e n g h.0 k.0 h.2 k.2) ∙ sym k.1
  one (MDeref e) n g t u h k = held_is (one e n g (TRef t) (TRef u) h k)
  one (MAssign a b) n g t u h k = h.1 ∙ sym k.1

  pub one_list : (es : Terms) (n : ℕ) (g t u : Tys) → HaveTypes es n g t → HaveTypes es n g u → t ≡ u
  one_list NoTerms n g t u h k = h ∙ sym k
  one_list (MoreTerms e es) n g t u h k =
      h.2 ∙ ap₂ MoreTys (one e n g h.0 k.0 h.3 k.3) (one_list es n g h.1 k.1 h.4 k.4) ∙ sym k.2

pub one_type : OneType
one_type e n g t u h k = one e n g t u h k
