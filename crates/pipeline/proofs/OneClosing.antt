-- The rules of closure conversion give one closed term.
use Rattle.std.proofs.Common.{◌≡◌, ℕ, zero, suc, List, [], ◌∷◌, refl, sym, ap, ap₂, ◌∙◌}
use Rattle.k_terms.specs.K.{KVal, KVar, KInt, KTuple, KCode, KVals, NoKVals, MoreKVals, KDecl, KName, KProj, KArith}
use Rattle.k_terms.specs.K.{KPack, KUnpack, KCell, KGet, KSet, KTm, KLet, KCall, KIf, KHalt, opens}
use Rattle.k_terms.specs.Types.{kd_type}
use Rattle.c_terms.specs.C.{CVal, CVar, CTuple, CPack, CVals, MoreCVals, CDecl, CName, CProj, CArith, CUnpack}
use Rattle.c_terms.specs.C.{CCell, CGet, CSet, CTm, CLet, CCall, CIf, CHalt}
use Rattle.c_rules.specs.Close.{ctype, ctypes}
use Rattle.c_laws.specs.Row.{Names, IsPlace, Where, Stands, AllStand, ClosesValue, CloseValues, ClosesDecl, ClosesTerm}
use Rattle.c_laws.specs.Row.{IsTranslation, packed, closed_over, frees}
use Rattle.c_laws.specs.Row.{inside, in_call, nowhere, with_name, with_tvar}

one_place : (i : ℕ) (names : Names) (j k : ℕ) → IsPlace i names j → IsPlace i names k → j ≡ k
one_place i (x ∷ names) zero zero a b = refl
one_place i (x ∷ names) zero (suc k) a b = absurd (b.0 a)
one_place i (x ∷ names) (suc j) zero a b = absurd (a.0 b)
one_place i (x ∷ names) (suc j) (suc k) a b = ap suc (one_place i names j k a.1 b.1)
one_place i [] j k a b = absurd a

one_name : (w : Where) (i : ℕ) (x y : CVal) → Stands w i x → Stands w i y → x ≡ y
one_name w i x y a b = a.1 ∙ ap CVar (one_place i w.names a.0 b.0 a.2 b.2) ∙ sym b.1

all_names : (w : Where) (is : List ℕ) (xs ys : CVals) → AllStand w is xs → AllStand w is ys → xs ≡ ys
all_names w [] xs ys a b = a ∙ sym b
all_names w (i ∷ is) xs ys a b =
    a.2 ∙ ap₂ MoreCVals (one_name w i a.0 b.0 a.3 b.3) (all_names w is a.1 b.1 a.4 b.4) ∙ sym b.2

mutual
  one_v : (v : KVal) (w : Where) (x y : CVal) → ClosesValue w v x → ClosesValue w v y → x ≡ y
  one_v (KVar i) w x y a b = one_name w i x y a b
  one_v (KInt n) w x y a b = a ∙ sym b
  one_v (KTuple vs) w x y a b = a.1 ∙ ap CTuple (one_vs vs w a.0 b.0 a.2 b.2) ∙ sym b.1
  one_v (KCode owes args body) w x y a b =
      let names = all_names w (frees w args body) a.0 b.0 a.3 b.3 in
      let rest = one_t body (inside w owes args body) a.1 b.1 a.4 b.4 in
      let form : CTm → CVals → CVal =
      λ t vs. packed w.tvar w owes args body (closed_over w owes args body t) (CTuple vs) in
      a.2 ∙ ap₂ form rest names ∙ sym b.2

  one_vs : (vs : KVals) (w : Where) (xs ys : CVals) → CloseValues w vs xs → CloseValues w vs ys → xs ≡ ys
  one_vs NoKVals w xs ys a b = a ∙ sym b
  one_vs (MoreKVals v vs) w xs ys a b =
      a.2 ∙ ap₂ MoreCVals (one_v v w a.0 b.0 a.3 b.3) (one_vs vs w a.1 b.1 a.4 b.4) ∙ sym b.2

  one_d : (d : KDecl) (w : Where) (x y : CDecl) → ClosesDecl w d x → ClosesDecl w d y → x ≡ y
  one_d (KName v) w x y a b = a.1 ∙ ap CName (one_v v w a.0 b.0 a.2 b.2) ∙ sym b.1
  one_d (KProj i v) w x y a b = a.1 ∙ ap (CProj i) (one_v v w a.0 b.0 a.2 b.2) ∙ sym b.1
  one_d (KArith op v u) w x y a b =
      a.2 ∙ ap₂ (CArith op) (one_v v w a.0 b.0 a.3 b.3) (one_v u w a.1 b.1 a.4 b.4) ∙ sym b.2
  one_d (KPack h v s) w x y a b =
      a.1 ∙ ap (λ z. CName (CPack (ctype w.tvar h) z (ctype w.tvar s))) (one_v v w a.0 b.0 a.2 b.2) ∙ sym b.1
  one_d (KUnpack v) w x y a b = a.1 ∙ ap CUnpack (one_v v w a.0 b.0 a.2 b.2) ∙ sym b.1
  one_d (KCell v) w x y a b = a.1 ∙ ap CCell (one_v v w a.0 b.0 a.2 b.2) ∙ sym b.1
  one_d (KGet v) w x y a b = a.1 ∙ ap CGet (one_v v w a.0 b.0 a.2 b.2) ∙ sym b.1
  one_d (KSet v u) w x y a b =
      a.2 ∙ ap₂ CSet (one_v v w a.0 b.0 a.3 b.3) (one_v u w a.1 b.1 a.4 b.4) ∙ sym b.2

  one_t : (t : KTm) (w : Where) (x y : CTm) → ClosesTerm w t x → ClosesTerm w t y → x ≡ y
  one_t (KLet d t) w x y a b =
      let under = with_name (kd_type w.types d) (with_tvar (opens d) w) in
      a.2 ∙ ap₂ CLet (one_d d w a.0 b.0 a.3 b.3) (one_t t under a.1 b.1 a.4 b.4) ∙ sym b.2
  one_t (KCall f ts vs) w x y a b =
      let form : CVal → CVals → CTm = λ c us. CLet (CUnpack c)
      (CLet (CProj 1 (CVar 0))
      (CLet (CProj 2 (CVar 1)) (CCall (CVar 1) (ctypes (in_call w).tvar ts) (MoreCVals (CVar 0) us)))) in
      a.2 ∙ ap₂ form (one_v f w a.0 b.0 a.3 b.3) (one_vs vs (in_call w) a.1 b.1 a.4 b.4) ∙ sym b.2
  one_t (KIf v s t) w x y a b =
      let test = one_v v w a.0 b.0 a.4 b.4 in
      a.3 ∙ ap (λ c. CIf c a.1 a.2) test ∙ ap₂ (CIf b.0) (one_t s w a.1 b.1 a.5 b.5) (one_t t w a.2 b.2 a.6 b.6)
      ∙ sym b.3
  one_t (KHalt v) w x y a b = a.1 ∙ ap CHalt (one_v v w a.0 b.0 a.2 b.2) ∙ sym b.1

pub one_closing : (t : KTm) (x y : CTm) → IsTranslation t x → IsTranslation t y → x ≡ y
one_closing t x y a b = one_t t nowhere x y a b
