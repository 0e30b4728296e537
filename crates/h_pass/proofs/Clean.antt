-- A typed term has nothing that is missing.
use Rattle.std.proofs.Common.{ℕ, List, subst}
use Rattle.c_terms.specs.C.{CApply, CArith, CCall, CCell, CCode, CDecl, CGet, CHalt, CIf, CInt, CLet, CName, CPack}
use Rattle.c_terms.specs.C.{CProj, CSet, CTm, CTuple, CTy, CTys, CUnpack, CVal, CVals, CVar, MoreCVals}
use Rattle.c_terms.specs.C.{NoCVals, TCCode}
use Rattle.c_terms.specs.Typing.{CTyped, CGives, CHas, CHave}

abbrev NotNumber : CVal → Type 0
NotNumber (CInt n) = ⊥
NotNumber v = Unit {0}

-- no number is applied to types
abbrev mutual
  pub Clean_v : CVal → Type 0
  Clean_v (CVar i) = Unit {0}
  Clean_v (CInt n) = Unit {0}
  Clean_v (CTuple vs) = Clean_vs vs
  Clean_v (CCode owes args body) = Clean_t body
  Clean_v (CApply v ts) = NotNumber v × Clean_v v
  Clean_v (CPack h v s) = Clean_v v

  pub Clean_vs : CVals → Type 0
  Clean_vs NoCVals = Unit {0}
  Clean_vs (MoreCVals v vs) = Clean_v v × Clean_vs vs

  pub Clean_d : CDecl → Type 0
  Clean_d (CName v) = Clean_v v
  Clean_d (CProj i v) = Clean_v v
  Clean_d (CArith op v w) = Clean_v v × Clean_v w
  Clean_d (CUnpack v) = Clean_v v
  Clean_d (CCell v) = Clean_v v
  Clean_d (CGet v) = Clean_v v
  Clean_d (CSet v w) = Clean_v v × Clean_v w

  pub Clean_t : CTm → Type 0
  Clean_t (CLet e t) = Clean_d e × Clean_t t
  Clean_t (CCall f ts vs) = Clean_v f × Clean_vs vs
  Clean_t (CIf v t u) = Clean_v v × Clean_t t × Clean_t u
  Clean_t (CHalt v) = Clean_v v

abbrev IsCodeType : CTy → Type 0
IsCodeType (TCCode owes args) = Unit {0}
IsCodeType t = ⊥

not_number : (n : ℕ) (g : List CTy) (v : CVal) (owes : ℕ) (args : CTys) → CHas n g v (TCCode owes args) →
    NotNumber v
not_number n g (CInt i) owes args h = subst IsCodeType h tt
not_number n g (CVar i) owes args h = tt
not_number n g (CTuple vs) owes args h = tt
not_number n g (CCode o a b) owes args h = tt
not_number n g (CApply v ts) owes args h = tt
not_number n g (CPack k v s) owes args h = tt

mutual
  clean_v : (n : ℕ) (g : List CTy) (v : CVal) (t : CTy) → CHas n g v t → Clean_v v
  clean_v n g (CVar i) t h = tt
  clean_v n g (CInt i) t h = tt
  clean_v n g (CTuple vs) t h = clean_vs n g vs h.0 h.2
  clean_v n g (CCode owes args body) t h = clean_t owes _ body h.2
  clean_v n g (CApply v ts) t h = (not_number n g v _ _ h.3, clean_v n g v _ h.3)
  clean_v n g (CPack k v s) t h = clean_v n g v _ h.5

  clean_vs : (n : ℕ) (g : List CTy) (vs : CVals) (ts : CTys) → CHave n g vs ts → Clean_vs vs
  clean_vs n g NoCVals ts h = tt
  clean_vs n g (MoreCVals v vs) ts h = (clean_v n g v h.0 h.3, clean_vs n g vs h.1 h.4)

  clean_d : (n : ℕ) (g : List CTy) (d : CDecl) (t : CTy) → CGives n g d t → Clean_d d
  clean_d n g (CName v) t h = clean_v n g v _ h
  clean_d n g (CProj i v) t h = clean_v n g v _ h.1
  clean_d n g (CArith op v w) t h = (clean_v n g v _ h.1, clean_v n g w _ h.2)
  clean_d n g (CUnpack v) t h = clean_v n g v _ h
  clean_d n g (CCell v) t h = clean_v n g v _ h.2
  clean_d n g (CGet v) t h = clean_v n g v _ h
  clean_d n g (CSet v w) t h = (clean_v n g v _ h.2, clean_v n g w _ h.3)

  pub clean_t : (n : ℕ) (g : List CTy) (t : CTm) → CTyped n g t → Clean_t t
  clean_t n g (CLet d t) h = (clean_d n g d _ h.1, clean_t _ _ t h.2)
  clean_t n g (CCall f ts vs) h = (clean_v n g f _ h.1, clean_vs n g vs _ h.3)
  clean_t n g (CIf v t u) h = (clean_v n g v _ h.0, clean_t n g t h.1, clean_t n g u h.2)
  clean_t n g (CHalt v) h = clean_v n g v _ h
