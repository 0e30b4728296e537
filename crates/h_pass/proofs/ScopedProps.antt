-- That names are in scope, and that bodies are small, is a proposition.
use Rattle.std.proofs.Common.{ℕ, suc}
use Rattle.std.proofs.Props.{props}
use Rattle.calc_core.specs.Ends.{lift}
use Rattle.c_terms.specs.C.{CApply, CArith, CCall, CCell, CCode, CDecl, CGet, CHalt, CIf, CInt, CLet, CName, CPack}
use Rattle.c_terms.specs.C.{CProj, CSet, CTm, CTuple, CUnpack, CVal, CVals, CVar, MoreCVals, NoCVals, ccount}
use Rattle.c_terms.specs.Scope.{CScoped, CScoped_d, CScoped_v, CScoped_vs}
use Rattle.c_terms.specs.Size.{CSmall, CSmall_d, CSmall_t, CSmall_v, CSmall_vs}

mutual
  prop_v : (e : ℕ) (v : CVal) → IsProp (CScoped_v e v)
  prop_v e (CVar i) = hlevel props
  prop_v e (CInt n) = hlevel
  prop_v e (CTuple vs) = prop_vs e vs
  prop_v e (CCode owes args body) = scoped_prop (lift (ccount args) 1) body
  prop_v e (CApply v ts) = prop_v e v
  prop_v e (CPack h v s) = prop_v e v

  prop_vs : (e : ℕ) (vs : CVals) → IsProp (CScoped_vs e vs)
  prop_vs e NoCVals = hlevel
  prop_vs e (MoreCVals v vs) = hlevel (prop_v e v, prop_vs e vs)

  prop_d : (e : ℕ) (x : CDecl) → IsProp (CScoped_d e x)
  prop_d e (CName v) = prop_v e v
  prop_d e (CProj i v) = prop_v e v
  prop_d e (CArith op v w) = hlevel (prop_v e v, prop_v e w)
  prop_d e (CUnpack v) = prop_v e v
  prop_d e (CCell v) = prop_v e v
  prop_d e (CGet v) = prop_v e v
  prop_d e (CSet v w) = hlevel (prop_v e v, prop_v e w)

  scoped_prop : (e : ℕ) (t : CTm) → IsProp (CScoped e t)
  scoped_prop e (CLet x t) = hlevel (prop_d e x, scoped_prop (suc e) t)
  scoped_prop e (CCall f ts vs) = hlevel (prop_v e f, prop_vs e vs)
  scoped_prop e (CIf v t u) = hlevel (prop_v e v, scoped_prop e t, scoped_prop e u)
  scoped_prop e (CHalt v) = prop_v e v

mutual
  small_v : (M : ℕ) (v : CVal) → IsProp (CSmall_v M v)
  small_v M (CVar i) = hlevel
  small_v M (CInt n) = hlevel
  small_v M (CTuple vs) = small_vs M vs
  small_v M (CCode owes args body) = hlevel (props, small_t M body)
  small_v M (CApply v ts) = small_v M v
  small_v M (CPack h v s) = small_v M v

  small_vs : (M : ℕ) (vs : CVals) → IsProp (CSmall_vs M vs)
  small_vs M NoCVals = hlevel
  small_vs M (MoreCVals v vs) = hlevel (small_v M v, small_vs M vs)

  small_d : (M : ℕ) (x : CDecl) → IsProp (CSmall_d M x)
  small_d M (CName v) = small_v M v
  small_d M (CProj i v) = small_v M v
  small_d M (CArith op v w) = hlevel (small_v M v, small_v M w)
  small_d M (CUnpack v) = small_v M v
  small_d M (CCell v) = small_v M v
  small_d M (CGet v) = small_v M v
  small_d M (CSet v w) = hlevel (small_v M v, small_v M w)

  small_t : (M : ℕ) (t : CTm) → IsProp (CSmall_t M t)
  small_t M (CLet x t) = hlevel (small_d M x, small_t M t)
  small_t M (CCall f ts vs) = hlevel (small_v M f, small_vs M vs)
  small_t M (CIf v t u) = hlevel (small_v M v, small_t M t, small_t M u)
  small_t M (CHalt v) = small_v M v

pub walked_prop : (M : ℕ) (t : CTm) → IsProp (CScoped 0 t × CSmall M t)
walked_prop M t = hlevel (scoped_prop 0 t, props, small_t M t)
