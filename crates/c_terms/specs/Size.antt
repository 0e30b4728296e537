-- How large each body of a closed program is, nested codes and types aside, and how many choices a program has.
use Rattle.std.specs.Prelude.{ℕ, ◌+◌, ◌≤◌}
use Rattle.c_terms.specs.C.{CVal, CVar, CInt, CTuple, CCode, CApply, CPack, CVals, NoCVals, MoreCVals, CDecl, CName}
use Rattle.c_terms.specs.C.{CProj, CArith, CUnpack, CCell, CGet, CSet, CTm, CLet, CCall, CIf, CHalt, ccount}
pub use Rattle.calc_core.specs.Size.{size_v as cown_v, size_vs as cown_vs, size_d as cown_d, size_t as cown_t}

-- each body, with its parameters, is at most so large
abbrev mutual
  pub CSmall_v : ℕ → CVal → Type 0
  CSmall_v M (CVar i) = Unit {0}
  CSmall_v M (CInt n) = Unit {0}
  CSmall_v M (CTuple vs) = CSmall_vs M vs
  CSmall_v M (CCode owes args body) = (ccount args + cown_t body ≤ M) × CSmall_t M body
  CSmall_v M (CApply v ts) = CSmall_v M v
  CSmall_v M (CPack h v s) = CSmall_v M v

  pub CSmall_vs : ℕ → CVals → Type 0
  CSmall_vs M NoCVals = Unit {0}
  CSmall_vs M (MoreCVals v vs) = CSmall_v M v × CSmall_vs M vs

  pub CSmall_d : ℕ → CDecl → Type 0
  CSmall_d M (CName v) = CSmall_v M v
  CSmall_d M (CProj i v) = CSmall_v M v
  CSmall_d M (CArith op v w) = CSmall_v M v × CSmall_v M w
  CSmall_d M (CUnpack v) = CSmall_v M v
  CSmall_d M (CCell v) = CSmall_v M v
  CSmall_d M (CGet v) = CSmall_v M v
  CSmall_d M (CSet v w) = CSmall_v M v × CSmall_v M w

  pub CSmall_t : ℕ → CTm → Type 0
  CSmall_t M (CLet d t) = CSmall_d M d × CSmall_t M t
  CSmall_t M (CCall f ts vs) = CSmall_v M f × CSmall_vs M vs
  CSmall_t M (CIf v t u) = CSmall_v M v × CSmall_t M t × CSmall_t M u
  CSmall_t M (CHalt v) = CSmall_v M v

abbrev pub CSmall : ℕ → CTm → Type 0
CSmall M t = (cown_t t ≤ M) × CSmall_t M t

-- the choices of a program: each needs one more block of the assembly program
abbrev mutual
  pub cifs_v : CVal → ℕ
  cifs_v (CVar i) = 0
  cifs_v (CInt n) = 0
  cifs_v (CTuple vs) = cifs_vs vs
  cifs_v (CCode owes args body) = cifs_t body
  cifs_v (CApply v ts) = cifs_v v
  cifs_v (CPack h v s) = cifs_v v

  pub cifs_vs : CVals → ℕ
  cifs_vs NoCVals = 0
  cifs_vs (MoreCVals v vs) = cifs_v v + cifs_vs vs

  pub cifs_d : CDecl → ℕ
  cifs_d (CName v) = cifs_v v
  cifs_d (CProj i v) = cifs_v v
  cifs_d (CArith op v w) = cifs_v v + cifs_v w
  cifs_d (CUnpack v) = cifs_v v
  cifs_d (CCell v) = cifs_v v
  cifs_d (CGet v) = cifs_v v
  cifs_d (CSet v w) = cifs_v v + cifs_v w

  pub cifs_t : CTm → ℕ
  cifs_t (CLet d t) = cifs_d d + cifs_t t
  cifs_t (CCall f ts vs) = cifs_v f + cifs_vs vs
  cifs_t (CIf v t u) = 1 + cifs_v v + cifs_t t + cifs_t u
  cifs_t (CHalt v) = cifs_v v
