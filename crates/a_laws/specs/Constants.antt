-- The constants of a hoisted program, with the constants behind their variables written out; and the program in which
-- every tuple of constants is written so.
use Rattle.std.specs.Prelude.{ℕ, zero, suc, ◌&&◌, not, List, [], ◌∷◌, ◌++◌, Option, Some, None, Bool, true, false}
use Rattle.std.specs.Prelude.{option_map}
use Rattle.a_terms.specs.Meaning.{pick}
use Rattle.c_terms.specs.C.{CTy, CTys, NoCTys, MoreCTys}
use Rattle.h_terms.specs.H.{HVal, HVar, HInt, HLabel, HTuple, HApply, HPack, HVals, NoHVals, MoreHVals, HDecl, HName}
use Rattle.h_terms.specs.H.{HProj, HArith, HUnpack, HCell, HGet, HSet, HTm, HLet, HCall, HIf, HHalt, HBlk, HBlks}
use Rattle.a_laws.specs.Allocate.{atype, atypes, closed, all_closed, is_label}

-- the constant that each variable names, if it names one
abbrev pub Constants : Type 0
Constants = List (Option HVal)

abbrev pub constant_at : Constants → ℕ → Option HVal
constant_at [] i = None
constant_at (o ∷ os) zero = o
constant_at (o ∷ os) (suc i) = constant_at os i

abbrev pub is_package : HVal → Bool
is_package (HPack h v s) = true
is_package _ = false

-- a package of a constant, which is one where its types are closed and no package is in it directly
abbrev pub packed : CTy → CTy → Option HVal → Option HVal
packed h s None = None
packed h s (Some c) =
    pick (not (is_package c) && (closed 0 (atype h) && closed 0 (atype s))) (Some (HPack h c s)) None

abbrev pub two : Option HVal → Option HVals → Option HVals
two None o = None
two (Some c) None = None
two (Some c) (Some cs) = Some (MoreHVals c cs)

abbrev mutual
  -- the value of a constant
  pub constant : Constants → HVal → Option HVal
  constant os (HVar i) = constant_at os i
  constant os (HInt n) = Some (HInt n)
  constant os (HLabel l) = Some (HLabel l)
  constant os (HTuple vs) = option_map HTuple (constants os vs)
  constant os (HApply v ts) = pick (is_label v && all_closed 0 (atypes ts)) (Some (HApply v ts)) None
  constant os (HPack h v s) = packed h s (constant os v)

  pub constants : Constants → HVals → Option HVals
  constants os NoHVals = Some NoHVals
  constants os (MoreHVals v vs) = two (constant os v) (constants os vs)

-- the constant that a declaration names
abbrev pub named_by : Constants → HDecl → Option HVal
named_by os (HName v) = constant os v
named_by os _ = None

-- no argument names a constant
abbrev pub of_args : CTys → Constants → Constants
of_args NoCTys os = os
of_args (MoreCTys t ts) os = of_args ts (None ∷ os)

abbrev pub one_if : Option HVal → List HVal
one_if None = []
one_if (Some c) = c ∷ []

-- the tuples of constants in order, each after those inside it
abbrev mutual
  pub tuples_v : Constants → HVal → List HVal
  tuples_v os (HTuple vs) = tuples_vs os vs ++ one_if (constant os (HTuple vs))
  tuples_v os (HApply v ts) = tuples_v os v
  tuples_v os (HPack h v s) = tuples_v os v
  tuples_v os _ = []

  pub tuples_vs : Constants → HVals → List HVal
  tuples_vs os NoHVals = []
  tuples_vs os (MoreHVals v vs) = tuples_v os v ++ tuples_vs os vs

abbrev pub tuples_d : Constants → HDecl → List HVal
tuples_d os (HName v) = tuples_v os v
tuples_d os (HProj i v) = tuples_v os v
tuples_d os (HArith op v w) = tuples_v os v ++ tuples_v os w
tuples_d os (HUnpack v) = tuples_v os v
tuples_d os (HCell v) = tuples_v os v
tuples_d os (HGet v) = tuples_v os v
tuples_d os (HSet v w) = tuples_v os v ++ tuples_v os w

abbrev pub tuples_t : Constants → HTm → List HVal
tuples_t os (HLet e t) = tuples_d os e ++ tuples_t (named_by os e ∷ os) t
tuples_t os (HCall f ts vs) = tuples_v os f ++ tuples_vs os vs
tuples_t os (HIf v t u) = tuples_v os v ++ (tuples_t os t ++ tuples_t os u)
tuples_t os (HHalt v) = tuples_v os v

abbrev pub tuples_all : HBlks → List HVal
tuples_all [] = []
tuples_all (k ∷ ks) = tuples_t (of_args k.args []) k.body ++ tuples_all ks

-- of a whole program: of its blocks in order, and then of its main term
abbrev pub tuples_in : HBlks → HTm → List HVal
tuples_in ks t = tuples_all ks ++ tuples_t [] t

abbrev pub or_else : Option HVal → HVal → HVal
or_else None v = v
or_else (Some c) v = c

-- each tuple of constants with its variables written out, and nothing else changed
abbrev mutual
  pub settle_v : Constants → HVal → HVal
  settle_v os (HVar i) = HVar i
  settle_v os (HInt n) = HInt n
  settle_v os (HLabel l) = HLabel l
  settle_v os (HTuple vs) = or_else (constant os (HTuple vs)) (HTuple (settle_vs os vs))
  settle_v os (HApply v ts) = HApply (settle_v os v) ts
  settle_v os (HPack h v s) = HPack h (settle_v os v) s

  pub settle_vs : Constants → HVals → HVals
  settle_vs os NoHVals = NoHVals
  settle_vs os (MoreHVals v vs) = MoreHVals (settle_v os v) (settle_vs os vs)

abbrev pub settle_d : Constants → HDecl → HDecl
settle_d os (HName v) = HName (settle_v os v)
settle_d os (HProj i v) = HProj i (settle_v os v)
settle_d os (HArith op v w) = HArith op (settle_v os v) (settle_v os w)
settle_d os (HUnpack v) = HUnpack (settle_v os v)
settle_d os (HCell v) = HCell (settle_v os v)
settle_d os (HGet v) = HGet (settle_v os v)
settle_d os (HSet v w) = HSet (settle_v os v) (settle_v os w)

abbrev pub settle_t : Constants → HTm → HTm
settle_t os (HLet e t) = HLet (settle_d os e) (settle_t (named_by os e ∷ os) t)
settle_t os (HCall f ts vs) = HCall (settle_v os f) ts (settle_vs os vs)
settle_t os (HIf v t u) = HIf (settle_v os v) (settle_t os t) (settle_t os u)
settle_t os (HHalt v) = HHalt (settle_v os v)

abbrev pub settle_block : HBlk → HBlk
settle_block k = record { owes = k.owes; args = k.args; body = settle_t (of_args k.args []) k.body }

abbrev pub settle_all : HBlks → HBlks
settle_all [] = []
settle_all (k ∷ ks) = settle_block k ∷ settle_all ks

-- no variable in a value
abbrev mutual
  pub Bare_v : HVal → Type 0
  Bare_v (HVar i) = ⊥
  Bare_v (HInt n) = Unit {0}
  Bare_v (HLabel l) = Unit {0}
  Bare_v (HTuple vs) = Bare_vs vs
  Bare_v (HApply v ts) = Bare_v v
  Bare_v (HPack h v s) = Bare_v v

  pub Bare_vs : HVals → Type 0
  Bare_vs NoHVals = Unit {0}
  Bare_vs (MoreHVals v vs) = Bare_v v × Bare_vs vs

-- what is no constant, or has no variable in it
abbrev pub Bare_if : Option HVal → HVals → Type 0
Bare_if None vs = Unit {0}
Bare_if (Some c) vs = Bare_vs vs

-- no variable in a tuple of constants
abbrev mutual
  pub Plain_v : Constants → HVal → Type 0
  Plain_v os (HTuple vs) = Bare_if (constant os (HTuple vs)) vs × Plain_vs os vs
  Plain_v os (HApply v ts) = Plain_v os v
  Plain_v os (HPack h v s) = Plain_v os v
  Plain_v os _ = Unit {0}

  pub Plain_vs : Constants → HVals → Type 0
  Plain_vs os NoHVals = Unit {0}
  Plain_vs os (MoreHVals v vs) = Plain_v os v × Plain_vs os vs

abbrev pub Plain_d : Constants → HDecl → Type 0
Plain_d os (HName v) = Plain_v os v
Plain_d os (HProj i v) = Plain_v os v
Plain_d os (HArith op v w) = Plain_v os v × Plain_v os w
Plain_d os (HUnpack v) = Plain_v os v
Plain_d os (HCell v) = Plain_v os v
Plain_d os (HGet v) = Plain_v os v
Plain_d os (HSet v w) = Plain_v os v × Plain_v os w

abbrev pub Plain_t : Constants → HTm → Type 0
Plain_t os (HLet e t) = Plain_d os e × Plain_t (named_by os e ∷ os) t
Plain_t os (HCall f ts vs) = Plain_v os f × Plain_vs os vs
Plain_t os (HIf v t u) = Plain_v os v × Plain_t os t × Plain_t os u
Plain_t os (HHalt v) = Plain_v os v

abbrev pub Plain_all : HBlks → Type 0
Plain_all [] = Unit {0}
Plain_all (k ∷ ks) = Plain_t (of_args k.args []) k.body × Plain_all ks
