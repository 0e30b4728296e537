-- A property of all types of an allocated program: of those that stand in it, and of those of its values and names.
use Rattle.std.specs.Prelude.{ℕ, suc, ◌+◌, ◌≤◌, max, List, [], ◌∷◌, slice_get}
use Rattle.a_terms.specs.Tree.{ATy, AInt, AVar, ATuple, ACode, AExists, ATys, NoATys, MoreATys, AFields, NoAFields}
use Rattle.a_terms.specs.Tree.{MoreAFields, AVal, Var, Num, Lab, Data, Apply, Pack, ADecl, Value, Proj, Arith, Unpack}
use Rattle.a_terms.specs.Tree.{Malloc, Init, ATm, Let, Call, If0, Halt, ABlk, AConsts, AProg}
use Rattle.a_terms.specs.Typing.{aunset, code_type, data_type, applied, type_of, or_int, field_of, body_of, filled_of}
use Rattle.a_terms.specs.Typing.{declared, more_vars, types_of}

-- a property of types under so many type variables
abbrev pub AProp : Type 1
AProp = ℕ → ATy → Type 0

abbrev pub AAll : AProp → ℕ → ATys → Type 0
AAll P k NoATys = Unit {0}
AAll P k (MoreATys t ts) = P k t × AAll P k ts

-- the type of a value, of each value in it, and the types that it is written with
abbrev pub VEach : AProp → AProg → ℕ → List ATy → AVal → Type 0
VEach P p k g (Var n) = P k (or_int (slice_get g n))
VEach P p k g (Num i) = P k AInt
VEach P p k g (Lab l) = P k (or_int (code_type (slice_get p.blocks l)))
VEach P p k g (Data n) = P k (or_int (data_type (slice_get p.tuples n)))
VEach P p k g (Apply v ts) = P k (or_int (applied (type_of p g v) ts)) × VEach P p k g v × AAll P k ts
VEach P p k g (Pack h v s) = P k s × P k h × VEach P p k g v

abbrev pub VsEach : AProp → AProg → ℕ → List ATy → List AVal → Type 0
VsEach P p k g [] = Unit {0}
VsEach P p k g (v ∷ vs) = VEach P p k g v × VsEach P p k g vs

-- the types of a declaration, that of its name among them
abbrev pub DEach : AProp → AProg → ℕ → List ATy → ADecl → Type 0
DEach P p k g (Value v) = VEach P p k g v
DEach P p k g (Proj i v) = VEach P p k g v × P k (field_of i (type_of p g v))
DEach P p k g (Arith o v w) = VEach P p k g v × VEach P p k g w
DEach P p k g (Unpack v) = VEach P p k g v × P (suc k) (body_of (type_of p g v))
DEach P p k g (Malloc ts) = AAll P k ts × P k (ATuple (aunset ts))
DEach P p k g (Init v i w) = VEach P p k g v × VEach P p k g w × P k (filled_of i (type_of p g v))

abbrev pub TEach : AProp → AProg → ℕ → List ATy → ATm → Type 0
TEach P p k g (Let x e) = DEach P p k g x × TEach P p (more_vars x k) (declared p g x) e
TEach P p k g (Call v ts vs) = VEach P p k g v × AAll P k ts × VsEach P p k g vs
TEach P p k g (If0 v a b) = VEach P p k g v × TEach P p k g a × TEach P p k g b
TEach P p k g (Halt v) = VEach P p k g v

abbrev pub BsEach : AProp → AProg → List ABlk → Type 0
BsEach P p [] = Unit {0}
BsEach P p (b ∷ bs) = (AAll P b.owes b.args × TEach P p b.owes (types_of b.args []) b.body) × BsEach P p bs

-- the type of each field of a data tuple, and the types of its value
abbrev pub CsEach : AProp → AProg → AConsts → Type 0
CsEach P p [] = Unit {0}
CsEach P p (c ∷ cs) = (P 0 c.kind × VEach P p 0 [] c.value) × CsEach P p cs

abbrev pub TuplesEach : AProp → AProg → List AConsts → Type 0
TuplesEach P p [] = Unit {0}
TuplesEach P p (x ∷ xs) = CsEach P p x × TuplesEach P p xs

abbrev pub ProgramEach : AProp → AProg → ATm → Type 0
ProgramEach P p main = BsEach P p p.blocks × TuplesEach P p p.tuples × TEach P p 0 [] main

-- the greatest number of constructs open at one place of a type's image in the assembly language, each brace of
-- a code's file counted twice; flags and registers aside
abbrev mutual
  pub areach : ATy → ℕ
  areach AInt = 0
  areach (AVar n) = 0
  areach (ATuple fs) = suc (areach_fields fs)
  areach (ACode n ts) = suc (suc (areaches ts))
  areach (AExists t) = suc (areach t)

  pub areaches : ATys → ℕ
  areaches NoATys = 0
  areaches (MoreATys t ts) = max (areach t) (areaches ts)

  pub areach_fields : AFields → ℕ
  areach_fields NoAFields = 0
  areach_fields (MoreAFields t f fs) = max (areach t) (areach_fields fs)

-- the greatest number of type names bound around one place of a type
abbrev mutual
  pub abinds : ATy → ℕ
  abinds AInt = 0
  abinds (AVar n) = 0
  abinds (ATuple fs) = abinds_fields fs
  abinds (ACode n ts) = n + abinds_all ts
  abinds (AExists t) = suc (abinds t)

  pub abinds_all : ATys → ℕ
  abinds_all NoATys = 0
  abinds_all (MoreATys t ts) = max (abinds t) (abinds_all ts)

  pub abinds_fields : AFields → ℕ
  abinds_fields NoAFields = 0
  abinds_fields (MoreAFields t f fs) = max (abinds t) (abinds_fields fs)

-- at most so many names in scope, and so much reach and so many names in a type
abbrev pub AWithin : (names reach binds : ℕ) → AProp
AWithin names reach binds k t = (k ≤ names) × (areach t ≤ reach) × (abinds t ≤ binds)
