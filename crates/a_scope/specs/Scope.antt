-- The types of the variables in scope.
use Rattle.std.specs.Prelude.{◌≡◌, ℕ, zero, suc, ◌-◌, ◌<◌, ◌≤◌, ◌++◌, List, length, [], ◌∷◌, Option, Some, None}
use Rattle.a_terms.specs.Tree as a
use Rattle.a_terms.specs.Tree.{ashift}
use Rattle.a_terms.specs.Typing.{type_of, applied, or_int, field_of, body_of, filled_of, aunset}
use Rattle.a_terms.specs.Read.{atree, atrees}
use Rattle.a_terms.specs.declared.nodes.AWrap.{AWrap}
use Rattle.a_terms.specs.declared.nodes.AWrap.TheVariants.{Apply, Pack}
use Rattle.a_terms.specs.Program.{program_in}
use Rattle.a_terms.specs.NodeTrees.{a_values, a_decl}
use Rattle.a_scope.specs.declared.declaring.Declaration.{Declaration}
use Rattle.a_scope.specs.declared.scope.Around.{Around}
use Rattle.a_scope.specs.declared.scope.Entry.{Entry}
use Rattle.a_scope.specs.declared.noted.Noted.{Noted}
use Rattle.a_scope.specs.declared.noted.Noted.TheVariants as N

-- the type with its first n fields initialised besides
abbrev pub filled_to : ℕ → a.ATy → a.ATy
filled_to zero t = t
filled_to (suc n) t = filled_of (suc n) (Some (filled_to n t))

-- a type that was noted
abbrev pub noted_type : Noted → a.ATy
noted_type N.Int = a.AInt
noted_type (N.Lent t) = atree t.now
noted_type (N.Room ts) = a.ATuple (aunset (atrees ts.now))
noted_type (N.Made t) = atree t.value

-- a variable's type where it was noted
abbrev pub noted : Entry → a.ATy
noted e = filled_to e.filled (noted_type e.ty)

-- a variable's type where k type names are in scope
abbrev pub shown : ℕ → Entry → a.ATy
shown k e = ashift (k - e.names) 0 (noted e)

-- the types of the variables, the last one first
abbrev pub scope : ℕ → List Entry → List a.ATy
scope k [] = []
scope k (e ∷ es) = scope k es ++ shown k e ∷ []

-- the registers of the variables, the last one first
abbrev pub homes : List Entry → List ℕ
homes [] = []
homes (e ∷ es) = homes es ++ e.register ∷ []

-- the type of a value with this around it
abbrev pub type_here : Around → a.AVal → Option a.ATy
type_here x v = type_of (program_in x.program.now) (scope x.names x.vars.now) v

-- each type was noted where no more than k names were in scope
abbrev pub Under : ℕ → List Entry → Type 0
Under k [] = Unit {0}
Under k (e ∷ es) = (e.names ≤ k) × Under k es

-- a variable of this type, which was noted where no more than k names were in scope
abbrev pub EntryOf : ℕ → a.ATy → Entry → Type 0
EntryOf k t e = (shown k e ≡ t) × (e.names ≤ k)

-- the same, if there is a variable
abbrev pub MaybeEntryOf : ℕ → a.ATy → Option Entry → Type 0
MaybeEntryOf k t None = Unit {0}
MaybeEntryOf k t (Some e) = EntryOf k t e

-- the number of a value that is a variable, with nothing around it
abbrev pub bare : a.AVal → Option ℕ
bare (a.Var n) = Some n
bare v = None

-- a variable in scope, with nothing around it
abbrev pub HasEntry : List Entry → a.AVal → Type 0
HasEntry es v = (n : ℕ) × (bare v ≡ Some n) × (n < length es)

-- the variable that the value is
abbrev pub Held : a.AProg → ℕ → List Entry → a.AVal → Entry → Type 0
Held p k es v e = (Some (shown k e) ≡ type_of p (scope k es) v) × (Under k es → e.names ≤ k) × HasEntry es v

-- the type of a value that is put round a value of this type
abbrev pub wrap_type : AWrap → Option a.ATy → Option a.ATy
wrap_type (Apply ts) o = applied o (atrees ts.items)
wrap_type (Pack h s) o = Some (atree s)

-- a declaration as a tree
abbrev pub decl_tree : Declaration → a.ADecl
decl_tree d = a_decl d.form.now (a_values d.values.now)

-- the type of the variable that is declared
abbrev pub decl_ty : a.AProg → List a.ATy → a.ADecl → a.ATy
decl_ty p g (a.Value v) = or_int (type_of p g v)
decl_ty p g (a.Proj i v) = field_of i (type_of p g v)
decl_ty p g (a.Arith o v w) = a.AInt
decl_ty p g (a.Unpack v) = body_of (type_of p g v)
decl_ty p g (a.Malloc ts) = a.ATuple (aunset ts)
decl_ty p g (a.Init v i w) = filled_of i (type_of p g v)
