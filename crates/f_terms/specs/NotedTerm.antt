-- The tree of a term with a table of types beside it, by the numbers of its nodes: each is the type of its node, but
-- for that of an `open`, which is the type of the name that it binds.
use Rattle.std.specs.Prelude.{◌≡◌, ℕ, ◌-◌, List, [], ◌∷◌, map}
use Rattle.calc_core.specs.Arena.{parts}
use Rattle.f_terms.specs.Ty.{Ty, TAll}
use Rattle.f_terms.specs.Noted.{Noted, EVar, ENum, EFix, EApp, EGen, EInst, ETuple, EProj, EArith, EIf, ELet, EPack}
use Rattle.f_terms.specs.Noted.{EOpen, ERef, EDeref, EAssign, noteds, bare}
use Rattle.f_terms.specs.Read.{tree}
use Rattle.f_terms.specs.ReadTerm.{count, term_of}
use Rattle.f_terms.specs.declared.types.FType.{FType}
use Rattle.f_terms.specs.declared.types.FType.TheVariants as T
use Rattle.f_terms.specs.declared.node.FShape.{FShape}
use Rattle.f_terms.specs.declared.node.FShape.TheVariants.{Var, Int, Fix, App, Gen, Inst, Tuple, Proj, Arith, If0, Let}
use Rattle.f_terms.specs.declared.node.FShape.TheVariants.{Pack, Open, Ref, Deref, Assign}
use Rattle.f_terms.specs.declared.node.FNode.{FNode}
use Rattle.f_terms.specs.declared.node.FTerm.{FTerm}

-- what an `all` stands before
abbrev pub under_all : Ty → Ty
under_all (TAll t) = t
under_all t = t

-- the tree of a form that has the type t in the table, where at has those of its children
abbrev pub noted_shape : (ℕ → Noted) → Ty → FShape → Noted
noted_shape at t (Var i) = EVar i
noted_shape at t (Int n) = ENum n
noted_shape at t (Fix a r b) = EFix (tree a) (tree r) (at b)
noted_shape at t (App f x) = EApp (at f) (at x) t
noted_shape at t (Gen b) = EGen (at b) (under_all t)
noted_shape at t (Inst e s) = EInst (at e) (tree s) t
noted_shape at t (Tuple es) = ETuple (noteds (map at es.items)) t
noted_shape at t (Proj i e) = EProj i (at e) t
noted_shape at t (Arith op a b) = EArith op (at a) (at b)
noted_shape at t (If0 c a b) = EIf (at c) (at a) (at b) t
noted_shape at t (Let a b) = ELet (at a) (at b)
noted_shape at t (Pack h e s) = EPack (tree h) (at e) (tree s)
noted_shape at t (Open a b) = EOpen (at a) (at b) t
noted_shape at t (Ref e) = ERef (at e) t
noted_shape at t (Deref e) = EDeref (at e) t
noted_shape at t (Assign a b) = EAssign (at a) (at b)

abbrev pub noted_node : (ℕ → Noted) → FNode × FType → Noted
noted_node at n = noted_shape at (tree n.1) n.0.shape

-- each node with its type
abbrev pub beside : List FNode → List FType → List (FNode × FType)
beside [] ts = []
beside (n ∷ ns) [] = (n, T.Int) ∷ beside ns []
beside (n ∷ ns) (t ∷ ts) = (n, t) ∷ beside ns ts

-- the tree of each node, and of the whole
abbrev pub noted_at : FTerm → List FType → ℕ → Noted
noted_at f ts = parts (EVar 0) noted_node (beside f.nodes.items ts)

abbrev pub noted_of : FTerm → List FType → Noted
noted_of f ts = noted_at f ts (count f - 1)

-- with the types left aside it is the term
abbrev pub TypesAside : Type 0
TypesAside = (f : FTerm) (ts : List FType) → bare (noted_of f ts) ≡ term_of f
