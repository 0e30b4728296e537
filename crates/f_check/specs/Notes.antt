-- Types that are noted as they become known: what is right beside the parts of a term, while the term is checked.
use Rattle.std.specs.Prelude.{◌≡◌, ℕ, List, [], ◌∷◌, ◌++◌, slice_set}
use Rattle.std.specs.List.{All}
use Rattle.idx_core.specs.declared.arith.Op.{Op}
use Rattle.f_terms.specs.Ty.{Ty, TInt, Tys, MoreTys}
use Rattle.f_terms.specs.Tm.{plain}
use Rattle.f_terms.specs.Typing.{raised, in_fix, in_open}
use Rattle.f_terms.specs.Noted.{opened_of, type_of, Beside}
use Rattle.f_terms.specs.NotedTerm.{noted_at}
use Rattle.f_terms.specs.Read.{tree}
use Rattle.f_terms.specs.ReadTerm.{node_at, shape_at}
use Rattle.f_terms.specs.Shape.{children}
use Rattle.f_terms.specs.declared.types.FType.{FType}
use Rattle.f_terms.specs.declared.node.FShape.{FShape}
use Rattle.f_terms.specs.declared.node.FShape.TheVariants as S
use Rattle.f_terms.specs.declared.node.FTerm.{FTerm}
use Rattle.f_check.specs.Scopes.{Bound}
use Rattle.f_check.specs.Walk.{rest_of}
use Rattle.f_check.specs.declared.frame.Frame.{Frame}
use Rattle.f_check.specs.declared.frame.Frame.TheVariants as C
use Rattle.f_check.specs.declared.frame.Control.{Control}
use Rattle.f_check.specs.declared.frame.Control.TheVariants.{Run, Give}

-- the types beside node i are its own, where the names have the types g
abbrev pub IsNoted : FTerm → List FType → Tys → ℕ → Type 0
IsNoted f ts g i = Beside (noted_at f ts i) g

-- the type of the first part of a `let` or of an `open`, where the names have the types g
abbrev pub first_type : FTerm → FShape → Tys → Ty
first_type f (S.Let a b) g = type_of (plain (node_at f a)) g
first_type f (S.Open a b) g = type_of (plain (node_at f a)) g
first_type f n g = TInt

-- the types of the names at the part that a frame of a node of this form waits for
abbrev pub inner : FTerm → FShape → Frame → Tys → Tys
inner f n (C.Fix x) g = in_fix (tree x.arg.now) (tree x.res.now) g
inner f n (C.Function s x) g = g
inner f n (C.Argument x) g = g
inner f n (C.Gen s) g = raised g
inner f n (C.Inst x) g = g
inner f n (C.Fields x) g = g
inner f n (C.Proj s i) g = g
inner f n (C.Left s b) g = g
inner f n (C.Right s) g = g
inner f n (C.Test x) g = g
inner f n (C.Zero s b) g = g
inner f n (C.Other s z) g = g
inner f n (C.Let s b) g = g
inner f n (C.Body s) g = MoreTys (first_type f n g) g
inner f n (C.Pack p) g = g
inner f n (C.Open s b) g = g
inner f n (C.Opened s) g = in_open (opened_of (first_type f n g)) g
inner f n (C.Ref s) g = g
inner f n (C.Deref s) g = g
inner f n (C.Target s b) g = g
inner f n (C.Assigned x) g = g

-- the frame is one of this form
abbrev pub IsOf : FShape → Frame → Type 0
IsOf n (C.Fix x) = (b : ℕ) × (t u : FType) × (n ≡ S.Fix t u b) × (tree x.arg.now ≡ tree t)
    × (tree x.res.now ≡ tree u)
IsOf n (C.Function s y) = (a x : ℕ) × (n ≡ S.App a x)
IsOf n (C.Argument y) = (a x : ℕ) × (n ≡ S.App a x)
IsOf n (C.Gen s) = (b : ℕ) × (n ≡ S.Gen b)
IsOf n (C.Inst x) = (e : ℕ) × (t : FType) × (n ≡ S.Inst e t)
IsOf n (C.Fields x) = (es : _) × (n ≡ S.Tuple es)
IsOf n (C.Proj s i) = (j e : ℕ) × (n ≡ S.Proj j e)
IsOf n (C.Left s y) = (op : Op) × (a b : ℕ) × (n ≡ S.Arith op a b)
IsOf n (C.Right s) = (op : Op) × (a b : ℕ) × (n ≡ S.Arith op a b)
IsOf n (C.Test x) = (c a b : ℕ) × (n ≡ S.If0 c a b)
IsOf n (C.Zero s y) = (c a b : ℕ) × (n ≡ S.If0 c a b)
IsOf n (C.Other s z) = (c a b : ℕ) × (n ≡ S.If0 c a b)
IsOf n (C.Let s y) = (a b : ℕ) × (n ≡ S.Let a b)
IsOf n (C.Body s) = (a b : ℕ) × (n ≡ S.Let a b)
IsOf n (C.Pack p) = (e : ℕ) × (t u : FType) × (n ≡ S.Pack t e u)
IsOf n (C.Open s y) = (a b : ℕ) × (n ≡ S.Open a b)
IsOf n (C.Opened s) = (a b : ℕ) × (n ≡ S.Open a b)
IsOf n (C.Ref s) = (e : ℕ) × (n ≡ S.Ref e)
IsOf n (C.Deref s) = (e : ℕ) × (n ≡ S.Deref e)
IsOf n (C.Target s y) = (a b : ℕ) × (n ≡ S.Assign a b)
IsOf n (C.Assigned x) = (a b : ℕ) × (n ≡ S.Assign a b)

-- the frame of a node of this form waits for part l; the parts before it are noted
abbrev pub Waits : FTerm → List FType → Tys → FShape → Frame → ℕ → Type 0
Waits f ts g n fr l = IsOf n fr × ((done : List ℕ) × (children n ≡ done ++ l ∷ rest_of fr) × All (IsNoted f ts g) done)

-- the frames, with the nodes that they are of, lead from node i, whose names have the types g, to the last node j
abbrev pub Leading : FTerm → List FType → List Frame → List ℕ → ℕ → Tys → ℕ → Tys → Type 0
Leading f ts fs [] i g j h = ⊥
Leading f ts [] (k ∷ ks) i g j h = (ks ≡ []) × (i ≡ k) × (k ≡ j) × (g ≡ h)
Leading f ts (fr ∷ fs) (k ∷ ks) i g j h = (i ≡ k) × (l : ℕ) × Waits f ts g (shape_at f k) fr l
    × Leading f ts fs ks l (inner f (shape_at f k) fr g) j h

-- all parts of a node of this form are noted
abbrev pub Parts : FTerm → List FType → Tys → FShape → Type 0
Parts f ts g (S.Fix a r b) = IsNoted f ts (in_fix (tree a) (tree r) g) b
Parts f ts g (S.Gen b) = IsNoted f ts (raised g) b
Parts f ts g (S.Let a b) = IsNoted f ts g a × IsNoted f ts (MoreTys (type_of (plain (node_at f a)) g) g) b
Parts f ts g (S.Open a b) = IsNoted f ts g a
    × IsNoted f ts (in_open (opened_of (type_of (plain (node_at f a)) g)) g) b
Parts f ts g n = All (IsNoted f ts g) (children n)

-- the first step of a node of this form: a frame that waits for the first part, or the node has no part
abbrev pub Begun : FShape → List Frame → List Frame → Control → Type 0
Begun n old new (Run j) = (fr : Frame) × (new ≡ old ++ fr ∷ []) × IsOf n fr × (children n ≡ j ∷ rest_of fr)
Begun n old new (Give ty s o) = (new ≡ old) × (children n ≡ [])

-- a frame is followed by another one of the same form
abbrev pub Becomes : Frame → Frame → Type 0
Becomes fr more = (n : FShape) → IsOf n fr → IsOf n more

-- what is handed on to be noted beside an `open`: the type of the last of the names that are bound at its last part
abbrev pub HandsOn : List Bound → Frame → FType → Type 0
HandsOn bs (C.Opened s) o = (around : List Bound) × (n : ℕ) × (bs ≡ around ++ record { ty = tree o; at = n } ∷ [])
HandsOn bs _ o = Unit {0}

-- the step of a frame, after a part where these names are bound: one that waits for the next part, or there is none
abbrev pub Resumed : Frame → List Bound → List Frame → List Frame → Control → Type 0
Resumed fr bs old new (Run j) = (more : Frame) × (new ≡ old ++ more ∷ []) × (rest_of fr ≡ j ∷ rest_of more)
    × Becomes fr more × ((f : FTerm) (n : FShape) (g : Tys) → inner f n fr g ≡ g)
Resumed fr bs old new (Give ty s o) = (new ≡ old) × (rest_of fr ≡ []) × HandsOn bs fr o

-- what is noted of such a form, of the type t: the others have it written, or need none
abbrev pub Keeps : FShape → Ty → Ty → Ty → Type 0
Keeps (S.Var i) u t o = Unit {0}
Keeps (S.Int n) u t o = Unit {0}
Keeps (S.Fix a r b) u t o = Unit {0}
Keeps (S.Arith op a b) u t o = Unit {0}
Keeps (S.Let a b) u t o = Unit {0}
Keeps (S.Pack h e s) u t o = Unit {0}
Keeps (S.Open a b) u t o = u ≡ o
Keeps (S.Assign a b) u t o = Unit {0}
Keeps n u t o = u ≡ t

-- what is to be noted of node i, of the type t, is put down
abbrev pub Noting : FTerm → List FType → List FType → ℕ → Ty → Ty → Type 0
Noting f old new i t o = (x : FType) × (new ≡ slice_set old i x) × Keeps (shape_at f i) (tree x) t o

-- the nodes that are open, after a step
abbrev pub opened : List ℕ → Control → List ℕ
opened ks (Run j) = ks ++ j ∷ []
opened ks (Give ty s o) = ks
