-- A checker by a stack: what its state stands for.
use Rattle.std.specs.Prelude.{◌≡◌, ℕ, ◌+◌, ◌*◌, ◌<◌, ◌≤◌, List, [], ◌∷◌, ◌++◌, length, map, Result, Ok, Err}
use Rattle.std.specs.List.{All}
use Rattle.calc_core.specs.Stack.{Chain, stack_sum}
use Rattle.text_core.specs.Refusals.{Refusal}
use Rattle.idx_core.specs.declared.arith.Op.{Op}
use Rattle.idx_core.specs.declared.span.Span.{Span}
use Rattle.f_terms.specs.Ty.{Ty, Tys, NoTys, TInt, TArrow, TSome, TRef, Below}
use Rattle.f_terms.specs.Tm.{Spn, Tm, SFix, SApp, SGen, SInst, STuple, SProj, SArith, SIf0, SLet, SPack, SOpen, SRef}
use Rattle.f_terms.specs.Tm.{SDeref, SAssign, plain, span_of, tms}
use Rattle.f_terms.specs.Limits.{Within, nodes}
use Rattle.f_terms.specs.Scope.{InScope}
use Rattle.f_terms.specs.Faults.{Passes, Note, FaultNoted}
use Rattle.f_terms.specs.Read.{tree, place}
use Rattle.f_terms.specs.declared.types.FType.{FType}
use Rattle.f_terms.specs.ReadTerm.{count, node_at, spanned}
use Rattle.f_terms.specs.declared.node.FTerm.{FTerm}
use Rattle.f_check.specs.Scopes.{Bound, bound, names, IsScope}
use Rattle.f_check.specs.Verdict.{IsTypeOf}
use Rattle.f_check.specs.Told.{Tells}
use Rattle.f_check.specs.declared.failure.Failure.{Failure}
use Rattle.f_check.specs.declared.frame.Frame.{Frame}
use Rattle.f_check.specs.declared.frame.Frame.TheVariants as C
use Rattle.f_check.specs.declared.frame.Control.{Control}
use Rattle.f_check.specs.declared.frame.Control.TheVariants.{Run, Give}
use Rattle.f_check.specs.declared.frame.State.{State}

-- a term to be checked, and what is bound around it
pub record Task : Type 0 where
  pub e : Tm
  pub around : ℕ
  pub scope : List Bound

abbrev pub context : Task → Tys
context t = names t.around NoTys t.scope

-- a term of this type, and the first fault of the term
abbrev pub TypeIs : Task → Ty → Type 0
TypeIs t ty = IsTypeOf t.e t.around (context t) ty

abbrev pub FaultOf : Task → Refusal Note Spn
FaultOf t = FaultNoted t.e t.around (context t)

-- the names are bound, and there is room for numbers
abbrev pub IsReady : Task → Type 0
IsReady t = IsScope t.around t.scope × InScope (plain t.e) t.around (length t.scope)
    × (t.around + nodes (plain t.e) ≤ 4294967296)

-- some terms have passed, with these types
abbrev pub AllPass : ℕ → Tys → List Tm → List Ty → Type 0
AllPass n g [] [] = Unit {0}
AllPass n g [] (t ∷ ts) = ⊥
AllPass n g (e ∷ es) [] = ⊥
AllPass n g (e ∷ es) (t ∷ ts) = Passes e n g t × Below n t × AllPass n g es ts

-- with the same names around
abbrev pub Same : Task → Task → Type 0
Same t w = (t.around ≡ w.around) × (t.scope ≡ w.scope)

-- what a function binds under n type names: itself and, inside of it, its argument
abbrev pub fix_names : ℕ → Ty → Ty → List Bound
fix_names n a r = record { ty = TArrow a r; at = n } ∷ record { ty = a; at = n } ∷ []

-- t is the part of w that the frame waits for, and the parts before it have passed
abbrev pub Part : FTerm → Frame → Task → Task → Type 0
Part f (C.Fix x) t w =
    (w.e ≡ SFix (place x.span) (tree x.arg.now) (tree x.res.now) t.e) × IsReady w × (t.around ≡ w.around)
    × (t.scope ≡ w.scope ++ fix_names w.around (tree x.arg.now) (tree x.res.now))
    × Within (TArrow (tree x.arg.now) (tree x.res.now))
Part f (C.Function s x) t w = (w.e ≡ SApp (place s) t.e (node_at f x)) × IsReady w × Same t w × (x < count f)
Part f (C.Argument x) t w = (e : Tm) × (w.e ≡ SApp (place x.span) e t.e) × IsReady w × Same t w
    × IsTypeOf e w.around (context w) (TArrow (tree x.arg) (tree x.res))
Part f (C.Gen s) t w = (w.e ≡ SGen (place s) t.e) × IsReady w × (t.around ≡ w.around + 1) × (t.scope ≡ w.scope)
Part f (C.Inst x) t w = (w.e ≡ SInst (place x.span) t.e (tree x.ty.now)) × IsReady w × Same t w
Part f (C.Fields x) t w = (es : List Tm)
    × (w.e ≡ STuple (place x.span) (tms (es ++ t.e ∷ map (node_at f) x.rest.now))) × IsReady w × Same t w
    × AllPass w.around (context w) es (map tree x.types.items) × All (λ k. k < count f) x.rest.now
Part f (C.Proj s i) t w = (w.e ≡ SProj (place s) i t.e) × IsReady w × Same t w
Part f (C.Left s b) t w = (op : Op) × (w.e ≡ SArith (place s) op t.e (node_at f b)) × IsReady w × Same t w
    × (b < count f)
Part f (C.Right s) t w = (op : Op) × (a : Tm) × (w.e ≡ SArith (place s) op a t.e) × IsReady w × Same t w
    × Passes a w.around (context w) TInt
Part f (C.Test x) t w = (w.e ≡ SIf0 (place x.span) t.e (node_at f x.zero) (node_at f x.other)) × IsReady w × Same t w
    × (x.zero < count f) × (x.other < count f)
Part f (C.Zero s b) t w = (c : Tm) × (w.e ≡ SIf0 (place s) c t.e (node_at f b)) × IsReady w × Same t w
    × Passes c w.around (context w) TInt × (b < count f)
Part f (C.Other s z) t w = (c : Tm) × (a : Tm) × (w.e ≡ SIf0 (place s) c a t.e) × IsReady w × Same t w
    × Passes c w.around (context w) TInt
    × IsTypeOf a w.around (context w) (tree z)
Part f (C.Let s b) t w = (w.e ≡ SLet (place s) t.e (node_at f b)) × IsReady w × Same t w × (b < count f)
Part f (C.Body s) t w = (a : Tm) × (w.e ≡ SLet (place s) a t.e) × IsReady w × (t.around ≡ w.around) × (u : Ty)
    × (t.scope ≡ w.scope ++ record { ty = u; at = w.around } ∷ []) × Passes a w.around (context w) u
Part f (C.Pack p) t w = (w.e ≡ SPack (place p.span) (tree p.hidden.now) t.e (tree p.shape.now)) × IsReady w × Same t w
    × (tree p.shape.now ≡ TSome (tree p.body.now)) × Within (tree p.hidden.now) × Within (tree p.shape.now)
Part f (C.Open s b) t w = (w.e ≡ SOpen (place s) t.e (node_at f b)) × IsReady w × Same t w × (b < count f)
Part f (C.Opened s) t w = (a : Tm) × (w.e ≡ SOpen (place s) a t.e) × IsReady w × (t.around ≡ w.around + 1) × (u : Ty)
    × (t.scope ≡ w.scope ++ record { ty = u; at = w.around + 1 } ∷ []) × Passes a w.around (context w) (TSome u)
Part f (C.Ref s) t w = (w.e ≡ SRef (place s) t.e) × IsReady w × Same t w
Part f (C.Deref s) t w = (w.e ≡ SDeref (place s) t.e) × IsReady w × Same t w
Part f (C.Target s b) t w = (w.e ≡ SAssign (place s) t.e (node_at f b)) × IsReady w × Same t w × (b < count f)
Part f (C.Assigned x) t w = (a : Tm) × (w.e ≡ SAssign (place x.span) a t.e) × IsReady w × Same t w
    × Passes a w.around (context w) (TRef (tree x.cell))

-- the whole term, and the term e where the state stands
abbrev pub top : FTerm → Task
top f = record { e = spanned f; around = 0; scope = [] }

abbrev pub now : State → Tm → Task
now st e = record { e = e; around = st.around; scope = map bound st.scope.items }

-- the frames lead from a task to the whole
abbrev pub Holds : FTerm → State → Task → Type 0
Holds f st w = Chain (Part f) st.frames.items w (top f)

-- the term e is about to be checked
abbrev pub Opens : FTerm → State → Tm → Type 0
Opens f st e = IsReady (now st e) × Holds f st (now st e)

-- the type of the term e is there
abbrev pub Gives : FTerm → State → Tm → FType → Span → Type 0
Gives f st e ty s = TypeIs (now st e) (tree ty) × (span_of e ≡ place s) × Holds f st (now st e)

abbrev pub Leads : FTerm → State → Control → Type 0
Leads f st (Run i) = (i < count f) × Opens f st (node_at f i)
Leads f st (Give ty s o) = (e : Tm) × Gives f st e ty s

-- the type of a part is there, and the frame waits for it
abbrev pub Offered : FTerm → State → Frame → FType → Span → Type 0
Offered f st fr ty s = (e : Tm) × (w : Task) × TypeIs (now st e) (tree ty) × (span_of e ≡ place s)
    × Part f fr (now st e) w × Holds f st w

-- node j is about to be checked under one frame more
abbrev pub Enters : FTerm → State → Frame → ℕ → Type 0
Enters f st fr j = (w : Task) × (j < count f) × IsReady (now st (node_at f j))
    × Part f fr (now st (node_at f j)) w × Holds f st w

-- the work that is left: two steps for each node
abbrev pub all_nodes : FTerm → List ℕ → ℕ
all_nodes f [] = 0
all_nodes f (k ∷ ks) = nodes (plain (node_at f k)) + all_nodes f ks

abbrev pub rest_of : Frame → List ℕ
rest_of (C.Function s x) = x ∷ []
rest_of (C.Fields x) = x.rest.now
rest_of (C.Left s b) = b ∷ []
rest_of (C.Test x) = x.zero ∷ x.other ∷ []
rest_of (C.Zero s b) = b ∷ []
rest_of (C.Let s b) = b ∷ []
rest_of (C.Open s b) = b ∷ []
rest_of (C.Target s b) = b ∷ []
rest_of _ = []

abbrev pub frame_work : FTerm → Frame → ℕ
frame_work f fr = 1 + 2 * all_nodes f (rest_of fr)

abbrev pub left : FTerm → State → ℕ
left f st = stack_sum (frame_work f) st.frames.items

abbrev pub open_work : FTerm → State → Tm → ℕ
open_work f st e = 2 * nodes (plain e) + left f st

-- after a part's type is there, with these nodes still to be checked
abbrev pub offer_work : FTerm → State → List ℕ → ℕ
offer_work f st ks = 2 + 2 * all_nodes f ks + left f st

abbrev pub work : FTerm → State → Control → ℕ
work f st (Run i) = open_work f st (node_at f i)
work f st (Give ty s o) = 1 + left f st

-- a step: the state leads to the whole, and less work is left; or the fault is the first of the whole
abbrev pub Goes : FTerm → State → Result Control Failure → ℕ → Type 0
Goes f st (Ok c) m = Leads f st c × (work f st c < m)
Goes f st (Err e) m = Tells e (FaultOf (top f))
