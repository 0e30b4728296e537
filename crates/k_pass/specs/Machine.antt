-- What a state of the conversion is still to write.
use Rattle.std.specs.Prelude.{◌≡◌, ℕ, suc, ◌+◌, ◌<◌, List, [], ◌∷◌, ◌++◌, map, Option, Some, None}
use Rattle.std.specs.List.{All, sum_by}
use Rattle.f_terms.specs.Ty.{Ty}
use Rattle.f_terms.specs.Read.{tree}
use Rattle.k_terms.specs.K as K
use Rattle.k_terms.specs.Stream as n
use Rattle.k_terms.specs.Read.{knode}
use Rattle.f_terms.specs.Noted.{Noted, EVar, ENum, EFix, EApp, EGen, EInst, ETuple, EProj, EArith, EIf, ELet, EPack}
use Rattle.f_terms.specs.Noted.{EOpen, ERef, EDeref, EAssign, Noteds, NoNoteds, MoreNoteds, noteds}
use Rattle.k_laws.specs.Cps as s
use Rattle.k_laws.specs.Cps.{Level, Literal, kat, taking}
use Rattle.k_pass.specs.Emit.{Rest, Bind, Pass, Scope, atom_node, deliver, named, rest_args, as_value, to_call, to_inst}
use Rattle.k_pass.specs.Emit.{to_one, to_two, to_tuple, proj_node, pack_node, unpack_node, cell_node, get_node}
use Rattle.k_pass.specs.Emit.{arith_node, set_node, fix_args, gen_args, under_type, under_name, emit, emit_all, halting}
use Rattle.k_pass.specs.declared.work.Atom.{Atom}
use Rattle.k_pass.specs.declared.work.Atom.TheVariants as A
use Rattle.k_pass.specs.declared.work.Frame.{Frame}
use Rattle.k_pass.specs.declared.work.Frame.TheVariants as F
use Rattle.k_pass.specs.declared.work.Pending.{Pending}
use Rattle.k_pass.specs.declared.work.Pending.TheVariants as P
use Rattle.k_pass.specs.declared.work.Control.{Control}
use Rattle.k_pass.specs.declared.work.Control.TheVariants as C
use Rattle.k_pass.specs.declared.work.Work.{Work}

abbrev pub Nodes : Type 0
Nodes = List n.KNd

abbrev pub atom : Atom → s.Atom
atom (A.Level l) = Level l
atom (A.Literal n) = Literal n

-- a stack in a vector, whose last item is the top
abbrev pub folded : {A B : Type 0} → (A → B → B) → B → List A → B
folded f b [] = b
folded f b (x ∷ xs) = folded f (f x b) xs

-- the levels of the source's type names, and what stands for its names, innermost first
abbrev pub levels : List ℕ → List ℕ
levels xs = folded (λ x ls. x ∷ ls) [] xs

abbrev pub atoms : List Atom → List s.Atom
atoms xs = folded (λ x names. atom x ∷ names) [] xs

abbrev pub inner : {A : Type 0} → List A → List A
inner [] = []
inner (x ∷ names) = names

-- the innermost name goes, and the innermost type name
abbrev pub left : Scope → Scope
left q = (q.0, inner q.1)

abbrev pub left_type : Scope → Scope
left_type q = (inner q.0, q.1)

-- where a state is
abbrev pub at : Work → Scope
at w = (levels w.levels.items, atoms w.names.items)

-- the rests of the terms that are open, the innermost first, each for its scope
abbrev pub Rests : Type 0
Rests = List (Scope → Rest)

abbrev pub top : Rests → Scope → Rest
top [] q = halting
top (k ∷ ks) q = k q

abbrev pub below : Rests → Rests
below [] = []
below (k ∷ ks) = ks

-- both branches, for the name of a level
abbrev pub branches : Noted → Noted → ℕ → Scope → Rest
branches a b l q = Bind
    (λ tv d c ns. atom_node c ∷ n.NIf ∷ emit a tv d q (Pass l) (n.NElse tv ∷ emit b tv d q (Pass l) ns))

-- what a package holds has a name, and its type has one
abbrev pub opening : Noted → Ty → Scope → Rest → Rest
opening b t q k = Bind
    (λ tv d x ns. atom_node x ∷ unpack_node q.0 t tv d
    ∷ emit b (suc tv) (suc d) (under_name (Level d) (under_type tv q)) k ns)

abbrev pub through : (ℕ → Noted) → Frame → Rests → Rests
through t (F.Fun x ty) ks = (λ q. Bind (λ tv d f. emit (t x) tv d q (to_call q.0 f (tree ty.now) (top ks q))))
    ∷ below ks
through t (F.Arg f ty) ks = (λ q. to_call q.0 (atom f) (tree ty.now) (top ks q)) ∷ below ks
through t (F.Inst arg ty) ks = (λ q. to_inst q.0 (tree arg.now) (tree ty.now) (top ks q)) ∷ below ks
through t (F.Left op b) ks = (λ q. Bind (λ tv d a. emit (t b) tv d q (to_two (arith_node op) a (top ks q)))) ∷ below ks
through t (F.Right op a) ks = (λ q. to_two (arith_node op) (atom a) (top ks q)) ∷ below ks
through t (F.Proj i ty) ks = (λ q. to_one (proj_node i q.0 (tree ty.now)) (top ks q)) ∷ below ks
through t (F.Fields rest done ty) ks =
    (λ q. Bind
    (λ tv d a. emit_all (noteds (map t rest.now)) tv d q (map atom done.items ++ a ∷ [])
    (to_tuple q.0 (tree ty.now) (top ks q)))) ∷ below ks
through t (F.Tail l) ks = (λ q. Pass l) ∷ ks
through t (F.Test a b l) ks = (λ q. branches (t a) (t b) l q) ∷ ks
through t (F.Let b) ks = (λ q. Bind (λ tv d x. emit (t b) tv d (under_name x q) (top ks q))) ∷ below ks
through t (F.Open b ty) ks = (λ q. opening (t b) (tree ty.now) q (top ks q)) ∷ below ks
through t F.Leave ks = (λ q. Bind (λ tv d a. deliver (top ks (left q)) tv d a)) ∷ below ks
through t F.LeaveType ks = (λ q. Bind (λ tv d a. deliver (top ks (left_type q)) tv d a)) ∷ below ks
through t (F.Pack h ty) ks = (λ q. to_one (pack_node q.0 (tree h.now) (tree ty.now)) (top ks q)) ∷ below ks
through t (F.Ref ty) ks = (λ q. to_one (cell_node q.0 (tree ty.now)) (top ks q)) ∷ below ks
through t (F.Deref ty) ks = (λ q. to_one (get_node q.0 (tree ty.now)) (top ks q)) ∷ below ks
through t (F.Cell b) ks = (λ q. Bind (λ tv d a. emit (t b) tv d q (to_two set_node a (top ks q)))) ∷ below ks
through t (F.Set a) ks = (λ q. to_two set_node (atom a) (top ks q)) ∷ below ks

abbrev pub rests : (ℕ → Noted) → List Frame → Rests
rests t fs = folded (through t) [] fs

-- what comes after the terms that are open
abbrev pub Todo : Type 0
Todo = Scope → Rests → Nodes

abbrev pub then : (ℕ → Noted) → Pending → Todo → Todo
then t (P.Fix d tv arg res) td q ks =
    let outer : Scope = left (left q) in n.NEnd
    ∷ named (K.TKCode 0 (fix_args tv q.0 (tree arg.now) (tree res.now))) (top ks outer) tv d (td outer (below ks))
then t (P.Gen d tv ty) td q ks =
    let outer : Scope = left_type q in n.NEnd
    ∷ named (K.TKCode 1 (gen_args (suc tv) q.0 (tree ty.now))) (top ks outer) tv d (td outer (below ks))
then t (P.Other e d tv l) td q ks = n.NElse tv ∷ emit (t e) tv d q (Pass l) (td q ks)
then t (P.If0 c a b d tv ty) td q ks = n.NEnd ∷ n.NName d (taking (kat tv q.0 (tree ty.now)))
    ∷ emit (t c) tv (suc d) q (branches (t a) (t b) d q) (td q ks)
then t P.End td q ks = n.NEnd ∷ td q ks
then t P.Leave td q ks = td (left q) ks
then t P.LeaveType td q ks = td (left_type q) ks
then t (P.Enter a) td q ks = td (under_name (atom a) q) ks
then t (P.EnterType l) td q ks = td (under_type l q) ks

abbrev pub todo : (ℕ → Noted) → List Pending → Todo
todo t ps = folded (then t) (λ q ks. []) ps

abbrev pub says : (ℕ → Noted) → Rests → Todo → ℕ → Scope → Control → Nodes
says t ks td tv q (C.Walk i d) = emit (t i) tv d q (top ks q) (td q (below ks))
says t ks td tv q (C.Give a d) = deliver (top ks q) tv d (atom a) (td q (below ks))
says t ks td tv q C.Ended = td q ks

-- the nodes that a state is still to write
abbrev pub stream : (ℕ → Noted) → Work → Control → Nodes
stream t w c = says t (rests t w.frames.items) (todo t w.pending.items) w.types (at w) c

abbrev pub written : Work → Nodes
written w = map knode w.out.items

-- how many steps are left, at most
abbrev mutual
  pub steps : Noted → ℕ
  steps (EVar i) = 2
  steps (ENum n) = 2
  steps (EFix arg res e) = 3 + steps e
  steps (EGen e t) = 3 + steps e
  steps (EApp f x t) = 3 + (steps f + steps x)
  steps (EInst e s t) = 3 + steps e
  steps (ETuple es t) = 1 + (1 + steps_all es)
  steps (EProj i e t) = 2 + steps e
  steps (EArith op a b) = 2 + (steps a + steps b)
  steps (EIf c a b t) = 4 + (steps c + steps a + steps b)
  steps (ELet a b) = 4 + (steps a + steps b)
  steps (EPack h e s) = 2 + steps e
  steps (EOpen a b t) = 7 + (steps a + steps b)
  steps (ERef e t) = 2 + steps e
  steps (EDeref e t) = 2 + steps e
  steps (EAssign a b) = 2 + (steps a + steps b)

  pub steps_all : Noteds → ℕ
  steps_all NoNoteds = 0
  steps_all (MoreNoteds e es) = steps e + steps_all es

abbrev pub frame_steps : (ℕ → Noted) → Frame → ℕ
frame_steps t (F.Fun x ty) = 2 + steps (t x)
frame_steps t (F.Arg f ty) = 2
frame_steps t (F.Inst arg ty) = 2
frame_steps t (F.Left op b) = 1 + steps (t b)
frame_steps t (F.Right op a) = 1
frame_steps t (F.Proj i ty) = 1
frame_steps t (F.Fields rest done ty) = 1 + steps_all (noteds (map t rest.now))
frame_steps t (F.Tail l) = 0
frame_steps t (F.Test a b l) = 1 + (steps (t a) + steps (t b))
frame_steps t (F.Let b) = 3 + steps (t b)
frame_steps t (F.Open b ty) = 6 + steps (t b)
frame_steps t F.Leave = 2
frame_steps t F.LeaveType = 2
frame_steps t (F.Pack h ty) = 1
frame_steps t (F.Ref ty) = 1
frame_steps t (F.Deref ty) = 1
frame_steps t (F.Cell b) = 1 + steps (t b)
frame_steps t (F.Set a) = 1

abbrev pub pending_steps : (ℕ → Noted) → Pending → ℕ
pending_steps t (P.Fix d tv arg res) = 2
pending_steps t (P.Gen d tv ty) = 2
pending_steps t (P.Other e d tv l) = 1 + steps (t e)
pending_steps t (P.If0 c a b d tv ty) = 2 + (steps (t c) + steps (t a) + steps (t b))
pending_steps t P.End = 1
pending_steps t P.Leave = 1
pending_steps t P.LeaveType = 1
pending_steps t (P.Enter a) = 1
pending_steps t (P.EnterType l) = 1

abbrev pub control_steps : (ℕ → Noted) → Control → ℕ
control_steps t (C.Walk i d) = steps (t i)
control_steps t (C.Give a d) = 1
control_steps t C.Ended = 0

-- the same of all that is kept for later
abbrev pub owed : (ℕ → Noted) → Work → ℕ
owed t w = sum_by (frame_steps t) w.frames.items + sum_by (pending_steps t) w.pending.items

-- from a state that is still to write these nodes, by at most n steps more than it keeps for later, to one with fewer
-- steps left
abbrev pub Begins : (ℕ → Noted) → Work → Nodes → ℕ → Work → Control → Type 0
Begins t w ns n w' c' = (written w ++ ns ≡ written w' ++ stream t w' c')
    × (control_steps t c' + owed t w' < n + owed t w)

-- a step: what is written and still to be written stays the same
abbrev pub Steps : (ℕ → Noted) → Work → Control → Work → Control → Type 0
Steps t w c w' c' = Begins t w (stream t w c) (control_steps t c) w' c'

-- the same where a term itself is to be converted, where what comes after it is to be handed over, and where fields are
abbrev pub after : (ℕ → Noted) → Work → Nodes
after t w = todo t w.pending.items (at w) (below (rests t w.frames.items))

abbrev pub rest_of : (ℕ → Noted) → Work → Rest
rest_of t w = top (rests t w.frames.items) (at w)

abbrev pub Goes : (ℕ → Noted) → Work → Noted → ℕ → Work → Control → Type 0
Goes t w e d w' c' = Begins t w (emit e w.types d (at w) (rest_of t w) (after t w)) (steps e) w' c'

abbrev pub Hands : (ℕ → Noted) → Work → K.KTy → ℕ → Work → Control → Type 0
Hands t w ty d w' c' = Begins t w (as_value ty (rest_of t w) w.types d (after t w)) 3 w' c'

abbrev pub FieldsGo : (ℕ → Noted) → Work → List ℕ → List s.Atom → Ty → ℕ → Work → Control → Type 0
FieldsGo t w es done ty d w' c' =
    Begins t w (emit_all (noteds (map t es)) w.types d (at w) done (to_tuple (at w).0 ty (rest_of t w)) (after t w))
    (1 + (1 + steps_all (noteds (map t es)))) w' c'

-- the code of what comes after a term is begun, and p is kept for where it has ended
pub record Opens (w : Work) (ty : K.KTy) (d : ℕ) (p : Pending) (w' : Work) : Type 0 where
  pub writes : (ns : Nodes) → written w' ++ ns ≡ written w ++ n.NCode d w.types 0 (rest_args ty) ∷ ns
  pub same_frames : w'.frames.items ≡ w.frames.items
  pub keeps : w'.pending.items ≡ w.pending.items ++ p ∷ []
  pub same_place : at w' ≡ at w
  pub same_types : w'.types ≡ w.types

-- the same where a frame that was taken off is given an atom
abbrev pub Takes : (ℕ → Noted) → Work → Frame → Atom → ℕ → Work → Control → Type 0
Takes t w f a d w' c' =
    let ks : Rests = through t f (rests t w.frames.items) in
    Begins t w (deliver (top ks (at w)) w.types d (atom a) (todo t w.pending.items (at w) (below ks)))
    (1 + frame_steps t f) w' c'

-- and where what was kept for later, and was taken off, comes
abbrev pub Follows : (ℕ → Noted) → Work → Pending → Work → Control → Type 0
Follows t w p w' c' =
    Begins t w (then t p (todo t w.pending.items) (at w) (rests t w.frames.items)) (pending_steps t p) w' c'

-- the level of the name that a frame hands its atom to
abbrev pub tail_of : Frame → Option ℕ
tail_of (F.Tail l) = Some l
tail_of _ = None

-- the innermost term isn't in tail place
abbrev pub IsRestless : (ℕ → Noted) → List Frame → Type 0
IsRestless t fs = (q : Scope) → (form : ℕ → ℕ → s.Atom → Nodes → Nodes) × (top (rests t fs) q ≡ Bind form)

-- a step where a term has ended, or nothing is left to write
abbrev pub ResumeIs : (ℕ → Noted) → Work → Work → Option Control → Type 0
ResumeIs t w w' None = written w ++ stream t w C.Ended ≡ written w'
ResumeIs t w w' (Some c') = Steps t w C.Ended w' c'

-- the numbers of nodes that are kept are less than m
abbrev pub FrameIn : ℕ → Frame → Type 0
FrameIn m (F.Fun x ty) = x < m
FrameIn m (F.Left op b) = b < m
FrameIn m (F.Fields rest done ty) = All (λ i. i < m) rest.now
FrameIn m (F.Test a b l) = (a < m) × (b < m)
FrameIn m (F.Let b) = b < m
FrameIn m (F.Open b ty) = b < m
FrameIn m (F.Cell b) = b < m
FrameIn m _ = Unit {0}

abbrev pub PendingIn : ℕ → Pending → Type 0
PendingIn m (P.Other e d tv l) = e < m
PendingIn m (P.If0 c a b d tv ty) = (c < m) × (a < m) × (b < m)
PendingIn m _ = Unit {0}

abbrev pub ControlIn : ℕ → Control → Type 0
ControlIn m (C.Walk i d) = i < m
ControlIn m (C.Give a d) = Unit {0}
ControlIn m C.Ended = Unit {0}

abbrev pub KeptIn : ℕ → Work → Type 0
KeptIn m w = All (FrameIn m) w.frames.items × All (PendingIn m) w.pending.items

abbrev pub Inside : ℕ → Work → Control → Type 0
Inside m w c = ControlIn m c × All (FrameIn m) w.frames.items × All (PendingIn m) w.pending.items

abbrev pub NextIn : ℕ → Work → Option Control → Type 0
NextIn m w None = Unit {0}
NextIn m w (Some c) = Inside m w c
