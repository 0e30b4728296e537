-- What is done with an atom, frame by frame.
use Rattle.std.proofs.Common.{◌≡◌, ℕ, IfOk, Result, suc, ◌+◌, List, [], ◌∷◌, ◌++◌, map, length, refl, sym, ap, ◌∙◌}
use Rattle.std.proofs.Common.{subst, arith, Vec, Global, Bor}
use Rattle.idx_core.specs.declared.arith.Op.{Op}
use Rattle.f_terms.specs.Read.{tree}
use Rattle.k_terms.specs.K as K
use Rattle.k_terms.specs.Stream.{KNd, NVar, NTuple, NName, NCall, NIf, NElse}
use Rattle.k_terms.specs.Read.{knode}
use Rattle.k_terms.specs.declared.node.KNode.{KNode}
use Rattle.f_terms.specs.Ty.{Ty}
use Rattle.f_terms.specs.Noted.{Noted, EApp, EInst, ETuple, EProj, EArith, ELet, EPack, EOpen, ERef, EDeref, EAssign}
use Rattle.f_terms.specs.Noted.{noteds}
use Rattle.k_laws.specs.Cps as s
use Rattle.k_laws.specs.Cps.{Level, kat}
use Rattle.k_pass.specs.Emit.{Rest, Bind, Pass, Scope, atom_node, atom_nodes, deliver, as_value, rest_args}
use Rattle.k_pass.specs.Emit.{unpack_node, under_name, under_type, emit}
use Rattle.k_pass.specs.Machine.{Nodes, atom, levels, atoms, left, left_type, at, Rests, top, below, through, rests}
use Rattle.k_pass.specs.Machine.{then, todo, stream, written, steps, steps_all, frame_steps, pending_steps, Steps}
use Rattle.k_pass.specs.Machine.{Takes, Goes, Hands, FieldsGo, after, rest_of, IsRestless, FrameIn, KeptIn, Inside}
use Rattle.k_pass.specs.declared.work.Atom.{Atom}
use Rattle.k_pass.specs.declared.work.Atom.TheVariants as A
use Rattle.k_pass.specs.declared.work.Frame.{Frame}
use Rattle.k_pass.specs.declared.work.Frame.TheVariants as F
use Rattle.k_pass.specs.declared.work.Pending.{Pending}
use Rattle.k_pass.specs.declared.work.Pending.TheVariants as P
use Rattle.k_pass.specs.declared.work.Control.{Control}
use Rattle.k_pass.specs.declared.work.Control.TheVariants as C
use Rattle.k_pass.specs.declared.work.Work.{Work}
use Rattle.f_terms.specs.declared.types.FType.{FType}
use Rattle.k_pass.proofs.Stacks.{folded_push, sum_push, pushed, popped, wrote, given_next}
use Rattle.k_pass.proofs.Moves.{finish, atoms_push, levels_push, scope_is}
use Rattle.k_pass.proofs.Inside.{all_pop}
use Rattle.std.proofs.lemmas.Result.{IfOk-weaker}

pub gives_fun : (t : ℕ → Noted) (w : Work) (v v2 : Vec Frame Global) (x : ℕ) (ty : Bor FType) (a : Atom) (d : ℕ) →
    w.frames.items ≡ v.items ++ F.Fun x ty ∷ [] → v2.items ≡ v.items ++ F.Arg a ty ∷ [] →
    Steps t w (C.Give a d) (record w { frames = v2 }) (C.Walk x d)
gives_fun t w v v2 x ty a d e f =
    popped t w v (F.Fun x ty) a d (record w { frames = v2 }) (C.Walk x d) e
    (pushed t (record w { frames = v }) v2 (F.Arg a ty) _ (1 + frame_steps t (F.Fun x ty)) (C.Walk x d) f refl
    (omega arith))

pub gives_left : (t : ℕ → Noted) (w : Work) (v v2 : Vec Frame Global) (op : Op) (b : ℕ) (a : Atom) (d : ℕ) →
    w.frames.items ≡ v.items ++ F.Left op b ∷ [] → v2.items ≡ v.items ++ F.Right op a ∷ [] →
    Steps t w (C.Give a d) (record w { frames = v2 }) (C.Walk b d)
gives_left t w v v2 op b a d e f =
    popped t w v (F.Left op b) a d (record w { frames = v2 }) (C.Walk b d) e
    (pushed t (record w { frames = v }) v2 (F.Right op a) _ (1 + frame_steps t (F.Left op b)) (C.Walk b d) f refl
    (omega arith))

pub gives_cell : (t : ℕ → Noted) (w : Work) (v v2 : Vec Frame Global) (b : ℕ) (a : Atom) (d : ℕ) →
    w.frames.items ≡ v.items ++ F.Cell b ∷ [] → v2.items ≡ v.items ++ F.Set a ∷ [] →
    Steps t w (C.Give a d) (record w { frames = v2 }) (C.Walk b d)
gives_cell t w v v2 b a d e f =
    popped t w v (F.Cell b) a d (record w { frames = v2 }) (C.Walk b d) e
    (pushed t (record w { frames = v }) v2 (F.Set a) _ (1 + frame_steps t (F.Cell b)) (C.Walk b d) f refl (omega arith))

pub takes_arg : (t : ℕ → Noted) (w : Work) (o : Vec KNode Global) (f : Atom) (ty : Bor FType) (a : Atom) (d : ℕ)
    (tys : K.KTys) (w' : Work) (c' : Control) →
    ((ns : Nodes) → map knode o.items ++ ns ≡ written w ++ atom_node (atom f) ∷ NCall d w.types tys 2
    ∷ atom_node (atom a) ∷ ns) →
    tys ≡ K.NoKTys →
    Hands t (record w { out = o }) (kat w.types (at w).0 (tree ty.now)) d w' c' → Takes t w (F.Arg f ty) a d w' c'
takes_arg t w o f ty a d tys w' c' wr tyse h =
    let w1 : Work = record w { out = o } in
    let R : Nodes = as_value (kat w.types (at w).0 (tree ty.now)) (rest_of t w1) w.types d (after t w1) in
    let M : K.KTys → Nodes = λ u. atom_node (atom f) ∷ NCall d w.types u 2 ∷ atom_node (atom a) ∷ R in
    wrote t w w1 w' c' 3 R (M K.NoKTys) (wr R ∙ ap (λ (u : K.KTys). written w ++ M u) tyse) refl h

pub takes_inst : (t : ℕ → Noted) (w : Work) (o : Vec KNode Global) (arg ty : Bor FType) (a : Atom) (d : ℕ)
    (tys : K.KTys) (w' : Work) (c' : Control) →
    ((ns : Nodes) → map knode o.items ++ ns ≡ written w ++ atom_node (atom a) ∷ NCall d w.types tys 1 ∷ ns) →
    tys ≡ rest_args (kat w.types (at w).0 (tree arg.now)) →
    Hands t (record w { out = o }) (kat w.types (at w).0 (tree ty.now)) d w' c' → Takes t w (F.Inst arg ty) a d w' c'
takes_inst t w o arg ty a d tys w' c' wr tyse h =
    let w1 : Work = record w { out = o } in
    let R : Nodes = as_value (kat w.types (at w).0 (tree ty.now)) (rest_of t w1) w.types d (after t w1) in
    let M : K.KTys → Nodes = λ u. atom_node (atom a) ∷ NCall d w.types u 1 ∷ R in
    wrote t w w1 w' c' 3 R (M (rest_args (kat w.types (at w).0 (tree arg.now))))
    (wr R ∙ ap (λ (u : K.KTys). written w ++ M u) tyse) refl h

-- a node of two atoms, or of one, whose name is given next
pub takes_two : (t : ℕ → Noted) (w : Work) (o : Vec KNode Global) (f : Frame) (b a : Atom) (d inside : ℕ) (node : KNd) →
    frame_steps t f ≡ 1 →
    deliver (top (through t f (rests t w.frames.items)) (at w)) w.types d (atom a)
    (todo t w.pending.items (at w) (below (through t f (rests t w.frames.items))))
    ≡ atom_node (atom b) ∷ atom_node (atom a) ∷ node ∷ deliver (rest_of t w) w.types (suc d) (Level d) (after t w) →
    ((ns : Nodes) → map knode o.items ++ ns ≡ written w ++ atom_node (atom b) ∷ atom_node (atom a) ∷ node ∷ ns) →
    inside ≡ suc d →
    Takes t w f a d (record w { out = o }) (C.Give (A.Level d) inside)
takes_two t w o f b a d inside node one is wr e =
    let w1 : Work = record w { out = o } in
    let R : Nodes = deliver (rest_of t w1) w.types (suc d) (Level d) (after t w1) in
    wrote t w w1 w1 (C.Give (A.Level d) inside) (1 + frame_steps t f) R
    (deliver (top (through t f (rests t w.frames.items)) (at w)) w.types d (atom a)
    (todo t w.pending.items (at w) (below (through t f (rests t w.frames.items)))))
    (wr R ∙ ap (λ (ns : Nodes). written w ++ ns) (sym is)) refl
    (given_next t w1 d (suc d) inside (1 + frame_steps t f) e (omega (arith, one)))

pub takes_one : (t : ℕ → Noted) (w : Work) (o : Vec KNode Global) (f : Frame) (a : Atom) (d inside : ℕ)
    (node made : KNd) →
    frame_steps t f ≡ 1 →
    deliver (top (through t f (rests t w.frames.items)) (at w)) w.types d (atom a)
    (todo t w.pending.items (at w) (below (through t f (rests t w.frames.items))))
    ≡ atom_node (atom a) ∷ node ∷ deliver (rest_of t w) w.types (suc d) (Level d) (after t w) →
    ((ns : Nodes) → map knode o.items ++ ns ≡ written w ++ atom_node (atom a) ∷ made ∷ ns) → made ≡ node →
    inside ≡ suc d →
    Takes t w f a d (record w { out = o }) (C.Give (A.Level d) inside)
takes_one t w o f a d inside node made one is wr same e =
    let w1 : Work = record w { out = o } in
    let R : Nodes = deliver (rest_of t w1) w.types (suc d) (Level d) (after t w1) in
    wrote t w w1 w1 (C.Give (A.Level d) inside) (1 + frame_steps t f) R
    (deliver (top (through t f (rests t w.frames.items)) (at w)) w.types d (atom a)
    (todo t w.pending.items (at w) (below (through t f (rests t w.frames.items)))))
    (wr R ∙ ap (λ (n : KNd). written w ++ atom_node (atom a) ∷ n ∷ R) same
    ∙ ap (λ (ns : Nodes). written w ++ ns) (sym is)) refl
    (given_next t w1 d (suc d) inside (1 + frame_steps t f) e (omega (arith, one)))

pub takes_tail : (t : ℕ → Noted) (w : Work) (o : Vec KNode Global) (l : ℕ) (a : Atom) (d : ℕ) (tys : K.KTys) →
    ((ns : Nodes) → map knode o.items ++ ns ≡ written w ++ NVar l ∷ NCall d w.types tys 1 ∷ atom_node (atom a) ∷ ns) →
    tys ≡ K.NoKTys →
    Takes t w (F.Tail l) a d (record w { out = o }) C.Ended
takes_tail t w o l a d tys wr tyse =
    let w1 : Work = record w { out = o } in
    let R : Nodes = stream t w1 C.Ended in
    let M : K.KTys → Nodes = λ u. NVar l ∷ NCall d w.types u 1 ∷ atom_node (atom a) ∷ R in
    wrote t w w1 w1 C.Ended 1 R (M K.NoKTys) (wr R ∙ ap (λ (u : K.KTys). written w ++ M u) tyse) refl
    (refl, omega arith)

pub takes_test : (t : ℕ → Noted) (w : Work) (o : Vec KNode Global) (v : Vec Frame Global) (ps : Vec Pending Global)
    (b c l : ℕ) (a : Atom) (d : ℕ) →
    ((ns : Nodes) → map knode o.items ++ ns ≡ written w ++ atom_node (atom a) ∷ NIf ∷ ns) →
    ps.items ≡ w.pending.items ++ P.Other c d w.types l ∷ [] → v.items ≡ w.frames.items ++ F.Tail l ∷ [] →
    Takes t w (F.Test b c l) a d (record w { out = o; frames = v; pending = ps }) (C.Walk b d)
takes_test t w o v ps b c l a d wr pe fe =
    let q = at w in
    let tv = w.types in
    let ks = rests t w.frames.items in
    let td = todo t w.pending.items in
    let w' : Work = record w { out = o; frames = v; pending = ps } in
    let R : Nodes = emit (t b) tv d q (Pass l) (NElse tv ∷ emit (t c) tv d q (Pass l) (td q ks)) in
    finish t w w' (atom_node (atom a) ∷ NIf ∷ R) (1 + frame_steps t (F.Test b c l)) (C.Walk b d)
    (through t (F.Tail l) ks) (then t (P.Other c d tv l) td) tv q
    (folded_push (through t) [] _ _ (F.Tail l) fe) (folded_push (then t) (λ q ks. []) _ _ (P.Other c d tv l) pe) refl
    refl
    (wr R) (omega (arith, sum_push (frame_steps t) _ _ _ fe, sum_push (pending_steps t) _ _ _ pe))

-- a body in tail place, under one more name
pub let_tail : (t : ℕ → Noted) (w : Work) (v v2 : Vec Frame Global) (ps : Vec Pending Global) (ns : Vec Atom Global)
    (b l : ℕ) (a : Atom) (d : ℕ) →
    w.frames.items ≡ v.items ++ F.Tail l ∷ [] → v2.items ≡ v.items ++ F.Tail l ∷ [] →
    ns.items ≡ w.names.items ++ a ∷ [] → ps.items ≡ w.pending.items ++ P.Leave ∷ [] →
    Takes t w (F.Let b) a d (record w { frames = v2; pending = ps; names = ns }) (C.Walk b d)
let_tail t w v v2 ps ns b l a d e f xs pe =
    let q = at w in
    let tv = w.types in
    let q' : Scope = under_name (atom a) q in
    let td = todo t w.pending.items in
    let w' : Work = record w { frames = v2; pending = ps; names = ns } in
    let G : Rests → Nodes = λ ks. emit (t b) tv d q' (top ks q) (td q (below ks)) in
    finish t w w' (G (rests t w.frames.items)) (1 + frame_steps t (F.Let b)) (C.Walk b d)
    (through t (F.Tail l) (rests t v.items)) (then t P.Leave td) tv q'
    (folded_push (through t) [] _ _ (F.Tail l) f) (folded_push (then t) (λ q ks. []) _ _ P.Leave pe) refl
    (scope_is _ _ _ _ refl (atoms_push _ _ a xs))
    (ap (λ (ks : Rests). written w ++ G ks) (sym (folded_push (through t) [] _ _ (F.Tail l) e)))
    (omega (
      arith,
      sum_push (frame_steps t) _ _ _ e,
      sum_push (frame_steps t) _ _ _ f,
      sum_push (pending_steps t) _ _ _ pe,
    ))

-- one that isn't: the name goes where the body's atom is handed on
handed_on : (k : Rest) (form : ℕ → ℕ → s.Atom → Nodes → Nodes) → k ≡ Bind form → Bind (λ tv d a. deliver k tv d a) ≡ k
handed_on k form e = ap (λ (x : Rest). Bind (λ tv d a. deliver x tv d a)) e ∙ sym e

pub let_rest : (t : ℕ → Noted) (w : Work) (v v2 : Vec Frame Global) (ps : Vec Pending Global) (ns : Vec Atom Global)
    (b : ℕ) (a : Atom) (d : ℕ) →
    v.items ≡ w.frames.items → IsRestless t w.frames.items → v2.items ≡ v.items ++ F.Leave ∷ [] →
    ns.items ≡ w.names.items ++ a ∷ [] → ps.items ≡ w.pending.items ++ P.Leave ∷ [] →
    Takes t w (F.Let b) a d (record w { frames = v2; pending = ps; names = ns }) (C.Walk b d)
let_rest t w v v2 ps ns b a d same restless f xs pe =
    let q = at w in
    let tv = w.types in
    let q' : Scope = under_name (atom a) q in
    let td = todo t w.pending.items in
    let ks = rests t w.frames.items in
    let w' : Work = record w { frames = v2; pending = ps; names = ns } in
    let f' : v2.items ≡ w.frames.items ++ F.Leave ∷ [] = f ∙ ap (λ (fs : List Frame). fs ++ F.Leave ∷ []) same in
    let G : Rest → Nodes = λ k. emit (t b) tv d q' k (td q (below ks)) in
    finish t w w' (G (top ks q)) (1 + frame_steps t (F.Let b)) (C.Walk b d) (through t F.Leave ks)
    (then t P.Leave td) tv q'
    (folded_push (through t) [] _ _ F.Leave f') (folded_push (then t) (λ q ks. []) _ _ P.Leave pe) refl
    (scope_is _ _ _ _ refl (atoms_push _ _ a xs))
    (ap (λ (k : Rest). written w ++ G k) (handed_on (top ks q) (restless q).0 (restless q).1))
    (omega (arith, sum_push (frame_steps t) _ _ _ f', sum_push (pending_steps t) _ _ _ pe))

-- the same for a body under one more name and one more type name, after an unpacking
pub open_tail : (t : ℕ → Noted) (w : Work) (o : Vec KNode Global) (v v2 : Vec Frame Global)
    (ps ps2 : Vec Pending Global) (ns : Vec Atom Global) (ls : Vec ℕ Global) (b l : ℕ) (ty : Bor FType) (a : Atom)
    (d inside under' : ℕ) (made : KNd) →
    ((ms : Nodes) → map knode o.items ++ ms ≡ written w ++ atom_node (atom a) ∷ made ∷ ms) →
    made ≡ unpack_node (at w).0 (tree ty.now) w.types d →
    w.frames.items ≡ v.items ++ F.Tail l ∷ [] → v2.items ≡ v.items ++ F.Tail l ∷ [] →
    ns.items ≡ w.names.items ++ A.Level d ∷ [] → ls.items ≡ w.levels.items ++ w.types ∷ [] →
    ps.items ≡ w.pending.items ++ P.Leave ∷ [] → ps2.items ≡ ps.items ++ P.LeaveType ∷ [] → inside ≡ suc d →
    under' ≡ suc w.types →
    Takes t w (F.Open b ty) a d
    (record w { out = o; frames = v2; pending = ps2; names = ns; levels = ls; types = under' }) (C.Walk b inside)
open_tail t w o v v2 ps ps2 ns ls b l ty a d inside under' made wr me e f xs lse pe pe2 ie ue =
    let q = at w in
    let tv = w.types in
    let q' : Scope = under_name (Level d) (under_type tv q) in
    let td = todo t w.pending.items in
    let w' : Work = record w { out = o; frames = v2; pending = ps2; names = ns; levels = ls; types = under' } in
    let N : KNd = unpack_node q.0 (tree ty.now) tv d in
    let G : ℕ → Rests → Nodes = λ x ks. emit (t b) (suc tv) x q' (top ks q) (td q (below ks)) in
    let KT : Rests = through t (F.Tail l) (rests t v.items) in
    finish t w w' (atom_node (atom a) ∷ N ∷ G (suc d) (rests t w.frames.items)) (1 + frame_steps t (F.Open b ty))
    (C.Walk b inside) KT (then t P.LeaveType (then t P.Leave td)) (suc tv) q'
    (folded_push (through t) [] _ _ (F.Tail l) f)
    (folded_push (then t) (λ q ks. []) _ _ P.LeaveType pe2
    ∙ ap (then t P.LeaveType) (folded_push (then t) (λ q ks. []) _ _ P.Leave pe)) ue
    (scope_is _ _ _ _ (levels_push _ _ tv lse) (atoms_push _ _ (A.Level d) xs))
    (wr (G inside KT) ∙ ap (λ (n : KNd). written w ++ atom_node (atom a) ∷ n ∷ G inside KT) me
    ∙ ap (λ (x : ℕ). written w ++ atom_node (atom a) ∷ N ∷ G x KT) ie
    ∙ ap (λ (ks : Rests). written w ++ atom_node (atom a) ∷ N ∷ G (suc d) ks)
    (sym (folded_push (through t) [] _ _ (F.Tail l) e)))
    (omega (
      arith,
      sum_push (frame_steps t) _ _ _ e,
      sum_push (frame_steps t) _ _ _ f,
      sum_push (pending_steps t) _ _ _ pe,
      sum_push (pending_steps t) _ _ _ pe2,
    ))

pub open_rest : (t : ℕ → Noted) (w : Work) (o : Vec KNode Global) (v v2 v3 : Vec Frame Global)
    (ps ps2 : Vec Pending Global) (ns : Vec Atom Global) (ls : Vec ℕ Global) (b : ℕ) (ty : Bor FType) (a : Atom)
    (d inside under' : ℕ) (made : KNd) →
    ((ms : Nodes) → map knode o.items ++ ms ≡ written w ++ atom_node (atom a) ∷ made ∷ ms) →
    made ≡ unpack_node (at w).0 (tree ty.now) w.types d →
    v.items ≡ w.frames.items → IsRestless t w.frames.items → v2.items ≡ v.items ++ F.LeaveType ∷ [] →
    v3.items ≡ v2.items ++ F.Leave ∷ [] →
    ns.items ≡ w.names.items ++ A.Level d ∷ [] → ls.items ≡ w.levels.items ++ w.types ∷ [] →
    ps.items ≡ w.pending.items ++ P.Leave ∷ [] → ps2.items ≡ ps.items ++ P.LeaveType ∷ [] → inside ≡ suc d →
    under' ≡ suc w.types →
    Takes t w (F.Open b ty) a d
    (record w { out = o; frames = v3; pending = ps2; names = ns; levels = ls; types = under' }) (C.Walk b inside)
open_rest t w o v v2 v3 ps ps2 ns ls b ty a d inside under' made wr me same restless f f3 xs lse pe pe2 ie ue =
    let q = at w in
    let tv = w.types in
    let q' : Scope = under_name (Level d) (under_type tv q) in
    let td = todo t w.pending.items in
    let ks = rests t w.frames.items in
    let w' : Work = record w { out = o; frames = v3; pending = ps2; names = ns; levels = ls; types = under' } in
    let f' : v2.items ≡ w.frames.items ++ F.LeaveType ∷ [] =
    f ∙ ap (λ (fs : List Frame). fs ++ F.LeaveType ∷ []) same in
    let N : KNd = unpack_node q.0 (tree ty.now) tv d in
    let G : ℕ → Rest → Nodes = λ x k. emit (t b) (suc tv) x q' k (td q (below ks)) in
    let KT : Rests = through t F.Leave (through t F.LeaveType ks) in
    let kt : Rest = Bind (λ tv d a. deliver (top ks q) tv d a) in
    finish t w w' (atom_node (atom a) ∷ N ∷ G (suc d) (top ks q)) (1 + frame_steps t (F.Open b ty))
    (C.Walk b inside) KT (then t P.LeaveType (then t P.Leave td)) (suc tv) q'
    (folded_push (through t) [] _ _ F.Leave f3 ∙ ap (through t F.Leave) (folded_push (through t) [] _ _ F.LeaveType f'))
    (folded_push (then t) (λ q ks. []) _ _ P.LeaveType pe2
    ∙ ap (then t P.LeaveType) (folded_push (then t) (λ q ks. []) _ _ P.Leave pe)) ue
    (scope_is _ _ _ _ (levels_push _ _ tv lse) (atoms_push _ _ (A.Level d) xs))
    (wr (G inside kt) ∙ ap (λ (n : KNd). written w ++ atom_node (atom a) ∷ n ∷ G inside kt) me
    ∙ ap (λ (x : ℕ). written w ++ atom_node (atom a) ∷ N ∷ G x kt) ie
    ∙ ap (λ (k : Rest). written w ++ atom_node (atom a) ∷ N ∷ G (suc d) k)
    (handed_on (top ks q) (restless q).0 (restless q).1))
    (omega (
      arith,
      sum_push (frame_steps t) _ _ _ f',
      sum_push (frame_steps t) _ _ _ f3,
      sum_push (pending_steps t) _ _ _ pe,
      sum_push (pending_steps t) _ _ _ pe2,
    ))

-- a name goes, and comes again later
pub leaves : (t : ℕ → Noted) (w : Work) (ns : Vec Atom Global) (ps : Vec Pending Global) (x a : Atom) (d : ℕ) →
    w.names.items ≡ ns.items ++ x ∷ [] → ps.items ≡ w.pending.items ++ P.Enter x ∷ [] →
    Takes t w F.Leave a d (record w { pending = ps; names = ns }) (C.Give a d)
leaves t w ns ps x a d xs pe =
    let q : Scope = (levels w.levels.items, atoms ns.items) in
    let td = todo t w.pending.items in
    let ks = rests t w.frames.items in
    let w' : Work = record w { pending = ps; names = ns } in
    let G : Scope → Nodes = λ p. deliver (top ks (left p)) w.types d (atom a) (td p (below ks)) in
    finish t w w' (G (at w)) (1 + frame_steps t F.Leave) (C.Give a d) ks (then t (P.Enter x) td) w.types q
    refl (folded_push (then t) (λ q ks. []) _ _ (P.Enter x) pe) refl refl
    (ap (λ (names : List s.Atom). written w ++ G (q.0, names)) (sym (atoms_push _ _ x xs)))
    (omega (arith, sum_push (pending_steps t) _ _ _ pe))

pub leaves_type : (t : ℕ → Noted) (w : Work) (ls : Vec ℕ Global) (ps : Vec Pending Global) (x : ℕ) (a : Atom) (d : ℕ) →
    w.levels.items ≡ ls.items ++ x ∷ [] → ps.items ≡ w.pending.items ++ P.EnterType x ∷ [] →
    Takes t w F.LeaveType a d (record w { pending = ps; levels = ls }) (C.Give a d)
leaves_type t w ls ps x a d xs pe =
    let q : Scope = (levels ls.items, atoms w.names.items) in
    let td = todo t w.pending.items in
    let ks = rests t w.frames.items in
    let w' : Work = record w { pending = ps; levels = ls } in
    let G : Scope → Nodes = λ p. deliver (top ks (left_type p)) w.types d (atom a) (td p (below ks)) in
    finish t w w' (G (at w)) (1 + frame_steps t F.LeaveType) (C.Give a d) ks (then t (P.EnterType x) td) w.types q
    refl (folded_push (then t) (λ q ks. []) _ _ (P.EnterType x) pe) refl refl
    (ap (λ (tl : List ℕ). written w ++ G (tl, q.1)) (sym (levels_push _ _ x xs)))
    (omega (arith, sum_push (pending_steps t) _ _ _ pe))

-- a frame is taken off first, and then given the atom
pub gave : {E : Type 0} (r : Result Control E) (w : Work) (v : Vec Frame Global) (f : Frame) (a : Atom) (d : ℕ)
    (w' : Work) →
    w.frames.items ≡ v.items ++ f ∷ [] →
    IfOk r (λ c'. (t : ℕ → Noted) → Takes t (record w { frames = v }) f a d w' c') →
    IfOk r (λ c'. (t : ℕ → Noted) → Steps t w (C.Give a d) w' c')
gave r w v f a d w' e h = IfOk-weaker r _ _ (λ c' takes t. popped t w v f a d w' c' e (takes t)) h

pub gave_inside : {E : Type 0} (r : Result Control E) (w : Work) (v : Vec Frame Global) (f : Frame) (w' : Work) →
    w.frames.items ≡ v.items ++ f ∷ [] →
    IfOk r (λ c'. (m : ℕ) → FrameIn m f → KeptIn m (record w { frames = v }) → Inside m w' c') →
    IfOk r (λ c'. (m : ℕ) → KeptIn m w → Inside m w' c')
gave_inside r w v f w' e h =
    IfOk-weaker r _ _ (λ c' inside m kept. let p = all_pop (FrameIn m) _ _ _ e kept.0 in inside m p.1 (p.0, kept.1)) h

-- the first step of a term
pub walks : (t : ℕ → Noted) (w : Work) (i d : ℕ) (e : Noted) (w' : Work) (c' : Control) → t i ≡ e →
    Goes t w e d w' c' → Steps t w (C.Walk i d) w' c'
walks t w i d e w' c' is h = subst (λ (x : Noted). Goes t w x d w' c') (sym is) h

pub goes_app : (t : ℕ → Noted) (w : Work) (v : Vec Frame Global) (f x : ℕ) (ty : Bor FType) (d : ℕ) →
    v.items ≡ w.frames.items ++ F.Fun x ty ∷ [] →
    Goes t w (EApp (t f) (t x) (tree ty.now)) d (record w { frames = v }) (C.Walk f d)
goes_app t w v f x ty d e =
    pushed t w v (F.Fun x ty) _ (3 + (steps (t f) + steps (t x))) (C.Walk f d) e refl (omega arith)

pub goes_inst : (t : ℕ → Noted) (w : Work) (v : Vec Frame Global) (f : ℕ) (arg ty : Bor FType) (d : ℕ) →
    v.items ≡ w.frames.items ++ F.Inst arg ty ∷ [] →
    Goes t w (EInst (t f) (tree arg.now) (tree ty.now)) d (record w { frames = v }) (C.Walk f d)
goes_inst t w v f arg ty d e = pushed t w v (F.Inst arg ty) _ (3 + steps (t f)) (C.Walk f d) e refl (omega arith)

pub goes_proj : (t : ℕ → Noted) (w : Work) (v : Vec Frame Global) (i f : ℕ) (ty : Bor FType) (d : ℕ) →
    v.items ≡ w.frames.items ++ F.Proj i ty ∷ [] →
    Goes t w (EProj i (t f) (tree ty.now)) d (record w { frames = v }) (C.Walk f d)
goes_proj t w v i f ty d e = pushed t w v (F.Proj i ty) _ (2 + steps (t f)) (C.Walk f d) e refl (omega arith)

pub goes_arith : (t : ℕ → Noted) (w : Work) (v : Vec Frame Global) (op : Op) (a b d : ℕ) →
    v.items ≡ w.frames.items ++ F.Left op b ∷ [] →
    Goes t w (EArith op (t a) (t b)) d (record w { frames = v }) (C.Walk a d)
goes_arith t w v op a b d e =
    pushed t w v (F.Left op b) _ (2 + (steps (t a) + steps (t b))) (C.Walk a d) e refl (omega arith)

pub goes_let : (t : ℕ → Noted) (w : Work) (v : Vec Frame Global) (a b d : ℕ) →
    v.items ≡ w.frames.items ++ F.Let b ∷ [] →
    Goes t w (ELet (t a) (t b)) d (record w { frames = v }) (C.Walk a d)
goes_let t w v a b d e = pushed t w v (F.Let b) _ (4 + (steps (t a) + steps (t b))) (C.Walk a d) e refl (omega arith)

pub goes_pack : (t : ℕ → Noted) (w : Work) (v : Vec Frame Global) (f : ℕ) (h ty : Bor FType) (d : ℕ) →
    v.items ≡ w.frames.items ++ F.Pack h ty ∷ [] →
    Goes t w (EPack (tree h.now) (t f) (tree ty.now)) d (record w { frames = v }) (C.Walk f d)
goes_pack t w v f h ty d e = pushed t w v (F.Pack h ty) _ (2 + steps (t f)) (C.Walk f d) e refl (omega arith)

pub goes_open : (t : ℕ → Noted) (w : Work) (v : Vec Frame Global) (a b : ℕ) (ty : Bor FType) (d : ℕ) →
    v.items ≡ w.frames.items ++ F.Open b ty ∷ [] →
    Goes t w (EOpen (t a) (t b) (tree ty.now)) d (record w { frames = v }) (C.Walk a d)
goes_open t w v a b ty d e =
    pushed t w v (F.Open b ty) _ (7 + (steps (t a) + steps (t b))) (C.Walk a d) e refl (omega arith)

pub goes_ref : (t : ℕ → Noted) (w : Work) (v : Vec Frame Global) (f : ℕ) (ty : Bor FType) (d : ℕ) →
    v.items ≡ w.frames.items ++ F.Ref ty ∷ [] →
    Goes t w (ERef (t f) (tree ty.now)) d (record w { frames = v }) (C.Walk f d)
goes_ref t w v f ty d e = pushed t w v (F.Ref ty) _ (2 + steps (t f)) (C.Walk f d) e refl (omega arith)

pub goes_deref : (t : ℕ → Noted) (w : Work) (v : Vec Frame Global) (f : ℕ) (ty : Bor FType) (d : ℕ) →
    v.items ≡ w.frames.items ++ F.Deref ty ∷ [] →
    Goes t w (EDeref (t f) (tree ty.now)) d (record w { frames = v }) (C.Walk f d)
goes_deref t w v f ty d e = pushed t w v (F.Deref ty) _ (2 + steps (t f)) (C.Walk f d) e refl (omega arith)

pub goes_assign : (t : ℕ → Noted) (w : Work) (v : Vec Frame Global) (a b d : ℕ) →
    v.items ≡ w.frames.items ++ F.Cell b ∷ [] →
    Goes t w (EAssign (t a) (t b)) d (record w { frames = v }) (C.Walk a d)
goes_assign t w v a b d e =
    pushed t w v (F.Cell b) _ (2 + (steps (t a) + steps (t b))) (C.Walk a d) e refl (omega arith)

pub goes_tuple : (t : ℕ → Noted) (w : Work) (es xs : List ℕ) (done : List Atom) (ty : Ty) (d : ℕ) (w' : Work)
    (c' : Control) → xs ≡ es → done ≡ [] →
    FieldsGo t w xs (map atom done) ty d w' c' → Goes t w (ETuple (noteds (map t es)) ty) d w' c'
goes_tuple t w es xs done ty d w' c' same none h =
    subst (λ (ys : List ℕ). Goes t w (ETuple (noteds (map t ys)) ty) d w' c') same
    (subst (λ (zs : List Atom). FieldsGo t w xs (map atom zs) ty d w' c') none h)

-- the fields of a tuple
pub fields_next : (t : ℕ → Noted) (w : Work) (v : Vec Frame Global) (es : List ℕ) (e : ℕ) (rest : Bor (List ℕ))
    (done : Vec Atom Global) (ty : Bor FType) (d : ℕ) →
    es ≡ e ∷ rest.now → v.items ≡ w.frames.items ++ F.Fields rest done ty ∷ [] →
    FieldsGo t w es (map atom done.items) (tree ty.now) d (record w { frames = v }) (C.Walk e d)
fields_next t w v es e rest done ty d is f =
    subst (λ (xs : List ℕ). FieldsGo t w xs (map atom done.items) (tree ty.now) d (record w { frames = v })
    (C.Walk e d)) (sym is)
    (pushed t w v (F.Fields rest done ty) _ (1 + (1 + steps_all (noteds (map t (e ∷ rest.now))))) (C.Walk e d) f refl
    (omega arith))

pub fields_end : (t : ℕ → Noted) (w : Work) (o : Vec KNode Global) (es : List ℕ) (done : List s.Atom) (ty : Ty)
    (u : K.KTy) (d inside : ℕ) →
    length es ≡ 0 →
    ((ns : Nodes) → map knode o.items ++ ns ≡ written w ++ atom_nodes done (NTuple (length done) ∷ NName d u ∷ ns)) →
    u ≡ kat w.types (at w).0 ty → inside ≡ suc d →
    FieldsGo t w es done ty d (record w { out = o }) (C.Give (A.Level d) inside)
fields_end t w o [] done ty u d inside none wr tye f =
    let w1 : Work = record w { out = o } in
    let R : Nodes = deliver (rest_of t w1) w.types (suc d) (Level d) (after t w1) in
    let M : K.KTy → Nodes = λ x. atom_nodes done (NTuple (length done) ∷ NName d x ∷ R) in
    wrote t w w1 w1 (C.Give (A.Level d) inside) 2 R (M (kat w.types (at w).0 ty))
    (wr R ∙ ap (λ (x : K.KTy). written w ++ M x) tye) refl (given_next t w1 d (suc d) inside 2 f (omega arith))
fields_end t w o (e ∷ es) done ty u d inside none wr tye f = absurd (omega (arith, none))
