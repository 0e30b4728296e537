-- The moves of the conversion.
use Rattle.std.proofs.Common.{◌≡◌, ℕ, IfOk, Result, zero, suc, ◌+◌, ◌-◌, ◌<◌, List, [], ◌∷◌, ◌++◌, Some, None, map}
use Rattle.std.proofs.Common.{length, take, get_or, refl, sym, ap, ap₂, ◌∙◌, subst, arith, sum_by, Vec, Global, Bor}
use Rattle.std.proofs.lemmas.Result.{IfOk-weaker}
use Rattle.k_terms.specs.K as K
use Rattle.k_terms.specs.Stream.{NVar, NCode, NEnd, NName, NElse}
use Rattle.k_terms.specs.Read.{knode}
use Rattle.k_terms.specs.declared.node.KNode.{KNode}
use Rattle.f_terms.specs.Ty.{Ty}
use Rattle.f_terms.specs.Read.{tree}
use Rattle.f_terms.specs.declared.types.FType.{FType}
use Rattle.f_terms.specs.Noted.{Noted, EFix, EGen, EIf}
use Rattle.k_laws.specs.Cps as s
use Rattle.k_laws.specs.Cps.{Level, kat, taking}
use Rattle.k_pass.specs.Emit.{Rest, Bind, Pass, Scope, deliver, named, as_value, bound_once, rest_args, fix_args}
use Rattle.k_pass.specs.Emit.{gen_args, emit}
use Rattle.k_pass.specs.Machine.{Nodes, atom, folded, levels, atoms, inner, at, Rests, top, below, branches, through}
use Rattle.k_pass.specs.Machine.{rests, Todo, then, todo, says, written, steps, frame_steps, pending_steps}
use Rattle.k_pass.specs.Machine.{control_steps, owed, Begins, Steps, Goes, Hands, Opens, IsRestless, tail_of}
use Rattle.k_pass.specs.declared.work.Atom.{Atom}
use Rattle.k_pass.specs.declared.work.Atom.TheVariants as A
use Rattle.k_pass.specs.declared.work.Frame.{Frame}
use Rattle.k_pass.specs.declared.work.Frame.TheVariants as F
use Rattle.k_pass.specs.declared.work.Pending.{Pending}
use Rattle.k_pass.specs.declared.work.Pending.TheVariants as P
use Rattle.k_pass.specs.declared.work.Control.{Control}
use Rattle.k_pass.specs.declared.work.Control.TheVariants as C
use Rattle.k_pass.specs.declared.work.Work.{Work}
use Rattle.k_pass.proofs.Stacks.{folded_push, sum_push, arrives, pushed, wrote}

-- a call whose clause tells which step is next
pub next_is : {A : Type 0} {E : Type 0} (r : Result Control E) (next : Control) (P : Control → Type 0) →
    IfOk r (λ c. (c ≡ next) × A) → (A → P next) → IfOk r P
next_is r next P made given = IfOk-weaker r _ _ (λ c h. subst P (sym h.0) (given h.1)) made

pub pop_is : {A : Type 0} (old rest : List A) (x y : A) → old ≡ rest ++ x ∷ [] → x ≡ y → old ≡ rest ++ y ∷ []
pop_is old rest x y e is = e ∙ ap (λ z. rest ++ z ∷ []) is

-- a move to a state whose stacks are known
pub finish : (t : ℕ → Noted) (w w' : Work) (ns : Nodes) (n : ℕ) (c : Control) (ks : Rests) (td : Todo) (tv : ℕ)
    (q : Scope) →
    rests t w'.frames.items ≡ ks → todo t w'.pending.items ≡ td → w'.types ≡ tv → at w' ≡ q →
    written w' ++ says t ks td tv q c ≡ written w ++ ns → control_steps t c + owed t w' < n + owed t w →
    Begins t w ns n w' c
finish t w w' ns n c ks td tv q e f v g same less =
    (sym same ∙ ap (λ (x : Nodes). written w' ++ x) (sym (arrives t w' c ks td tv q e f v g)), less)

-- stacks of names and of type names with one more
pub atoms_push : (xs ys : List Atom) (a : Atom) → ys ≡ xs ++ a ∷ [] → atoms ys ≡ atom a ∷ atoms xs
atoms_push xs ys a e = folded_push (λ x names. atom x ∷ names) [] xs ys a e

pub levels_push : (xs ys : List ℕ) (l : ℕ) → ys ≡ xs ++ l ∷ [] → levels ys ≡ l ∷ levels xs
levels_push xs ys l e = folded_push (λ x ls. x ∷ ls) [] xs ys l e

abbrev pub scope_of : List ℕ → List s.Atom → Scope
scope_of ls xs = (ls, xs)

pub scope_is : (ls ms : List ℕ) (xs ys : List s.Atom) → ls ≡ ms → xs ≡ ys → scope_of ls xs ≡ scope_of ms ys
scope_is ls ms xs ys e f = ap₂ scope_of e f

-- a function: its body comes first, in tail place, under its own name, its argument's and that of what comes after
pub fixes : (t : ℕ → Noted) (w w' : Work) (arg res : Bor FType) (body d first level inside : ℕ) (xs : List Atom)
    (tys : K.KTys) →
    ((ns : Nodes) → written w' ++ ns ≡ written w ++ NCode d w.types 0 tys ∷ ns) →
    tys ≡ fix_args w.types (levels w.levels.items) (tree arg.now) (tree res.now) →
    w'.frames.items ≡ w.frames.items ++ F.Tail level ∷ [] →
    w'.pending.items ≡ w.pending.items ++ P.Fix d w.types arg res ∷ [] →
    xs ≡ w.names.items ++ A.Level d ∷ [] → w'.names.items ≡ xs ++ A.Level first ∷ [] →
    w'.levels.items ≡ w.levels.items → w'.types ≡ w.types →
    first ≡ suc d → level ≡ suc first → inside ≡ suc level →
    Goes t w (EFix (tree arg.now) (tree res.now) (t body)) d w' (C.Walk body inside)
fixes t w w' arg res body d first level inside xs tys wr tyse fse pse xse xse' lse tve e1 e2 e3 =
    let q = at w in
    let tv = w.types in
    let ks = rests t w.frames.items in
    let td = todo t w.pending.items in
    let T : K.KTys = fix_args tv q.0 (tree arg.now) (tree res.now) in
    let R : Nodes = NEnd ∷ named (K.TKCode 0 T) (top ks q) tv d (td q (below ks)) in
    let E : ℕ → ℕ → ℕ → Nodes = λ x y z. emit (t body) tv z (q.0, Level x ∷ Level d ∷ q.1) (Pass y) R in
    let f1 : level ≡ suc (suc d) = e2 ∙ ap suc e1 in
    let f2 : inside ≡ suc (suc (suc d)) = e3 ∙ ap suc f1 in
    finish t w w' _ (steps (EFix (tree arg.now) (tree res.now) (t body))) (C.Walk body inside)
    (through t (F.Tail level) ks) (then t (P.Fix d tv arg res) td) tv (q.0, Level first ∷ Level d ∷ q.1)
    (folded_push (through t) [] _ _ (F.Tail level) fse)
    (folded_push (then t) (λ q ks. []) _ _ (P.Fix d tv arg res) pse)
    tve
    (scope_is _ _ _ _ (ap levels lse)
    (atoms_push _ _ (A.Level first) xse'
    ∙ ap (λ (ns : List s.Atom). Level first ∷ ns) (atoms_push _ _ (A.Level d) xse)))
    (wr (E first level inside)
    ∙ ap (λ (u : K.KTys). written w ++ NCode d tv 0 u ∷ E first level inside) tyse
    ∙ ap (λ x. written w ++ NCode d tv 0 T ∷ E x level inside) e1
    ∙ ap (λ x. written w ++ NCode d tv 0 T ∷ E (suc d) x inside) f1
    ∙ ap (λ x. written w ++ NCode d tv 0 T ∷ E (suc d) (suc (suc d)) x) f2)
    (omega (arith, sum_push (frame_steps t) _ _ _ fse, sum_push (pending_steps t) _ _ _ pse))

pub gens : (t : ℕ → Noted) (w w' : Work) (ty : Bor FType) (body d level inside tv' : ℕ) (tys : K.KTys) →
    ((ns : Nodes) → written w' ++ ns ≡ written w ++ NCode d w.types 1 tys ∷ ns) →
    tys ≡ gen_args tv' (levels w'.levels.items) (tree ty.now) →
    w'.frames.items ≡ w.frames.items ++ F.Tail level ∷ [] → w'.pending.items ≡ w.pending.items ++ P.Gen d w.types ty
    ∷ [] → w'.names.items ≡ w.names.items →
    w'.levels.items ≡ w.levels.items ++ w.types ∷ [] → w'.types ≡ tv' → tv' ≡ suc w.types → level ≡ suc d →
    inside ≡ suc level →
    Goes t w (EGen (t body) (tree ty.now)) d w' (C.Walk body inside)
gens t w w' ty body d level inside tv' tys wr tyse fse pse xse lse tve tve' e1 e2 =
    let q = at w in
    let tv = w.types in
    let ks = rests t w.frames.items in
    let td = todo t w.pending.items in
    let under : levels w'.levels.items ≡ tv ∷ q.0 = levels_push _ _ tv lse in
    let T : K.KTys = gen_args (suc tv) (tv ∷ q.0) (tree ty.now) in
    let R : Nodes = NEnd ∷ named (K.TKCode 1 T) (top ks q) tv d (td q (below ks)) in
    let E : ℕ → ℕ → Nodes = λ y z. emit (t body) (suc tv) z (tv ∷ q.0, q.1) (Pass y) R in
    let f2 : inside ≡ suc (suc d) = e2 ∙ ap suc e1 in
    finish t w w' _ (steps (EGen (t body) (tree ty.now))) (C.Walk body inside) (through t (F.Tail level) ks)
    (then t (P.Gen d tv ty) td) (suc tv) (tv ∷ q.0, q.1)
    (folded_push (through t) [] _ _ (F.Tail level) fse)
    (folded_push (then t) (λ q ks. []) _ _ (P.Gen d tv ty) pse)
    (tve ∙ tve')
    (scope_is _ _ _ _ under (ap atoms xse))
    (wr (E level inside)
    ∙ ap (λ (u : K.KTys). written w ++ NCode d tv 1 u ∷ E level inside)
    (tyse ∙ ap₂ (λ (x : ℕ) (ls : List ℕ). gen_args x ls (tree ty.now)) tve' under)
    ∙ ap (λ x. written w ++ NCode d tv 1 T ∷ E x inside) e1
    ∙ ap (λ x. written w ++ NCode d tv 1 T ∷ E (suc d) x) f2)
    (omega (arith, sum_push (frame_steps t) _ _ _ fse, sum_push (pending_steps t) _ _ _ pse))

-- an `if0` in tail place
pub if_tail : (t : ℕ → Noted) (w : Work) (v v2 : Vec Frame Global) (ty : Ty) (c a b d l : ℕ) →
    w.frames.items ≡ v.items ++ F.Tail l ∷ [] → v2.items ≡ v.items ++ F.Test a b l ∷ [] →
    Goes t w (EIf (t c) (t a) (t b) ty) d (record w { frames = v2 }) (C.Walk c d)
if_tail t w v v2 ty c a b d l e f =
    let q = at w in
    let td = todo t w.pending.items in (
      ap (λ (ks : Rests). written w ++ emit (EIf (t c) (t a) (t b) ty) w.types d q (top ks q) (td q (below ks)))
          (folded_push (through t) [] _ _ (F.Tail l) e)
          ∙ ap (λ (ks : Rests). written w ++ says t ks td w.types q (C.Walk c d))
          (sym (folded_push (through t) [] _ _ (F.Test a b l) f)),
      omega (arith, sum_push (frame_steps t) _ _ _ e, sum_push (frame_steps t) _ _ _ f),
    )

-- one that isn't: what comes after it is named first, and comes now
pub if_rest : (t : ℕ → Noted) (w : Work) (v : Vec Frame Global) (w' : Work) (ty : Bor FType) (c a b d : ℕ) →
    v.items ≡ w.frames.items → IsRestless t w.frames.items →
    Opens (record w { frames = v }) (kat w.types (at w).0 (tree ty.now)) d (P.If0 c a b d w.types ty) w' →
    Goes t w (EIf (t c) (t a) (t b) (tree ty.now)) d w' (C.Give (A.Level (suc d)) (suc (suc d)))
if_rest t w v w' ty c a b d same restless made =
    let q = at w in
    let tv = w.types in
    let u = kat tv q.0 (tree ty.now) in
    let ks = rests t w.frames.items in
    let td = todo t w.pending.items in
    let R : Nodes = td q (below ks) in
    let S : Nodes = NEnd ∷ NName d (taking u) ∷ emit (t c) tv (suc d) q (branches (t a) (t b) d q) R in
    let G : Rest → Nodes = λ k. bound_once u k tv d (λ d1 l. emit (t c) tv d1 q (branches (t a) (t b) l q)) R in
    let H : Rest → Nodes = λ k. deliver k tv (suc (suc d)) (Level (suc d)) S in
    let fse : w'.frames.items ≡ w.frames.items = made.same_frames ∙ same in
    finish t w w' (G (top ks q)) (steps (EIf (t c) (t a) (t b) (tree ty.now))) (C.Give (A.Level (suc d)) (suc (suc d)))
    ks (then t (P.If0 c a b d tv ty) td) tv q
    (ap (rests t) fse)
    (folded_push (then t) (λ q ks. []) _ _ (P.If0 c a b d tv ty) made.keeps)
    made.same_types
    made.same_place
    (made.writes (H (top ks q))
    ∙ ap (λ (k : Rest). written w ++ NCode d tv 0 (rest_args u) ∷ H k) (restless q).1
    ∙ sym (ap (λ (k : Rest). written w ++ G k) (restless q).1))
    (omega (arith, ap (sum_by (frame_steps t)) fse, sum_push (pending_steps t) _ _ _ made.keeps))

-- what comes after a term is handed over
pub hand_tail : (t : ℕ → Noted) (w : Work) (o : Vec KNode Global) (v : Vec Frame Global) (ty : K.KTy) (d l : ℕ) →
    w.frames.items ≡ v.items ++ F.Tail l ∷ [] →
    ((ns : Nodes) → map knode o.items ++ ns ≡ written w ++ NVar l ∷ ns) →
    Hands t w ty d (record w { out = o; frames = v }) C.Ended
hand_tail t w o v ty d l e wr =
    let q = at w in
    let td = todo t w.pending.items in (
      ap (λ (ks : Rests). written w ++ as_value ty (top ks q) w.types d (td q (below ks)))
          (folded_push (through t) [] _ _ (F.Tail l) e)
          ∙ sym (wr (td q (rests t v.items))),
      omega (arith, sum_push (frame_steps t) _ _ _ e),
    )

pub hand_rest : (t : ℕ → Noted) (w : Work) (v : Vec Frame Global) (w' : Work) (ty : K.KTy) (d : ℕ) →
    v.items ≡ w.frames.items → IsRestless t w.frames.items →
    Opens (record w { frames = v }) ty d P.End w' →
    Hands t w ty d w' (C.Give (A.Level (suc d)) (suc (suc d)))
hand_rest t w v w' ty d same restless made =
    let q = at w in
    let tv = w.types in
    let ks = rests t w.frames.items in
    let td = todo t w.pending.items in
    let R : Nodes = td q (below ks) in
    let G : Rest → Nodes = λ k. as_value ty k tv d R in
    let H : Rest → Nodes = λ k. deliver k tv (suc (suc d)) (Level (suc d)) (NEnd ∷ R) in
    let fse : w'.frames.items ≡ w.frames.items = made.same_frames ∙ same in
    finish t w w' (G (top ks q)) 3 (C.Give (A.Level (suc d)) (suc (suc d))) ks (then t P.End td) tv q
    (ap (rests t) fse) (folded_push (then t) (λ q ks. []) _ _ P.End made.keeps) made.same_types made.same_place
    (made.writes (H (top ks q))
    ∙ ap (λ (k : Rest). written w ++ NCode d tv 0 (rest_args ty) ∷ H k) (restless q).1
    ∙ sym (ap (λ (k : Rest). written w ++ G k) (restless q).1))
    (omega (arith, ap (sum_by (frame_steps t)) fse, sum_push (pending_steps t) _ _ _ made.keeps))

-- the last frame
abbrev IsBinding : Rest → Type 0
IsBinding k = (form : ℕ → ℕ → s.Atom → Nodes → Nodes) × (k ≡ Bind form)

binds : (t : ℕ → Noted) (f : Frame) (ks : Rests) (q : Scope) → tail_of f ≡ None → IsBinding (top (through t f ks) q)
binds t (F.Fun x ty) ks names e = (_, refl)
binds t (F.Arg f ty) ks names e = (_, refl)
binds t (F.Inst arg ty) ks names e = (_, refl)
binds t (F.Left op b) ks names e = (_, refl)
binds t (F.Right op a) ks names e = (_, refl)
binds t (F.Proj i ty) ks names e = (_, refl)
binds t (F.Fields rest done ty) ks names e = (_, refl)
binds t (F.Tail l) ks names e = let h : Some l ≡ None = e in cc
binds t (F.Test a b l) ks names e = (_, refl)
binds t (F.Let b) ks names e = (_, refl)
binds t (F.Open b ty) ks names e = (_, refl)
binds t F.Leave ks names e = (_, refl)
binds t F.LeaveType ks names e = (_, refl)
binds t (F.Pack h ty) ks names e = (_, refl)
binds t (F.Ref ty) ks names e = (_, refl)
binds t (F.Deref ty) ks names e = (_, refl)
binds t (F.Cell b) ks names e = (_, refl)
binds t (F.Set a) ks names e = (_, refl)

is_tail : (f : Frame) (l : ℕ) → tail_of f ≡ Some l → f ≡ F.Tail l
is_tail (F.Tail k) l e = let h : Some k ≡ Some l = e in cc
is_tail (F.Fun x ty) l e = let h : None ≡ Some l = e in cc
is_tail (F.Arg f ty) l e = let h : None ≡ Some l = e in cc
is_tail (F.Inst arg ty) l e = let h : None ≡ Some l = e in cc
is_tail (F.Left op b) l e = let h : None ≡ Some l = e in cc
is_tail (F.Right op a) l e = let h : None ≡ Some l = e in cc
is_tail (F.Proj i ty) l e = let h : None ≡ Some l = e in cc
is_tail (F.Fields rest done ty) l e = let h : None ≡ Some l = e in cc
is_tail (F.Test a b k) l e = let h : None ≡ Some l = e in cc
is_tail (F.Let b) l e = let h : None ≡ Some l = e in cc
is_tail (F.Open b ty) l e = let h : None ≡ Some l = e in cc
is_tail F.Leave l e = let h : None ≡ Some l = e in cc
is_tail F.LeaveType l e = let h : None ≡ Some l = e in cc
is_tail (F.Pack hid ty) l e = let h : None ≡ Some l = e in cc
is_tail (F.Ref ty) l e = let h : None ≡ Some l = e in cc
is_tail (F.Deref ty) l e = let h : None ≡ Some l = e in cc
is_tail (F.Cell b) l e = let h : None ≡ Some l = e in cc
is_tail (F.Set a) l e = let h : None ≡ Some l = e in cc

last_is : {A : Type 0} (xs : List A) (n : ℕ) (x : A) → length xs ≡ suc n → x ≡ get_or xs n x → xs ≡ take n xs ++ x ∷ []
last_is [] n x e at = absurd (omega (arith, e))
last_is (y ∷ []) zero x e at = ap (λ z. z ∷ []) (sym at)
last_is (y ∷ []) (suc n) x e at = absurd (omega (arith, e))
last_is (y ∷ z ∷ xs) zero x e at = absurd (omega (arith, e))
last_is (y ∷ z ∷ xs) (suc n) x e at = ap (λ (ys : List _). y ∷ ys) (last_is (z ∷ xs) n x (omega (arith, e)) at)

pub tail_taken : (xs ys : List Frame) (n : ℕ) (x : Frame) (l : ℕ) → length xs ≡ suc n → x ≡ get_or xs n x →
    tail_of x ≡ Some l → ys ≡ take n xs → xs ≡ ys ++ F.Tail l ∷ []
tail_taken xs ys n x l e at tail taken =
    last_is xs n x e at ∙ ap₂ (λ (zs : List Frame) (z : Frame). zs ++ z ∷ []) (sym taken) (is_tail x l tail)

pub restless : (t : ℕ → Noted) (xs : List Frame) (n : ℕ) (x : Frame) → length xs ≡ suc n → x ≡ get_or xs n x →
    tail_of x ≡ None → IsRestless t xs
restless t xs n x e at none names =
    subst (λ (ks : Rests). IsBinding (top ks names)) (sym (folded_push (through t) [] _ _ x (last_is xs n x e at)))
    (binds t x (rests t (take n xs)) names none)

pub restless_empty : (t : ℕ → Noted) (xs : List Frame) → length xs ≡ 0 → IsRestless t xs
restless_empty t [] e names = (_, refl)
restless_empty t (x ∷ xs) e names = absurd (omega (arith, e))

-- the innermost name of a stack goes
module _ {A B : Type 0} (f : A → B) where
  abbrev stack : List B → List A → List B
  stack ls xs = folded (λ y ns. f y ∷ ns) ls xs

  inner_go : (ls : List B) (x : A) (xs : List A) → stack ls (take (length xs) (x ∷ xs)) ≡ inner (stack (f x ∷ ls) xs)
  inner_go ls x [] = refl
  inner_go ls x (y ∷ xs) = inner_go (f x ∷ ls) y xs

  pub stack_inner : (xs ys : List A) → ys ≡ take (length xs - 1) xs → stack [] ys ≡ inner (stack [] xs)
  stack_inner [] ys e = ap (stack []) e
  stack_inner (x ∷ xs) ys e =
      ap (stack []) (e ∙ ap (λ (n : ℕ). take n (x ∷ xs)) (let h : suc (length xs) - 1 ≡ length xs = omega arith in h))
      ∙ inner_go [] x xs

pub atoms_inner : (xs ys : List Atom) → ys ≡ take (length xs - 1) xs → atoms ys ≡ inner (atoms xs)
atoms_inner xs ys e = stack_inner atom xs ys e

pub levels_inner : (xs ys : List ℕ) → ys ≡ take (length xs - 1) xs → levels ys ≡ inner (levels xs)
levels_inner xs ys e = stack_inner (λ (x : ℕ). x) xs ys e

-- what was kept for later comes
pub resumed : (t : ℕ → Noted) (w : Work) (v : Vec Pending Global) (p : Pending) (w' : Work) (c' : Control) →
    w.pending.items ≡ v.items ++ p ∷ [] →
    Begins t (record w { pending = v }) (then t p (todo t v.items) (at w) (rests t w.frames.items))
    (pending_steps t p) w' c' →
    Steps t w C.Ended w' c'
resumed t w v p w' c' e (b, l) = (
  ap (λ (td : Todo). written w ++ td (at w) (rests t w.frames.items)) (folded_push (then t) (λ q ks. []) _ _ p e) ∙ b,
  omega (arith, l, sum_push (pending_steps t) _ _ p e),
)

-- a function or a suspended body is named, where the names and the type names around it are known again
pub comes_name : (t : ℕ → Noted) (w : Work) (o : Vec KNode Global) (v : Vec Atom Global) (ls : Vec ℕ Global)
    (tv d inside : ℕ) (q : Scope) (ty u : K.KTy) →
    ((ns : Nodes) → map knode o.items ++ ns ≡ written w ++ NEnd ∷ NName d u ∷ ns) → u ≡ ty →
    scope_of (levels ls.items) (atoms v.items) ≡ q → inside ≡ suc d →
    Begins t w (NEnd
    ∷ named ty (top (rests t w.frames.items) q) tv d (todo t w.pending.items q (below (rests t w.frames.items)))) 2
    (record w { out = o; names = v; levels = ls; types = tv }) (C.Give (A.Level d) inside)
comes_name t w o v ls tv d inside q ty u wr tye qe e =
    let w' : Work = record w { out = o; names = v; levels = ls; types = tv } in
    let ks = rests t w.frames.items in
    let td = todo t w.pending.items in
    let R : Scope → ℕ → Nodes = λ p x. deliver (top ks p) tv x (Level d) (td p (below ks)) in (
      ap (λ (p : Scope). written w ++ NEnd ∷ NName d ty ∷ R p (suc d)) (sym qe)
          ∙ ap (λ (x : ℕ). written w ++ NEnd ∷ NName d ty ∷ R (at w') x) (sym e)
          ∙ ap (λ (x : K.KTy). written w ++ NEnd ∷ NName d x ∷ R (at w') inside) (sym tye)
          ∙ sym (wr (R (at w') inside)),
      omega arith,
    )

pub comes_term : (t : ℕ → Noted) (w : Work) (o : Vec KNode Global) (v : Vec Frame Global) (i d tv l : ℕ) →
    ((ns : Nodes) → map knode o.items ++ ns ≡ written w ++ NElse tv ∷ ns) → v.items ≡ w.frames.items ++ F.Tail l ∷ [] →
    Begins t w (then t (P.Other i d tv l) (todo t w.pending.items) (at w) (rests t w.frames.items)) (1 + steps (t i))
    (record w { out = o; frames = v; types = tv }) (C.Walk i d)
comes_term t w o v i d tv l wr e =
    let R : Nodes = emit (t i) tv d (at w) (Pass l) (todo t w.pending.items (at w) (rests t w.frames.items)) in
    wrote t w (record w { out = o; types = tv }) (record w { out = o; frames = v; types = tv }) (C.Walk i d)
    (1 + steps (t i)) R (NElse tv ∷ R) (wr R) refl
    (pushed t (record w { out = o; types = tv }) v (F.Tail l) R (1 + steps (t i)) (C.Walk i d) e refl (omega arith))

pub comes_test : (t : ℕ → Noted) (w : Work) (o : Vec KNode Global) (v : Vec Frame Global) (c a b d tv inside : ℕ)
    (ty : Bor FType) (u : K.KTy) →
    ((ns : Nodes) → map knode o.items ++ ns ≡ written w ++ NEnd ∷ NName d u ∷ ns) →
    u ≡ taking (kat tv (at w).0 (tree ty.now)) →
    v.items ≡ w.frames.items ++ F.Test a b d ∷ [] → inside ≡ suc d →
    Begins t w (then t (P.If0 c a b d tv ty) (todo t w.pending.items) (at w) (rests t w.frames.items))
    (2 + (steps (t c) + steps (t a) + steps (t b))) (record w { out = o; frames = v; types = tv })
    (C.Walk c inside)
comes_test t w o v c a b d tv inside ty u wr tye e f =
    let R : Nodes =
    emit (t c) tv (suc d) (at w) (branches (t a) (t b) d (at w))
    (todo t w.pending.items (at w) (rests t w.frames.items)) in
    wrote t w (record w { out = o; types = tv }) (record w { out = o; frames = v; types = tv }) (C.Walk c inside)
    (2 + (steps (t c) + steps (t a) + steps (t b))) R (NEnd ∷ NName d (taking (kat tv (at w).0 (tree ty.now))) ∷ R)
    (wr R ∙ ap (λ (x : K.KTy). written w ++ NEnd ∷ NName d x ∷ R) tye) refl
    (pushed t (record w { out = o; types = tv }) v (F.Test a b d) R (2 + (steps (t c) + steps (t a) + steps (t b)))
    (C.Walk c inside) e
    (ap (λ (x : ℕ). emit (t c) tv x (at w) (branches (t a) (t b) d (at w))
    (todo t w.pending.items (at w) (rests t w.frames.items))) (sym f))
    (omega arith))

pub comes_end : (t : ℕ → Noted) (w : Work) (o : Vec KNode Global) →
    ((ns : Nodes) → map knode o.items ++ ns ≡ written w ++ NEnd ∷ ns) →
    Begins t w (then t P.End (todo t w.pending.items) (at w) (rests t w.frames.items)) 1 (record w { out = o }) C.Ended
comes_end t w o wr = (sym (wr (todo t w.pending.items (at w) (rests t w.frames.items))), omega arith)

-- a name goes, or comes again
pub comes_scope : (t : ℕ → Noted) (w : Work) (v : Vec Atom Global) (ls : Vec ℕ Global) (q : Scope) →
    scope_of (levels ls.items) (atoms v.items) ≡ q →
    Begins t w (todo t w.pending.items q (rests t w.frames.items)) 1 (record w { names = v; levels = ls }) C.Ended
comes_scope t w v ls q e =
    (ap (λ (p : Scope). written w ++ todo t w.pending.items p (rests t w.frames.items)) (sym e), omega arith)
