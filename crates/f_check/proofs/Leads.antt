-- The nodes that the frames are of: where they lead, and what stays noted when one type more is put down.
use Rattle.std.proofs.Common.{◌≡◌, ◌≤◌, ◌<◌, ℕ, suc, ◌+◌, List, [], ◌∷◌, ◌++◌, map, length, slice_set, refl, ap, ap₂}
use Rattle.std.proofs.Common.{◌∙◌, sym, subst, arith, All}
use Rattle.std.proofs.lemmas.List.Elements.{All-nil, All-cons, All-head, All-tail, All-same}
use Rattle.calc_core.specs.Stack.{Chain}
use Rattle.calc_core.specs.Roots.{total}
use Rattle.calc_core.proofs.Roots.{if_same, all_before}
use Rattle.idx_core.specs.declared.arith.Op.{Op}
use Rattle.idx_core.specs.declared.span.Span.{Span}
use Rattle.f_terms.specs.Ty.{Ty, TSome, Tys, MoreTys}
use Rattle.f_terms.specs.Tm.{Tm, Spn, plain, SFix, SApp, SGen, SInst, STuple, SProj, SArith, SIf0, SLet, SPack, SOpen}
use Rattle.f_terms.specs.Tm.{SRef}
use Rattle.f_terms.specs.Tm.{SDeref, SAssign, tms, Tms, MoreTms}
use Rattle.f_terms.specs.Typing.{raised, in_fix, in_open}
use Rattle.f_terms.specs.Noted.{opened_of, type_of, Beside}
use Rattle.f_terms.specs.Read.{tree}
use Rattle.f_terms.specs.ReadTerm.{count, node_at, shape_at}
use Rattle.f_terms.specs.Shape.{children, shape_tree}
use Rattle.f_terms.specs.declared.types.FType.{FType}
use Rattle.f_terms.specs.declared.node.FShape.{FShape}
use Rattle.f_terms.specs.declared.node.FShape.TheVariants as S
use Rattle.f_terms.specs.declared.node.FTerm.{FTerm}
use Rattle.f_terms.specs.Faults.{Passes}
use Rattle.f_terms.proofs.TypeOf.{type_passed}
use Rattle.f_terms.proofs.Occurs.{times, one, times_of, low, node_of, noted_same, total_none}
use Rattle.f_check.specs.Walk.{Task, context, Part, Same, rest_of}
use Rattle.f_check.specs.Notes.{IsNoted, first_type, inner, IsOf, Waits, Leading, Parts}
use Rattle.f_check.specs.declared.frame.Frame.{Frame}
use Rattle.f_check.specs.declared.frame.Frame.TheVariants as C
use Rattle.f_check.proofs.Scoping.{head_is, tail_is}
use Rattle.f_check.proofs.Steps.{moved, in_body, in_gen, in_let, in_opened}

-- one item of a list, after some and before others
pub all_mid : {A : Type 0} (P : A → Type 0) (xs : List A) (x : A) (ys : List A) → All P (xs ++ x ∷ ys) → P x
all_mid P [] x ys h = All-head P x ys h
all_mid P (y ∷ xs) x ys h = all_mid P xs x ys (All-tail P y (xs ++ x ∷ ys) h)

pub second : {A : Type 0} (P : A → Type 0) (x y : A) → All P (x ∷ y ∷ []) → P y
second P x y h = All-head P y [] (All-tail P x (y ∷ []) h)

all_both : {A : Type 0} (P Q R : A → Type 0) → ((x : A) → P x → Q x → R x) → (xs : List A) → All P xs → All Q xs →
    All R xs
all_both P Q R f [] h k = All-nil R
all_both P Q R f (x ∷ xs) h k =
    All-cons R x xs (f x (All-head P x xs h) (All-head Q x xs k))
    (all_both P Q R f xs (All-tail P x xs h) (All-tail Q x xs k))

total_mid : (f : ℕ → ℕ) (xs : List ℕ) (x : ℕ) (ys : List ℕ) → total f (xs ++ x ∷ ys) ≡ total f xs + (f x + total f ys)
total_mid f [] x ys = omega arith
total_mid f (y ∷ xs) x ys = omega (arith, total_mid f xs x ys)

-- with as many after it, an item of equal lists is the same
long : {A : Type 0} (xs : List A) (x : A) (ys : List A) → length (xs ++ x ∷ ys) ≡ length xs + suc (length ys)
long [] x ys = omega arith
long (z ∷ xs) x ys = omega (arith, long xs x ys)

pub same_end : {A : Type 0} (xs : List A) (a : A) (zs ys : List A) (b : A) (ws : List A) →
    xs ++ a ∷ zs ≡ ys ++ b ∷ ws → length zs ≡ length ws → a ≡ b
same_end [] a zs [] b ws e n = head_is e
same_end [] a zs (y ∷ ys) b ws e n = absurd (omega (arith, ap length e, n, long ys b ws))
same_end (x ∷ xs) a zs [] b ws e n = absurd (omega (arith, ap length e, n, long xs a zs))
same_end (x ∷ xs) a zs (y ∷ ys) b ws e n = same_end xs a zs ys b ws (tail_is e) n

map_mid : (f : ℕ → Tm) (xs : List ℕ) (x : ℕ) (ys : List ℕ) → map f (xs ++ x ∷ ys) ≡ map f xs ++ f x ∷ map f ys
map_mid f [] x ys = refl
map_mid f (y ∷ xs) x ys = ap (λ (ts : List Tm). f y ∷ ts) (map_mid f xs x ys)

tms_is : (xs ys : List Tm) → tms xs ≡ tms ys → xs ≡ ys
tms_is [] [] e = refl
tms_is [] (y ∷ ys) e = cc
tms_is (x ∷ xs) [] e = cc
tms_is (x ∷ xs) (y ∷ ys) e = ap₂ (λ (t : Tm) (ts : List Tm). t ∷ ts) (more_head e) (tms_is xs ys (more_tail e))
  where
    more_head : {a b : Tm} {s t : Tms} → MoreTms a s ≡ MoreTms b t → a ≡ b
    more_head e = cc

    more_tail : {a b : Tm} {s t : Tms} → MoreTms a s ≡ MoreTms b t → s ≡ t
    more_tail e = cc

fix_is : {s s' : Spn} {a a' r r' : Ty} {e e' : Tm} → SFix s a r e ≡ SFix s' a' r' e' → e ≡ e'
fix_is e = cc

app_is : {s s' : Spn} {e e' x x' : Tm} → SApp s e x ≡ SApp s' e' x' → (e ≡ e') × (x ≡ x')
app_is e = (cc, cc)

gen_is : {s s' : Spn} {e e' : Tm} → SGen s e ≡ SGen s' e' → e ≡ e'
gen_is e = cc

inst_is : {s s' : Spn} {e e' : Tm} {t t' : Ty} → SInst s e t ≡ SInst s' e' t' → e ≡ e'
inst_is e = cc

tuple_is : {s s' : Spn} {e e' : Tms} → STuple s e ≡ STuple s' e' → e ≡ e'
tuple_is e = cc

proj_is : {s s' : Spn} {i i' : ℕ} {e e' : Tm} → SProj s i e ≡ SProj s' i' e' → e ≡ e'
proj_is e = cc

arith_is : {s s' : Spn} {o o' : Op} {e e' x x' : Tm} → SArith s o e x ≡ SArith s' o' e' x' → (e ≡ e') × (x ≡ x')
arith_is e = (cc, cc)

let_is : {s s' : Spn} {e e' x x' : Tm} → SLet s e x ≡ SLet s' e' x' → (e ≡ e') × (x ≡ x')
let_is e = (cc, cc)

pack_is : {s s' : Spn} {h h' t t' : Ty} {e e' : Tm} → SPack s h e t ≡ SPack s' h' e' t' → e ≡ e'
pack_is e = cc

open_is : {s s' : Spn} {e e' x x' : Tm} → SOpen s e x ≡ SOpen s' e' x' → (e ≡ e') × (x ≡ x')
open_is e = (cc, cc)

ref_is : {s s' : Spn} {e e' : Tm} → SRef s e ≡ SRef s' e' → e ≡ e'
ref_is e = cc

deref_is : {s s' : Spn} {e e' : Tm} → SDeref s e ≡ SDeref s' e' → e ≡ e'
deref_is e = cc

assign_is : {s s' : Spn} {e e' x x' : Tm} → SAssign s e x ≡ SAssign s' e' x' → (e ≡ e') × (x ≡ x')
assign_is e = (cc, cc)

if_is : {s s' : Spn} {c c' a a' b b' : Tm} → SIf0 s c a b ≡ SIf0 s' c' a' b' → (c ≡ c') × (a ≡ a') × (b ≡ b')
if_is e = (cc, cc, cc)

-- the part that a frame waits for is the node that it waits for
module _ (f : FTerm) (t w : Task) (k l : ℕ) (done : List ℕ) (s : Spn) (n : FShape)
    (whole : w.e ≡ shape_tree (node_at f) s n) where
  form : (m : FShape) → n ≡ m → w.e ≡ shape_tree (node_at f) s m
  form m e = whole ∙ ap (shape_tree (node_at f) s) e

  link : (fr : Frame) → Part f fr t w → IsOf n fr → children n ≡ done ++ l ∷ rest_of fr → t.e ≡ node_at f l
  link (C.Fix x) h is parts =
      fix_is (sym h.0 ∙ form _ is.3)
      ∙ ap (node_at f) (same_end [] is.0 [] done l [] (sym (ap children is.3) ∙ parts) refl)
  link (C.Function q y) h is parts =
      (app_is (sym h.0 ∙ form _ is.2)).0
      ∙ ap (node_at f) (same_end [] is.0 (is.1 ∷ []) done l (y ∷ []) (sym (ap children is.2) ∙ parts) refl)
  link (C.Argument x) h is parts =
      (app_is (sym h.1 ∙ form _ is.2)).1
      ∙ ap (node_at f) (same_end (is.0 ∷ []) is.1 [] done l [] (sym (ap children is.2) ∙ parts) refl)
  link (C.Gen q) h is parts =
      gen_is (sym h.0 ∙ form _ is.1)
      ∙ ap (node_at f) (same_end [] is.0 [] done l [] (sym (ap children is.1) ∙ parts) refl)
  link (C.Inst x) h is parts =
      inst_is (sym h.0 ∙ form _ is.2)
      ∙ ap (node_at f) (same_end [] is.0 [] done l [] (sym (ap children is.2) ∙ parts) refl)
  link (C.Fields x) h is parts =
      let es : List ℕ = (is.0).items in
      let more = map (node_at f) x.rest.now in
      let e : h.0 ++ t.e ∷ more ≡ map (node_at f) done ++ node_at f l ∷ more =
      tms_is (h.0 ++ t.e ∷ more) (map (node_at f) es) (tuple_is (sym h.1 ∙ form _ is.1))
      ∙ ap (map (node_at f)) (sym (ap children is.1) ∙ parts)
      ∙ map_mid (node_at f) done l x.rest.now in
      same_end h.0 t.e more (map (node_at f) done) (node_at f l) more e refl
  link (C.Proj q i) h is parts =
      proj_is (sym h.0 ∙ form _ is.2)
      ∙ ap (node_at f) (same_end [] is.1 [] done l [] (sym (ap children is.2) ∙ parts) refl)
  link (C.Left q y) h is parts =
      (arith_is (sym h.1 ∙ form _ is.3)).0
      ∙ ap (node_at f) (same_end [] is.1 (is.2 ∷ []) done l (y ∷ []) (sym (ap children is.3) ∙ parts) refl)
  link (C.Right q) h is parts =
      (arith_is (sym h.2 ∙ form _ is.3)).1
      ∙ ap (node_at f) (same_end (is.1 ∷ []) is.2 [] done l [] (sym (ap children is.3) ∙ parts) refl)
  link (C.Test x) h is parts =
      (if_is (sym h.0 ∙ form _ is.3)).0
      ∙ ap (node_at f) (same_end [] is.0 (is.1 ∷ is.2 ∷ []) done l (x.zero ∷ x.other ∷ [])
      (sym (ap children is.3) ∙ parts) refl)
  link (C.Zero q y) h is parts =
      (if_is (sym h.1 ∙ form _ is.3)).1
      ∙ ap (node_at f) (same_end (is.0 ∷ []) is.1 (is.2 ∷ []) done l (y ∷ []) (sym (ap children is.3) ∙ parts) refl)
  link (C.Other q z) h is parts =
      (if_is (sym h.2 ∙ form _ is.3)).2
      ∙ ap (node_at f) (same_end (is.0 ∷ is.1 ∷ []) is.2 [] done l [] (sym (ap children is.3) ∙ parts) refl)
  link (C.Let q y) h is parts =
      (let_is (sym h.0 ∙ form _ is.2)).0
      ∙ ap (node_at f) (same_end [] is.0 (is.1 ∷ []) done l (y ∷ []) (sym (ap children is.2) ∙ parts) refl)
  link (C.Body q) h is parts =
      (let_is (sym h.1 ∙ form _ is.2)).1
      ∙ ap (node_at f) (same_end (is.0 ∷ []) is.1 [] done l [] (sym (ap children is.2) ∙ parts) refl)
  link (C.Pack p) h is parts =
      pack_is (sym h.0 ∙ form _ is.3)
      ∙ ap (node_at f) (same_end [] is.0 [] done l [] (sym (ap children is.3) ∙ parts) refl)
  link (C.Open q y) h is parts =
      (open_is (sym h.0 ∙ form _ is.2)).0
      ∙ ap (node_at f) (same_end [] is.0 (is.1 ∷ []) done l (y ∷ []) (sym (ap children is.2) ∙ parts) refl)
  link (C.Opened q) h is parts =
      (open_is (sym h.1 ∙ form _ is.2)).1
      ∙ ap (node_at f) (same_end (is.0 ∷ []) is.1 [] done l [] (sym (ap children is.2) ∙ parts) refl)
  link (C.Ref q) h is parts =
      ref_is (sym h.0 ∙ form _ is.1)
      ∙ ap (node_at f) (same_end [] is.0 [] done l [] (sym (ap children is.1) ∙ parts) refl)
  link (C.Deref q) h is parts =
      deref_is (sym h.0 ∙ form _ is.1)
      ∙ ap (node_at f) (same_end [] is.0 [] done l [] (sym (ap children is.1) ∙ parts) refl)
  link (C.Target q y) h is parts =
      (assign_is (sym h.0 ∙ form _ is.2)).0
      ∙ ap (node_at f) (same_end [] is.0 (is.1 ∷ []) done l (y ∷ []) (sym (ap children is.2) ∙ parts) refl)
  link (C.Assigned x) h is parts =
      (assign_is (sym h.1 ∙ form _ is.2)).1
      ∙ ap (node_at f) (same_end (is.0 ∷ []) is.1 [] done l [] (sym (ap children is.2) ∙ parts) refl)

-- and its names have the types that the frame says
same_names : (t w : Task) → Same t w → context t ≡ context w
same_names t w h = moved t w h (λ n g. context t ≡ g) refl

-- the type of the name that a let, or an open, binds is that of its first part
first_part : (f : FTerm) (w : Task) (a : Tm) (k : ℕ) (t : Ty) → Passes a w.around (context w) t → a ≡ node_at f k →
    t ≡ type_of (plain (node_at f k)) (context w)
first_part f w a k t typed is =
    sym (type_passed a w.around (context w) t typed) ∙ ap (λ e. type_of (plain e) (context w)) is

let_type : (f : FTerm) (t w : Task) (q : Span) (s : Spn) (n : FShape) → w.e ≡ shape_tree (node_at f) s n →
    (h : Part f (C.Body q) t w) → IsOf n (C.Body q) → h.4 ≡ first_type f n (context w)
let_type f t w q s n whole h is =
    let one = (let_is (sym h.1 ∙ whole ∙ ap (shape_tree (node_at f) s) is.2)).0 in
    first_part f w h.0 is.0 h.4 h.6 one ∙ sym (ap (λ m. first_type f m (context w)) is.2)

pub open_type : (f : FTerm) (t w : Task) (q : Span) (s : Spn) (n : FShape) → w.e ≡ shape_tree (node_at f) s n →
    (h : Part f (C.Opened q) t w) → IsOf n (C.Opened q) → h.4 ≡ opened_of (first_type f n (context w))
open_type f t w q s n whole h is =
    let one = (open_is (sym h.1 ∙ whole ∙ ap (shape_tree (node_at f) s) is.2)).0 in
    ap opened_of (first_part f w h.0 is.0 (TSome h.4) h.6 one ∙ sym (ap (λ m. first_type f m (context w)) is.2))

module _ (f : FTerm) (t w : Task) (s : Spn) (n : FShape) (whole : w.e ≡ shape_tree (node_at f) s n) where
  names_are : (fr : Frame) → Part f fr t w → IsOf n fr → context t ≡ inner f n fr (context w)
  names_are (C.Fix x) h is = in_body t w (tree x.arg.now) (tree x.res.now) h.2 h.3 (λ n g. context t ≡ g) refl
  names_are (C.Function q x) h is = same_names t w h.2
  names_are (C.Argument x) h is = same_names t w h.3
  names_are (C.Gen q) h is = in_gen t w h.1 h.2 h.3 (λ n g. context t ≡ g) refl
  names_are (C.Inst x) h is = same_names t w h.2
  names_are (C.Fields x) h is = same_names t w h.3
  names_are (C.Proj q i) h is = same_names t w h.2
  names_are (C.Left q b) h is = same_names t w h.3
  names_are (C.Right q) h is = same_names t w h.4
  names_are (C.Test x) h is = same_names t w h.2
  names_are (C.Zero q b) h is = same_names t w h.3
  names_are (C.Other q z) h is = same_names t w h.4
  names_are (C.Let q b) h is = same_names t w h.2
  names_are (C.Body q) h is =
      in_let t w h.4 h.3 h.5 (λ n g. context t ≡ g) refl
      ∙ ap (λ u. MoreTys u (context w)) (let_type f t w q s n whole h is)
  names_are (C.Pack p) h is = same_names t w h.2
  names_are (C.Open q b) h is = same_names t w h.2
  names_are (C.Opened q) h is =
      in_opened t w h.4 h.2 h.3 h.5 (λ n g. context t ≡ g) refl
      ∙ ap (λ u. in_open u (context w)) (open_type f t w q s n whole h is)
  names_are (C.Ref q) h is = same_names t w h.2
  names_are (C.Deref q) h is = same_names t w h.2
  names_are (C.Target q b) h is = same_names t w h.2
  names_are (C.Assigned x) h is = same_names t w h.3

module _ (f : FTerm) (ts : List FType) where
  -- the part that a frame waits for stands before the whole
  inside : (k l : ℕ) (g : Tys) (fr : Frame) → k < count f → Waits f ts g (shape_at f k) fr l → l < count f
  inside k l g fr lt w =
      let b = all_mid (λ c. c < k) w.1.0 l (rest_of fr)
      (All-same (λ c. c < k) (w.1.0 ++ l ∷ rest_of fr) (children (shape_at f k)) (sym w.1.1) (low f k lt)) in
      omega (arith, b, lt)

  -- the task that the frames lead to is at the node that they lead to
  pub follow : (fs : List Frame) (ks : List ℕ) (i : ℕ) (g : Tys) (j : ℕ) (h : Tys) (t w : Task) → i < count f →
      Leading f ts fs ks i g j h → Chain (Part f) fs t w →
      w.e ≡ node_at f i → context w ≡ g → (t.e ≡ node_at f j) × (context t ≡ h) × (j < count f)
  follow fs [] i g j h t w lt l c e n = absurd l
  follow [] (k ∷ ks) i g j h t w lt l c e n = (
    ap (λ (x : Task). x.e) c ∙ e ∙ ap (node_at f) (l.1 ∙ l.2),
    ap context c ∙ n ∙ l.3,
    subst (λ x. x < count f) (l.1 ∙ l.2) lt,
  )
  follow (fr ∷ fs) (k ∷ ks) i g j h t w lt l c e n =
      let kt : k < count f = subst (λ x. x < count f) l.0 lt in
      let wk : w.e ≡ node_at f k = e ∙ ap (node_at f) l.0 in
      let p = l.2 in
      let whole = wk ∙ node_of f k kt in
      follow fs ks l.1 (inner f (shape_at f k) fr g) j h t c.0 (inside k l.1 g fr kt p) l.3 c.1
      (link f c.0 w k l.1 p.1.0 _ (shape_at f k) whole fr c.2 p.0 p.1.1)
      (names_are f c.0 w _ (shape_at f k) whole fr c.2 p.0 ∙ ap (inner f (shape_at f k) fr) n)

  -- one frame more, and one less
  pub lead_push : (fs : List Frame) (ks : List ℕ) (i : ℕ) (g : Tys) (j : ℕ) (h : Tys) (fr : Frame) (l : ℕ) →
      Leading f ts fs ks i g j h → Waits f ts h (shape_at f j) fr l →
      Leading f ts (fs ++ fr ∷ []) (ks ++ l ∷ []) i g l (inner f (shape_at f j) fr h)
  lead_push fs [] i g j h fr l a w = absurd a
  lead_push [] (k ∷ ks) i g j h fr l a w =
      let waits = subst (λ x. Waits f ts x (shape_at f k) fr l) (sym a.3)
      (subst (λ x. Waits f ts h (shape_at f x) fr l) (sym a.2) w) in
      let same = ap (inner f (shape_at f k) fr) a.3 ∙ ap (λ x. inner f (shape_at f x) fr h) a.2 in
      subst (λ (xs : List ℕ). Leading f ts (fr ∷ []) (k ∷ (xs ++ l ∷ [])) i g l (inner f (shape_at f j) fr h)) (sym a.0)
      (a.1, l, waits, (refl, refl, refl, same))
  lead_push (fr0 ∷ fs) (k ∷ ks) i g j h fr l a w =
      (a.0, a.1, a.2, lead_push fs ks a.1 (inner f (shape_at f k) fr0 g) j h fr l a.3 w)

  pub lead_pop : (fs : List Frame) (fr : Frame) (ks : List ℕ) (i : ℕ) (g : Tys) (l : ℕ) (h : Tys) →
      Leading f ts (fs ++ fr ∷ []) ks i g l h →
      (j : ℕ) × (m : Tys) × (ls : List ℕ) × (ks ≡ ls ++ l ∷ []) × Leading f ts fs ls i g j m
      × Waits f ts m (shape_at f j) fr l × (inner f (shape_at f j) fr m ≡ h)
  lead_pop fs fr [] i g l h a = absurd (no_nodes fs a)
    where
      no_nodes : (fs : List Frame) → Leading f ts (fs ++ fr ∷ []) [] i g l h → ⊥
      no_nodes [] a = a
      no_nodes (x ∷ fs) a = a
  lead_pop [] fr (k ∷ []) i g l h a = absurd a.3
  lead_pop [] fr (k ∷ k2 ∷ ks) i g l h a =
      let b = a.3 in (
        k,
        g,
        k ∷ [],
        ap₂ (λ (x : ℕ) (xs : List ℕ). k ∷ x ∷ xs) b.2 b.0,
        (refl, a.0, refl, refl),
        subst (Waits f ts g (shape_at f k) fr) (b.1 ∙ b.2) a.2,
        b.3,
      )
  lead_pop (x ∷ fs) fr (k ∷ ks) i g l h a =
      let b = lead_pop fs fr ks a.1 (inner f (shape_at f k) x g) l h a.3 in
      (b.0, b.1, k ∷ b.2, ap (λ (xs : List ℕ). k ∷ xs) b.3, (a.0, a.1, a.2, b.4), b.5, b.6)

  pub lead_last : (fs : List Frame) (ks : List ℕ) (i : ℕ) (g : Tys) (j : ℕ) (h : Tys) → Leading f ts fs ks i g j h →
      (ls : List ℕ) × (ks ≡ ls ++ j ∷ [])
  lead_last fs [] i g j h a = absurd a
  lead_last [] (k ∷ ks) i g j h a = ([], ap₂ (λ (x : ℕ) (xs : List ℕ). x ∷ xs) a.2 a.0)
  lead_last (fr ∷ fs) (k ∷ ks) i g j h a =
      let b = lead_last fs ks a.1 (inner f (shape_at f k) fr g) j h a.3 in (k ∷ b.0, ap (λ (xs : List ℕ). k ∷ xs) b.1)

  -- a node occurs in what leads to it
  times_part : (m k l : ℕ) (g : Tys) (fr : Frame) → k < count f → (w : Waits f ts g (shape_at f k) fr l) →
      times f m k ≡ one m k + (total (times f m) w.1.0 + (times f m l + total (times f m) (rest_of fr)))
  times_part m k l g fr lt w =
      omega (arith, times_of f m k lt, ap (total (times f m)) w.1.1, total_mid (times f m) w.1.0 l (rest_of fr))

  pub times_up : (m : ℕ) (fs : List Frame) (ks : List ℕ) (i : ℕ) (g : Tys) (j : ℕ) (h : Tys) → i < count f →
      Leading f ts fs ks i g j h → times f m j ≤ times f m i
  times_up m fs [] i g j h lt a = absurd a
  times_up m [] (k ∷ ks) i g j h lt a =
      let e : times f m i ≡ times f m j = ap (times f m) (a.1 ∙ a.2) in omega (arith, e)
  times_up m (fr ∷ fs) (k ∷ ks) i g j h lt a =
      let kt : k < count f = subst (λ x. x < count f) a.0 lt in
      let x = times_up m fs ks a.1 (inner f (shape_at f k) fr g) j h (inside k a.1 g fr kt a.2) a.3 in
      omega (arith, x, times_part m k a.1 g fr kt a.2, ap (times f m) a.0)

  module _ (m : ℕ) (x : FType) (full : count f ≤ length ts) where
    abbrev us : List FType
    us = slice_set ts m x

    -- what is noted stays so where node m does not occur
    stays : (g : Tys) (c : ℕ) → c < count f → times f m c ≡ 0 → IsNoted f ts g c → IsNoted f us g c
    stays g c lt none h = subst (λ e. Beside e g) (sym (noted_same f ts m x (suc c) c (omega arith) lt full none)) h

    stay : (g : Tys) (ks : List ℕ) → All (λ k. k < count f) ks → All (λ k. times f m k ≡ 0) ks →
        All (IsNoted f ts g) ks → All (IsNoted f us g) ks
    stay g [] a b h = All-nil (IsNoted f us g)
    stay g (k ∷ ks) a b h = All-cons (IsNoted f us g) k ks
        (stays g k (All-head (λ k. k < count f) k ks a) (All-head (λ k. times f m k ≡ 0) k ks b)
        (All-head (IsNoted f ts g) k ks h))
        (stay g ks (All-tail (λ k. k < count f) k ks a) (All-tail (λ k. times f m k ≡ 0) k ks b)
        (All-tail (IsNoted f ts g) k ks h))

    below : (k : ℕ) → k < count f → (ks : List ℕ) → All (λ c. c < k) ks → All (λ c. c < count f) ks
    below k lt ks h = λ i d l. let b = h i d l in omega (arith, b, lt)

    pub lead_stays : (fs : List Frame) (ks : List ℕ) (i : ℕ) (g : Tys) (j : ℕ) (h : Tys) → i < count f →
        times f m i ≤ 1 → 1 ≤ times f m j → Leading f ts fs ks i g j h → Leading f us fs ks i g j h
    lead_stays fs [] i g j h lt le one' a = absurd a
    lead_stays [] (k ∷ ks) i g j h lt le one' a = a
    lead_stays (fr ∷ fs) (k ∷ ks) i g j h lt le one' a =
        let kt : k < count f = subst (λ x. x < count f) a.0 lt in
        let lt' = inside k a.1 g fr kt a.2 in
        let up = times_up m fs ks a.1 (inner f (shape_at f k) fr g) j h lt' a.3 in
        let part = times_part m k a.1 g fr kt a.2 in
        let done = a.2.1.0 in
        let none = total_none (times f m) done (omega (arith, up, part, le, one', ap (times f m) a.0)) in
        let under = all_before (λ c. c < k) done (a.1 ∷ rest_of fr) (All-same (λ c.
        c < k) (done ++ a.1 ∷ rest_of fr) (children (shape_at f k)) (sym a.2.1.1) (low f k kt)) in (
          a.0,
          a.1,
          (a.2.0, (done, a.2.1.1, stay g done (below k kt done under) none a.2.1.2)),
          lead_stays fs ks a.1 (inner f (shape_at f k) fr g) j h lt' (omega (arith, part, le, ap (times f m) a.0))
              one' a.3,
        )

    -- the parts of node m are others
    pub parts_stay : (g : Tys) → m < count f → times f m m ≤ 1 → Parts f ts g (shape_at f m) →
        Parts f us g (shape_at f m)
    parts_stay g lt le h =
        let none = total_none (times f m) (children (shape_at f m)) (omega (arith, times_of f m m lt, times_one, le)) in
        go (shape_at f m) (below m lt (children (shape_at f m)) (low f m lt)) none h
      where
        times_one : one m m ≡ 1
        times_one = if_same {A = ℕ} m m 1 0 refl

        go : (n : FShape) → All (λ k. k < count f) (children n) → All (λ k. times f m k ≡ 0) (children n) →
            Parts f ts g n → Parts f us g n
        go (S.Var i) a b h = All-nil (IsNoted f us g)
        go (S.Int n) a b h = All-nil (IsNoted f us g)
        go (S.Fix t u k) a b h =
            stays (in_fix (tree t) (tree u) g) k (All-head (λ k. k < count f) k [] a)
            (All-head (λ k. times f m k ≡ 0) k [] b) h
        go (S.App f' x') a b h = stay g (f' ∷ x' ∷ []) a b h
        go (S.Gen k) a b h =
            stays (raised g) k (All-head (λ k. k < count f) k [] a) (All-head (λ k. times f m k ≡ 0) k [] b) h
        go (S.Inst e t) a b h = stay g (e ∷ []) a b h
        go (S.Tuple es) a b h = stay g es.items a b h
        go (S.Proj i e) a b h = stay g (e ∷ []) a b h
        go (S.Arith op p q) a b h = stay g (p ∷ q ∷ []) a b h
        go (S.If0 c p q) a b h = stay g (c ∷ p ∷ q ∷ []) a b h
        go (S.Let p q) a b h = (
          stays g p (All-head (λ k. k < count f) p (q ∷ []) a) (All-head (λ k. times f m k ≡ 0) p (q ∷ []) b) h.0,
          stays (MoreTys (type_of (plain (node_at f p)) g) g) q (second (λ k. k < count f) p q a)
              (second (λ k. times f m k ≡ 0) p q b) h.1,
        )
        go (S.Pack t e u) a b h = stay g (e ∷ []) a b h
        go (S.Open p q) a b h = (
          stays g p (All-head (λ k. k < count f) p (q ∷ []) a) (All-head (λ k. times f m k ≡ 0) p (q ∷ []) b) h.0,
          stays (in_open (opened_of (type_of (plain (node_at f p)) g)) g) q (second (λ k. k < count f) p q a)
              (second (λ k. times f m k ≡ 0) p q b) h.1,
        )
        go (S.Ref e) a b h = stay g (e ∷ []) a b h
        go (S.Deref e) a b h = stay g (e ∷ []) a b h
        go (S.Assign p q) a b h = stay g (p ∷ q ∷ []) a b h
