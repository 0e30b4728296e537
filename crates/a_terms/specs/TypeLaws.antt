-- Shift, put and below of the types of the allocated calculus, from the general laws; and what code applied to types
-- has.
use Rattle.std.proofs.Common.{◌≡◌, ℕ, zero, suc, ◌+◌, ◌≤◌, List, [], ◌∷◌, length, map, Some, None, Option, refl, sym}
use Rattle.std.proofs.Common.{ap, ◌∙◌, subst, arith, slice_get}
use Rattle.idx_core.specs.Over.{BelowAt, AnyDepth}
use Rattle.idx_core.specs.Laws.{deep_is, shifted_ge}
use Rattle.idx_core.specs.Laws as law
use Rattle.a_terms.specs.Tree.{ATy, AInt, AVar, ATuple, ACode, AExists, ATys, NoATys, MoreATys, AFields, NoAFields}
use Rattle.a_terms.specs.Tree.{MoreAFields, ABlk, AConsts, AProg, AVal, Var, Num, Lab, Data, Apply, Pack, ADecl, Value}
use Rattle.a_terms.specs.Tree.{Proj, Arith, Unpack, Malloc, Init, ashift, ashift_fields, aput, aput_types, ABelow}
use Rattle.a_terms.specs.Tree.{ABelow-types, ABelow-fields, arity}
use Rattle.a_terms.specs.TreeLaws.{a_part, a_each, a_over, a_types_over, a_types_each, a_fields_over, a_fields_each}
use Rattle.a_terms.specs.Typing.{aapply, afield_type, afilled, aunset, code_type, data_fields, data_type, applied}
use Rattle.a_terms.specs.Typing.{type_of, Fine, Has, or_int, field_of, body_of, filled_of, declared, more_vars}
use Rattle.a_terms.specs.Typing.{TypedDecl}
use Rattle.a_terms.specs.Typing.{types_of, TypedBlocks, TypedData, TypedTuples}

pub below_more : (t : ATy) (k m : ℕ) → k ≤ m → ABelow k t → ABelow m t
below_more t k m le b =
    subst (ABelow m) (a_over.keeps (λ d i. AVar i) 0 (λ e i. refl) t)
    (a_each.has.made BelowAt BelowAt AnyDepth AnyDepth (λ d i. AVar i) 0 k m
    (λ e i lt. omega (arith, deep_is k e, deep_is m e, lt)) (λ e u. tt) t b)

pub below_more_types : (ts : ATys) (k m : ℕ) → k ≤ m → ABelow-types k ts → ABelow-types m ts
below_more_types ts k m le b =
    subst (ABelow-types m) (a_types_over.keeps (λ d i. AVar i) 0 (λ e i. refl) ts)
    (a_types_each.made BelowAt BelowAt AnyDepth AnyDepth (λ d i. AVar i) 0 k m
    (λ e i lt. omega (arith, deep_is k e, deep_is m e, lt)) (λ e u. tt) ts b)

pub below_more_fields : (fs : AFields) (k m : ℕ) → k ≤ m → ABelow-fields k fs → ABelow-fields m fs
below_more_fields fs k m le b =
    subst (ABelow-fields m) (a_fields_over.keeps (λ d i. AVar i) 0 (λ e i. refl) fs)
    (a_fields_each.made BelowAt BelowAt AnyDepth AnyDepth (λ d i. AVar i) 0 k m
    (λ e i lt. omega (arith, deep_is k e, deep_is m e, lt)) (λ e u. tt) fs b)

pub shift_below : (t : ATy) (k c : ℕ) → ABelow c t → ashift k c t ≡ t
shift_below t k c b = law.shift_below a_part a_each a_over a_each.has k c c t (omega arith) b

pub closed_shift : (t : ATy) (k c : ℕ) → ABelow 0 t → ashift k c t ≡ t
closed_shift t k c b = shift_below t k c (below_more t 0 c (omega arith) b)

pub put_none : (t : ATy) (c : ℕ) (s : ATy) → ABelow c t → aput c s t ≡ t
put_none t c s b = law.put_below a_part a_each a_over a_each.has c s c t (omega arith) b

pub put_none_types : (ts : ATys) (c : ℕ) (s : ATy) → ABelow-types c ts → aput_types c s ts ≡ ts
put_none_types ts c s b = law.put_below a_part a_each a_types_over a_types_each c s c ts (omega arith) b

pub below_shift : (t : ATy) (n c k m : ℕ) → m ≡ k + n → ABelow k t → ABelow m (ashift n c t)
below_shift t n c k m e b =
    subst (λ q. ABelow q (ashift n c t)) (sym e) (law.below_shift a_part a_each a_over a_each.has n c k t b)

pub below_put : (t : ATy) (c k m : ℕ) (s : ATy) → m ≡ suc k → c ≤ k → ABelow m t → ABelow k s → ABelow k (aput c s t)
below_put t c k m s e le b h =
    law.below_put a_part a_each a_over a_each.has c k s t le h (subst (λ q. ABelow q t) (e ∙ omega arith) b)

pub below_put_types : (ts : ATys) (c k m : ℕ) (s : ATy) → m ≡ suc k → c ≤ k → ABelow-types m ts → ABelow k s →
    ABelow-types k (aput_types c s ts)
below_put_types ts c k m s e le b h =
    law.below_put a_part a_each a_types_over a_types_each c k s ts le h
    (subst (λ q. ABelow-types q ts) (e ∙ omega arith) b)

pub below_apply : (ts : ATys) (k : ℕ) (s u : ATy) → ABelow k s → ABelow-types k ts → aapply s ts ≡ Some u → ABelow k u
below_apply NoATys k s u a b e = let x : s ≡ u = cc in subst (ABelow k) x a
below_apply (MoreATys t ts) k AInt u a b e = cc
below_apply (MoreATys t ts) k (AVar n) u a b e = cc
below_apply (MoreATys t ts) k (ATuple fs) u a b e = cc
below_apply (MoreATys t ts) k (ACode zero us) u a b e = cc
below_apply (MoreATys t ts) k (ACode (suc n) us) u a b e =
    below_apply ts k (ACode n (aput_types n (ashift n 0 t) us)) u (
      tt,
      below_put_types us n (k + n) (k + suc n) (ashift n 0 t) (omega arith) (omega arith) a.1
          (below_shift t n 0 k (k + n) refl b.0),
    ) b.1 e
below_apply (MoreATys t ts) k (AExists v) u a b e = cc

-- fields
pub below_field : (fs : AFields) (i k : ℕ) (t : ATy) → ABelow-fields k fs → afield_type fs i ≡ Some t → ABelow k t
below_field NoAFields i k t b e = cc
below_field (MoreAFields u f fs) zero k t b e = let x : u ≡ t = cc in subst (ABelow k) x b.0
below_field (MoreAFields u f fs) (suc i) k t b e = below_field fs i k t b.1 e

pub below_filled : (fs : AFields) (i k : ℕ) → ABelow-fields k fs → ABelow-fields k (afilled fs i)
below_filled NoAFields i k b = tt
below_filled (MoreAFields u f fs) zero k b = b
below_filled (MoreAFields u f fs) (suc i) k b = (b.0, below_filled fs i k b.1)

pub below_unset : (ts : ATys) (k : ℕ) → ABelow-types k ts → ABelow-fields k (aunset ts)
below_unset NoATys k b = tt
below_unset (MoreATys t ts) k b = (b.0, below_unset ts k b.1)

pub length_maps : {A B : Type 0} (f : A → B) (xs : List A) → length (map f xs) ≡ length xs
length_maps f [] = refl
length_maps f (x ∷ xs) = ap suc (length_maps f xs)

-- every type in scope is below k
abbrev pub All-below : ℕ → List ATy → Type 0
All-below k [] = Unit {0}
All-below k (t ∷ g) = ABelow k t × All-below k g

pub below_nth : (k : ℕ) (g : List ATy) (n : ℕ) (t : ATy) → All-below k g → slice_get g n ≡ Some t → ABelow k t
below_nth k [] n t b e = cc
below_nth k (x ∷ g) zero t b e = let y : x ≡ t = cc in subst (ABelow k) y b.0
below_nth k (x ∷ g) (suc n) t b e = below_nth k g n t b.1 e

below_shifted : (k : ℕ) (g : List ATy) → All-below k g → All-below (suc k) (map (ashift 1 0) g)
below_shifted k [] b = tt
below_shifted k (t ∷ g) b = (below_shift t 1 0 k (suc k) (omega arith) b.0, below_shifted k g b.1)

pub below_args : (k : ℕ) (ts : ATys) (g : List ATy) → ABelow-types k ts → All-below k g → All-below k (types_of ts g)
below_args k NoATys g a b = b
below_args k (MoreATys t ts) g a b = below_args k ts (t ∷ g) a.1 (a.0, b)

pub split_code : (o : Option ABlk) (t : ATy) → code_type o ≡ Some t → (b : ABlk) × (o ≡ Some b)
    × (ACode b.owes b.args ≡ t)
split_code None t e = cc
split_code (Some b) t e = (b, refl, cc)

pub split_data : (o : Option AConsts) (t : ATy) → data_type o ≡ Some t → (x : AConsts) × (o ≡ Some x)
    × (ATuple (data_fields x) ≡ t)
split_data None t e = cc
split_data (Some x) t e = (x, refl, cc)

pub split_applied : (o : Option ATy) (ts : ATys) (t : ATy) → applied o ts ≡ Some t → (s : ATy) × (o ≡ Some s)
    × (aapply s ts ≡ Some t)
split_applied None ts t e = cc
split_applied (Some s) ts t e = (s, refl, e)

-- the types of blocks and data are closed
pub record Args-below (p : AProg) : Type 0 where
  pub args : (l : ℕ) (b : ABlk) → slice_get p.blocks l ≡ Some b → ABelow-types b.owes b.args
  pub data_in : (n : ℕ) (x : AConsts) → slice_get p.tuples n ≡ Some x → ABelow-fields 0 (data_fields x)

pub type_below : (p : AProg) → Args-below p → (k : ℕ) (g : List ATy) → All-below k g → (v : AVal) (t : ATy) →
    Fine p k g v → type_of p g v ≡ Some t → ABelow k t
type_below p ok k g a (Var n) t f e = below_nth k g n t a e
type_below p ok k g a (Num i) t f e = let x : AInt ≡ t = cc in subst (ABelow k) x tt
type_below p ok k g a (Lab l) t f e =
    let s = split_code (slice_get p.blocks l) t e in
    subst (ABelow k) s.2 (tt, below_more_types s.0.args s.0.owes (k + s.0.owes) (omega arith) (ok.args l s.0 s.1))
type_below p ok k g a (Data n) t f e =
    let s = split_data (slice_get p.tuples n) t e in
    subst (ABelow k) s.2 (below_more_fields (data_fields s.0) 0 k (omega arith) (ok.data_in n s.0 s.1))
type_below p ok k g a (Apply v ts) t f e =
    let s = split_applied (type_of p g v) ts t e in
    below_apply ts k s.0 t (type_below p ok k g a v s.0 f.0 s.1) f.1 s.2
type_below p ok k g a (Pack h v s) t f e = let x : s ≡ t = cc in subst (ABelow k) x f.3

pub has_below : (p : AProg) → Args-below p → (k : ℕ) (g : List ATy) → All-below k g → (v : AVal) (t : ATy) →
    Has p k g v t → ABelow k t
has_below p ok k g a v t h = type_below p ok k g a v t h.fine h.is

pub field_is : (i j : ℕ) (fs : AFields) (t : ATy) (o : Option ATy) → o ≡ Some (ATuple fs) → i ≡ suc j →
    afield_type fs j ≡ Some t → field_of i o ≡ t
field_is i j fs t o e n x = ap (field_of i) e ∙ ap (λ m. field_of m (Some (ATuple fs))) n ∙ ap or_int x

pub filled_is : (i j : ℕ) (fs : AFields) (o : Option ATy) → o ≡ Some (ATuple fs) → i ≡ suc j →
    filled_of i o ≡ ATuple (afilled fs j)
filled_is i j fs o e n = ap (filled_of i) e ∙ ap (λ m. filled_of m (Some (ATuple fs))) n

pub declared_below : (p : AProg) → Args-below p → (k : ℕ) (g : List ATy) → All-below k g → (x : ADecl) →
    TypedDecl p k g x → All-below (more_vars x k) (declared p g x)
declared_below p ok k g a (Value v) d = (subst (ABelow k) (sym (ap or_int d.1.is)) (has_below p ok k g a v d.0 d.1), a)
declared_below p ok k g a (Proj i v) d =
    let b = has_below p ok k g a v (ATuple d.0) d.3 in (
      subst (ABelow k) (sym (field_is i d.1 d.0 d.2 (type_of p g v) d.3.is d.4 d.5))
          (below_field d.0 d.1 k d.2 b d.5),
      a,
    )
declared_below p ok k g a (Arith o v w) d = (tt, a)
declared_below p ok k g a (Unpack v) d =
    let b = (has_below p ok k g a v (AExists d.0) d.1).1 in
    let e : k + 1 ≡ suc k = omega arith in
    (subst (ABelow (suc k)) (sym (ap body_of d.1.is)) (subst (λ m. ABelow m d.0) e b), below_shifted k g a)
declared_below p ok k g a (Malloc ts) d = (below_unset ts k d, a)
declared_below p ok k g a (Init v i w) d =
    let b = has_below p ok k g a v (ATuple d.0) d.3 in
    (subst (ABelow k) (sym (filled_is i d.1 d.0 (type_of p g v) d.3.is d.5)) (below_filled d.0 d.1 k b), a)

pub length_declared : (p : AProg) (g : List ATy) (x : ADecl) → length (declared p g x) ≡ suc (length g)
length_declared p g (Value v) = refl
length_declared p g (Proj i v) = refl
length_declared p g (Arith o v w) = refl
length_declared p g (Unpack v) = ap suc (length_maps (ashift 1 0) g)
length_declared p g (Malloc ts) = refl
length_declared p g (Init v i w) = refl

blocks_below : (p : AProg) (bs : List ABlk) → TypedBlocks p bs → (l : ℕ) (b : ABlk) → slice_get bs l ≡ Some b →
    ABelow-types b.owes b.args
blocks_below p [] a l b e = cc
blocks_below p (x ∷ bs) a zero b e = let y : x ≡ b = cc in subst (λ z. ABelow-types z.owes z.args) y a.0.0
blocks_below p (x ∷ bs) a (suc l) b e = blocks_below p bs a.1 l b e

pub data_below : (p : AProg) (x : AConsts) → TypedData p x → ABelow-fields 0 (data_fields x)
data_below p [] a = tt
data_below p (c ∷ cs) a = (a.0.1, data_below p cs a.1)

pub data_at : (p : AProg) (xs : List AConsts) → TypedTuples p xs → (n : ℕ) (x : AConsts) → slice_get xs n ≡ Some x →
    TypedData p x
data_at p [] a n x e = cc
data_at p (y ∷ xs) a zero x e = let z : y ≡ x = cc in subst (TypedData p) z a.0
data_at p (y ∷ xs) a (suc n) x e = data_at p xs a.1 n x e

pub args_below : (p : AProg) → TypedBlocks p p.blocks → TypedTuples p p.tuples → Args-below p
args_below p a d =
    record { args = blocks_below p p.blocks a; data_in = λ n x e. data_below p x (data_at p p.tuples d n x e) }

length_types : (ts : ATys) (g : List ATy) → length (types_of ts g) ≡ arity ts + length g
length_types NoATys g = omega arith
length_types (MoreATys t ts) g = length_types ts (t ∷ g) ∙ omega arith

pub length_types_of : (ts : ATys) → length (types_of ts []) ≡ arity ts
length_types_of ts = length_types ts [] ∙ omega arith

-- a part of a type under more names is the part under them
pub field_shift : (by i : ℕ) (t : ATy) → field_of i (Some (ashift by 0 t)) ≡ ashift by 0 (field_of i (Some t))
field_shift by i AInt = refl
field_shift by i (AVar n) = ap (λ u. field_of i (Some u)) (shifted_ge AVar by 0 n (omega arith))
field_shift by zero (ATuple fs) = refl
field_shift by (suc i) (ATuple fs) = go fs i
  where
    go : (gs : AFields) (j : ℕ) →
        or_int (afield_type (ashift_fields by 0 gs) j) ≡ ashift by 0 (or_int (afield_type gs j))
    go NoAFields j = refl
    go (MoreAFields t b gs) zero = refl
    go (MoreAFields t b gs) (suc j) = go gs j
field_shift by i (ACode n ts) = refl
field_shift by i (AExists t) = refl

pub body_shift : (by : ℕ) (t : ATy) → body_of (Some (ashift by 0 t)) ≡ ashift by 1 (body_of (Some t))
body_shift by AInt = refl
body_shift by (AVar n) = ap (λ u. body_of (Some u)) (shifted_ge AVar by 0 n (omega arith))
body_shift by (ATuple fs) = refl
body_shift by (ACode n ts) = refl
body_shift by (AExists t) = refl

-- shifts add up, and a shift by none is none
pub shift_more : (m n : ℕ) (t : ATy) → ashift n 0 (ashift m 0 t) ≡ ashift (m + n) 0 t
shift_more m n t = law.shift_add_law a_part a_over m n 0 t

pub shift_none : (t : ATy) → ashift 0 0 t ≡ t
shift_none t = law.shift_zero_law a_over 0 t
