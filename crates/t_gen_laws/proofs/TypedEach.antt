-- The generated code keeps the bounds on types.
use Rattle.std.proofs.Common.{◌≡◌, ℕ, suc, ◌+◌, ◌≤◌, List, [], ◌∷◌, Some, None, refl, ap, ap₂, ◌∙◌, arith}
use Rattle.std.specs.Prelude.{max, ◌==◌, cond, Bool, true, false, nat_lt, if◌then◌else◌}
use Rattle.std.proofs.Math.Numerals.{add-one, add-two}
use Rattle.std.proofs.lemmas.Bool.{cond_both}
use Rattle.a_terms.specs.Tree.{ATy, AInt, AVar, ATuple, ACode, AExists, ATys, NoATys, MoreATys, AFields, NoAFields}
use Rattle.a_terms.specs.Tree.{MoreAFields, AVal, Var, Num, Lab, Data, Apply, Pack, AConsts, AProg, ashift}
use Rattle.a_terms.specs.Tree.{ashift_types, ashift_fields, aput}
use Rattle.a_terms.specs.Typing.{type_of, Fine, TypedData, TypedTuples}
use Rattle.a_terms.specs.TypeLaws.{split_applied, args_below}
use Rattle.a_terms.specs.Each.{AAll, VEach, CsEach, TuplesEach, areach, areaches, areach_fields, abinds, abinds_all}
use Rattle.a_terms.specs.Each.{abinds_fields, AWithin}
use Rattle.t_types.specs.Tree.{Ty, TupleTy, TFile, NoRegs, MoreRegs, TFields, NoFields, MoreFields}
use Rattle.t_types.specs.Fits.{Fits, FieldsFit}
use Rattle.t_terms.specs.Tree.{TProg}
use Rattle.t_terms.specs.Registers.{no_types}
use Rattle.t_gen_rules.specs.Gen.{ty, ty_args, ty_fields, insert, header, constant, data_of, generated_blocks}
use Rattle.t_gen_rules.specs.Gen.{generated_heap, generated}
use Rattle.t_terms.specs.Reach.{type_reach, regs_reach, fields_reach}
use Rattle.t_gen_laws.specs.TypesEach.{HasEach, DataEach, HeapEach, tbinds}
use Rattle.t_gen_laws.specs.TypesEach.{tbinds_file, tbinds_fields, TWithin, TypesWithin}
use Rattle.t_gen_laws.proofs.Values.{All-of, Carried, Labels}
use Rattle.t_gen_laws.proofs.Typed.{own_q, all_q, each_type, applied_each}
use Rattle.t_gen_laws.proofs.Accepted.{constant_has, blocks_at, good_each, all_good}

-- the reach of translated types
mutual
  reach_ty : (t : ATy) → type_reach (ty t) ≡ areach t
  reach_ty AInt = refl
  reach_ty (AVar n) = refl
  reach_ty (ATuple fs) = add-one _ ∙ ap suc (reach_fields fs)
  reach_ty (ACode n ts) = add-two _ ∙ ap (λ k. suc (suc k)) (reach_args ts 1)
  reach_ty (AExists t) = add-one _ ∙ ap suc (reach_ty t)

  reach_args : (ts : ATys) (r : ℕ) → regs_reach (ty_args ts r) ≡ areaches ts
  reach_args NoATys r = refl
  reach_args (MoreATys t ts) r = ap₂ max (reach_ty t) (reach_args ts (suc r))

  reach_fields : (fs : AFields) → fields_reach (ty_fields fs) ≡ areach_fields fs
  reach_fields NoAFields = refl
  reach_fields (MoreAFields t f fs) = ap₂ max (reach_ty t) (reach_fields fs)

mutual
  binds_ty : (t : ATy) → tbinds (ty t) ≡ abinds t
  binds_ty AInt = refl
  binds_ty (AVar n) = refl
  binds_ty (ATuple fs) = binds_fields fs
  binds_ty (ACode n ts) = ap (λ k. n + k) (binds_args ts 1)
  binds_ty (AExists t) = ap suc (binds_ty t)

  binds_args : (ts : ATys) (r : ℕ) → tbinds_file (ty_args ts r) ≡ abinds_all ts
  binds_args NoATys r = refl
  binds_args (MoreATys t ts) r = ap₂ max (binds_ty t) (binds_args ts (suc r))

  binds_fields : (fs : AFields) → tbinds_fields (ty_fields fs) ≡ abinds_fields fs
  binds_fields NoAFields = refl
  binds_fields (MoreAFields t f fs) = ap₂ max (binds_ty t) (binds_fields fs)

-- a variable has no reach, and binds nothing
reach_if : (b : Bool) (i j : ℕ) → areach (if b then AVar i else AVar j) ≡ 0
reach_if true i j = refl
reach_if false i j = refl

binds_if : (b : Bool) (i j : ℕ) → abinds (if b then AVar i else AVar j) ≡ 0
binds_if true i j = refl
binds_if false i j = refl

mutual
  reach_shift : (t : ATy) (k c : ℕ) → areach (ashift k c t) ≡ areach t
  reach_shift AInt k c = refl
  reach_shift (AVar n) k c = reach_if (nat_lt n c) n (n + k)
  reach_shift (ATuple fs) k c = ap suc (reach_shift_fields fs k c)
  reach_shift (ACode n ts) k c = ap (λ k. suc (suc k)) (reach_shift_types ts k (c + n))
  reach_shift (AExists t) k c = ap suc (reach_shift t k (c + 1))

  reach_shift_types : (ts : ATys) (k c : ℕ) → areaches (ashift_types k c ts) ≡ areaches ts
  reach_shift_types NoATys k c = refl
  reach_shift_types (MoreATys t ts) k c = ap₂ max (reach_shift t k c) (reach_shift_types ts k c)

  reach_shift_fields : (fs : AFields) (k c : ℕ) → areach_fields (ashift_fields k c fs) ≡ areach_fields fs
  reach_shift_fields NoAFields k c = refl
  reach_shift_fields (MoreAFields t f fs) k c = ap₂ max (reach_shift t k c) (reach_shift_fields fs k c)

mutual
  binds_shift : (t : ATy) (k c : ℕ) → abinds (ashift k c t) ≡ abinds t
  binds_shift AInt k c = refl
  binds_shift (AVar n) k c = binds_if (nat_lt n c) n (n + k)
  binds_shift (ATuple fs) k c = binds_shift_fields fs k c
  binds_shift (ACode n ts) k c = ap (λ k. n + k) (binds_shift_types ts k (c + n))
  binds_shift (AExists t) k c = ap suc (binds_shift t k (c + 1))

  binds_shift_types : (ts : ATys) (k c : ℕ) → abinds_all (ashift_types k c ts) ≡ abinds_all ts
  binds_shift_types NoATys k c = refl
  binds_shift_types (MoreATys t ts) k c = ap₂ max (binds_shift t k c) (binds_shift_types ts k c)

  binds_shift_fields : (fs : AFields) (k c : ℕ) → abinds_fields (ashift_fields k c fs) ≡ abinds_fields fs
  binds_shift_fields NoAFields k c = refl
  binds_shift_fields (MoreAFields t f fs) k c = ap₂ max (binds_shift t k c) (binds_shift_fields fs k c)

-- a type that fits another has its reach, and binds as many
reach_fit : (fs gs : TFields) → FieldsFit fs gs → (fields_reach fs ≡ fields_reach gs)
    × (tbinds_fields fs ≡ tbinds_fields gs)
reach_fit NoFields NoFields h = (refl, refl)
reach_fit (MoreFields t x fs) (MoreFields u y gs) h =
    let r = reach_fit fs gs h.2 in (ap₂ max (ap type_reach h.0) r.0, ap₂ max (ap tbinds h.0) r.1)
reach_fit NoFields (MoreFields u y gs) h = absurd h
reach_fit (MoreFields t x fs) NoFields h = absurd h

reach_fits : (u s : Ty) → Fits u s → (type_reach u ≡ type_reach s) × (tbinds u ≡ tbinds s)
reach_fits (TupleTy fs) (TupleTy gs) h = let r = reach_fit fs gs h in (ap (λ n. n + 1) r.0, r.1)
reach_fits u s e = (ap type_reach e, ap tbinds e)

-- the file of a header
insert_most : (r : ℕ) (t : Ty) (f : TFile) (R B : ℕ) → type_reach t ≤ R → tbinds t ≤ B →
    (regs_reach f ≤ R) × (tbinds_file f ≤ B) → (regs_reach (insert r t f) ≤ R) × (tbinds_file (insert r t f) ≤ B)
insert_most r t NoRegs R B x y h = (omega arith, omega arith)
insert_most r t (MoreRegs q u f) R B x y h =
    cond_both (r == q) (MoreRegs r t f)
    (cond (nat_lt r q) (MoreRegs r t (MoreRegs q u f)) (MoreRegs q u (insert r t f)))
    (λ z. (regs_reach z ≤ R) × (tbinds_file z ≤ B))
    (λ c. (omega (arith, h.0), omega (arith, h.1)))
    (λ c. cond_both (nat_lt r q) (MoreRegs r t (MoreRegs q u f)) (MoreRegs q u (insert r t f))
    (λ z. (regs_reach z ≤ R) × (tbinds_file z ≤ B))
    (λ d. (omega (arith, h.0), omega (arith, h.1)))
    (λ d. let i = insert_most r t f R B x y (omega (arith, h.0), omega (arith, h.1)) in
    (omega (arith, i.0, h.0), omega (arith, i.1, h.1))))

module _ (N R B : ℕ) where
  -- no type in scope is larger
  abbrev Part : ATy → Type 0
  Part t = (areach t ≤ R) × (abinds t ≤ B)

  header_most : (u : ℕ → Bool) (m : List ℕ) (g : List ATy) → All-of Part g → (regs_reach (header u m g) ≤ R)
      × (tbinds_file (header u m g) ≤ B)
  header_most u m [] s = (omega arith, omega arith)
  header_most u [] (t ∷ g) s = (omega arith, omega arith)
  header_most u (r ∷ m) (t ∷ g) s =
      let f = header (λ n. u (suc n)) m g in
      let rest = header_most (λ n. u (suc n)) m g s.1 in
      let x = reach_ty t in
      let y = binds_ty t in
      cond_both (u 0) (insert r (ty t) f) f (λ z. (regs_reach z ≤ R) × (tbinds_file z ≤ B))
      (λ c. insert_most r (ty t) f R B (omega (arith, x, s.0.0)) (omega (arith, y, s.0.1)) rest) (λ c. rest)

  args_most : (k : ℕ) (us : ATys) → AAll (AWithin N R B) k us → (areaches us ≤ R) × (abinds_all us ≤ B)
  args_most k NoATys h = (omega arith, omega arith)
  args_most k (MoreATys t ts) h = let r = args_most k ts h.1 in (omega (arith, r.0, h.0.1), omega (arith, r.1, h.0.2))

  carried : Carried (AWithin N R B) (λ k. k ≤ N) Part (TWithin N (R + 2) (N + B))
  carried = record {
    names = λ k t a. a.0;
    part = λ k t a. (a.1, a.2);
    none = λ k n. omega arith;
    ints = λ k n. (omega arith, omega arith);
    shifted = λ t s.
        (let x = reach_shift t 1 0 in let y = binds_shift t 1 0 in (omega (arith, x, s.0), omega (arith, y, s.1)));
    of_type = λ k t u n s f. (let z = reach_fits u (ty t) f in let a = reach_ty t in let b = binds_ty t in
        (n, omega (arith, z.0, a, s.0), omega (arith, z.1, b, s.1)));
    of_var = λ k i n. (n, omega arith, omega arith);
    of_third = λ k n u m g x y s. (let h = header_most u m g s in (x, omega (arith, h.0), omega (arith, h.1, y)));
    of_call = λ k us n a. (let x = reach_args us 1 in let y = binds_args us 1 in let z = args_most k us a in
        (n, omega (arith, x, z.0), omega (arith, y, z.1)));
  }

  module _ (p : AProg) (P : TProg) (labels : Labels p P) where
    abbrev In : (k : ℕ) → ATy → Type 0
    In = AWithin N R B

    abbrev Names : ℕ → Type 0
    Names k = k ≤ N

    abbrev Out : (k : ℕ) → Ty → Type 0
    Out = TWithin N (R + 2) (N + B)

    own : (k : ℕ) (t : ATy) → In k t → Out k (ty t)
    own k t a = own_q In Names Part Out carried k t a

    typed : (v : AVal) (t : ATy) → VEach In p 0 [] v → type_of p [] v ≡ Some t → In 0 t
    typed v t h e = each_type In Names Part Out carried p 0 [] v t h e

    constant_each : (v : AVal) (t : ATy) → Fine p 0 [] v → type_of p [] v ≡ Some t → VEach In p 0 [] v →
        HasEach Out P 0 no_types (constant v) (ty t)
    constant_each (Var n) t f e h = absurd (impossible e)
      where
        impossible : None ≡ Some t → ⊥
        impossible x = cc
    constant_each (Num i) t f e h =
        let q = own 0 t (typed (Num i) t h e) in
        let has = constant_has p P labels (Num i) t f e in (has, (ty t, has, q, q, tt))
    constant_each (Lab l) t f e h =
        let q = own 0 t (typed (Lab l) t h e) in
        let has = constant_has p P labels (Lab l) t f e in (has, (ty t, has, q, q, tt))
    constant_each (Data n) t f e h =
        let q = own 0 t (typed (Data n) t h e) in
        let has = constant_has p P labels (Data n) t f e in (has, (ty t, has, q, q, tt))
    constant_each (Apply v ts) t f e h =
        let s = split_applied (type_of p [] v) ts t e in
        applied_each In Names Part Out carried p P labels 0 no_types (constant v) ts s.0 t s.2 f.1
        (own 0 t (typed (Apply v ts) t h e)) (all_q In Names Part Out carried 0 ts h.2)
        (constant_each v s.0 f.0 s.1 h.1)
    constant_each (Pack x v s) t f e h = (
      constant_has p P labels (Pack x v s) t f e,
      (
        ty (aput 0 x f.0),
        constant_each v (aput 0 x f.0) f.1 f.5 h.2,
        own 0 x h.1,
        own 0 t (typed (Pack x v s) t h e),
      ),
    )

    data_each : (cs : AConsts) → TypedData p cs → CsEach In p cs → DataEach Out P (data_of cs)
    data_each [] a h = tt
    data_each (c ∷ cs) a h = (
      (own 0 c.kind h.0.0, (ty c.kind, constant_each c.value c.kind a.0.0.fine a.0.0.is h.0.1)),
      data_each cs a.1 h.1,
    )

    heap_each : (xs : List AConsts) → TypedTuples p xs → TuplesEach In p xs → HeapEach Out P (generated_heap xs)
    heap_each [] a h = tt
    heap_each (x ∷ xs) a h = (data_each x a.0 h.0, heap_each xs a.1 h.1)

pub types_within : TypesWithin
types_within N R B p main q each =
    let P = generated p main in
    let there = blocks_at p main in
    let ok = args_below p q.blocks q.tuples in (
      good_each (AWithin N R B) (λ k. k ≤ N) (Part N R B) (TWithin N (R + 2) (N + B)) (carried N R B) p P there.labels
          ok (generated_blocks p main)
          (all_good (AWithin N R B) (λ k. k ≤ N) (Part N R B) (TWithin N (R + 2) (N + B)) (carried N R B) p main q
          each.0 each.2),
      heap_each N R B p P there.labels p.tuples q.tuples each.1,
    )
