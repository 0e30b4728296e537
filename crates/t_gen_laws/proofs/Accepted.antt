-- What is generated is accepted.
use Rattle.std.proofs.Common.{◌≡◌, ℕ, suc, ◌+◌, List, [], ◌∷◌, ◌++◌, length, Some, None, refl, sym, ap, ◌∙◌, arith}
use Rattle.std.proofs.Common.{slice_get}
use Rattle.std.specs.Prelude.{Bool, true}
use Rattle.a_terms.specs.Tree.{ATy, AInt, ATys, NoATys, MoreATys, AVal, Var, Num, Lab, Data, Apply, Pack, ADecl, Value}
use Rattle.a_terms.specs.Tree.{Proj, Arith, Unpack, Malloc, Init, ATm, Let, Call, If0, Halt, ABlk, AConsts, AProg}
use Rattle.a_terms.specs.Tree.{aput}
use Rattle.a_terms.specs.Typing.{data_fields, type_of, Fine, declared, more_vars, types_of, TypedData, TypedTuples}
use Rattle.a_terms.specs.Typing.{TypedProgram}
use Rattle.a_terms.specs.TypeLaws.{split_code, split_data, split_applied, Args-below, args_below}
use Rattle.a_terms.specs.Each.{AProp, AAll, VEach, VsEach, DEach, TEach, BsEach}
use Rattle.a_terms.specs.Bound.{thirds}
use Rattle.t_types.specs.Tree.{TupleTy, NoRegs, MoreFields}
use Rattle.t_types.proofs.FitsLaws.{fits_equal, fits_same}
use Rattle.t_types.specs.Fits.{RegTypes, lookup}
use Rattle.t_terms.specs.Tree.{TSeq, Then, Ends, TBlock, TProg}
use Rattle.t_terms.specs.Registers.{no_types}
use Rattle.t_terms.specs.Labels as L
use Rattle.t_rules.specs.Rules as R
use Rattle.t_rules.specs.Rules.{SeqAccepted, BlocksAccepted, DataAccepted, HeapAccepted, Accepted}
use Rattle.t_gen_rules.specs.Gen.{used, ty, ty_fields, extras, firsts, seconds, constant, data_of, generated_blocks}
use Rattle.t_gen_rules.specs.Gen.{generated_heap, generated}
use Rattle.t_gen_laws.specs.GenLaws.{length_extras}
use Rattle.t_gen_laws.specs.TypesEach.{TProp, SeqEach, BlocksEach}
use Rattle.t_gen_laws.proofs.TypeLaws.{ty_put}
use Rattle.t_gen_laws.proofs.Covers.{Live, Apart}
use Rattle.t_gen_laws.proofs.Places.{HasAt, has_all, has_front, has_back, length_firsts, block_at}
use Rattle.t_gen_laws.proofs.Values.{below_ty, Labels, applied_has, Carried}
use Rattle.t_gen_laws.proofs.Typed.{term_each}
use Rattle.t_gen_laws.proofs.Parts.{Good, good_both, extras_good, firsts_good}
use Rattle.t_gen_laws.proofs.Laying.{tuple_at}

-- the data
module _ (p : AProg) (P : TProg) (labels : Labels p P) where
  pub constant_has : (v : AVal) (t : ATy) → Fine p 0 [] v → type_of p [] v ≡ Some t →
      R.Has P 0 no_types (constant v) (ty t)
  constant_has (Var n) t f e = absurd (impossible e)
    where
      impossible : None ≡ Some t → ⊥
      impossible x = cc
  constant_has (Num i) t f e = let x : AInt ≡ t = cc in ap ty (sym x)
  constant_has (Lab l) t f e =
      let s = split_code (slice_get p.blocks l) t e in
      let lab = labels.blocks l s.0 s.1 in (lab.0, lab.1, sym (ap ty s.2) ∙ lab.2)
  constant_has (Data n) t f e =
      let s = split_data (slice_get p.tuples n) t e in
      let lab = labels.tuples n s.0 s.1 in (lab.0, lab.1, sym (ap ty s.2) ∙ lab.2)
  constant_has (Apply v ts) t f e =
      let s = split_applied (type_of p [] v) ts t e in
      applied_has p P labels 0 no_types (constant v) ts s.0 t s.2 f.1 (constant_has v s.0 f.0 s.1)
  constant_has (Pack h v s) t f e =
      let u = f.0 in
      let y : s ≡ t = cc in (
        ty u,
        ty (aput 0 h u),
        constant_has v (aput 0 h u) f.1 f.5,
        ap ty f.4,
        fits_equal _ _ (ty_put u 0 h),
        ap ty (sym y),
        below_ty h 0 f.2,
        below_ty s 0 f.3,
      )

  data_ok : (x : AConsts) → TypedData p x → DataAccepted P (data_of x)
  data_ok [] a = tt
  data_ok (c ∷ cs) a =
      let t = ty c.kind in
      ((t, constant_has c.value c.kind a.0.0.fine a.0.0.is, fits_same t, below_ty c.kind 0 a.0.1), data_ok cs a.1)

  pub tuples_ok : (xs : List AConsts) → TypedTuples p xs → HeapAccepted P (generated_heap xs)
  tuples_ok [] a = tt
  tuples_ok (x ∷ xs) a = (data_ok x a.0, tuples_ok xs a.1)

fields_are : (x : AConsts) → L.data_fields (data_of x) ≡ ty_fields (data_fields x)
fields_are [] = refl
fields_are (c ∷ cs) = ap (MoreFields (ty c.kind) true) (fields_are cs)

-- where the generated blocks stand
pub record BlocksAt (p : AProg) (main : ATm) : Type 0 where
  pub labels : Labels p (generated p main)
  pub of_main : HasAt (generated_blocks p main) (suc (length p.blocks)) (extras p 0 [] [] (suc (length p.blocks)) main)
  pub of_blocks : HasAt (generated_blocks p main) (suc (length p.blocks) + thirds main)
      (seconds p p.blocks (suc (length p.blocks) + thirds main))

pub blocks_at : (p : AProg) (main : ATm) → BlocksAt p main
blocks_at p main =
    let P = generated_blocks p main in
    let at = suc (length p.blocks) in
    let at0 = at + thirds main in
    let fs = firsts p.blocks at0 in
    let es = extras p 0 [] [] at main in
    let ss = seconds p p.blocks at0 in
    let all = (has_all P).1 in
    let n1 = length_firsts p.blocks at0 in
    let n2 = length_extras p 0 [] [] at main in
    let blocks = has_front P 1 fs (es ++ ss) all in
    let rest = has_back P 1 at fs (es ++ ss) (omega arith) all in
    record {
      labels = record {
        blocks = λ l b e.
            (let z : 1 + l ≡ suc l = omega arith in
            (_, ap (slice_get P) (sym z) ∙ block_at P p.blocks 1 at0 l b blocks e, refl));
        tuples = λ n x e. (data_of x, tuple_at p.tuples n x e, ap TupleTy (sym (fields_are x)));
      };
      of_main = has_front P at es ss rest;
      of_blocks = has_back P at at0 es ss (omega arith) rest;
    }

-- a program that fits into its own labels, by any property that is carried
pub no_variables : (f : RegTypes) (u : ℕ → Bool) → Live f [] [] 1 u
no_variables f u = λ n t y e. absurd (none n t e)
  where
    none : (n : ℕ) (t : ATy) → slice_get [] n ≡ Some t → ⊥
    none n t e = cc

pub none_apart : (u : ℕ → Bool) → Apart [] [] u
none_apart u = record { same = refl; own = λ i j x y li lj e. absurd (omega arith) }

module _ (A : AProp) (N : ℕ → Type 0) (S : ATy → Type 0) (Q : TProp) (C : Carried A N S Q) where
  seq_accepted : (P : TProg) (c : TSeq) (n : ℕ) (g : RegTypes) → SeqEach Q P n g c → SeqAccepted P n g c
  seq_accepted P (Then i rest) n g h = (h.0, h.1, seq_accepted P rest _ h.0 h.3)
  seq_accepted P (Ends e) n g h = h.0

  module _ (p : AProg) (P : TProg) (labels : Labels p P) (ok : Args-below p) where
    pub good_accepted : (bs : List TBlock) → Good A N S Q C p P labels ok bs → BlocksAccepted P bs
    good_accepted [] h = tt
    good_accepted (b ∷ bs) h = ((h.0.0, seq_accepted P b.code b.owes (lookup b.file) h.0.2), good_accepted bs h.1)

    pub good_each : (bs : List TBlock) → Good A N S Q C p P labels ok bs → BlocksEach Q P bs
    good_each [] h = tt
    good_each (b ∷ bs) h = ((h.0.1, h.0.2), good_each bs h.1)

  pub all_good : (p : AProg) (main : ATm) (q : TypedProgram p main) → BsEach A p p.blocks → TEach A p 0 [] main →
      Good A N S Q C p (generated p main) (blocks_at p main).labels (args_below p q.blocks q.tuples)
      (generated_blocks p main)
  all_good p main q be te =
      let P = generated p main in
      let at = suc (length p.blocks) in
      let at0 = at + thirds main in
      let fs = firsts p.blocks at0 in
      let es = extras p 0 [] [] at main in
      let ss = seconds p p.blocks at0 in
      let there = blocks_at p main in
      let ok = args_below p q.blocks q.tuples in
      let both = firsts_good A N S Q C p P there.labels ok p.blocks at0 q.blocks be there.of_blocks in
      let main_extras =
      extras_good A N S Q C p P there.labels ok main 0 [] [] at (none_apart (used main)) tt q.main_ok te tt
      there.of_main in (
        (
          tt,
          tt,
          term_each A N S Q C p P there.labels ok main 0 [] [] at (lookup NoRegs) (none_apart (used main))
              (no_variables (lookup NoRegs) (used main)) tt q.main_ok te tt there.of_main,
        ),
        good_both A N S Q C p P there.labels ok fs (es ++ ss) both.0
            (good_both A N S Q C p P there.labels ok es ss main_extras both.1),
      )

-- the property that each type has
abbrev Any : AProp
Any k t = Unit {0}

any : Carried Any (λ k. Unit {0}) (λ t. Unit {0}) (λ k t. Unit {0})
any = record {
  names = λ k t a. tt;
  part = λ k t a. tt;
  none = λ k n. tt;
  ints = λ k n. tt;
  shifted = λ t s. tt;
  of_type = λ k t u n s f. tt;
  of_var = λ k i n. tt;
  of_third = λ k n u m g x y s. tt;
  of_call = λ k us n a. tt;
}

any_types : (k : ℕ) (ts : ATys) → AAll Any k ts
any_types k NoATys = tt
any_types k (MoreATys t ts) = (tt, any_types k ts)

module _ (p : AProg) where
  any_value : (k : ℕ) (g : List ATy) (v : AVal) → VEach Any p k g v
  any_value k g (Var n) = tt
  any_value k g (Num i) = tt
  any_value k g (Lab l) = tt
  any_value k g (Data n) = tt
  any_value k g (Apply v ts) = (tt, any_value k g v, any_types k ts)
  any_value k g (Pack h v s) = (tt, tt, any_value k g v)

  any_values : (k : ℕ) (g : List ATy) (vs : List AVal) → VsEach Any p k g vs
  any_values k g [] = tt
  any_values k g (v ∷ vs) = (any_value k g v, any_values k g vs)

  any_decl : (k : ℕ) (g : List ATy) (x : ADecl) → DEach Any p k g x
  any_decl k g (Value v) = any_value k g v
  any_decl k g (Proj i v) = (any_value k g v, tt)
  any_decl k g (Arith o v w) = (any_value k g v, any_value k g w)
  any_decl k g (Unpack v) = (any_value k g v, tt)
  any_decl k g (Malloc ts) = (any_types k ts, tt)
  any_decl k g (Init v i w) = (any_value k g v, any_value k g w, tt)

  any_term : (e : ATm) (k : ℕ) (g : List ATy) → TEach Any p k g e
  any_term (Let x e) k g = (any_decl k g x, any_term e (more_vars x k) (declared p g x))
  any_term (Call v ts vs) k g = (any_value k g v, any_types k ts, any_values k g vs)
  any_term (If0 v a b) k g = (any_value k g v, any_term a k g, any_term b k g)
  any_term (Halt v) k g = any_value k g v

  any_blocks : (bs : List ABlk) → BsEach Any p bs
  any_blocks [] = tt
  any_blocks (b ∷ bs) = ((any_types b.owes b.args, any_term b.body b.owes (types_of b.args [])), any_blocks bs)

pub accepted : (p : AProg) (main : ATm) → TypedProgram p main → Accepted (generated p main)
accepted p main q =
    let P = generated p main in
    let there = blocks_at p main in
    let ok = args_below p q.blocks q.tuples in (
      (refl, refl),
      tuples_ok p P there.labels p.tuples q.tuples,
      good_accepted Any (λ k. Unit {0}) (λ t. Unit {0}) (λ k t. Unit {0}) any p P there.labels ok
          (generated_blocks p main)
          (all_good Any (λ k. Unit {0}) (λ t. Unit {0}) (λ k t. Unit {0}) any p main q (any_blocks p p.blocks)
          (any_term p main 0 [])),
    )
