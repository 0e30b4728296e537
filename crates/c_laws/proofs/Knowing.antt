-- What a walk along the nodes knows of codes and calls.
use Rattle.std.proofs.Common.{◌≡◌, ℕ, zero, suc, ◌+◌, ◌-◌, ◌<◌, ◌≤◌, Bool, true, false, ◌||◌, ◌&&◌, inl, inr, List, []}
use Rattle.std.proofs.Common.{◌∷◌, ◌++◌, length, take, refl, sym, ap, ap₂, ◌∙◌, subst, arith}
use Rattle.std.specs.Prelude.{nat_eq}
use Rattle.std.proofs.lemmas.Bool.{cases_lt, eq-eqb, eqb-true}
use Rattle.std.proofs.lemmas.List.Folds.{list_any-append}
use Rattle.calc_core.specs.Ends.{lift, under, after_one}
use Rattle.k_terms.specs.K.{KTy, KTys, TKInt, TKVar, TKTuple, TKCode, TKExists, TKRef, NoKTys, MoreKTys, KVal, KVar}
use Rattle.k_terms.specs.K.{KInt, KTuple, KCode, KVals, NoKVals, MoreKVals, KDecl, KName, KProj, KArith, KPack}
use Rattle.k_terms.specs.K.{KUnpack, KCell, KGet, KSet, KTm, kcount, kargs_onto, krens_scope, opens, kren, krens}
use Rattle.k_terms.specs.Types.{kd_type, kv_type, kvs_type, kproj_type, kopen_type, kheld_type, kfield, ktype_at}
use Rattle.c_rules.specs.Free.{tfree, tfrees, tfree_v, tfree_vs, tfree_d, tfree_t}
use Rattle.c_terms.specs.C.{CTy, CTys, TCVar, TCTuple, NoCTys, MoreCTys}
use Rattle.c_rules.specs.Close.{Scope, keeps, tkeeps, tfree_kept, rank, picked_tvars, picked_types, pick_type, outside}
use Rattle.c_rules.specs.Close.{ctype, inner}
use Rattle.calc_core.specs.Levels.{level_of}
use Rattle.c_rules.specs.Emit.{Info, levels, pick_level, info_of}
use Rattle.c_rules.specs.Sweep.{has, known_below}
use Rattle.c_rules.specs.Know.{Bound, Side, above, side_var, outer_var, type_levels, bound_at, bound_type, bound_types}
use Rattle.c_rules.specs.Know.{bound_levels, variables, side_of, info_from, bind, bind_all, side_depth, written_in}
use Rattle.c_rules.specs.Know.{clue_of}
use Rattle.c_laws.proofs.Spots.{length_levels}
use Rattle.c_rules.proofs.Sets.{has_kept, levels_same, level_twice}
use Rattle.c_laws.proofs.Types.{ctype_ren}
use Rattle.calc_core.proofs.Substituting.{ren_ren as kren_ren, low_or_past as near_or_far}
use Rattle.c_laws.proofs.TypeLaws.{ctype_same, ctypes_same, has_type, above_rank}
use Rattle.calc_core.proofs.Lifts.{lift_suc, lift_add}
use Rattle.calc_core.proofs.Levels.{level_below}
use Rattle.std.proofs.Math.Bool.{or-false as or_none}
use Rattle.calc_core.proofs.Scopes.{scope_length as length_krens}
use Rattle.c_laws.proofs.Ranges.{or_split, under_below as into_under}
use Rattle.c_laws.proofs.Envs.{or_left, or_right}

abbrev pub Closed : ℕ → (ℕ → Bool) → Type 0
Closed d live = (i : ℕ) → live i ≡ true → i < d

-- a variable's type as the walk holds it
pub record HoldsAt (td : ℕ) (x : Bound) (t : KTy) : Type 0 where
  pub deep : x.depth ≤ td
  pub is : kren (lift (td - x.depth)) x.type ≡ t
  pub scoped : Closed x.depth (λ j. tfree j x.type)

pub record Holds (td d : ℕ) (xs : List Bound) (g : List KTy) : Type 0 where
  pub long : d ≤ length xs
  pub width : length g ≡ d
  pub at : (i : ℕ) → i < d → HoldsAt td (bound_at xs (level_of d i)) (ktype_at g i)

-- what a part leaves of the types
pub record Keeps (d : ℕ) (xs ys : List Bound) : Type 0 where
  pub long : d ≤ length ys
  pub same : (l : ℕ) → l < d → bound_at ys l ≡ bound_at xs l

pub record Fits (f : Side) (td : ℕ) (r : ℕ → ℕ) : Type 0 where
  pub deep : side_depth f ≡ td
  pub var : (j : ℕ) → j < td → side_var f j ≡ r j

pub keeps_more : (d : ℕ) (xs ys zs : List Bound) → Keeps d xs ys → Keeps d ys zs → Keeps d xs zs
keeps_more d xs ys zs a b = record { long = b.long; same = λ l h. b.same l h ∙ a.same l h }

pub keeps_less : (d : ℕ) (xs ys : List Bound) → Keeps (suc d) xs ys → Keeps d xs ys
keeps_less d xs ys a = record { long = omega (arith, a.long); same = λ l h. a.same l (omega (arith, h)) }

pub keeps_lift : (n d : ℕ) (xs ys : List Bound) → Keeps (lift n d) xs ys → Keeps d xs ys
keeps_lift n d xs ys a =
    record { long = omega (arith, a.long, lift_add n d); same = λ l h. a.same l (omega (arith, h, lift_add n d)) }

pub still_holds : (td d : ℕ) (xs ys : List Bound) (g : List KTy) → Keeps d xs ys → Holds td d xs g → Holds td d ys g
still_holds td d xs ys g k h = record {
  long = k.long;
  width = h.width;
  at = λ i lt. subst (λ x. HoldsAt td x (ktype_at g i))
      (sym (k.same (level_of d i) (omega (arith, lt, level_below d i lt)))) (h.at i lt);
}

-- one more variable
pub bind_here : (xs : List Bound) (d : ℕ) (x : Bound) → d ≤ length xs → bound_at (take d xs ++ x ∷ []) d ≡ x
bind_here xs zero x h = refl
bind_here [] (suc d) x h = absurd (omega (arith, h))
bind_here (y ∷ xs) (suc d) x h = bind_here xs d x (omega (arith, h))

pub bind_below : (xs : List Bound) (d : ℕ) (x : Bound) (l : ℕ) → d ≤ length xs → l < d →
    bound_at (take d xs ++ x ∷ []) l ≡ bound_at xs l
bind_below xs zero x l h lt = absurd (omega (arith, lt))
bind_below [] (suc d) x l h lt = absurd (omega (arith, h))
bind_below (y ∷ xs) (suc d) x zero h lt = refl
bind_below (y ∷ xs) (suc d) x (suc l) h lt = bind_below xs d x l (omega (arith, h)) (omega (arith, lt))

pub bind_long : (xs : List Bound) (d : ℕ) (x : Bound) → d ≤ length xs → length (take d xs ++ x ∷ []) ≡ suc d
bind_long xs zero x h = refl
bind_long [] (suc d) x h = absurd (omega (arith, h))
bind_long (y ∷ xs) (suc d) x h = ap suc (bind_long xs d x (omega (arith, h)))

pub bind_keeps : (xs : List Bound) (d : ℕ) (t : KTy) (td : ℕ) → d ≤ length xs → Keeps d xs (bind xs d t td)
bind_keeps xs d t td h =
    let x : Bound = record { type = t; depth = td } in
    record { long = omega (arith, bind_long xs d x h); same = λ l lt. bind_below xs d x l h lt }

pub bind_holds : (td d : ℕ) (xs : List Bound) (g : List KTy) (t u : KTy) (at : ℕ) → Holds td d xs g →
    (let x : Bound = record { type = t; depth = at } in HoldsAt td x u) → Holds td (suc d) (bind xs d t at) (u ∷ g)
bind_holds td d xs g t u at h b =
    let x : Bound = record { type = t; depth = at } in
    record { long = omega (arith, bind_long xs d x h.long); width = ap suc h.width; at = λ i lt. place i lt x b h }
  where
    place : (i : ℕ) → i < suc d → (x : Bound) → HoldsAt td x u → Holds td d xs g →
        HoldsAt td (bound_at (take d xs ++ x ∷ []) (level_of (suc d) i)) (ktype_at (u ∷ g) i)
    place zero lt x b h = subst (λ y. HoldsAt td y u) (sym (bind_here xs d x h.long)) b
    place (suc i) lt x b h =
        subst (λ y. HoldsAt td y (ktype_at g i))
        (sym (bind_below xs d x (level_of d i) h.long (omega (arith, lt, level_below d i (omega (arith, lt))))))
        (h.at i (omega (arith, lt)))

pub under_id : (n : ℕ) (r : ℕ → ℕ) → ((i : ℕ) → r i ≡ i) → (i : ℕ) → under n r i ≡ i
under_id zero r f i = f i
under_id (suc n) r f zero = refl
under_id (suc n) r f (suc i) = ap suc (under_id n r f i)

mutual
  pub kren_same : (t : KTy) (r : ℕ → ℕ) → ((i : ℕ) → r i ≡ i) → kren r t ≡ t
  kren_same TKInt r f = refl
  kren_same (TKVar i) r f = ap TKVar (f i)
  kren_same (TKTuple ts) r f = ap TKTuple (krens_same ts r f)
  kren_same (TKExists t) r f = ap TKExists (kren_same t (under 1 r) (under_id 1 r f))
  kren_same (TKRef t) r f = ap TKRef (kren_same t r f)
  kren_same (TKCode n ts) r f = ap (TKCode n) (krens_same ts (under n r) (under_id n r f))

  pub krens_same : (ts : KTys) (r : ℕ → ℕ) → ((i : ℕ) → r i ≡ i) → krens r ts ≡ ts
  krens_same NoKTys r f = refl
  krens_same (MoreKTys t ts) r f = ap₂ MoreKTys (kren_same t r f) (krens_same ts r f)

-- free type variables of renamed types
pub inner_closed : (n d : ℕ) (live : ℕ → Bool) → Closed d (λ i. live (lift n i)) → Closed (lift n d) live
inner_closed n d live c i h = elim (near_or_far n i) [
  | inl near ↦ omega (arith, lift_add n d, near)
  | inr r ↦ let q = c r.0 (subst (λ x. live x ≡ true) r.1 h) in omega (arith, q, r.1, lift_add n d, lift_add n r.0)
]

pub outer_closed : (n d : ℕ) (live : ℕ → Bool) → Closed (lift n d) live → Closed d (λ i. live (lift n i))
outer_closed n d live c i h = let q = c (lift n i) h in omega (arith, q, lift_add n d, lift_add n i)

mutual
  pub kren_closed : (t : KTy) (q : ℕ → ℕ) (n k : ℕ) → ((i : ℕ) → i < n → q i < k) → Closed n (λ j. tfree j t) →
      Closed k (λ j. tfree j (kren q t))
  kren_closed TKInt q n k f c = λ j e. absurd cc
  kren_closed (TKVar i) q n k f c = λ j e. let h = f i (c i (eq-eqb i i refl)) in omega (arith, h, eqb-true j (q i) e)
  kren_closed (TKTuple ts) q n k f c = krens_closed ts q n k f c
  kren_closed (TKExists t) q n k f c =
      outer_closed 1 k (λ j. tfree j (kren (under 1 q) t))
      (kren_closed t (under 1 q) (lift 1 n) (lift 1 k) (into_under 1 q n k f) (inner_closed 1 n (λ j. tfree j t) c))
  kren_closed (TKRef t) q n k f c = kren_closed t q n k f c
  kren_closed (TKCode m ts) q n k f c =
      outer_closed m k (λ j. tfrees j (krens (under m q) ts))
      (krens_closed ts (under m q) (lift m n) (lift m k) (into_under m q n k f)
      (inner_closed m n (λ j. tfrees j ts) c))

  pub krens_closed : (ts : KTys) (q : ℕ → ℕ) (n k : ℕ) → ((i : ℕ) → i < n → q i < k) → Closed n (λ j. tfrees j ts) →
      Closed k (λ j. tfrees j (krens q ts))
  krens_closed NoKTys q n k f c = λ j e. absurd cc
  krens_closed (MoreKTys t ts) q n k f c = λ j.
      or_split (tfree j (kren q t)) (tfrees j (krens q ts))
      (kren_closed t q n k f (λ i h. c i (or_left (tfree i t) (tfrees i ts) h)) j)
      (krens_closed ts q n k f (λ i h. c i (or_right (tfree i t) (tfrees i ts) h)) j)

pub holds_closed : (td : ℕ) (x : Bound) (t : KTy) → HoldsAt td x t → Closed td (λ j. tfree j t)
holds_closed td x t h =
    subst (λ u. Closed td (λ j. tfree j u)) h.is
    (kren_closed x.type (lift (td - x.depth)) x.depth td (λ i lt. omega (arith, lt, h.deep, lift_add (td - x.depth) i))
    h.scoped)

pub at_out : (g : List KTy) (i : ℕ) → length g ≤ i → ktype_at g i ≡ TKInt
at_out [] i h = refl
at_out (t ∷ g) zero h = absurd (omega (arith, h))
at_out (t ∷ g) (suc i) h = at_out g i (omega (arith, h))

pub scope_closed : (td d : ℕ) (xs : List Bound) (g : List KTy) → Holds td d xs g → (i : ℕ) →
    Closed td (λ j. tfree j (ktype_at g i))
scope_closed td d xs g h i = elim (cases_lt i d) [
  | inl lt ↦ holds_closed td (bound_at xs (level_of d i)) (ktype_at g i) (h.at i lt)
  | inr ge ↦ λ j e. absurd (let z : false ≡ true = sym (ap (tfree j) (at_out g i (omega (arith, ge, h.width)))) ∙ e in
      cc)
]

mutual
  pub v_closed : (v : KVal) (td : ℕ) (g : List KTy) → ((i : ℕ) → Closed td (λ j. tfree j (ktype_at g i))) →
      Closed td (λ j. tfree_v j v) → Closed td (λ j. tfree j (kv_type g v))
  v_closed (KVar i) td g s c = s i
  v_closed (KInt n) td g s c = λ j e. absurd cc
  v_closed (KTuple vs) td g s c = vs_closed vs td g s c
  v_closed (KCode owes args body) td g s c =
      λ j e. c j (or_left (tfrees (lift owes j) args) (tfree_t (lift owes j) body) e)

  pub vs_closed : (vs : KVals) (td : ℕ) (g : List KTy) → ((i : ℕ) → Closed td (λ j. tfree j (ktype_at g i))) →
      Closed td (λ j. tfree_vs j vs) → Closed td (λ j. tfrees j (kvs_type g vs))
  vs_closed NoKVals td g s c = λ j e. absurd cc
  vs_closed (MoreKVals v vs) td g s c = λ j. or_split (tfree j (kv_type g v)) (tfrees j (kvs_type g vs))
      (v_closed v td g s (λ i h. c i (or_left (tfree_v i v) (tfree_vs i vs) h)) j)
      (vs_closed vs td g s (λ i h. c i (or_right (tfree_v i v) (tfree_vs i vs) h)) j)

pub field_closed : (i : ℕ) (ts : KTys) (td : ℕ) → Closed td (λ j. tfrees j ts) → Closed td (λ j. tfree j (kfield i ts))
field_closed i NoKTys td c = λ j e. absurd cc
field_closed zero (MoreKTys t ts) td c = λ j e. absurd cc
field_closed (suc zero) (MoreKTys t ts) td c = λ j e. c j (or_left (tfree j t) (tfrees j ts) e)
field_closed (suc (suc i)) (MoreKTys t ts) td c =
    field_closed (suc i) ts td (λ j e. c j (or_right (tfree j t) (tfrees j ts) e))

pub proj_closed : (i : ℕ) (t : KTy) (td : ℕ) → Closed td (λ j. tfree j t) → Closed td (λ j. tfree j (kproj_type i t))
proj_closed i TKInt td c = λ j e. absurd cc
proj_closed i (TKVar k) td c = λ j e. absurd cc
proj_closed i (TKTuple ts) td c = field_closed i ts td c
proj_closed i (TKCode n ts) td c = λ j e. absurd cc
proj_closed i (TKExists t) td c = λ j e. absurd cc
proj_closed i (TKRef t) td c = λ j e. absurd cc

pub open_closed : (t : KTy) (td : ℕ) → Closed td (λ j. tfree j t) → Closed (suc td) (λ j. tfree j (kopen_type t))
open_closed TKInt td c = λ j e. absurd cc
open_closed (TKVar k) td c = λ j e. absurd cc
open_closed (TKTuple ts) td c = λ j e. absurd cc
open_closed (TKCode n ts) td c = λ j e. absurd cc
open_closed (TKExists t) td c = inner_closed 1 td (λ j. tfree j t) c
open_closed (TKRef t) td c = λ j e. absurd cc

pub held_closed : (t : KTy) (td : ℕ) → Closed td (λ j. tfree j t) → Closed td (λ j. tfree j (kheld_type t))
held_closed TKInt td c = λ j e. absurd cc
held_closed (TKVar k) td c = λ j e. absurd cc
held_closed (TKTuple ts) td c = λ j e. absurd cc
held_closed (TKCode n ts) td c = λ j e. absurd cc
held_closed (TKExists t) td c = λ j e. absurd cc
held_closed (TKRef t) td c = c

pub d_closed : (x : KDecl) (td : ℕ) (g : List KTy) → ((i : ℕ) → Closed td (λ j. tfree j (ktype_at g i))) →
    Closed td (λ j. tfree_d j x) → Closed (after_one (opens x) td) (λ j. tfree j (kd_type g x))
d_closed (KName v) td g s c = v_closed v td g s c
d_closed (KProj i v) td g s c = proj_closed i (kv_type g v) td (v_closed v td g s c)
d_closed (KArith op v w) td g s c = λ j e. absurd cc
d_closed (KPack h v x) td g s c =
    λ j e. c j (or_right (tfree j h) (tfree_v j v || tfree j x) (or_right (tfree_v j v) (tfree j x) e))
d_closed (KUnpack v) td g s c = open_closed (kv_type g v) td (v_closed v td g s c)
d_closed (KCell v) td g s c = v_closed v td g s c
d_closed (KGet v) td g s c = held_closed (kv_type g v) td (v_closed v td g s c)
d_closed (KSet v w) td g s c = λ j e. absurd cc

-- a type that is bound where it stands
pub bound_now : (td : ℕ) (t : KTy) → Closed td (λ j. tfree j t) →
    (let x : Bound = record { type = t; depth = td } in HoldsAt td x t)
bound_now td t c =
    record {
      deep = omega arith;
      is = kren_same t (lift (td - td)) (λ i. omega (arith, lift_add (td - td) i));
      scoped = c;
    }

pub raise_at : (n td : ℕ) (x : Bound) (t : KTy) → HoldsAt td x t → HoldsAt (lift n td) x (kren (lift n) t)
raise_at n td x t h = record {
  deep = omega (arith, h.deep, lift_add n td);
  is = sym (kren_ren x.type (lift n) (lift (td - x.depth)) (lift (lift n td - x.depth))
      (λ i. omega (
        arith,
        h.deep,
        lift_add n td,
        lift_add n (lift (td - x.depth) i),
        lift_add (td - x.depth) i,
        lift_add (lift n td - x.depth) i,
      ))) ∙ ap (kren (lift n)) h.is;
  scoped = h.scoped;
}

pub at_krens : (q : ℕ → ℕ) (g : List KTy) (i : ℕ) → i < length g → ktype_at (krens_scope q g) i ≡ kren q (ktype_at g i)
at_krens q [] i h = absurd (omega (arith, h))
at_krens q (t ∷ g) zero h = refl
at_krens q (t ∷ g) (suc i) h = at_krens q g i (omega (arith, h))

pub raise : (n td d : ℕ) (xs : List Bound) (g : List KTy) → Holds td d xs g →
    Holds (lift n td) d xs (krens_scope (lift n) g)
raise n td d xs g h = record {
  long = h.long;
  width = length_krens (lift n) g ∙ h.width;
  at = λ i lt. subst (HoldsAt (lift n td) (bound_at xs (level_of d i)))
      (sym (at_krens (lift n) g i (omega (arith, lt, h.width))))
      (raise_at n td (bound_at xs (level_of d i)) (ktype_at g i) (h.at i lt));
}

pub all_hold : (ts : KTys) (td d : ℕ) (xs : List Bound) (g : List KTy) → Holds td d xs g →
    Closed td (λ j. tfrees j ts) → Holds td (lift (kcount ts) d) (bind_all xs d ts td) (kargs_onto ts g)
all_hold NoKTys td d xs g h c = h
all_hold (MoreKTys t ts) td d xs g h c =
    subst (λ n. Holds td n (bind_all (bind xs d t td) (suc d) ts td) (kargs_onto ts (t ∷ g))) (lift_suc (kcount ts) d)
    (all_hold ts td (suc d) (bind xs d t td) (t ∷ g)
    (bind_holds td d xs g t t td h (bound_now td t (λ j e. c j (or_left (tfree j t) (tfrees j ts) e))))
    (λ j e. c j (or_right (tfree j t) (tfrees j ts) e)))

pub all_keep : (ts : KTys) (td d : ℕ) (xs : List Bound) → d ≤ length xs → Keeps d xs (bind_all xs d ts td)
all_keep NoKTys td d xs h = record { long = h; same = λ l lt. refl }
all_keep (MoreKTys t ts) td d xs h =
    let k = bind_keeps xs d t td h in
    let x : Bound = record { type = t; depth = td } in
    keeps_more d xs (bind xs d t td) (bind_all (bind xs d t td) (suc d) ts td) k
    (keeps_less d (bind xs d t td) (bind_all (bind xs d t td) (suc d) ts td)
    (all_keep ts td (suc d) (bind xs d t td) (omega (arith, bind_long xs d x h))))

-- a variable's type, translated
pub bound_same : (td : ℕ) (x : Bound) (t : KTy) (q r : ℕ → ℕ) → HoldsAt td x t → ((j : ℕ) → j < td → q j ≡ r j) →
    bound_type q td x ≡ ctype r t
bound_same td x t q r h f =
    let m = td - x.depth in
    ctype_same x.type (λ i. q (lift m i)) (λ i. r (lift m i))
    (λ i e. f (lift m i) (omega (arith, h.scoped i e, h.deep, lift_add m i)))
    ∙ sym (ctype_ren x.type r (lift m) (λ i. r (lift m i)) (λ i. refl))
    ∙ ap (ctype r) h.is

pub picks_one : (td : ℕ) (xs : List Bound) (q r : ℕ → ℕ) (b : Bool) (l : ℕ) (t : KTy) (ls : List ℕ) (acc : CTys) →
    bound_type q td (bound_at xs l) ≡ ctype r t → bound_types q td xs ls ≡ acc →
    bound_types q td xs (pick_level b l ls) ≡ pick_type b (ctype r t) acc
picks_one td xs q r true l t ls acc e h = ap₂ MoreCTys e h
picks_one td xs q r false l t ls acc e h = h

pub picks : (td : ℕ) (xs : List Bound) (q r : ℕ → ℕ) (keep : ℕ → Bool) (g : List KTy) (ls : List ℕ) (acc : CTys) →
    ((i : ℕ) → i < length g → bound_type q td (bound_at xs (level_of (length g) i)) ≡ ctype r (ktype_at g i)) →
    bound_types q td xs ls ≡ acc →
    bound_types q td xs (levels keep (length g) ls) ≡ picked_types keep (ctype r) g acc
picks td xs q r keep [] ls acc f h = h
picks td xs q r keep (t ∷ g) ls acc f h =
    picks td xs q r (λ i. keep (suc i)) g (pick_level (keep 0) (length g) ls) (pick_type (keep 0) (ctype r t) acc)
    (λ i lt. f (suc i) (omega (arith, lt)))
    (picks_one td xs q r (keep 0) (length g) t ls acc (f 0 (omega arith)) h)

pub types_picked : (td d : ℕ) (xs : List Bound) (g : List KTy) (q r : ℕ → ℕ) (keep : ℕ → Bool) → Holds td d xs g →
    ((j : ℕ) → j < td → q j ≡ r j) → bound_types q td xs (levels keep d []) ≡ picked_types keep (ctype r) g NoCTys
types_picked td d xs g q r keep h f =
    ap (λ n. bound_types q td xs (levels keep n [])) (sym h.width)
    ∙ picks td xs q r keep g [] NoCTys
    (λ i lt. ap (λ n. bound_type q td (bound_at xs (level_of n i))) h.width
    ∙ bound_same td (bound_at xs (level_of d i)) (ktype_at g i) q r (h.at i (omega (arith, lt, h.width))) f) refl

-- the kept type variables
pub vars_one : (q : ℕ → ℕ) (td : ℕ) (b : Bool) (l i : ℕ) (ls : List ℕ) (acc : CTys) → q (level_of td l) ≡ i →
    variables q td ls ≡ acc → variables q td (pick_level b l ls) ≡ pick_type b (TCVar i) acc
vars_one q td true l i ls acc e h = ap₂ (λ x y. MoreCTys (TCVar x) y) e h
vars_one q td false l i ls acc e h = h

pub vars : (q : ℕ → ℕ) (td : ℕ) (keep : ℕ → Bool) (r : ℕ → ℕ) (n : ℕ) (ls : List ℕ) (acc : CTys) →
    ((j : ℕ) → j < n → q (level_of td (level_of n j)) ≡ r j) → variables q td ls ≡ acc →
    variables q td (levels keep n ls) ≡ picked_tvars keep r n acc
vars q td keep r zero ls acc f h = h
vars q td keep r (suc n) ls acc f h =
    vars q td (λ i. keep (suc i)) (λ i. r (suc i)) n (pick_level (keep 0) n ls) (pick_type (keep 0) (TCVar (r 0)) acc)
    (λ j lt. f (suc j) (omega (arith, lt))) (vars_one q td (keep 0) n (r 0) ls acc (f 0 (omega arith)) h)

pub vars_picked : (q r : ℕ → ℕ) (td : ℕ) (keep : ℕ → Bool) → ((j : ℕ) → j < td → q j ≡ r j) →
    variables q td (levels keep td []) ≡ picked_tvars keep r td NoCTys
vars_picked q r td keep f = vars q td keep r td [] NoCTys (λ j lt. ap q (level_twice td j lt) ∙ f j lt) refl

-- the type variables of a closed code
pub mix : (k a b c : Bool) → k || (a || b) ≡ (a || k) || b
mix true true b c = refl
mix true false b c = refl
mix false true b c = refl
mix false false b c = refl

pub free_one : (l : ℕ) (xs : List Bound) (b : Bool) (m : ℕ) (here rest : Bool) (ls : List ℕ) →
    has l (type_levels (bound_at xs m).depth 0 (bound_at xs m).type) ≡ here →
    rest || has l (bound_levels xs (pick_level b m ls)) ≡ ((b && here) || rest) || has l (bound_levels xs ls)
free_one l xs true m here rest ls e =
    ap (λ x. rest || x)
    (list_any-append (λ x. nat_eq l x) (type_levels (bound_at xs m).depth 0 (bound_at xs m).type)
    (bound_levels xs ls) ∙ ap (λ x. x || has l (bound_levels xs ls)) e)
    ∙ mix rest here (has l (bound_levels xs ls)) true
free_one l xs false m here rest ls e = refl

pub frees : (j l : ℕ) (xs : List Bound) (keep : ℕ → Bool) (g : List KTy) (ls : List ℕ) →
    ((i : ℕ) → i < length g →
    has l (type_levels (bound_at xs (level_of (length g) i)).depth 0 (bound_at xs (level_of (length g) i)).type)
    ≡ tfree j (ktype_at g i)) →
    has l (bound_levels xs (levels keep (length g) ls)) ≡ tfree_kept j keep g || has l (bound_levels xs ls)
frees j l xs keep [] ls f = refl
frees j l xs keep (t ∷ g) ls f =
    frees j l xs (λ i. keep (suc i)) g (pick_level (keep 0) (length g) ls) (λ i lt. f (suc i) (omega (arith, lt)))
    ∙ free_one l xs (keep 0) (length g) (tfree j t) (tfree_kept j (λ i. keep (suc i)) g) ls (f 0 (omega arith))

pub free_at : (td j : ℕ) (x : Bound) (t : KTy) → j < td → HoldsAt td x t →
    has (level_of td j) (type_levels x.depth 0 x.type) ≡ tfree j t
free_at td j x t lt h =
    has_type x.type td x.depth (td - x.depth) j 0 (lift (td - x.depth)) (omega (arith, h.deep)) lt (λ i. refl) h.scoped
    ∙ ap (tfree j) h.is

pub side_kept : (d : ℕ) (s : Scope) (owes : ℕ) (args : KTys) (body : KTm) (xs : List Bound) →
    Holds s.tcount d xs s.types →
    known_below s.tcount ((clue_of d s.tcount owes args body).types ++ bound_levels xs (levels (keeps args body) d []))
    ≡ levels (tkeeps s.types owes args body) s.tcount []
side_kept d s owes args body xs h =
    let td = s.tcount in
    let w = levels (written_in owes args body) td [] in
    let bs = bound_levels xs (levels (keeps args body) d []) in
    levels_same (λ j. has (level_of td j) (w ++ bs)) (tkeeps s.types owes args body) td [] (λ j lt.
    list_any-append (λ x. nat_eq (level_of td j) x) w bs
    ∙ ap₂ (λ x y. x || y) (has_kept (written_in owes args body) td j lt)
    (ap (λ n. has (level_of td j) (bound_levels xs (levels (keeps args body) n []))) (sym h.width)
    ∙ frees j (level_of td j) xs (keeps args body) s.types []
    (λ i li. ap (λ n.
    has (level_of td j) (type_levels (bound_at xs (level_of n i)).depth 0 (bound_at xs (level_of n i)).type))
    h.width ∙ free_at td j (bound_at xs (level_of d i)) (ktype_at s.types i) lt
    (h.at i (omega (arith, li, h.width))))
    ∙ or_none (tfree_kept j (keeps args body) s.types)))

abbrev pub inner_side : Scope → ℕ → KTys → KTm → Side
inner_side s owes args body =
    record {
      depth = s.tcount;
      owes = owes;
      kept = levels (tkeeps s.types owes args body) s.tcount [];
      calling = false;
    }

pub side_is : (d : ℕ) (s : Scope) (owes : ℕ) (args : KTys) (body : KTm) (xs : List Bound) →
    Holds s.tcount d xs s.types → side_of s.tcount owes (clue_of d s.tcount owes args body) xs
    ≡ inner_side s owes args body
side_is d s owes args body xs h =
    ap (λ (ls : List ℕ). let f : Side = record { depth = s.tcount; owes = owes; kept = ls; calling = false } in f)
    (side_kept d s owes args body xs h)

pub under_below : (n td : ℕ) (r q : ℕ → ℕ) → ((i : ℕ) → i < td → r i ≡ q i) → (j : ℕ) → j < lift n td →
    under n r j ≡ under n q j
under_below zero td r q f j h = f j h
under_below (suc n) td r q f zero h = refl
under_below (suc n) td r q f (suc j) h = ap suc (under_below n td r q f j (omega (arith, h)))

pub above_is : (keep : ℕ → Bool) (td j : ℕ) → j < td → above (level_of td j) (levels keep td []) ≡ rank keep j
above_is keep td j h = above_rank keep td j [] h ∙ (let q : rank keep j + 0 ≡ rank keep j = omega arith in q)

pub inner_fits : (s : Scope) (owes : ℕ) (args : KTys) (body : KTm) →
    Fits (inner_side s owes args body) (lift owes s.tcount) (inner s owes args body).tvar
inner_fits s owes args body = record {
  deep = refl;
  var = under_below owes s.tcount
      (λ i. above (level_of s.tcount i) (levels (tkeeps s.types owes args body) s.tcount []))
      (rank (tkeeps s.types owes args body)) (above_is (tkeeps s.types owes args body) s.tcount);
}

pub outer_fits : (s : Scope) (owes : ℕ) (args : KTys) (body : KTm) (j : ℕ) → j < s.tcount →
    outer_var (inner_side s owes args body) j ≡ outside s owes args body j
outer_fits s owes args body j h = ap (lift owes) (above_is (tkeeps s.types owes args body) s.tcount j h)

abbrev pub packed : List ℕ → Bool → CTy → CTy → CTys → CTy → CTy → CTys → ℕ → CTys → Info
packed kept own h s a hi si ai owes args =
    record {
      kept = kept;
      own = own;
      owes = owes;
      args = args;
      apply = a;
      hidden = h;
      shape = s;
      apply_in = ai;
      hidden_in = hi;
      shape_in = si;
    }

pub packed_same : (kept : List ℕ) (own : Bool) (h s : CTy) (a : CTys) (hi si : CTy) (ai : CTys) (owes : ℕ)
    (args : CTys) (h1 s1 : CTy) (a1 : CTys) (hi1 si1 : CTy) (ai1 : CTys) (owes1 : ℕ) (args1 : CTys) →
    h ≡ h1 → s ≡ s1 → a ≡ a1 → hi ≡ hi1 → si ≡ si1 → ai ≡ ai1 → owes ≡ owes1 → args ≡ args1 →
    packed kept own h s a hi si ai owes args ≡ packed kept own h1 s1 a1 hi1 si1 ai1 owes1 args1
packed_same kept own h s a hi si ai owes args h1 s1 a1 hi1 si1 ai1 owes1 args1 e1 e2 e3 e4 e5 e6 e7 e8 =
    ap (λ x. packed kept own x s a hi si ai owes args) e1
    ∙ ap (λ x. packed kept own h1 x a hi si ai owes args) e2
    ∙ ap (λ x. packed kept own h1 s1 x hi si ai owes args) e3
    ∙ ap (λ x. packed kept own h1 s1 a1 x si ai owes args) e4
    ∙ ap (λ x. packed kept own h1 s1 a1 hi1 x ai owes args) e5
    ∙ ap (λ x. packed kept own h1 s1 a1 hi1 si1 x owes args) e6
    ∙ ap (λ x. packed kept own h1 s1 a1 hi1 si1 ai1 x args) e7
    ∙ ap (λ x. packed kept own h1 s1 a1 hi1 si1 ai1 owes1 x) e8

pub info_is : (d : ℕ) (s : Scope) (owes : ℕ) (args : KTys) (body : KTm) (xs : List Bound) (f : Side) →
    Holds s.tcount d xs s.types → Fits f s.tcount s.tvar → Closed s.tcount (λ j. tfree_v j (KCode owes args body)) →
    info_from s.tcount owes args (clue_of d s.tcount owes args body) xs f
    (side_of s.tcount owes (clue_of d s.tcount owes args body) xs) ≡ info_of d s owes args body
info_is d s owes args body xs f h fit c =
    let td = s.tcount in
    let T = tkeeps s.types owes args body in
    let G = inner_side s owes args body in
    let keep = keeps args body in
    let i = info_of d s owes args body in
    let clue = clue_of d td owes args body in
    let j = info_from td owes args clue xs f G in
    let shaped : Closed td (λ j. tfree j (TKCode owes args)) =
    λ j e. c j (or_left (tfrees (lift owes j) args) (tfree_t (lift owes j) body) e) in
    let inside : Closed (lift owes td) (λ j. tfrees j args) = inner_closed owes td (λ j. tfrees j args) shaped in
    let out = outer_fits s owes args body in
    let hidden_in = ap TCTuple (types_picked td d xs s.types (outer_var G) (outside s owes args body) keep h out) in
    ap (info_from td owes args clue xs f) (side_is d s owes args body xs h)
    ∙ packed_same i.kept i.own j.hidden j.shape j.apply j.hidden_in j.shape_in j.apply_in j.owes j.args i.hidden
    i.shape i.apply i.hidden_in i.shape_in i.apply_in i.owes i.args
    (ap TCTuple (types_picked td d xs s.types (side_var f) s.tvar keep h fit.var))
    (ctype_same (TKCode owes args) (side_var f) s.tvar (λ j e. fit.var j (shaped j e)))
    (vars_picked (side_var f) s.tvar td T fit.var)
    hidden_in
    (ctype_same (TKCode owes args) (outer_var G) (outside s owes args body) (λ j e. out j (shaped j e)))
    (vars_picked (outer_var G) (outside s owes args body) td T out)
    (ap (lift owes) (length_levels T td [] ∙ (let q : rank T td + 0 ≡ rank T td = omega arith in q)))
    (ap₂ MoreCTys hidden_in
    (ctypes_same args (side_var G) (inner s owes args body).tvar
    (λ j e. (inner_fits s owes args body).var j (inside j e))))
