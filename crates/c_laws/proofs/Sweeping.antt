-- The walk from the last node to the first finds the free variables of each code.
use Rattle.std.proofs.Common.{◌≡◌, ℕ, zero, suc, ◌<◌, Bool, true, false, ◌||◌, inl, inr, List, [], ◌∷◌, ◌++◌, refl}
use Rattle.std.proofs.Common.{sym, ap, ◌∙◌, subst, arith, append_assoc}
use Rattle.std.specs.Prelude.{nat_eq}
use Rattle.std.proofs.lemmas.Bool.{cases_eq, eq-eqb, ne_eqb}
use Rattle.std.proofs.lemmas.List.Folds.{list_any-append}
use Rattle.calc_core.specs.Ends.{lift, after_one}
use Rattle.k_terms.specs.K.{KTy, KVal, KVar, KInt, KTuple, KCode, KVals, NoKVals, MoreKVals, KDecl, KName, KProj}
use Rattle.k_terms.specs.K.{KArith, KPack, KUnpack, KCell, KGet, KSet, KTm, KLet, KCall, KIf, KHalt, kcount}
use Rattle.k_terms.specs.K.{kbody_scope, opens, scope_more}
use Rattle.k_terms.specs.Types.{kd_type}
use Rattle.c_rules.specs.Free.{occurs_v, occurs_vs, occurs_d, occurs_t}
use Rattle.c_rules.specs.Close.{uses, keeps}
use Rattle.k_terms.specs.Stream.{KNd, NTuple, NEnd, NName, NProj, NArith, NPack, NUnpack, NCell, NGet, NSet, NCall}
use Rattle.k_terms.specs.Stream.{NIf, NElse, NHalt, klin_v, klin_vs, klin_d, klin_t, kwidth}
use Rattle.calc_core.specs.Levels.{level_of}
use Rattle.c_rules.specs.Emit.{levels}
use Rattle.c_rules.specs.Sweep.{has, known_below, Found, Swept, opened_in, sweep, found_v, found_vs, found_d, found_t}
use Rattle.c_laws.proofs.Fusion.{level_lift}
use Rattle.c_rules.proofs.Sets.{has_kept, levels_same}
use Rattle.calc_core.proofs.Levels.{level_below}
use Rattle.calc_core.proofs.Lifts.{lift_add}
use Rattle.std.proofs.lemmas.List.{append-nil as append_nil}
use Rattle.std.proofs.Math.Bool.{or-false as or_none}
use Rattle.calc_core.proofs.Substituting.{low_or_past as near_or_far}
use Rattle.c_laws.proofs.Envs.{or_left, or_right}

abbrev pub Closed : ℕ → (ℕ → Bool) → Type 0
Closed d live = (i : ℕ) → live i ≡ true → i < d

abbrev pub more : Swept → List ℕ → List Found → Swept
more s xs found = record { current = s.current ++ xs; outer = s.outer; found = found }

abbrev pub Finds : ℕ → List ℕ → (ℕ → Bool) → Type 0
Finds d xs live = (i : ℕ) → i < d → has (level_of d i) xs ≡ live i

abbrev pub Sweeps : ℕ → (ℕ → Bool) → List Found → Swept → Swept → Type 0
Sweeps d live found s0 s1 = (xs : List ℕ) × (s1 ≡ more s0 xs found) × Finds d xs live

pub or_swap : (a b : Bool) → a || b ≡ b || a
or_swap true true = refl
or_swap true false = refl
or_swap false true = refl
or_swap false false = refl

nothing : (d : ℕ) (s : Swept) → Sweeps d (λ i. false) s.found s s
nothing d s = (
  [],
  ap (λ (xs : List ℕ). let r : Swept = record { current = xs; outer = s.outer; found = s.found } in r)
      (sym (append_nil s.current)),
  λ i h. refl,
)

-- one after the other: what stands first in the list of nodes is met last
joined : (d : ℕ) (live1 live2 : ℕ → Bool) (f1 : List Found → List Found) (found : List Found) (s0 s1 s2 : Swept) →
    Sweeps d live2 found s0 s1 → Sweeps d live1 (f1 s1.found) s1 s2 →
    Sweeps d (λ i. live1 i || live2 i) (f1 found) s0 s2
joined d live1 live2 f1 found s0 s1 s2 a b = (
  a.0 ++ b.0,
  b.1 ∙ ap (λ s. more s b.0 (f1 s.found)) a.1
      ∙ ap (λ (xs : List ℕ). let r : Swept = record { current = xs; outer = s0.outer; found = f1 found } in r)
      (append_assoc s0.current a.0 b.0),
  λ i h. list_any-append (λ x. nat_eq (level_of d i) x) a.0 b.0 ∙ ap (λ x. x || has (level_of d i) b.0) (a.2 i h)
      ∙ ap (λ x. live2 i || x) (b.2 i h) ∙ or_swap (live2 i) (live1 i),
)

-- under one more name
lower : (d : ℕ) (live : ℕ → Bool) (found : List Found) (s0 s1 : Swept) → Sweeps (suc d) live found s0 s1 →
    Sweeps d (λ i. live (suc i)) found s0 s1
lower d live found s0 s1 a = (a.0, a.1, λ i h. a.2 (suc i) (omega (arith, h)))

same_level : (d i j : ℕ) → i < d → j < d → nat_eq (level_of d j) (level_of d i) || false ≡ nat_eq j i
same_level d i j hi hj = or_none (nat_eq (level_of d j) (level_of d i)) ∙ elim (cases_eq j i) [
  | inl e ↦ eq-eqb (level_of d j) (level_of d i) (ap (level_of d) e) ∙ sym (eq-eqb j i e)
  | inr e ↦ ne_eqb (level_of d j) (level_of d i) (λ f. e (omega (arith, f, level_below d i hi, level_below d j hj)))
      ∙ sym (ne_eqb j i e)
]

left : (d : ℕ) (a b : ℕ → Bool) → Closed d (λ i. a i || b i) → Closed d a
left d a b c = λ i h. c i (or_left (a i) (b i) h)

right : (d : ℕ) (a b : ℕ → Bool) → Closed d (λ i. a i || b i) → Closed d b
right d a b c = λ i h. c i (or_right (a i) (b i) h)

next : (d : ℕ) (live : ℕ → Bool) → Closed d (λ i. live (suc i)) → Closed (suc d) live
next d live c zero h = omega arith
next d live c (suc i) h = let r = c i h in omega (arith, r)

body_closed : (d n : ℕ) (live : ℕ → Bool) → Closed d (λ i. live (lift n (suc i))) → Closed (lift n (suc d)) live
body_closed d n live c i h = elim (near_or_far n i) [
  | inl near ↦ omega (arith, lift_add n (suc d), near)
  | inr r ↦ far r.0 r.1
]
  where
    far : (m : ℕ) → i ≡ lift n m → i < lift n (suc d)
    far zero e = omega (arith, lift_add n (suc d), lift_add n 0, e)
    far (suc m) e =
        let q = c m (subst (λ x. live x ≡ true) e h) in omega (arith, lift_add n (suc d), lift_add n (suc m), e, q)

mutual
  sweep_v : (v : KVal) (d td : ℕ) (ty : List KTy) (rest : List KNd) → Closed d (λ i. occurs_v i v) →
      Sweeps d (λ i. occurs_v i v) (found_v d v (sweep rest).found) (sweep rest) (sweep (klin_v d td ty v rest))
  sweep_v (KVar i) d td ty rest c = (level_of d i ∷ [], refl, λ j h. same_level d i j (c i (eq-eqb i i refl)) h)
  sweep_v (KInt n) d td ty rest c = nothing d (sweep rest)
  sweep_v (KTuple vs) d td ty rest c = sweep_vs vs d td ty (NTuple (kwidth vs) ∷ rest) c
  sweep_v (KCode owes args body) d td ty rest c =
      let n = kcount args in
      let D = lift n (suc d) in
      let keep = keeps args body in
      let s = sweep rest in
      let r = sweep_t body D (lift owes td) (kbody_scope owes args ty) (NEnd ∷ rest)
      (body_closed d n (λ i. occurs_t i body) c) in
      let xs = r.0 in
      let kept : known_below d xs ≡ levels keep d [] =
      levels_same (λ i. has (level_of d i) xs) keep d []
      (λ i h. ap (λ l. has l xs) (sym (level_lift n (suc d) (suc i)))
      ∙ r.2 (lift n (suc i)) (omega (arith, lift_add n (suc i), lift_add n (suc d), h))) in
      let own : has d xs ≡ uses args body 0 = ap (λ l. has l xs) (sym (level_lift n (suc d) 0))
      ∙ r.2 (lift n 0) (omega (arith, lift_add n 0, lift_add n (suc d))) in
      let F = found_t D body s.found in (
        levels keep d [],
        ap (λ z. opened_in d z.current z.outer z.found) r.1
            ∙ ap (λ (ks : List ℕ). let f : Found = record { kept = ks; own = has d xs } in more s ks (f ∷ F)) kept
            ∙ ap (λ b. let f : Found = record { kept = levels keep d []; own = b } in
            more s (levels keep d []) (f ∷ F)) own,
        λ i h. has_kept keep d i h,
      )

  sweep_vs : (vs : KVals) (d td : ℕ) (ty : List KTy) (rest : List KNd) → Closed d (λ i. occurs_vs i vs) →
      Sweeps d (λ i. occurs_vs i vs) (found_vs d vs (sweep rest).found) (sweep rest) (sweep (klin_vs d td ty vs rest))
  sweep_vs NoKVals d td ty rest c = nothing d (sweep rest)
  sweep_vs (MoreKVals v vs) d td ty rest c =
      let a : ℕ → Bool = λ i. occurs_v i v in
      let b : ℕ → Bool = λ i. occurs_vs i vs in
      joined d a b (found_v d v) (found_vs d vs (sweep rest).found) (sweep rest) (sweep (klin_vs d td ty vs rest))
      (sweep (klin_v d td ty v (klin_vs d td ty vs rest)))
      (sweep_vs vs d td ty rest (right d a b c)) (sweep_v v d td ty (klin_vs d td ty vs rest) (left d a b c))

  sweep_d : (x : KDecl) (d td : ℕ) (ty : List KTy) (rest : List KNd) → Closed d (λ i. occurs_d i x) →
      Sweeps d (λ i. occurs_d i x) (found_d d x (sweep rest).found) (sweep rest) (sweep (klin_d d td ty x rest))
  sweep_d (KName v) d td ty rest c = sweep_v v d td ty (NName d (kd_type ty (KName v)) ∷ rest) c
  sweep_d (KProj i v) d td ty rest c = sweep_v v d td ty (NProj d i (kd_type ty (KProj i v)) ∷ rest) c
  sweep_d (KArith op v w) d td ty rest c =
      let a : ℕ → Bool = λ i. occurs_v i v in
      let b : ℕ → Bool = λ i. occurs_v i w in
      let more_nodes = NArith d op ∷ rest in
      joined d a b (found_v d v) (found_v d w (sweep rest).found) (sweep rest) (sweep (klin_v d td ty w more_nodes))
      (sweep (klin_v d td ty v (klin_v d td ty w more_nodes)))
      (sweep_v w d td ty more_nodes (right d a b c)) (sweep_v v d td ty (klin_v d td ty w more_nodes) (left d a b c))
  sweep_d (KPack h v x) d td ty rest c = sweep_v v d td ty (NPack d td h x ∷ rest) c
  sweep_d (KUnpack v) d td ty rest c = sweep_v v d td ty (NUnpack d td (kd_type ty (KUnpack v)) ∷ rest) c
  sweep_d (KCell v) d td ty rest c = sweep_v v d td ty (NCell d (kd_type ty (KCell v)) ∷ rest) c
  sweep_d (KGet v) d td ty rest c = sweep_v v d td ty (NGet d (kd_type ty (KGet v)) ∷ rest) c
  sweep_d (KSet v w) d td ty rest c =
      let a : ℕ → Bool = λ i. occurs_v i v in
      let b : ℕ → Bool = λ i. occurs_v i w in
      let more_nodes = NSet d ∷ rest in
      joined d a b (found_v d v) (found_v d w (sweep rest).found) (sweep rest) (sweep (klin_v d td ty w more_nodes))
      (sweep (klin_v d td ty v (klin_v d td ty w more_nodes)))
      (sweep_v w d td ty more_nodes (right d a b c)) (sweep_v v d td ty (klin_v d td ty w more_nodes) (left d a b c))

  sweep_t : (t : KTm) (d td : ℕ) (ty : List KTy) (rest : List KNd) → Closed d (λ i. occurs_t i t) →
      Sweeps d (λ i. occurs_t i t) (found_t d t (sweep rest).found) (sweep rest) (sweep (klin_t d td ty t rest))
  sweep_t (KLet x t) d td ty rest c =
      let a : ℕ → Bool = λ i. occurs_d i x in
      let b : ℕ → Bool = λ i. occurs_t (suc i) t in
      let tx = after_one (opens x) td in
      let tg = kd_type ty x ∷ scope_more (opens x) ty in
      let ns = klin_t (suc d) tx tg t rest in
      joined d a b (found_d d x) (found_t (suc d) t (sweep rest).found) (sweep rest) (sweep ns)
      (sweep (klin_d d td ty x ns))
      (lower d (λ i. occurs_t i t) (found_t (suc d) t (sweep rest).found) (sweep rest) (sweep ns)
      (sweep_t t (suc d) tx tg rest (next d (λ i. occurs_t i t) (right d a b c))))
      (sweep_d x d td ty ns (left d a b c))
  sweep_t (KCall f ts vs) d td ty rest c =
      let a : ℕ → Bool = λ i. occurs_v i f in
      let b : ℕ → Bool = λ i. occurs_vs i vs in
      joined d a b (found_v d f) (found_vs d vs (sweep rest).found) (sweep rest) (sweep (klin_vs d td ty vs rest))
      (sweep (klin_v d td ty f (NCall d td ts (kwidth vs) ∷ klin_vs d td ty vs rest)))
      (sweep_vs vs d td ty rest (right d a b c))
      (sweep_v f d td ty (NCall d td ts (kwidth vs) ∷ klin_vs d td ty vs rest) (left d a b c))
  sweep_t (KIf v t u) d td ty rest c =
      let a : ℕ → Bool = λ i. occurs_v i v in
      let b : ℕ → Bool = λ i. occurs_t i t in
      let e : ℕ → Bool = λ i. occurs_t i u in
      let both : ℕ → Bool = λ i. b i || e i in
      let us = klin_t d td ty u rest in
      let ts = klin_t d td ty t (NElse td ∷ us) in
      joined d a both (found_v d v) (found_t d t (found_t d u (sweep rest).found)) (sweep rest) (sweep ts)
      (sweep (klin_v d td ty v (NIf ∷ ts)))
      (joined d b e (found_t d t) (found_t d u (sweep rest).found) (sweep rest) (sweep us) (sweep ts)
      (sweep_t u d td ty rest (right d b e (right d a both c)))
      (sweep_t t d td ty (NElse td ∷ us) (left d b e (right d a both c))))
      (sweep_v v d td ty (NIf ∷ ts) (left d a both c))
  sweep_t (KHalt v) d td ty rest c = sweep_v v d td ty (NHalt ∷ rest) c

pub sweep_finds : (t : KTm) → ((i : ℕ) → occurs_t i t ≡ true → ⊥) → (sweep (klin_t 0 0 [] t [])).found ≡ found_t 0 t []
sweep_finds t h = ap (λ s. s.found) (sweep_t t 0 0 [] [] (λ i q. absurd (h i q))).1
