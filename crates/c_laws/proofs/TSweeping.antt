-- The walk from the last node to the first finds the type variables of each code.
use Rattle.std.proofs.Common.{◌≡◌, ℕ, zero, suc, ◌<◌, Bool, true, false, ◌||◌, List, [], ◌∷◌, ◌++◌, refl, sym, ap, ap₂}
use Rattle.std.proofs.Common.{◌∙◌, arith, append_assoc}
use Rattle.std.specs.Prelude.{nat_eq}
use Rattle.std.proofs.lemmas.List.Folds.{list_any-append}
use Rattle.calc_core.specs.Ends.{lift, after_one}
use Rattle.k_terms.specs.K.{KTy, KTys, KVal, KVar, KInt, KTuple, KCode, KVals, NoKVals, MoreKVals, KDecl, KName, KProj}
use Rattle.k_terms.specs.K.{KArith, KPack, KUnpack, KCell, KGet, KSet, KTm, KLet, KCall, KIf, KHalt, kcount}
use Rattle.k_terms.specs.K.{kbody_scope, opens, scope_more}
use Rattle.k_terms.specs.Types.{kd_type}
use Rattle.c_rules.specs.Free.{tfree, tfrees, tfree_v, tfree_vs, tfree_d, tfree_t}
use Rattle.k_terms.specs.Stream.{KNd, NTuple, NEnd, NName, NProj, NArith, NPack, NUnpack, NCell, NGet, NSet, NCall}
use Rattle.k_terms.specs.Stream.{NIf, NElse, NHalt, klin_v, klin_vs, klin_d, klin_t, kwidth}
use Rattle.calc_core.specs.Levels.{level_of}
use Rattle.c_rules.specs.Emit.{levels}
use Rattle.c_rules.specs.Sweep.{has, known_below, Found, found_v, found_vs, found_d, found_t}
use Rattle.c_rules.specs.Know.{Clue, type_levels, types_levels, written_in, clue_of, clues_v, clues_vs, clues_d}
use Rattle.c_rules.specs.Know.{clues_t}
use Rattle.c_rules.specs.TSweep.{TSwept, topened, tsweep, tfound_v, tfound_vs, tfound_d, tfound_t, zipped}
use Rattle.c_laws.proofs.Fusion.{level_lift}
use Rattle.c_rules.proofs.Sets.{has_kept, levels_same}
use Rattle.c_laws.proofs.TypeLaws.{has_type, has_types}
use Rattle.c_laws.proofs.Knowing.{Closed, inner_closed, kren_same, krens_same, under_id}
use Rattle.calc_core.proofs.Lifts.{lift_add}
use Rattle.std.proofs.lemmas.List.{append-nil as append_nil}
use Rattle.c_laws.proofs.Sweeping.{or_swap}
use Rattle.c_laws.proofs.Envs.{or_left, or_right}

abbrev pub more : TSwept → List ℕ → List (List ℕ) → TSwept
more s xs found = record { current = s.current ++ xs; outer = s.outer; found = found }

abbrev pub TSweeps : ℕ → (ℕ → Bool) → List (List ℕ) → TSwept → TSwept → Type 0
TSweeps d live found s0 s1 =
    (xs : List ℕ) × (s1 ≡ more s0 xs found) × ((i : ℕ) → i < d → has (level_of d i) xs ≡ live i)

nothing : (d : ℕ) (s : TSwept) → TSweeps d (λ i. false) s.found s s
nothing d s = (
  [],
  ap (λ (xs : List ℕ). let r : TSwept = record { current = xs; outer = s.outer; found = s.found } in r)
      (sym (append_nil s.current)),
  λ i h. refl,
)

joined : (d : ℕ) (live1 live2 : ℕ → Bool) (f1 : List (List ℕ) → List (List ℕ)) (found : List (List ℕ))
    (s0 s1 s2 : TSwept) → TSweeps d live2 found s0 s1 → TSweeps d live1 (f1 s1.found) s1 s2 →
    TSweeps d (λ i. live1 i || live2 i) (f1 found) s0 s2
joined d live1 live2 f1 found s0 s1 s2 a b = (
  a.0 ++ b.0,
  b.1 ∙ ap (λ s. more s b.0 (f1 s.found)) a.1
      ∙ ap (λ (xs : List ℕ). let r : TSwept = record { current = xs; outer = s0.outer; found = f1 found } in r)
      (append_assoc s0.current a.0 b.0),
  λ i h. list_any-append (λ x. nat_eq (level_of d i) x) a.0 b.0 ∙ ap (λ x. x || has (level_of d i) b.0) (a.2 i h)
      ∙ ap (λ x. live2 i || x) (b.2 i h) ∙ or_swap (live2 i) (live1 i),
)

left : (d : ℕ) (a b : ℕ → Bool) → Closed d (λ i. a i || b i) → Closed d a
left d a b c = λ i h. c i (or_left (a i) (b i) h)

right : (d : ℕ) (a b : ℕ → Bool) → Closed d (λ i. a i || b i) → Closed d b
right d a b c = λ i h. c i (or_right (a i) (b i) h)

-- the types that stand in a node, under b names
stand : (ts : KTys) (td b j : ℕ) → j < td → Closed (lift b td) (λ i. tfrees i ts) →
    has (level_of td j) (types_levels td b ts) ≡ tfrees (lift b j) ts
stand ts td b j h c =
    has_types ts td td 0 j b (λ i. i) (omega arith) h (λ i. sym (under_id b (lift 0) (λ i. refl) i)) c
    ∙ ap (tfrees (lift b j)) (krens_same ts (λ i. i) (λ i. refl))

stand_one : (t : KTy) (td j : ℕ) → j < td → Closed td (λ i. tfree i t) →
    has (level_of td j) (type_levels td 0 t) ≡ tfree j t
stand_one t td j h c =
    has_type t td td 0 j 0 (λ i. i) (omega arith) h (λ i. refl) c ∙ ap (tfree j) (kren_same t (λ i. i) (λ i. refl))

-- what else is live as often
recast : (d : ℕ) (live other : ℕ → Bool) (found : List (List ℕ)) (s0 s1 : TSwept) → ((i : ℕ) → live i ≡ other i) →
    TSweeps d live found s0 s1 → TSweeps d other found s0 s1
recast d live other found s0 s1 f a = (a.0, a.1, λ i h. a.2 i h ∙ f i)

or_turn : (a b c : Bool) → a || (b || c) ≡ b || (a || c)
or_turn true true c = refl
or_turn true false c = refl
or_turn false b c = refl

-- under one more type variable, where there is one
lower : (b : Bool) (d : ℕ) (live : ℕ → Bool) (found : List (List ℕ)) (s0 s1 : TSwept) →
    TSweeps (after_one b d) live found s0 s1 → TSweeps d (λ i. live (after_one b i)) found s0 s1
lower true d live found s0 s1 a = (a.0, a.1, λ i h. a.2 (suc i) (omega (arith, h)))
lower false d live found s0 s1 a = a

next : (d : ℕ) (live : ℕ → Bool) → Closed d (λ i. live (suc i)) → Closed (suc d) live
next d live c zero h = omega arith
next d live c (suc i) h = let r = c i h in omega (arith, r)

pub raised : (b : Bool) (d : ℕ) (live : ℕ → Bool) → Closed d (λ i. live (after_one b i)) → Closed (after_one b d) live
raised true d live c = next d live c
raised false d live c = c

mutual
  sweep_v : (v : KVal) (d td : ℕ) (ty : List KTy) (rest : List KNd) → Closed td (λ j. tfree_v j v) →
      TSweeps td (λ j. tfree_v j v) (tfound_v td v (tsweep rest).found) (tsweep rest) (tsweep (klin_v d td ty v rest))
  sweep_v (KVar i) d td ty rest c = nothing td (tsweep rest)
  sweep_v (KInt n) d td ty rest c = nothing td (tsweep rest)
  sweep_v (KTuple vs) d td ty rest c = sweep_vs vs d td ty (NTuple (kwidth vs) ∷ rest) c
  sweep_v (KCode owes args body) d td ty rest c =
      let D = lift owes td in
      let s = tsweep rest in
      let a : ℕ → Bool = λ j. tfrees (lift owes j) args in
      let b : ℕ → Bool = λ j. tfree_t (lift owes j) body in
      let keep = written_in owes args body in
      let r = sweep_t body (lift (kcount args) (suc d)) D (kbody_scope owes args ty) (NEnd ∷ rest)
      (inner_closed owes td (λ j. tfree_t j body) (right td a b c)) in
      let ls = types_levels td owes args in
      let all = r.0 ++ ls in
      let inside = inner_closed owes td (λ j. tfrees j args) (left td a b c) in
      let kept : known_below td all ≡ levels keep td [] = levels_same (λ i. has (level_of td i) all) keep td [] (λ i h.
      list_any-append (λ x. nat_eq (level_of td i) x) r.0 ls
      ∙ ap₂ (λ x y. x || y)
      (ap (λ l. has l r.0) (sym (level_lift owes td i))
      ∙ r.2 (lift owes i) (omega (arith, lift_add owes i, lift_add owes td, h))) (stand args td owes i h inside)
      ∙ or_swap (b i) (a i)) in
      let F = tfound_t D body s.found in (
        levels keep td [],
        ap (λ z. topened td (z.current ++ ls) z.outer z.found) r.1
            ∙ ap (λ (ks : List ℕ). more s ks (ks ∷ F)) kept,
        λ i h. has_kept keep td i h,
      )

  sweep_vs : (vs : KVals) (d td : ℕ) (ty : List KTy) (rest : List KNd) → Closed td (λ j. tfree_vs j vs) →
      TSweeps td (λ j. tfree_vs j vs) (tfound_vs td vs (tsweep rest).found) (tsweep rest)
      (tsweep (klin_vs d td ty vs rest))
  sweep_vs NoKVals d td ty rest c = nothing td (tsweep rest)
  sweep_vs (MoreKVals v vs) d td ty rest c =
      let a : ℕ → Bool = λ j. tfree_v j v in
      let b : ℕ → Bool = λ j. tfree_vs j vs in
      joined td a b (tfound_v td v) (tfound_vs td vs (tsweep rest).found) (tsweep rest)
      (tsweep (klin_vs d td ty vs rest)) (tsweep (klin_v d td ty v (klin_vs d td ty vs rest)))
      (sweep_vs vs d td ty rest (right td a b c)) (sweep_v v d td ty (klin_vs d td ty vs rest) (left td a b c))

  sweep_d : (x : KDecl) (d td : ℕ) (ty : List KTy) (rest : List KNd) → Closed td (λ j. tfree_d j x) →
      TSweeps td (λ j. tfree_d j x) (tfound_d td x (tsweep rest).found) (tsweep rest) (tsweep (klin_d d td ty x rest))
  sweep_d (KName v) d td ty rest c = sweep_v v d td ty (NName d (kd_type ty (KName v)) ∷ rest) c
  sweep_d (KProj i v) d td ty rest c = sweep_v v d td ty (NProj d i (kd_type ty (KProj i v)) ∷ rest) c
  sweep_d (KArith op v w) d td ty rest c =
      let a : ℕ → Bool = λ j. tfree_v j v in
      let b : ℕ → Bool = λ j. tfree_v j w in
      let last = NArith d op ∷ rest in
      joined td a b (tfound_v td v) (tfound_v td w (tsweep rest).found) (tsweep rest) (tsweep (klin_v d td ty w last))
      (tsweep (klin_v d td ty v (klin_v d td ty w last)))
      (sweep_v w d td ty last (right td a b c)) (sweep_v v d td ty (klin_v d td ty w last) (left td a b c))
  sweep_d (KPack h v x) d td ty rest c =
      let a : ℕ → Bool = λ j. tfree_v j v in
      let b : ℕ → Bool = λ j. tfree j h in
      let e : ℕ → Bool = λ j. tfree j x in
      let both : ℕ → Bool = λ j. b j || e j in
      let rest_closed : Closed td (λ j. a j || e j) = right td b (λ j. a j || e j) c in
      let last = NPack d td h x ∷ rest in
      let typed : TSweeps td both (tsweep rest).found (tsweep rest) (tsweep last) = (
        type_levels td 0 h ++ type_levels td 0 x,
        refl,
        λ j q. list_any-append (λ y. nat_eq (level_of td j) y) (type_levels td 0 h) (type_levels td 0 x)
            ∙ ap₂ (λ y z. y || z) (stand_one h td j q (left td b (λ j. a j || e j) c))
            (stand_one x td j q (right td a e rest_closed)),
      ) in
      recast td (λ j. a j || both j) (λ j. b j || (a j || e j)) (tfound_v td v (tsweep rest).found) (tsweep rest)
      (tsweep (klin_v d td ty v last)) (λ j. or_turn (a j) (b j) (e j))
      (joined td a both (tfound_v td v) (tsweep rest).found (tsweep rest) (tsweep last)
      (tsweep (klin_v d td ty v last)) typed (sweep_v v d td ty last (left td a e rest_closed)))
  sweep_d (KUnpack v) d td ty rest c = sweep_v v d td ty (NUnpack d td (kd_type ty (KUnpack v)) ∷ rest) c
  sweep_d (KCell v) d td ty rest c = sweep_v v d td ty (NCell d (kd_type ty (KCell v)) ∷ rest) c
  sweep_d (KGet v) d td ty rest c = sweep_v v d td ty (NGet d (kd_type ty (KGet v)) ∷ rest) c
  sweep_d (KSet v w) d td ty rest c =
      let a : ℕ → Bool = λ j. tfree_v j v in
      let b : ℕ → Bool = λ j. tfree_v j w in
      let last = NSet d ∷ rest in
      joined td a b (tfound_v td v) (tfound_v td w (tsweep rest).found) (tsweep rest) (tsweep (klin_v d td ty w last))
      (tsweep (klin_v d td ty v (klin_v d td ty w last)))
      (sweep_v w d td ty last (right td a b c)) (sweep_v v d td ty (klin_v d td ty w last) (left td a b c))

  sweep_t : (t : KTm) (d td : ℕ) (ty : List KTy) (rest : List KNd) → Closed td (λ j. tfree_t j t) →
      TSweeps td (λ j. tfree_t j t) (tfound_t td t (tsweep rest).found) (tsweep rest) (tsweep (klin_t d td ty t rest))
  sweep_t (KLet x t) d td ty rest c =
      let k = opens x in
      let a : ℕ → Bool = λ j. tfree_d j x in
      let b : ℕ → Bool = λ j. tfree_t (after_one k j) t in
      let tx = after_one k td in
      let tg = kd_type ty x ∷ scope_more k ty in
      let ns = klin_t (suc d) tx tg t rest in
      let more_found = tfound_t tx t (tsweep rest).found in
      joined td a b (tfound_d td x) more_found (tsweep rest) (tsweep ns) (tsweep (klin_d d td ty x ns))
      (lower k td (λ j. tfree_t j t) more_found (tsweep rest) (tsweep ns)
      (sweep_t t (suc d) tx tg rest (raised k td (λ j. tfree_t j t) (right td a b c))))
      (sweep_d x d td ty ns (left td a b c))
  sweep_t (KCall f ts vs) d td ty rest c =
      let a : ℕ → Bool = λ j. tfree_v j f in
      let b : ℕ → Bool = λ j. tfrees j ts in
      let e : ℕ → Bool = λ j. tfree_vs j vs in
      let both : ℕ → Bool = λ j. b j || e j in
      let ns = klin_vs d td ty vs rest in
      let ms = NCall d td ts (kwidth vs) ∷ ns in
      let typed : TSweeps td b (tsweep ns).found (tsweep ns) (tsweep ms) =
      (types_levels td 0 ts, refl, λ j h. stand ts td 0 j h (left td b e (right td a both c))) in
      joined td a both (tfound_v td f) (tfound_vs td vs (tsweep rest).found) (tsweep rest) (tsweep ms)
      (tsweep (klin_v d td ty f ms))
      (joined td b e (λ (ls : List (List ℕ)). ls) (tfound_vs td vs (tsweep rest).found) (tsweep rest) (tsweep ns)
      (tsweep ms) (sweep_vs vs d td ty rest (right td b e (right td a both c))) typed)
      (sweep_v f d td ty ms (left td a both c))
  sweep_t (KIf v t u) d td ty rest c =
      let a : ℕ → Bool = λ j. tfree_v j v in
      let b : ℕ → Bool = λ j. tfree_t j t in
      let e : ℕ → Bool = λ j. tfree_t j u in
      let both : ℕ → Bool = λ j. b j || e j in
      let us = klin_t d td ty u rest in
      let ts = klin_t d td ty t (NElse td ∷ us) in
      joined td a both (tfound_v td v) (tfound_t td t (tfound_t td u (tsweep rest).found)) (tsweep rest) (tsweep ts)
      (tsweep (klin_v d td ty v (NIf ∷ ts)))
      (joined td b e (tfound_t td t) (tfound_t td u (tsweep rest).found) (tsweep rest) (tsweep us) (tsweep ts)
      (sweep_t u d td ty rest (right td b e (right td a both c)))
      (sweep_t t d td ty (NElse td ∷ us) (left td b e (right td a both c))))
      (sweep_v v d td ty (NIf ∷ ts) (left td a both c))
  sweep_t (KHalt v) d td ty rest c = sweep_v v d td ty (NHalt ∷ rest) c

pub tsweep_finds : (t : KTm) → ((j : ℕ) → tfree_t j t ≡ true → ⊥) →
    (tsweep (klin_t 0 0 [] t [])).found ≡ tfound_t 0 t []
tsweep_finds t h = ap (λ s. s.found) (sweep_t t 0 0 [] [] (λ i q. absurd (h i q))).1

-- both walks together
mutual
  zip_v : (v : KVal) (d td : ℕ) (fs : List Found) (ts : List (List ℕ)) →
      zipped (found_v d v fs) (tfound_v td v ts) ≡ clues_v d td v (zipped fs ts)
  zip_v (KVar i) d td fs ts = refl
  zip_v (KInt n) d td fs ts = refl
  zip_v (KTuple vs) d td fs ts = zip_vs vs d td fs ts
  zip_v (KCode owes args body) d td fs ts =
      ap (λ (cs : List Clue). clue_of d td owes args body ∷ cs)
      (zip_t body (lift (kcount args) (suc d)) (lift owes td) fs ts)

  zip_vs : (vs : KVals) (d td : ℕ) (fs : List Found) (ts : List (List ℕ)) →
      zipped (found_vs d vs fs) (tfound_vs td vs ts) ≡ clues_vs d td vs (zipped fs ts)
  zip_vs NoKVals d td fs ts = refl
  zip_vs (MoreKVals v vs) d td fs ts =
      zip_v v d td (found_vs d vs fs) (tfound_vs td vs ts) ∙ ap (clues_v d td v) (zip_vs vs d td fs ts)

  zip_d : (x : KDecl) (d td : ℕ) (fs : List Found) (ts : List (List ℕ)) →
      zipped (found_d d x fs) (tfound_d td x ts) ≡ clues_d d td x (zipped fs ts)
  zip_d (KName v) d td fs ts = zip_v v d td fs ts
  zip_d (KProj i v) d td fs ts = zip_v v d td fs ts
  zip_d (KArith op v w) d td fs ts =
      zip_v v d td (found_v d w fs) (tfound_v td w ts) ∙ ap (clues_v d td v) (zip_v w d td fs ts)
  zip_d (KPack h v x) d td fs ts = zip_v v d td fs ts
  zip_d (KUnpack v) d td fs ts = zip_v v d td fs ts
  zip_d (KCell v) d td fs ts = zip_v v d td fs ts
  zip_d (KGet v) d td fs ts = zip_v v d td fs ts
  zip_d (KSet v w) d td fs ts =
      zip_v v d td (found_v d w fs) (tfound_v td w ts) ∙ ap (clues_v d td v) (zip_v w d td fs ts)

  zip_t : (t : KTm) (d td : ℕ) (fs : List Found) (ts : List (List ℕ)) →
      zipped (found_t d t fs) (tfound_t td t ts) ≡ clues_t d td t (zipped fs ts)
  zip_t (KLet x t) d td fs ts = zip_d x d td (found_t (suc d) t fs) (tfound_t (after_one (opens x) td) t ts)
      ∙ ap (clues_d d td x) (zip_t t (suc d) (after_one (opens x) td) fs ts)
  zip_t (KCall f us vs) d td fs ts =
      zip_v f d td (found_vs d vs fs) (tfound_vs td vs ts) ∙ ap (clues_v d td f) (zip_vs vs d td fs ts)
  zip_t (KIf v t u) d td fs ts = zip_v v d td (found_t d t (found_t d u fs)) (tfound_t td t (tfound_t td u ts))
      ∙ ap (clues_v d td v)
      (zip_t t d td (found_t d u fs) (tfound_t td u ts) ∙ ap (clues_t d td t) (zip_t u d td fs ts))
  zip_t (KHalt v) d td fs ts = zip_v v d td fs ts

pub zip_is : (t : KTm) → zipped (found_t 0 t []) (tfound_t 0 t []) ≡ clues_t 0 0 t []
zip_is t = zip_t t 0 0 [] []
