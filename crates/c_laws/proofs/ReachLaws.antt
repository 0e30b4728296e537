-- The reach of types under renamings and the conversion.
use Rattle.std.proofs.Common.{◌≡◌, ◌≤◌, ℕ, suc, ◌+◌, Bool, true, false, List, [], ◌∷◌, refl, ap, ap₂, arith}
use Rattle.std.specs.Prelude.{max}
use Rattle.calc_core.specs.Ends.{under}
use Rattle.k_terms.specs.K.{KTy, KTys, TKInt, TKVar, TKTuple, TKCode, TKExists, TKRef, NoKTys, MoreKTys, KTm, kren}
use Rattle.k_terms.specs.K.{krens}
use Rattle.c_terms.specs.C.{CTy, CTys, TCVar, TCTuple, TCCode, NoCTys, MoreCTys}
use Rattle.k_terms.specs.Reach.{kreach, kreaches, kbinds, kbinds_all}
use Rattle.c_terms.specs.Each.{CProp}
use Rattle.c_terms.specs.Reach.{creach, creaches, cbinds, cbinds_all}
use Rattle.c_laws.proofs.Kept.{Have, HaveAll, IsKept}
use Rattle.c_terms.specs.Reach.{CWithin}
use Rattle.c_rules.specs.Close.{env_type, keeps, ctype, ctypes, pick_type, picked_types}

mutual
  pub reach_ctype : (t : KTy) (r : ℕ → ℕ) → creach (ctype r t) ≡ kreach t
  reach_ctype TKInt r = refl
  reach_ctype (TKVar i) r = refl
  reach_ctype (TKTuple ts) r = ap suc (reach_ctypes ts r)
  reach_ctype (TKExists t) r = ap suc (reach_ctype t (under 1 r))
  reach_ctype (TKRef t) r = ap suc (reach_ctype t r)
  reach_ctype (TKCode n ts) r = let x = reach_ctypes ts (under n (λ i. suc (r i))) in omega (arith, x)

  pub reach_ctypes : (ts : KTys) (r : ℕ → ℕ) → creaches (ctypes r ts) ≡ kreaches ts
  reach_ctypes NoKTys r = refl
  reach_ctypes (MoreKTys t ts) r = ap₂ max (reach_ctype t r) (reach_ctypes ts r)

mutual
  pub binds_ctype : (t : KTy) (r : ℕ → ℕ) → cbinds (ctype r t) ≡ kbinds t
  binds_ctype TKInt r = refl
  binds_ctype (TKVar i) r = refl
  binds_ctype (TKTuple ts) r = binds_ctypes ts r
  binds_ctype (TKExists t) r = ap suc (binds_ctype t (under 1 r))
  binds_ctype (TKRef t) r = binds_ctype t r
  binds_ctype (TKCode n ts) r = let x = binds_ctypes ts (under n (λ i. suc (r i))) in omega (arith, x)

  pub binds_ctypes : (ts : KTys) (r : ℕ → ℕ) → cbinds_all (ctypes r ts) ≡ kbinds_all ts
  binds_ctypes NoKTys r = refl
  binds_ctypes (MoreKTys t ts) r = ap₂ max (binds_ctype t r) (binds_ctypes ts r)

mutual
  pub reach_kren : (t : KTy) (r : ℕ → ℕ) → kreach (kren r t) ≡ kreach t
  reach_kren TKInt r = refl
  reach_kren (TKVar i) r = refl
  reach_kren (TKTuple ts) r = ap suc (reach_krens ts r)
  reach_kren (TKExists t) r = ap suc (reach_kren t (under 1 r))
  reach_kren (TKRef t) r = ap suc (reach_kren t r)
  reach_kren (TKCode n ts) r = ap (λ k. suc (suc (suc (suc k)))) (reach_krens ts (under n r))

  pub reach_krens : (ts : KTys) (r : ℕ → ℕ) → kreaches (krens r ts) ≡ kreaches ts
  reach_krens NoKTys r = refl
  reach_krens (MoreKTys t ts) r = ap₂ max (reach_kren t r) (reach_krens ts r)

mutual
  pub binds_kren : (t : KTy) (r : ℕ → ℕ) → kbinds (kren r t) ≡ kbinds t
  binds_kren TKInt r = refl
  binds_kren (TKVar i) r = refl
  binds_kren (TKTuple ts) r = binds_krens ts r
  binds_kren (TKExists t) r = ap suc (binds_kren t (under 1 r))
  binds_kren (TKRef t) r = binds_kren t r
  binds_kren (TKCode n ts) r = ap (λ k. suc (n + k)) (binds_krens ts (under n r))

  pub binds_krens : (ts : KTys) (r : ℕ → ℕ) → kbinds_all (krens r ts) ≡ kbinds_all ts
  binds_krens NoKTys r = refl
  binds_krens (MoreKTys t ts) r = ap₂ max (binds_kren t r) (binds_krens ts r)

-- at most so much reach, and so many names
abbrev pub Small : ℕ → ℕ → KTy → Type 0
Small R B t = (kreach t ≤ R) × (kbinds t ≤ B)

-- the kept types
pick_reach : (k : Bool) (t : CTy) (ts : CTys) (R : ℕ) → creach t ≤ R → creaches ts ≤ R → creaches (pick_type k t ts) ≤ R
pick_reach true t ts R h q = omega (arith, h, q)
pick_reach false t ts R h q = q

pub picked_reach : (R B : ℕ) (keep : ℕ → Bool) (g : List KTy) (r : ℕ → ℕ) (acc : CTys) → Have (Small R B) g →
    creaches acc ≤ R → creaches (picked_types keep (ctype r) g acc) ≤ R
picked_reach R B keep [] r acc s h = h
picked_reach R B keep (t ∷ g) r acc s h =
    let x = reach_ctype t r in
    picked_reach R B (λ i. keep (suc i)) g r _ s.1 (pick_reach (keep 0) (ctype r t) acc R (omega (arith, x, s.0.0)) h)

pick_binds : (k : Bool) (t : CTy) (ts : CTys) (B : ℕ) → cbinds t ≤ B → cbinds_all ts ≤ B →
    cbinds_all (pick_type k t ts) ≤ B
pick_binds true t ts R h q = omega (arith, h, q)
pick_binds false t ts R h q = q

pub picked_binds : (R B : ℕ) (keep : ℕ → Bool) (g : List KTy) (r : ℕ → ℕ) (acc : CTys) → Have (Small R B) g →
    cbinds_all acc ≤ B → cbinds_all (picked_types keep (ctype r) g acc) ≤ B
picked_binds R B keep [] r acc s h = h
picked_binds R B keep (t ∷ g) r acc s h =
    let x = binds_ctype t r in
    picked_binds R B (λ i. keep (suc i)) g r _ s.1 (pick_binds (keep 0) (ctype r t) acc B (omega (arith, x, s.0.1)) h)

small_args : (R B : ℕ) (ts : KTys) → kreaches ts ≤ R → kbinds_all ts ≤ B → HaveAll (Small R B) ts
small_args R B NoKTys x y = tt
small_args R B (MoreKTys t ts) x y =
    ((omega (arith, x), omega (arith, y)), small_args R B ts (omega (arith, x)) (omega (arith, y)))

module _ (N R B : ℕ) where
  abbrev Q : CProp
  Q = CWithin (N + 1) (R + 4) (N + B + 1)

  env_q : (n : ℕ) (r : ℕ → ℕ) (args : KTys) (body : KTm) (g : List KTy) → n ≤ N + 1 → Have (Small R B) g →
      Q n (env_type r args body g)
  env_q n r args body g l s =
      let x = picked_reach R B (keeps args body) g r NoCTys s (omega arith) in
      let y = picked_binds R B (keeps args body) g r NoCTys s (omega arith) in
      (l, omega (arith, x), omega (arith, y))

  code_q : (n m o : ℕ) (r q : ℕ → ℕ) (args : KTys) (body : KTm) (g : List KTy) → n ≤ N + 1 → m ≤ N →
      Small R B (TKCode o args) → Have (Small R B) g →
      Q n (TCCode m (MoreCTys (env_type r args body g) (ctypes q args)))
  code_q n m o r q args body g l k z s =
      let a = picked_reach R B (keeps args body) g r NoCTys s (omega arith) in
      let b = picked_binds R B (keeps args body) g r NoCTys s (omega arith) in
      let c = reach_ctypes args q in
      let d = binds_ctypes args q in
      (l, omega (arith, a, c, z.0), omega (arith, b, d, z.1, k))

  pair_q : (n m o : ℕ) (r r2 q : ℕ → ℕ) (args : KTys) (body : KTm) (g : List KTy) → n ≤ N + 1 → m ≤ N →
      Small R B (TKCode o args) → Have (Small R B) g →
      Q n (TCTuple
      (MoreCTys (TCCode m (MoreCTys (env_type r args body g) (ctypes q args)))
      (MoreCTys (env_type r2 args body g) NoCTys)))
  pair_q n m o r r2 q args body g l k z s =
      let a = picked_reach R B (keeps args body) g r NoCTys s (omega arith) in
      let b = picked_binds R B (keeps args body) g r NoCTys s (omega arith) in
      let e = picked_reach R B (keeps args body) g r2 NoCTys s (omega arith) in
      let f = picked_binds R B (keeps args body) g r2 NoCTys s (omega arith) in
      let c = reach_ctypes args q in
      let d = binds_ctypes args q in
      (l, omega (arith, a, c, z.0, e), omega (arith, b, d, z.1, k, f))

  called_q : (n m i : ℕ) (q : ℕ → ℕ) (args : KTys) → n ≤ N + 1 → Small R B (TKCode m args) →
      Q n (TCCode m (MoreCTys (TCVar i) (ctypes q args)))
  called_q n m i q args l z =
      let c = reach_ctypes args q in let d = binds_ctypes args q in (l, omega (arith, c, z.0), omega (arith, d, z.1))

  called_pair_q : (n m i : ℕ) (q : ℕ → ℕ) (args : KTys) → n ≤ N + 1 → Small R B (TKCode m args) →
      Q n (TCTuple (MoreCTys (TCCode m (MoreCTys (TCVar i) (ctypes q args))) (MoreCTys (TCVar 0) NoCTys)))
  called_pair_q n m i q args l z =
      let c = reach_ctypes args q in let d = binds_ctypes args q in (l, omega (arith, c, z.0), omega (arith, d, z.1))

  -- bounds are kept, four more in reach
  pub within_kept : IsKept (λ n. n ≤ N) (Small R B) (λ n. n ≤ N + 1) Q
  within_kept = record {
    fewer = λ m n le h. omega (arith, le, h);
    more = λ m n le h. omega (arith, le, h);
    ren = λ t r h. let x = reach_kren t r in let y = binds_kren t r in (omega (arith, x, h.0), omega (arith, y, h.1));
    args = λ n ts h. small_args R B ts (omega (arith, h.0)) (omega (arith, h.1));
    type = λ n t r l h. let x = reach_ctype t r in let y = binds_ctype t r in
        (l, omega (arith, x, h.0), omega (arith, y, h.1));
    var = λ n i l. (l, omega arith, omega arith);
    env = env_q;
    code = code_q;
    pair = pair_q;
    called = called_q;
    called_pair = called_pair_q;
  }
