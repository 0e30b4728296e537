-- The sizes of bodies after closure conversion.
use Rattle.std.proofs.Common.{◌≡◌, ◌≤◌, ℕ, zero, suc, ◌+◌, ◌*◌, Bool, true, false, ◌||◌, nat_eq, [], ◌∷◌, Option, Some}
use Rattle.std.proofs.Common.{None, refl, sym, ap, ◌∙◌, arith, ⊎_elim}
use Rattle.std.proofs.lemmas.Bool.{eq-eqb, ne_eqb, cases_eq}
use Rattle.c_rules.specs.Places.{Places, place, kept_count}
use Rattle.calc_core.specs.Ends.{lift, after_one}
use Rattle.k_terms.specs.K.{KTys, KVal, KVar, KInt, KTuple, KCode, KVals, NoKVals, MoreKVals, KDecl, KName, KProj}
use Rattle.k_terms.specs.K.{KArith, KPack, KUnpack, KCell, KGet, KSet, KTm, KLet, KCall, KIf, KHalt, kcount}
use Rattle.c_rules.specs.Free.{occurs_v, occurs_vs, occurs_d, occurs_t}
use Rattle.k_terms.specs.Size.{ksize_v, ksize_vs, ksize_d, ksize_t}
use Rattle.c_terms.specs.C.{CVal, CVals, NoCVals, CTm}
use Rattle.c_rules.specs.Close.{Scope, keeps, uses, var_value, pick_one, picked, projections, named, rebuilt}
use Rattle.c_rules.specs.Close.{closed_body, inner, with_decl, in_call, no_scope, close_v, close_vs, close_d, close_t}
use Rattle.c_rules.specs.Close.{close_of}
use Rattle.c_terms.specs.Size.{cown_v, cown_vs, cown_d, cown_t, CSmall_v, CSmall_vs, CSmall_d, CSmall_t, CSmall}
use Rattle.c_laws.proofs.Ranges.{lift_back}
use Rattle.c_laws.proofs.Meaning.{ctypes_count}
use Rattle.c_laws.proofs.TypeEnvs.{count_move as after_move}

-- how many of the places are kept
pub after_more : (k : Bool) (a b : ℕ) → a ≤ b → after_one k a ≤ after_one k b
after_more true a b h = omega (arith, h)
after_more false a b h = h

after_or : (j k : Bool) (a b c : ℕ) → a ≤ b + c → after_one (j || k) a ≤ after_one j b + after_one k c
after_or true true a b c h = omega (arith, h)
after_or true false a b c h = omega (arith, h)
after_or false true a b c h = omega (arith, h)
after_or false false a b c h = h

kept_or : (f g : ℕ → Bool) (ps : Places) → kept_count (λ i. f i || g i) ps ≤ kept_count f ps + kept_count g ps
kept_or f g [] = omega arith
kept_or f g (p ∷ ps) = after_or (f 0) (g 0) _ _ _ (kept_or (λ i. f (suc i)) (λ i. g (suc i)) ps)

kept_none : (f : ℕ → Bool) (ps : Places) → ((i : ℕ) → f i ≡ false) → kept_count f ps ≡ 0
kept_none f [] h = refl
kept_none f (p ∷ ps) h =
    ap (λ k. after_one k (kept_count (λ i. f (suc i)) ps)) (h 0) ∙ kept_none (λ i. f (suc i)) ps (λ i. h (suc i))

abbrev Injective : (ℕ → ℕ) → Type 0
Injective h = (i j : ℕ) → h i ≡ h j → i ≡ j

-- at most one index is j
kept_one : (h : ℕ → ℕ) (j : ℕ) (ps : Places) → Injective h → kept_count (λ i. nat_eq (h i) j) ps ≤ 1
kept_one h j [] inj = omega arith
kept_one h j (p ∷ ps) inj = ⊎_elim
    (λ e.
    let none = kept_none (λ i. nat_eq (h (suc i)) j) ps
    (λ i. ne_eqb (h (suc i)) j (λ q. absurd (no i (inj (suc i) 0 (q ∙ sym e))))) in
    let one = ap (λ k. after_one k (kept_count (λ i. nat_eq (h (suc i)) j) ps)) (eq-eqb (h 0) j e) in
    omega (arith, none, one))
    (λ e.
    let rest = kept_one (λ i. h (suc i)) j ps (λ a b q. prev a b (inj (suc a) (suc b) q)) in
    let one = ap (λ k. after_one k (kept_count (λ i. nat_eq (h (suc i)) j) ps)) (ne_eqb (h 0) j e) in
    omega (arith, rest, one))
    (cases_eq (h 0) j)
  where
    no : (i : ℕ) → suc i ≡ 0 → ⊥
    no i e = absurd (omega (arith, e))

    prev : (a b : ℕ) → suc a ≡ suc b → a ≡ b
    prev a b e = omega (arith, e)

suc_inj : (h : ℕ → ℕ) → Injective h → Injective (λ i. suc (h i))
suc_inj h inj i j e = inj i j (omega (arith, e))

code_inj : (m : ℕ) (h : ℕ → ℕ) → Injective h → Injective (λ i. lift m (suc (h i)))
code_inj m h inj i j e = suc_inj h inj i j (lift_back m (suc (h i)) (suc (h j)) e)

-- no more variables are free in a tree than it has nodes
mutual
  kept_v : (v : KVal) (h : ℕ → ℕ) (ps : Places) → Injective h → kept_count (λ i. occurs_v (h i) v) ps ≤ ksize_v v
  kept_v (KVar j) h ps inj = kept_one h j ps inj
  kept_v (KInt n) h ps inj = let z = kept_none (λ i. false) ps (λ i. refl) in omega (arith, z)
  kept_v (KTuple vs) h ps inj = let r = kept_vs vs h ps inj in omega (arith, r)
  kept_v (KCode owes args body) h ps inj =
      let r = kept_t body (λ i. lift (kcount args) (suc (h i))) ps (code_inj (kcount args) h inj) in omega (arith, r)

  kept_vs : (vs : KVals) (h : ℕ → ℕ) (ps : Places) → Injective h → kept_count (λ i. occurs_vs (h i) vs) ps ≤ ksize_vs vs
  kept_vs NoKVals h ps inj = let z = kept_none (λ i. false) ps (λ i. refl) in omega (arith, z)
  kept_vs (MoreKVals v vs) h ps inj =
      let x = kept_v v h ps inj in let y = kept_vs vs h ps inj in
      let z = kept_or (λ i. occurs_v (h i) v) (λ i. occurs_vs (h i) vs) ps in omega (arith, x, y, z)

  kept_d : (d : KDecl) (h : ℕ → ℕ) (ps : Places) → Injective h → kept_count (λ i. occurs_d (h i) d) ps ≤ ksize_d d
  kept_d (KName v) h ps inj = let r = kept_v v h ps inj in omega (arith, r)
  kept_d (KProj n v) h ps inj = let r = kept_v v h ps inj in omega (arith, r)
  kept_d (KArith op v w) h ps inj =
      let x = kept_v v h ps inj in let y = kept_v w h ps inj in
      let z = kept_or (λ i. occurs_v (h i) v) (λ i. occurs_v (h i) w) ps in omega (arith, x, y, z)
  kept_d (KPack hid v s) h ps inj = let r = kept_v v h ps inj in omega (arith, r)
  kept_d (KUnpack v) h ps inj = let r = kept_v v h ps inj in omega (arith, r)
  kept_d (KCell v) h ps inj = let r = kept_v v h ps inj in omega (arith, r)
  kept_d (KGet v) h ps inj = let r = kept_v v h ps inj in omega (arith, r)
  kept_d (KSet v w) h ps inj =
      let x = kept_v v h ps inj in let y = kept_v w h ps inj in
      let z = kept_or (λ i. occurs_v (h i) v) (λ i. occurs_v (h i) w) ps in omega (arith, x, y, z)

  kept_t : (t : KTm) (h : ℕ → ℕ) (ps : Places) → Injective h → kept_count (λ i. occurs_t (h i) t) ps ≤ ksize_t t
  kept_t (KLet d t) h ps inj =
      let x = kept_d d h ps inj in let y = kept_t t (λ i. suc (h i)) ps (suc_inj h inj) in
      let z = kept_or (λ i. occurs_d (h i) d) (λ i. occurs_t (suc (h i)) t) ps in omega (arith, x, y, z)
  kept_t (KCall f ts vs) h ps inj =
      let x = kept_v f h ps inj in let y = kept_vs vs h ps inj in
      let z = kept_or (λ i. occurs_v (h i) f) (λ i. occurs_vs (h i) vs) ps in omega (arith, x, y, z)
  kept_t (KIf v t u) h ps inj =
      let x = kept_v v h ps inj in let y = kept_t t h ps inj in let w = kept_t u h ps inj in
      let a = kept_or (λ i. occurs_v (h i) v) (λ i. occurs_t (h i) t || occurs_t (h i) u) ps in
      let b = kept_or (λ i. occurs_t (h i) t) (λ i. occurs_t (h i) u) ps in omega (arith, x, y, w, a, b)
  kept_t (KHalt v) h ps inj = let r = kept_v v h ps inj in omega (arith, r)

kept_code : (args : KTys) (body : KTm) (ps : Places) → kept_count (keeps args body) ps ≤ ksize_t body
kept_code args body ps = kept_t body (λ i. lift (kcount args) (suc i)) ps (code_inj (kcount args) (λ i. i) (λ i j e. e))

-- sizes of what the conversion makes
var_size : (p : Option ℕ) → cown_v (var_value p) ≡ 1
var_size None = refl
var_size (Some j) = refl

pick_size : (k : Bool) (p : Option ℕ) (vs : CVals) → cown_vs (pick_one k p vs) ≡ after_one k (cown_vs vs)
pick_size true p vs = let x = var_size p in omega (arith, x)
pick_size false p vs = refl

picked_size : (keep : ℕ → Bool) (ps : Places) (vs : CVals) →
    cown_vs (picked keep ps vs) ≡ kept_count keep ps + cown_vs vs
picked_size keep [] vs = omega arith
picked_size keep (p ∷ ps) vs =
    picked_size (λ i. keep (suc i)) ps (pick_one (keep 0) p vs)
    ∙ ap (λ x. kept_count (λ i. keep (suc i)) ps + x) (pick_size (keep 0) p vs)
    ∙ after_move (keep 0) (kept_count (λ i. keep (suc i)) ps) (cown_vs vs)

projections_size : (k i e : ℕ) (t : CTm) → cown_t (projections k i e t) ≡ 2 * k + cown_t t
projections_size zero i e t = omega arith
projections_size (suc k) i e t = let r = projections_size k (suc i) (suc e) t in omega (arith, r)

named_size : (u : Bool) (v : CVal) (t : CTm) → cown_t (named u v t) ≤ 1 + cown_v v + cown_t t
named_size true v t = omega arith
named_size false v t = omega arith

body_size : (s : Scope) (owes : ℕ) (args : KTys) (body : KTm) (t : CTm) →
    cown_t (closed_body s owes args body t) ≤ 2 * ksize_t body + 6 + cown_t t
body_size s owes args body t =
    let k = kept_count (keeps args body) s.vars in
    let x = projections_size k 1 (kcount args) (named (uses args body 0) (rebuilt s owes args body) t) in
    let y = named_size (uses args body 0) (rebuilt s owes args body) t in
    let z = kept_code args body s.vars in
    omega (arith, x, y, z)

mutual
  own_v : (v : KVal) (s : Scope) → cown_v (close_v s v) ≤ 8 * ksize_v v
  own_v (KVar i) s = let x = var_size (place s.vars i) in omega (arith, x)
  own_v (KInt n) s = omega arith
  own_v (KTuple vs) s = let r = own_vs vs s in omega (arith, r)
  own_v (KCode owes args body) s =
      let x = picked_size (keeps args body) s.vars NoCVals in
      let y = kept_code args body s.vars in
      omega (arith, x, y)

  own_vs : (vs : KVals) (s : Scope) → cown_vs (close_vs s vs) ≤ 8 * ksize_vs vs
  own_vs NoKVals s = omega arith
  own_vs (MoreKVals v vs) s = let x = own_v v s in let y = own_vs vs s in omega (arith, x, y)

own_d : (d : KDecl) (s : Scope) → cown_d (close_d s d) ≤ 8 * ksize_d d
own_d (KName v) s = let x = own_v v s in omega (arith, x)
own_d (KProj i v) s = let x = own_v v s in omega (arith, x)
own_d (KArith op v w) s = let x = own_v v s in let y = own_v w s in omega (arith, x, y)
own_d (KPack hid v shape) s = let x = own_v v s in omega (arith, x)
own_d (KUnpack v) s = let x = own_v v s in omega (arith, x)
own_d (KCell v) s = let x = own_v v s in omega (arith, x)
own_d (KGet v) s = let x = own_v v s in omega (arith, x)
own_d (KSet v w) s = let x = own_v v s in let y = own_v w s in omega (arith, x, y)

own_t : (t : KTm) (s : Scope) → cown_t (close_t s t) ≤ 8 * ksize_t t
own_t (KLet d t) s = let x = own_d d s in let y = own_t t (with_decl d s) in omega (arith, x, y)
own_t (KCall f ts vs) s = let x = own_v f s in let y = own_vs vs (in_call s) in omega (arith, x, y)
own_t (KIf v t u) s = let x = own_v v s in let y = own_t t s in let z = own_t u s in omega (arith, x, y, z)
own_t (KHalt v) s = let x = own_v v s in omega (arith, x)

-- each body is small
small_picked : (M : ℕ) (keep : ℕ → Bool) (ps : Places) (vs : CVals) → CSmall_vs M vs → CSmall_vs M (picked keep ps vs)
small_picked M keep [] vs h = h
small_picked M keep (p ∷ ps) vs h = small_picked M (λ i. keep (suc i)) ps (pick_one (keep 0) p vs) (pick (keep 0))
  where
    at_var : (p : Option ℕ) → CSmall_v M (var_value p)
    at_var None = tt
    at_var (Some j) = tt

    pick : (k : Bool) → CSmall_vs M (pick_one k p vs)
    pick true = (at_var p, h)
    pick false = h

small_projections : (M k i e : ℕ) (t : CTm) → CSmall_t M t → CSmall_t M (projections k i e t)
small_projections M zero i e t h = h
small_projections M (suc k) i e t h = (tt, small_projections M k (suc i) (suc e) t h)

small_named : (M : ℕ) (u : Bool) (v : CVal) (t : CTm) → CSmall_v M v → CSmall_t M t → CSmall_t M (named u v t)
small_named M true v t h q = (h, q)
small_named M false v t h q = q

small_var : (M : ℕ) (p : Option ℕ) → CSmall_v M (var_value p)
small_var M None = tt
small_var M (Some j) = tt

module _ (M : ℕ) where
  mutual
    small_v : (v : KVal) (s : Scope) → 10 * ksize_v v ≤ M → CSmall_v M (close_v s v)
    small_v (KVar i) s h = small_var M (place s.vars i)
    small_v (KInt n) s h = tt
    small_v (KTuple vs) s h = small_vs vs s (omega (arith, h))
    small_v (KCode owes args body) s h =
        let i = inner s owes args body in
        let t = close_t i body in
        let x = body_size s owes args body t in
        let y = own_t body i in
        let n = ctypes_count i.tvar args in (
          (
            omega (arith, x, y, h, n),
            small_projections M (kept_count (keeps args body) s.vars) 1 (kcount args) _
                (small_named M (uses args body 0) (rebuilt s owes args body) t (tt, (tt, tt))
                (small_t body i (omega (arith, h)))),
          ),
          (small_picked M (keeps args body) s.vars NoCVals tt, tt),
        )

    small_vs : (vs : KVals) (s : Scope) → 10 * ksize_vs vs ≤ M → CSmall_vs M (close_vs s vs)
    small_vs NoKVals s h = tt
    small_vs (MoreKVals v vs) s h = (small_v v s (omega (arith, h)), small_vs vs s (omega (arith, h)))

    small_d : (d : KDecl) (s : Scope) → 10 * ksize_d d ≤ M → CSmall_d M (close_d s d)
    small_d (KName v) s h = small_v v s (omega (arith, h))
    small_d (KProj i v) s h = small_v v s (omega (arith, h))
    small_d (KArith op v w) s h = (small_v v s (omega (arith, h)), small_v w s (omega (arith, h)))
    small_d (KPack hid v shape) s h = small_v v s (omega (arith, h))
    small_d (KUnpack v) s h = small_v v s (omega (arith, h))
    small_d (KCell v) s h = small_v v s (omega (arith, h))
    small_d (KGet v) s h = small_v v s (omega (arith, h))
    small_d (KSet v w) s h = (small_v v s (omega (arith, h)), small_v w s (omega (arith, h)))

    small_t : (t : KTm) (s : Scope) → 10 * ksize_t t ≤ M → CSmall_t M (close_t s t)
    small_t (KLet d t) s h = (small_d d s (omega (arith, h)), small_t t (with_decl d s) (omega (arith, h)))
    small_t (KCall f ts vs) s h =
        (small_v f s (omega (arith, h)), (tt, (tt, (tt, (tt, small_vs vs (in_call s) (omega (arith, h)))))))
    small_t (KIf v t u) s h =
        (small_v v s (omega (arith, h)), small_t t s (omega (arith, h)), small_t u s (omega (arith, h)))
    small_t (KHalt v) s h = small_v v s (omega (arith, h))

pub close_small : (t : KTm) → CSmall (10 * ksize_t t) (close_of t)
close_small t = let x = own_t t no_scope in (omega (arith, x), small_t (10 * ksize_t t) t no_scope (omega arith))
