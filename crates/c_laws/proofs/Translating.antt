-- The conversion gives a translation.
use Rattle.std.proofs.Common.{◌≡◌, ◌<◌, ◌⊎◌, inl, inr, ℕ, zero, suc, ◌+◌, Bool, true, false, ◌||◌, List, [], ◌∷◌}
use Rattle.std.proofs.Common.{Option, Some, None, length, refl, sym, ap, ap₂, ◌∙◌, subst, arith, eq-eqb, cond}
use Rattle.std.proofs.Common.{length-append, append_assoc}
use Rattle.std.specs.Prelude.{◌≢◌, if◌then◌else◌, ◌++◌, map, filter, reverse, option_map}
use Rattle.std.specs.List.{range_with_len}
use mathlib.Core.List.{reverse_aux}
use Rattle.std.proofs.lemmas.List.{length-map, length-reverse, reverse-reverse}
use Rattle.std.proofs.lemmas.List.FromFn.{length-map-range_with_len}
use Rattle.calc_core.specs.Ends.{lift, after_one}
use Rattle.k_terms.specs.K.{KTy, KTys, TKCode, KVal, KVar, KInt, KTuple, KCode, KVals, NoKVals, MoreKVals, KDecl, KName}
use Rattle.k_terms.specs.K.{KProj, KArith, KPack, KUnpack, KCell, KGet, KSet, KTm, KLet, KCall, KIf, KHalt, kcount}
use Rattle.k_terms.specs.K.{kren, krens_scope, opens}
use Rattle.k_terms.specs.Types.{ktype_at, kd_type}
use Rattle.c_terms.specs.C.{TCVar, TCTuple, MoreCTys, CVal, CVar, CTuple, CCode, CApply, CPack, CVals, NoCVals}
use Rattle.c_terms.specs.C.{NoCTys, MoreCVals, CTm}
use Rattle.c_rules.specs.Places.{Places, further, place, from_on, kept_places, kept_count, keep_one}
use Rattle.c_rules.specs.Free.{IsClosed, occurs_v, occurs_vs, occurs_d, occurs_t}
use Rattle.c_rules.specs.Close.{Scope, ctype, ctypes, uses, keeps, tkeeps, rank, var_value, pick_one, picked, pick_type}
use Rattle.c_rules.specs.Close.{picked_types, picked_tvars, projections, named, closure, outside}
use Rattle.c_rules.specs.Close.{inner, closed_code, closed_body, with_var, open_if, with_decl, close_v, close_vs}
use Rattle.c_rules.specs.Close.{close_d, close_t, close_of, no_scope}
use Rattle.c_rules.specs.Close as L
use Rattle.c_laws.specs.Row.{Names, IsPlace, Where, outermost_first, Stands, AllStand, types_of, tvars_of, frees}
use Rattle.c_laws.specs.Row.{tfrees_of, packed, arguments, own, variables, inside, closed_over, with_name, with_tvar}
use Rattle.c_laws.specs.Row.{ClosesValue, CloseValues, ClosesDecl, ClosesTerm, IsTranslation}
use Rattle.c_laws.proofs.Envs.{or_left, or_right}
use Rattle.calc_core.proofs.Lifts.{lift_add}
use Rattle.calc_core.proofs.Scopes.{scope_length as length_krens}
use Rattle.calc_core.proofs.Substituting.{low_or_past as near_or_far}
use Rattle.c_laws.proofs.Closing.{after_add}
use Rattle.calc_core.proofs.NamesIn.{args_length as length_args}

abbrev where_of : Scope → Names → Where
where_of s names = record { types = s.types; tcount = s.tcount; names = names; tvar = s.tvar }

-- each live variable is at hand, and its place is that of its name
abbrev Near : (ℕ → Bool) → Places → Names → Type 0
Near live ps names = (i : ℕ) → live i ≡ true → (j : ℕ) × (place ps i ≡ Some j) × IsPlace i names j

-- f i for the kept i of the first n, outermost first, before others
abbrev pick_index : Bool → ℕ → List ℕ → List ℕ
pick_index true i is = i ∷ is
pick_index false i is = is

abbrev kept_indices : (keep : ℕ → Bool) (f : ℕ → ℕ) → ℕ → List ℕ → List ℕ
kept_indices keep f zero is = is
kept_indices keep f (suc n) is = kept_indices (λ i. keep (suc i)) (λ i. f (suc i)) n (pick_index (keep 0) (f 0) is)

-- keep is test from a on
abbrev From : (ℕ → Bool) → ℕ → (ℕ → Bool) → Type 0
From test a keep = (m : ℕ) → keep m ≡ test (a + m)

from_next : (test : ℕ → Bool) (a : ℕ) (keep : ℕ → Bool) → From test a keep → From test (a + 1) (λ m. keep (suc m))
from_next test a keep h m = h (suc m) ∙ ap test (omega arith)

from_here : (test : ℕ → Bool) (a : ℕ) (keep : ℕ → Bool) → From test a keep → keep 0 ≡ test a
from_here test a keep h = h 0 ∙ ap test (omega arith)

-- the kept ones of n from a on
abbrev kept_from : (ℕ → Bool) → ℕ → ℕ → List ℕ
kept_from test a n = filter test (range_with_len a n)

turned : (test keep : ℕ → Bool) (f : ℕ → ℕ) (a n : ℕ) (is : List ℕ) → From test a keep → ((m : ℕ) → f m ≡ a + m) →
    kept_indices keep f n is ≡ reverse_aux (kept_from test a n) is
turned test keep f a zero is k h = refl
turned test keep f a (suc n) is k h =
    turned test (λ i. keep (suc i)) (λ i. f (suc i)) (a + 1) n (pick_index (keep 0) (f 0) is) (from_next test a keep k)
    (λ m. h (suc m) ∙ omega arith)
    ∙ ap₂ (λ b x. reverse_aux (kept_from test (a + 1) n) (pick_index b x is)) (from_here test a keep k)
    (let e : f 0 ≡ a = omega (arith, h 0) in e) ∙ one (test a) (kept_from test (a + 1) n)
  where
    one : (b : Bool) (l : List ℕ) → reverse_aux l (pick_index b a is) ≡ reverse_aux (cond b (a ∷ l) l) is
    one true l = refl
    one false l = refl

outermost : (keep : ℕ → Bool) (n : ℕ) → kept_indices keep (λ i. i) n [] ≡ outermost_first keep n
outermost keep n = turned keep keep (λ i. i) 0 n [] (λ m. ap keep (omega arith)) (λ m. omega arith)

kept_many : (test keep : ℕ → Bool) (a n : ℕ) → From test a keep → length (kept_from test a n) ≡ rank keep n
kept_many test keep a zero k = refl
kept_many test keep a (suc n) k =
    one (test a) (kept_from test (a + 1) n)
    ∙ ap₂ after_one (sym (from_here test a keep k))
    (kept_many test (λ i. keep (suc i)) (a + 1) n (from_next test a keep k))
  where
    one : (b : Bool) (l : List ℕ) → length (cond b (a ∷ l) l) ≡ after_one b (length l)
    one true l = refl
    one false l = refl

as_many : (keep : ℕ → Bool) (n : ℕ) → length (outermost_first keep n) ≡ rank keep n
as_many keep n = length-reverse (kept_from keep 0 n) ∙ kept_many keep keep 0 n (λ m. ap keep (omega arith))

-- lists of indices
types_are : (keep : ℕ → Bool) (f : ℕ → ℕ) (g all : List KTy) (r : ℕ → ℕ) (is : List ℕ) →
    ((m : ℕ) → ktype_at all (f m) ≡ ktype_at g m) → picked_types keep (ctype r) g (types_of r all is)
    ≡ types_of r all (kept_indices keep f (length g) is)
types_are keep f [] all r is h = refl
types_are keep f (t ∷ g) all r is h =
    ap (picked_types (λ i. keep (suc i)) (ctype r) g) (one (keep 0))
    ∙ types_are (λ i. keep (suc i)) (λ i. f (suc i)) g all r (pick_index (keep 0) (f 0) is) (λ m. h (suc m))
  where
    one : (b : Bool) → pick_type b (ctype r t) (types_of r all is) ≡ types_of r all (pick_index b (f 0) is)
    one true = ap (λ x. MoreCTys (ctype r x) (types_of r all is)) (sym (h 0))
    one false = refl

tvars_are : (keep : ℕ → Bool) (f : ℕ → ℕ) (n : ℕ) (r all : ℕ → ℕ) (is : List ℕ) → ((m : ℕ) → all (f m) ≡ r m) →
    picked_tvars keep r n (tvars_of all is) ≡ tvars_of all (kept_indices keep f n is)
tvars_are keep f zero r all is h = refl
tvars_are keep f (suc n) r all is h =
    ap (picked_tvars (λ i. keep (suc i)) (λ i. r (suc i)) n) (one (keep 0))
    ∙ tvars_are (λ i. keep (suc i)) (λ i. f (suc i)) n (λ i. r (suc i)) all (pick_index (keep 0) (f 0) is)
    (λ m. h (suc m))
  where
    one : (b : Bool) → pick_type b (TCVar (r 0)) (tvars_of all is) ≡ tvars_of all (pick_index b (f 0) is)
    one true = ap (λ x. MoreCTys (TCVar x) (tvars_of all is)) (sym (h 0))
    one false = refl

stands : (w : Where) (i j : ℕ) (p : Option ℕ) → p ≡ Some j → IsPlace i w.names j → Stands w i (var_value p)
stands w i j p e h = (j, ap var_value e, h)

all_stand : (w : Where) (keep : ℕ → Bool) (f : ℕ → ℕ) (ps : Places) (is : List ℕ) (vs : CVals) →
    ((m : ℕ) → keep m ≡ true → (j : ℕ) × (place ps m ≡ Some j) × IsPlace (f m) w.names j) →
    AllStand w is vs →
    AllStand w (kept_indices keep f (length ps) is) (picked keep ps vs)
all_stand w keep f [] is vs h k = k
all_stand w keep f (p ∷ ps) is vs h k =
    all_stand w (λ i. keep (suc i)) (λ i. f (suc i)) ps (pick_index (keep 0) (f 0) is) (pick_one (keep 0) p vs)
    (λ m e. h (suc m) e) (one (keep 0) (h 0))
  where
    one : (b : Bool) → (b ≡ true → (j : ℕ) × (p ≡ Some j) × IsPlace (f 0) w.names j) →
        AllStand w (pick_index b (f 0) is) (pick_one b p vs)
    one true q = let r = q refl in (var_value p, vs, refl, stands w (f 0) r.0 p r.1 r.2, k)
    one false q = k

free_types : (s : Scope) (args : KTys) (body : KTm) (r : ℕ → ℕ) →
    picked_types (keeps args body) (ctype r) s.types NoCTys
    ≡ types_of r s.types (outermost_first (keeps args body) (length s.types))
free_types s args body r =
    types_are (keeps args body) (λ i. i) s.types s.types r [] (λ m. refl)
    ∙ ap (types_of r s.types) (outermost (keeps args body) (length s.types))

-- a closure is the packed pair
packed_is : (s : Scope) (names : Names) (owes : ℕ) (args : KTys) (body : KTm) (r : ℕ → ℕ) (code env : CVal) →
    closure s owes args body r code env ≡ packed r (where_of s names) owes args body code env
packed_is s names owes args body r code env =
    ap₂ (λ x y. CPack (TCTuple x) (CTuple (MoreCVals (CApply code y) (MoreCVals env NoCVals)))
    (ctype r (TKCode owes args)))
    (free_types s args body r)
    (tvars_are (tkeeps s.types owes args body) (λ i. i) s.tcount r r [] (λ m. refl)
    ∙ ap (tvars_of r) (outermost (tkeeps s.types owes args body) s.tcount))

pub count_rank : (keep : ℕ → Bool) (ps : Places) → kept_count keep ps ≡ rank keep (length ps)
count_rank keep [] = refl
count_rank keep (p ∷ ps) = ap (after_one (keep 0)) (count_rank (λ i. keep (suc i)) ps)

kept_is : (keep : ℕ → Bool) (s : Scope) → length s.vars ≡ length s.types →
    kept_count keep s.vars ≡ rank keep (length s.types)
kept_is keep s e = count_rank keep s.vars ∙ ap (rank keep) e

-- the places of the environment and of the code
at_args : (args : KTys) → length (arguments args) ≡ kcount args
at_args args = length-map-range_with_len Some 0 (kcount args)

at_env : (s : Scope) (names : Names) (args : KTys) (body : KTm) → length s.vars ≡ length s.types →
    length (variables (where_of s names) args body ++ arguments args)
    ≡ lift (kept_count (keeps args body) s.vars) (kcount args)
at_env s names args body same =
    let w = where_of s names in
    let k = kept_count (keeps args body) s.vars in
    omega (
      arith,
      length-append (variables w args body) (arguments args),
      length-map (reverse (frees w args body)) (λ y. Some (lift (kcount args) (suc y))),
      length-reverse (frees w args body),
      as_many (keeps args body) (length s.types),
      kept_is (keeps args body) s same,
      at_args args,
      lift_add k (kcount args),
    )

code_is : (s : Scope) (names : Names) (owes : ℕ) (args : KTys) (body : KTm) (t : CTm) → length s.vars ≡ length s.types →
    closed_code s owes args body t ≡ closed_over (where_of s names) owes args body t
code_is s names owes args body t same =
    let w = where_of s names in
    let n = kcount args in
    let keep = keeps args body in
    let tkeep = tkeeps s.types owes args body in
    let r = outside s owes args body in
    let args_after = ctypes (inner s owes args body).tvar args in
    let env = length (variables w args body ++ arguments args) in
    let k = kept_count keep s.vars in
    let here : lift k n ≡ env = sym (at_env s names args body same) in
    let next : lift k (suc n) ≡ suc env = omega (arith, here, lift_add k n, lift_add k (suc n)) in
    let many : lift owes (rank tkeep s.tcount) ≡ owes + length (tfrees_of w owes args body) =
    lift_add owes (rank tkeep s.tcount) ∙ ap (λ x. owes + x) (sym (as_many tkeep s.tcount)) in
    let fields : k ≡ length (frees w args body) = kept_is keep s same ∙ sym (as_many keep (length s.types)) in
    let again : closure s owes args body r (CVar (lift k (suc n))) (CVar (lift k n))
    ≡ packed r w owes args body (CVar (suc env)) (CVar env) =
    packed_is s names owes args body r (CVar (lift k (suc n))) (CVar (lift k n))
    ∙ ap₂ (λ c e. packed r w owes args body (CVar c) (CVar e)) next here in
    ap₂ (λ x y. CCode x (MoreCTys (TCTuple y) args_after) (closed_body s owes args body t)) many
    (free_types s args body r)
    ∙ ap (CCode (owes + length (tfrees_of w owes args body))
    (MoreCTys (TCTuple (types_of r s.types (frees w args body))) args_after))
    (ap₂ (λ x m. projections x 1 m
    (named (uses args body 0) (closure s owes args body r (CVar (lift k (suc n))) (CVar (lift k n))) t)) fields
    (sym (at_args args))
    ∙ ap
    (λ v. projections (length (frees w args body)) 1 (length (arguments args)) (named (uses args body 0) v t)) again)

-- scopes
pub place_further : (ps : Places) (i j : ℕ) → place ps i ≡ Some j → place (further ps) i ≡ Some (suc j)
place_further [] i j e = absurd cc
place_further (None ∷ ps) zero j e = absurd cc
place_further (Some k ∷ ps) zero j e = cc
place_further (p ∷ ps) (suc i) j e = place_further ps i j e

other : (i k : ℕ) → i ≢ k → Some i ≢ Some k
other i k h e = h cc

none : (i : ℕ) → None ≢ Some i
none i e = absurd cc

next_place : (i : ℕ) (names : Names) (j : ℕ) → IsPlace i names j → IsPlace (suc i) (map (option_map suc) names) j
next_place i [] j h = h
next_place i (x ∷ names) zero h = ap (option_map suc) h
next_place i (None ∷ names) (suc j) h = (none (suc i), next_place i names j h.1)
next_place i (Some k ∷ names) (suc j) h =
    (other (suc k) (suc i) (λ e. h.0 (ap Some (omega (arith, e)))), next_place i names j h.1)

near_further : (live : ℕ → Bool) (ps : Places) (names : Names) → Near live ps names →
    Near live (further ps) (None ∷ names)
near_further live ps names h i q = let r = h i q in (suc r.0, place_further ps i r.0 r.1, (none i, r.2))

near_name : (live : ℕ → Bool) (ps : Places) (names : Names) → Near (λ i. live (suc i)) ps names →
    Near live (Some 0 ∷ further ps) (Some 0 ∷ map (option_map suc) names)
near_name live ps names h zero q = (0, refl, refl)
near_name live ps names h (suc i) q =
    let r = h i q in
    (suc r.0, place_further ps i r.0 r.1, (other 0 (suc i) (λ e. omega (arith, e)), next_place i names r.0 r.2))

fewer : (live few : ℕ → Bool) (ps : Places) (names : Names) → ((i : ℕ) → few i ≡ true → live i ≡ true) →
    Near live ps names → Near few ps names
fewer live few ps names f h i q = h i (f i q)

near_decl : (b : Bool) (u : KTy) (live : ℕ → Bool) (s : Scope) (names : Names) →
    Near (λ i. live (suc i)) s.vars names →
    Near live (with_var u (open_if b s)).vars (Some 0 ∷ map (option_map suc) names)
near_decl true u live s names h = near_name live s.vars names h
near_decl false u live s names h = near_name live s.vars names h

pub length_further : (ps : Places) → length (further ps) ≡ length ps
length_further [] = refl
length_further (p ∷ ps) = ap suc (length_further ps)

same_decl : (b : Bool) (u : KTy) (s : Scope) → length s.vars ≡ length s.types →
    length (with_var u (open_if b s)).vars ≡ length (with_var u (open_if b s)).types
same_decl true u s h = ap suc (length_further s.vars ∙ h ∙ sym (length_krens suc s.types))
same_decl false u s h = ap suc (length_further s.vars ∙ h)

where_decl : (b : Bool) (u : KTy) (s : Scope) (names : Names) →
    where_of (with_var u (open_if b s)) (Some 0 ∷ map (option_map suc) names)
    ≡ with_name u (with_tvar b (where_of s names))
where_decl true u s names = refl
where_decl false u s names = refl

-- the body of a closed code
pub length_from : (o n : ℕ) (ps : Places) → length (from_on o n ps) ≡ lift n (length ps)
length_from o zero ps = refl
length_from o (suc n) ps = ap suc (length_from (suc o) n ps)

pub length_kept : (keep : ℕ → Bool) (o : ℕ) (ps : Places) → length (kept_places o keep ps) ≡ length ps
length_kept keep o [] = refl
length_kept keep o (p ∷ ps) = ap suc (length_kept (λ i. keep (suc i)) (after_one (keep 0) o) ps)

same_inner : (s : Scope) (owes : ℕ) (args : KTys) (body : KTm) → length s.vars ≡ length s.types →
    length (inner s owes args body).vars ≡ length (inner s owes args body).types
same_inner s owes args body h =
    length_from (kept_count (uses args body) (None ∷ s.vars)) (kcount args)
    (kept_places 0 (uses args body) (None ∷ s.vars))
    ∙ ap (lift (kcount args))
    (length_kept (uses args body) 0 (None ∷ s.vars) ∙ ap suc (h ∙ sym (length_krens (lift owes) s.types)))
    ∙ sym (length_args args (kren (lift owes) (TKCode owes args) ∷ krens_scope (lift owes) s.types))

pub place_near : (o n : ℕ) (ps : Places) (i : ℕ) → i < n → place (from_on o n ps) i ≡ Some (o + i)
place_near o zero ps i h = absurd (omega arith)
place_near o (suc n) ps zero h = ap Some (omega arith)
place_near o (suc n) ps (suc i) h = place_near (suc o) n ps i (omega arith) ∙ ap Some (omega arith)

pub place_far : (o n : ℕ) (ps : Places) (i : ℕ) → place (from_on o n ps) (lift n i) ≡ place ps i
place_far o zero ps i = refl
place_far o (suc n) ps i = place_far (suc o) n ps i

pub after_add_right : (b : Bool) (x y : ℕ) → x + after_one b y ≡ after_one b (x + y)
after_add_right true x y = omega arith
after_add_right false x y = refl

pub place_kept : (keep : ℕ → Bool) (o : ℕ) (ps : Places) (i : ℕ) → i < length ps → keep i ≡ true →
    place (kept_places o keep ps) i ≡ Some (o + rank keep i)
place_kept keep o [] i h e = absurd (omega arith)
place_kept keep o (p ∷ ps) zero h e = ap (λ q. keep_one q o) e ∙ ap Some (omega arith)
place_kept keep o (p ∷ ps) (suc i) h e =
    place_kept (λ j. keep (suc j)) (after_one (keep 0) o) ps i (omega arith) e
    ∙ ap Some (after_add (keep 0) o (rank (λ j. keep (suc j)) i)
    ∙ sym (after_add_right (keep 0) o (rank (λ j. keep (suc j)) i)))

place_lt : (ps : Places) (i j : ℕ) → place ps i ≡ Some j → i < length ps
place_lt [] i j e = absurd cc
place_lt (p ∷ ps) zero j e = omega arith
place_lt (p ∷ ps) (suc i) j e = let r = place_lt ps i j e in omega (arith, r)

-- the places of names in a closed code
past_own : (b : Bool) (n i j : ℕ) (names : Names) → n ≢ i → IsPlace i names j →
    IsPlace i ((if b then Some n ∷ [] else []) ++ names) (after_one b j)
past_own true n i j names h at = (other n i h, at)
past_own false n i j names h at = at

past_mapped : (g : ℕ → ℕ) (ys : List ℕ) (i j : ℕ) (names : Names) → ((y : ℕ) → g y ≢ i) → IsPlace i names j →
    IsPlace i (map (λ y. Some (g y)) ys ++ names) (lift (length ys) j)
past_mapped g [] i j names h at = at
past_mapped g (y ∷ ys) i j names h at = (other (g y) i (h y), past_mapped g ys i j names h at)

argument_place : (a n i : ℕ) (names : Names) → i < n → IsPlace (a + i) (map Some (range_with_len a n) ++ names) i
argument_place a zero i names h = absurd (omega arith)
argument_place a (suc n) zero names h = ap Some (omega arith)
argument_place a (suc n) (suc i) names h = (
  other a (a + suc i) (λ e. omega (arith, e)),
  subst (λ x. IsPlace x (map Some (range_with_len (a + 1) n) ++ names) i)
      (let e : a + 1 + i ≡ a + suc i = omega arith in e) (argument_place (a + 1) n i names (omega arith)),
)

variable_place : (o : ℕ) (test keep : ℕ → Bool) (a n m : ℕ) (names : Names) → From test a keep → m < n →
    keep m ≡ true →
    IsPlace (lift o (suc (a + m))) (map (λ y. Some (lift o (suc y))) (kept_from test a n) ++ names) (rank keep m)
variable_place o test keep a zero m names k h e = absurd (omega arith)
variable_place o test keep a (suc n) zero names k h e = first (test a) (sym (from_here test a keep k) ∙ e)
  where
    first : (b : Bool) → b ≡ true →
        IsPlace (lift o (suc (a + 0)))
        (map (λ y. Some (lift o (suc y))) (cond b (a ∷ kept_from test (a + 1) n) (kept_from test (a + 1) n)) ++ names) 0
    first true q = ap (λ x. Some (lift o (suc x))) (omega arith)
    first false q = absurd cc
variable_place o test keep a (suc n) (suc m) names k h e =
    subst (λ c. IsPlace x (map (λ y. Some (lift o (suc y))) (kept_from test a (suc n)) ++ names) (after_one c r))
    (sym (from_here test a keep k)) (past (test a)
    (subst (λ z. IsPlace (lift o (suc z)) (map (λ y. Some (lift o (suc y))) (kept_from test (a + 1) n) ++ names) r)
    (let q : a + 1 + m ≡ a + suc m = omega arith in q)
    (variable_place o test (λ i. keep (suc i)) (a + 1) n m names (from_next test a keep k) (omega arith) e)))
  where
    x : ℕ
    x = lift o (suc (a + suc m))

    r : ℕ
    r = rank (λ i. keep (suc i)) m

    past : (b : Bool) → IsPlace x (map (λ y. Some (lift o (suc y))) (kept_from test (a + 1) n) ++ names) r →
        IsPlace x
        (map (λ y. Some (lift o (suc y))) (cond b (a ∷ kept_from test (a + 1) n) (kept_from test (a + 1) n)) ++ names)
        (after_one b r)
    past true rest =
        (other (lift o (suc a)) x (λ q. omega (arith, q, lift_add o (suc a), lift_add o (suc (a + suc m)))), rest)
    past false rest = rest

near_inner : (s : Scope) (names : Names) (owes : ℕ) (args : KTys) (body : KTm) → length s.vars ≡ length s.types →
    Near (keeps args body) s.vars names →
    Near (λ i. occurs_t i body) (inner s owes args body).vars (inside (where_of s names) owes args body).names
near_inner s names owes args body same near i live = flat (here (near_or_far n i))
  where
    n : ℕ
    n = kcount args

    keep : ℕ → Bool
    keep = keeps args body

    used : Bool
    used = uses args body 0

    w : Where
    w = where_of s names

    ps : Places
    ps = kept_places 0 (uses args body) (None ∷ s.vars)

    ko : ℕ
    ko = kept_count (uses args body) (None ∷ s.vars)

    ys : List ℕ
    ys = kept_from keep 0 (length s.types)

    ends : Names
    ends = None ∷ None ∷ []

    args_on : Names
    args_on = arguments args ++ ends

    vars_on : Names
    vars_on = map (λ y. Some (lift n (suc y))) ys ++ args_on

    Here : Type 0
    Here = (j : ℕ) × (place (inner s owes args body).vars i ≡ Some j) × IsPlace i (own args body ++ vars_on) j

    flat : Here → (j : ℕ) × (place (inner s owes args body).vars i ≡ Some j)
        × IsPlace i (inside w owes args body).names j
    flat h = (
      h.0,
      h.1,
      subst (λ ns. IsPlace i ns h.0)
          (ap (λ l. own args body ++ (map (λ y. Some (lift n (suc y))) l ++ args_on)) (sym (reverse-reverse ys))
          ∙ sym
          (append_assoc (own args body ++ variables w args body) (arguments args) ends
          ∙ append_assoc (own args body) (variables w args body) args_on)) h.2,
    )

    far : (m : ℕ) → i ≡ lift n m → Here
    far zero at =
        let is : used ≡ true = subst (λ x. occurs_t x body ≡ true) at live in (
          0,
          ap (place (inner s owes args body).vars) at ∙ place_far ko n ps 0 ∙ ap (λ b. keep_one b 0) is,
          subst
              (λ b. IsPlace i
              ((if b then Some n ∷ [] else []) ++ vars_on) 0)
              (sym is) (ap Some (omega (arith, at, lift_add n 0))),
        )
    far (suc m) at =
        let is : keep m ≡ true = subst (λ x. occurs_t x body ≡ true) at live in
        let r = near m is in
        let lt = place_lt s.vars m r.0 r.1 in
        let mine = variable_place n keep keep 0 (length s.types) m args_on (λ z. ap keep (omega arith))
        (omega (arith, lt, same)) is in (
          after_one used (rank keep m),
          ap (place (inner s owes args body).vars) at ∙ place_far ko n ps (suc m)
              ∙ place_kept (uses args body) 0 (None ∷ s.vars) (suc m) (omega (arith, lt)) is ∙ ap Some (omega arith),
          past_own used n i (rank keep m) vars_on
              (λ q. omega (arith, q, at, lift_add n (suc m)))
              (subst (λ x. IsPlace x vars_on (rank keep m))
              (ap (λ x. lift n (suc x)) (let q : 0 + m ≡ m = omega arith in q) ∙ sym at) mine),
        )

    here : (i < n) ⊎ ((m : ℕ) × (i ≡ lift n m)) → Here
    here (inl lt) =
        let k = length ys in
        let many : kept_count keep s.vars ≡ k =
        kept_is keep s same ∙ sym (kept_many keep keep 0 (length s.types) (λ m. ap keep (omega arith))) in
        let mine = subst (λ x. IsPlace x args_on i) (let q : 0 + i ≡ i = omega arith in q)
        (argument_place 0 n i ends lt) in (
          after_one used (lift k i),
          place_near ko n ps i lt
              ∙ ap Some
              (after_add used (kept_count keep s.vars) i
              ∙ ap (after_one used) (omega (arith, many, lift_add k i))),
          past_own used n i (lift k i) vars_on (λ q. omega (arith, q, lt))
              (past_mapped (λ y. lift n (suc y)) ys i i args_on
              (λ y q. omega (arith, q, lt, lift_add n (suc y))) mine),
        )
    here (inr r) = far r.0 r.1

mutual
  row_v : (v : KVal) (s : Scope) (names : Names) → length s.vars ≡ length s.types →
      Near (λ i. occurs_v i v) s.vars names → ClosesValue (where_of s names) v (close_v s v)
  row_v (KVar i) s names same h =
      let r = h i (eq-eqb i i refl) in stands (where_of s names) i r.0 (place s.vars i) r.1 r.2
  row_v (KInt n) s names same h = refl
  row_v (KTuple vs) s names same h = (close_vs s vs, refl, row_vs vs s names same h)
  row_v (KCode owes args body) s names same h =
      let w = where_of s names in
      let ys = picked (keeps args body) s.vars NoCVals in
      let t = close_t (inner s owes args body) body in (
        ys,
        t,
        packed_is s names owes args body s.tvar (closed_code s owes args body t) (CTuple ys)
            ∙ ap (λ c. packed s.tvar w owes args body c (CTuple ys)) (code_is s names owes args body t same),
        subst (λ is. AllStand w is ys)
            (ap (λ n. kept_indices (keeps args body) (λ i. i) n []) same ∙ outermost (keeps args body) (length s.types))
            (all_stand w (keeps args body) (λ i. i) s.vars [] NoCVals h refl),
        row_t body (inner s owes args body) (inside w owes args body).names
            (same_inner s owes args body same) (near_inner s names owes args body same h),
      )

  row_vs : (vs : KVals) (s : Scope) (names : Names) → length s.vars ≡ length s.types →
      Near (λ i. occurs_vs i vs) s.vars names → CloseValues (where_of s names) vs (close_vs s vs)
  row_vs NoKVals s names same h = refl
  row_vs (MoreKVals v vs) s names same h = (
    close_v s v,
    close_vs s vs,
    refl,
    row_v v s names same (fewer _ _ s.vars names (λ i. or_left (occurs_v i v) (occurs_vs i vs)) h),
    row_vs vs s names same (fewer _ _ s.vars names (λ i. or_right (occurs_v i v) (occurs_vs i vs)) h),
  )

  row_d : (d : KDecl) (s : Scope) (names : Names) → length s.vars ≡ length s.types →
      Near (λ i. occurs_d i d) s.vars names → ClosesDecl (where_of s names) d (close_d s d)
  row_d (KName v) s names same h = (close_v s v, refl, row_v v s names same h)
  row_d (KProj i v) s names same h = (close_v s v, refl, row_v v s names same h)
  row_d (KArith op v x) s names same h = (
    close_v s v,
    close_v s x,
    refl,
    row_v v s names same (fewer _ _ s.vars names (λ i. or_left (occurs_v i v) (occurs_v i x)) h),
    row_v x s names same (fewer _ _ s.vars names (λ i. or_right (occurs_v i v) (occurs_v i x)) h),
  )
  row_d (KPack hid v shape) s names same h = (close_v s v, refl, row_v v s names same h)
  row_d (KUnpack v) s names same h = (close_v s v, refl, row_v v s names same h)
  row_d (KCell v) s names same h = (close_v s v, refl, row_v v s names same h)
  row_d (KGet v) s names same h = (close_v s v, refl, row_v v s names same h)
  row_d (KSet v x) s names same h = (
    close_v s v,
    close_v s x,
    refl,
    row_v v s names same (fewer _ _ s.vars names (λ i. or_left (occurs_v i v) (occurs_v i x)) h),
    row_v x s names same (fewer _ _ s.vars names (λ i. or_right (occurs_v i v) (occurs_v i x)) h),
  )

  row_t : (t : KTm) (s : Scope) (names : Names) → length s.vars ≡ length s.types →
      Near (λ i. occurs_t i t) s.vars names → ClosesTerm (where_of s names) t (close_t s t)
  row_t (KLet d t) s names same h =
      let u = kd_type s.types d in (
        close_d s d,
        close_t (with_decl d s) t,
        refl,
        row_d d s names same (fewer _ _ s.vars names (λ i. or_left (occurs_d i d) (occurs_t (suc i) t)) h),
        subst (λ w. ClosesTerm w t (close_t (with_decl d s) t)) (where_decl (opens d) u s names)
            (row_t t (with_decl d s) (Some 0 ∷ map (option_map suc) names) (same_decl (opens d) u s same)
            (near_decl (opens d) u (λ i. occurs_t i t) s names
            (fewer _ _ s.vars names (λ i. or_right (occurs_d i d) (occurs_t (suc i) t)) h))),
      )
  row_t (KCall f ts vs) s names same h =
      let live : ℕ → Bool = λ i. occurs_vs i vs in
      let few = fewer _ live s.vars names (λ i. or_right (occurs_v i f) (occurs_vs i vs)) h in (
        close_v s f,
        close_vs (L.in_call s) vs,
        refl,
        row_v f s names same (fewer _ _ s.vars names (λ i. or_left (occurs_v i f) (occurs_vs i vs)) h),
        row_vs vs (L.in_call s) (None ∷ None ∷ None ∷ names)
            (length_further (further (further s.vars)) ∙ length_further (further s.vars) ∙ length_further s.vars
            ∙ same)
            (near_further live (further (further s.vars)) (None ∷ None ∷ names)
            (near_further live (further s.vars) (None ∷ names) (near_further live s.vars names few))),
      )
  row_t (KIf v t u) s names same h = (
    close_v s v,
    close_t s t,
    close_t s u,
    refl,
    row_v v s names same (fewer _ _ s.vars names (λ i. or_left (occurs_v i v) (occurs_t i t || occurs_t i u)) h),
    row_t t s names same
        (fewer _ _ s.vars names
        (λ i q. or_right (occurs_v i v) (occurs_t i t || occurs_t i u) (or_left (occurs_t i t) (occurs_t i u) q)) h),
    row_t u s names same
        (fewer _ _ s.vars names
        (λ i q. or_right (occurs_v i v) (occurs_t i t || occurs_t i u) (or_right (occurs_t i t) (occurs_t i u) q)) h),
  )
  row_t (KHalt v) s names same h = (close_v s v, refl, row_v v s names same h)

pub is_translation : (t : KTm) → IsClosed t → IsTranslation t (close_of t)
is_translation t h = row_t t no_scope [] refl (λ i q. absurd (h.0 i q))
