-- A typed term has no free variable.
use Rattle.std.proofs.Common.{◌≡◌, ◌<◌, ℕ, suc, true, ◌||◌, List, [], ◌∷◌, length, sym, subst, arith, eqb-true}
use Rattle.calc_core.specs.Ends.{lift, after_one}
use Rattle.k_terms.specs.K.{KTy, KTys, TKInt, TKCode, KVal, KVar, KInt, KTuple, KCode, KVals, NoKVals, MoreKVals, KDecl}
use Rattle.k_terms.specs.K.{KName, KProj, KArith, KPack, KUnpack, KCell, KGet, KSet, KTm, KLet, KCall, KIf, KHalt}
use Rattle.k_terms.specs.K.{kcount, kren, krens_scope, kbody_scope, opens, scope_more}
use Rattle.c_rules.specs.Free.{IsClosed, occurs_v, occurs_vs, occurs_d, occurs_t}
use Rattle.k_terms.specs.Typing.{KHas, KHave, KGives, KTyped}
use Rattle.c_laws.proofs.Ranges.{or_split, t_range}
use Rattle.calc_core.proofs.Lifts.{lift_add}
use Rattle.calc_core.proofs.Scopes.{scope_length as krens_length, named_below as kat_lt}
use Rattle.calc_core.proofs.NamesIn.{more_length, args_length}

body_lt : (owes : ℕ) (args : KTys) (g : List KTy) (i : ℕ) →
    lift (kcount args) (suc i) < length (kbody_scope owes args g) → i < length g
body_lt owes args g i lt =
    let around = kren (lift owes) (TKCode owes args) ∷ krens_scope (lift owes) g in
    omega (
      arith,
      lt,
      args_length args around,
      krens_length (lift owes) g,
      lift_add (kcount args) (suc i),
      lift_add (kcount args) (length around),
    )

mutual
  has_occurs : (v : KVal) (n : ℕ) (g : List KTy) (t : KTy) (i : ℕ) → KHas n g v t → occurs_v i v ≡ true → i < length g
  has_occurs (KVar j) n g t i h e = subst (λ k. k < length g) (sym (eqb-true i j e)) (kat_lt g j t h)
  has_occurs (KInt m) n g t i h e = absurd cc
  has_occurs (KTuple vs) n g t i h e = have_occurs vs n g h.0 i h.2 e
  has_occurs (KCode owes args body) n g t i h e =
      body_lt owes args g i
      (good_occurs body (lift owes n) (kbody_scope owes args g) (lift (kcount args) (suc i)) h.2 e)

  have_occurs : (vs : KVals) (n : ℕ) (g : List KTy) (ts : KTys) (i : ℕ) → KHave n g vs ts → occurs_vs i vs ≡ true →
      i < length g
  have_occurs NoKVals n g ts i h e = absurd cc
  have_occurs (MoreKVals v vs) n g ts i h e =
      or_split (occurs_v i v) (occurs_vs i vs) (λ d. has_occurs v n g h.0 i h.3 d)
      (λ d. have_occurs vs n g h.1 i h.4 d) e

  gives_occurs : (x : KDecl) (n : ℕ) (g : List KTy) (t : KTy) (i : ℕ) → KGives n g x t → occurs_d i x ≡ true →
      i < length g
  gives_occurs (KName v) n g t i h e = has_occurs v n g t i h e
  gives_occurs (KProj k v) n g t i h e = has_occurs v n g _ i h.1 e
  gives_occurs (KArith o v w) n g t i h e =
      or_split (occurs_v i v) (occurs_v i w) (λ d. has_occurs v n g TKInt i h.1 d)
      (λ d. has_occurs w n g TKInt i h.2 d) e
  gives_occurs (KPack hid v s) n g t i h e = has_occurs v n g _ i h.5 e
  gives_occurs (KUnpack v) n g t i h e = has_occurs v n g _ i h e
  gives_occurs (KCell v) n g t i h e = has_occurs v n g _ i h.2 e
  gives_occurs (KGet v) n g t i h e = has_occurs v n g _ i h e
  gives_occurs (KSet v w) n g t i h e =
      or_split (occurs_v i v) (occurs_v i w) (λ d. has_occurs v n g _ i h.2 d) (λ d. has_occurs w n g h.0 i h.3 d) e

  pub good_occurs : (t : KTm) (n : ℕ) (g : List KTy) (i : ℕ) → KTyped n g t → occurs_t i t ≡ true → i < length g
  good_occurs (KLet x t) n g i h e =
      or_split (occurs_d i x) (occurs_t (suc i) t)
      (λ d. gives_occurs x n g h.0 i h.1 d)
      (λ d. let k = good_occurs t (after_one (opens x) n) (h.0 ∷ scope_more (opens x) g) (suc i) h.2 d in
      omega (arith, k, more_length (opens x) g)) e
  good_occurs (KCall f ts vs) n g i h e =
      or_split (occurs_v i f) (occurs_vs i vs) (λ d. has_occurs f n g _ i h.1 d) (λ d. have_occurs vs n g _ i h.3 d) e
  good_occurs (KIf v t u) n g i h e =
      or_split (occurs_v i v) (occurs_t i t || occurs_t i u) (λ d. has_occurs v n g TKInt i h.0 d)
      (λ d. or_split (occurs_t i t) (occurs_t i u) (λ f. good_occurs t n g i h.1 f)
      (λ f. good_occurs u n g i h.2 f) d) e
  good_occurs (KHalt v) n g i h e = has_occurs v n g TKInt i h e

pub closed : (t : KTm) → KTyped 0 [] t → IsClosed t
closed t h = (λ i e. no i (good_occurs t 0 [] i h e), λ j e. no j (t_range t 0 [] j h e))
  where
    no : (i : ℕ) → i < 0 → ⊥
    no i lt = omega (arith, lt)
