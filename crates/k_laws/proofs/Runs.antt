-- Runs with more calls.
use Rattle.std.proofs.Common.{◌≡◌, ◌≤◌, ℕ, zero, suc, ◌+◌, ◌⊎◌, inl, inr, Bool, true, false, ◌&&◌, nat_eq, refl, sym}
use Rattle.std.proofs.Common.{ap, subst, arith}
use Rattle.idx_core.specs.Arith.{is_zero}
use Rattle.calc_core.specs.Ends.{if_fits, pick, Spent, Result, stops, enters}
use Rattle.k_terms.specs.K.{KTm, KLet, KCall, KIf, KHalt, kcount, kv_next, kd_next, kt_next}
use Rattle.calc_core.specs.Words.{WInt, WTuple, WCode, WCell, MoreWords, size, onto, Made, Makes, Fails, with_value}
use Rattle.calc_core.specs.Words.{at_zero}
use Rattle.k_terms.specs.Meaning.{KNumbered, KCodeAt, KWord, KWords, kv_value, kvs_value, kd_value, KEnter, kopen}
use Rattle.k_terms.specs.Meaning.{kterm, kenter}
use Rattle.k_laws.specs.Count.{count}

-- within m calls, a term whose first code has the number b, from a store
abbrev pub run : ℕ → ℕ → KWords → KTm → KWords → Result
run m b env t st = kterm (kenter m) b t env st

-- what holds of a run and itself, of a run that had no calls and any, and under an entry, holds of a run and one with
-- more calls
module _ (Q : Result → Result → Type 0) (same : (r : Result) → Q r r) (none : (r : Result) → Q (stops Spent) r)
    (entering : (c : ℕ) (r r' : Result) → Q r r' → Q (enters c r) (enters c r')) where
  at_value : (o : Made KNumbered) (go go' : KWord → KWords → Result) →
      ((w : KWord) (st : KWords) → Q (go w st) (go' w st)) → Q (with_value o go) (with_value o go')
  at_value Fails go go' h = same _
  at_value (Makes w st) go go' h = h w st

  at_test : (w : KWord) (a a' b b' : Result) → Q a a' → Q b b' → Q (at_zero w a b) (at_zero w a' b')
  at_test (WInt n) a a' b b' h k = at_pick (is_zero n)
    where
      at_pick : (z : Bool) → Q (pick z a b) (pick z a' b')
      at_pick true = h
      at_pick false = k
  at_test (WTuple ws) a a' b b' h k = same _
  at_test (WCode c env) a a' b b' h k = same _
  at_test (WCell p) a a' b b' h k = same _

  at_fits : (b : Bool) (r r' : Result) → Q r r' → Q (if_fits b r) (if_fits b r')
  at_fits true r r' h = h
  at_fits false r r' h = same _

  abbrev OfEnter : KEnter → KEnter → Type 0
  OfEnter e e' = (c : ℕ) (body : KTm) (env st : KWords) → Q (e c body env st) (e' c body env st)

  at_open : (e e' : KEnter) → OfEnter e e' → (m : ℕ) (f : KWord) (args st : KWords) →
      Q (kopen e m f args st) (kopen e' m f args st)
  at_open e e' h m (WInt n) args st = same _
  at_open e e' h m (WTuple ws) args st = same _
  at_open e e' h m (WCell p) args st = same _
  at_open e e' h m (WCode (KCodeAt c owes takes body) env) args st =
      at_fits (nat_eq m owes && nat_eq (size args) (kcount takes)) _ _
      (h c body (onto args (MoreWords (WCode (KCodeAt c owes takes body) env) env)) st)

  at_run : (e e' : KEnter) → OfEnter e e' → (b : ℕ) (env st : KWords) (t : KTm) →
      Q (kterm e b t env st) (kterm e' b t env st)
  at_run e e' h b env st (KLet d rest) =
      at_value (kd_value b d env st) _ _ (λ w st2. at_run e e' h (kd_next b d) (MoreWords w env) st2 rest)
  at_run e e' h b env st (KCall f ts vs) =
      at_open e e' h (kcount ts) (kv_value b f env) (kvs_value (kv_next b f) vs env) st
  at_run e e' h b env st (KIf v a z) =
      at_test (kv_value b v env) _ _ _ _ (at_run e e' h (kv_next b v) env st a)
      (at_run e e' h (kt_next (kv_next b v) a) env st z)
  at_run e e' h b env st (KHalt v) = same _

  at_enter : (m : ℕ) → OfEnter (kenter m) (kenter (suc m))
  at_enter zero c body env st = none _
  at_enter (suc m) c body env st = entering c _ _ (at_run (kenter m) (kenter (suc m)) (at_enter m) (suc c) env st body)

  pub one_more : (m b : ℕ) (env : KWords) (t : KTm) (st : KWords) → Q (run m b env t st) (run (suc m) b env t st)
  one_more m b env t st = at_run (kenter m) (kenter (suc m)) (at_enter m) b env st t

abbrev pub IsOut : Result → Type 0
IsOut r = r.end ≡ Spent

-- the one is the other, or has run out of calls
abbrev pub Less : Result → Result → Type 0
Less r r' = (r ≡ r') ⊎ IsOut r

less_entering : (c : ℕ) (r r' : Result) → Less r r' → Less (enters c r) (enters c r')
less_entering c r r' (inl e) = inl (ap (enters c) e)
less_entering c r r' (inr o) = inr o

-- one more call changes no run that is over
pub less_more : (m b : ℕ) (env : KWords) (t : KTm) (st : KWords) → Less (run m b env t st) (run (suc m) b env t st)
less_more m b env t st = one_more Less (λ r. inl refl) (λ r. inr refl) less_entering m b env t st

-- and only adds to what was entered
pub fewer_more : (c m b : ℕ) (env : KWords) (t : KTm) (st : KWords) →
    count c (run m b env t st).entered ≤ count c (run (suc m) b env t st).entered
fewer_more c m b env t st =
    one_more (λ r r'. count c r.entered ≤ count c r'.entered) (λ r. omega arith) (λ r. omega arith)
    (λ d r r' h. omega (arith, h)) m b env t st

pub out_before : (r r' : Result) → Less r r' → IsOut r' → IsOut r
out_before r r' (inl e) h = subst IsOut (sym e) h
out_before r r' (inr o) h = o

less_trans : (a b c : Result) → Less a b → Less b c → Less a c
less_trans a b c (inr o) k = inr o
less_trans a b c (inl e) k = subst (λ r. Less r c) (sym e) k

-- any number of calls more
pub less_by : (m k b : ℕ) (env : KWords) (t : KTm) (st : KWords) → Less (run m b env t st) (run (k + m) b env t st)
less_by m zero b env t st = let e : m ≡ 0 + m = omega arith in inl (ap (λ j. run j b env t st) e)
less_by m (suc k) b env t st =
    let e : suc (k + m) ≡ suc k + m = omega arith in
    less_trans _ _ _ (less_by m k b env t st)
    (subst (λ j. Less (run (k + m) b env t st) (run j b env t st)) e (less_more (k + m) b env t st))

pub fewer_by : (c m k b : ℕ) (env : KWords) (t : KTm) (st : KWords) →
    count c (run m b env t st).entered ≤ count c (run (k + m) b env t st).entered
fewer_by c m zero b env t st =
    let e : m ≡ 0 + m = omega arith in
    subst (λ j. count c (run m b env t st).entered ≤ count c (run j b env t st).entered) e (omega arith)
fewer_by c m (suc k) b env t st =
    let e : suc (k + m) ≡ suc k + m = omega arith in
    let x = fewer_by c m k b env t st in
    let y = subst (λ j. count c (run (k + m) b env t st).entered ≤ count c (run j b env t st).entered) e
    (fewer_more c (k + m) b env t st) in
    omega (arith, x, y)
