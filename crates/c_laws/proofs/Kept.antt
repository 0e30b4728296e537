-- What a property of types must be for the conversion to keep it.
use Rattle.std.proofs.Common.{ℕ, zero, suc, ◌+◌, ◌≤◌, Bool, true, false, List, [], ◌∷◌, arith}
use Rattle.calc_core.specs.Ends.{lift, after_one}
use Rattle.k_terms.specs.K.{KTy, KTys, TKCode, NoKTys, MoreKTys, KTm, kren}
use Rattle.c_terms.specs.C.{CTy, CTys, TCVar, TCTuple, TCCode, NoCTys, MoreCTys}
use Rattle.c_terms.specs.Each.{CProp, CAll}
use Rattle.c_rules.specs.Close.{ctype, ctypes, rank, picked_tvars, pick_type, env_type}

-- each type of a scope, and each of a list
abbrev pub Have : (KTy → Type 0) → List KTy → Type 0
Have S [] = Unit {0}
Have S (t ∷ g) = S t × Have S g

abbrev pub HaveAll : (KTy → Type 0) → KTys → Type 0
HaveAll S NoKTys = Unit {0}
HaveAll S (MoreKTys t ts) = S t × HaveAll S ts

-- L is known of how many names are in scope before, and S of types; then M of how many are after, and Q of types there
pub record IsKept (L : ℕ → Type 0) (S : KTy → Type 0) (M : ℕ → Type 0) (Q : CProp) : Type 0 where
  pub fewer : (m n : ℕ) → n ≤ m → L m → L n
  pub more : (m n : ℕ) → n ≤ m + 1 → L m → M n
  pub ren : (t : KTy) (r : ℕ → ℕ) → S t → S (kren r t)
  pub args : (n : ℕ) (ts : KTys) → S (TKCode n ts) → HaveAll S ts
  pub type : (n : ℕ) (t : KTy) (r : ℕ → ℕ) → M n → S t → Q n (ctype r t)
  pub var : (n i : ℕ) → M n → Q n (TCVar i)
  pub env : (n : ℕ) (r : ℕ → ℕ) (args : KTys) (body : KTm) (g : List KTy) → M n → Have S g →
      Q n (env_type r args body g)
  -- a code's type whose parameters are the environment and the arguments, and its pair with an environment
  pub code : (n m o : ℕ) (r q : ℕ → ℕ) (args : KTys) (body : KTm) (g : List KTy) → M n → L m → S (TKCode o args) →
      Have S g → Q n (TCCode m (MoreCTys (env_type r args body g) (ctypes q args)))
  pub pair : (n m o : ℕ) (r r2 q : ℕ → ℕ) (args : KTys) (body : KTm) (g : List KTy) → M n → L m → S (TKCode o args) →
      Have S g → Q n
      (TCTuple (MoreCTys (TCCode m (MoreCTys (env_type r args body g) (ctypes q args)))
      (MoreCTys (env_type r2 args body g) NoCTys)))
  -- the same where a call has unpacked them
  pub called : (n m i : ℕ) (q : ℕ → ℕ) (args : KTys) → M n → S (TKCode m args) →
      Q n (TCCode m (MoreCTys (TCVar i) (ctypes q args)))
  pub called_pair : (n m i : ℕ) (q : ℕ → ℕ) (args : KTys) → M n → S (TKCode m args) →
      Q n (TCTuple (MoreCTys (TCCode m (MoreCTys (TCVar i) (ctypes q args))) (MoreCTys (TCVar 0) NoCTys)))

-- lists of types
pick_all : (P : CProp) (n : ℕ) (k : Bool) (t : CTy) (ts : CTys) → P n t → CAll P n ts → CAll P n (pick_type k t ts)
pick_all P n true t ts h q = (h, q)
pick_all P n false t ts h q = q

pub picked_tvars_all : (P : CProp) (n : ℕ) → ((i : ℕ) → P n (TCVar i)) →
    (keep : ℕ → Bool) (r : ℕ → ℕ) (m : ℕ) (acc : CTys) → CAll P n acc → CAll P n (picked_tvars keep r m acc)
picked_tvars_all P n f keep r zero acc h = h
picked_tvars_all P n f keep r (suc m) acc h =
    picked_tvars_all P n f (λ i. keep (suc i)) (λ i. r (suc i)) m _
    (pick_all P n (keep 0) (TCVar (r 0)) acc (f (r 0)) h)

after_le : (k : Bool) (a b : ℕ) → a ≤ b → after_one k a ≤ suc b
after_le true a b h = omega (arith, h)
after_le false a b h = omega (arith, h)

pub rank_le : (keep : ℕ → Bool) (n : ℕ) → rank keep n ≤ n
rank_le keep zero = omega arith
rank_le keep (suc n) = after_le (keep 0) _ n (rank_le (λ i. keep (suc i)) n)

pub lift_le : (m i n : ℕ) → i ≤ n → lift m i ≤ lift m n
lift_le zero i n h = h
lift_le (suc m) i n h = let r = lift_le m i n h in omega (arith, r)

pub lift_first : (m n : ℕ) → m ≤ lift m n
lift_first zero n = omega arith
lift_first (suc m) n = let r = lift_first m n in omega (arith, r)
