-- The words of the allocated calculus and those of the machine; registers that hold values.
use Rattle.std.proofs.Common.{◌≡◌, ℕ, zero, suc, ◌+◌, ◌<◌, List, [], ◌∷◌, length, map, Option, Some, None, refl}
use Rattle.std.proofs.Common.{sym, ap, ◌∙◌, arith, cond, slice_get}
use Rattle.std.proofs.lemmas.Bool.{eq-eqb, ne_eqb, eqb-true, cond_both, and_parts}
use Rattle.std.proofs.lemmas.Option.{slice_get_within}
use Rattle.std.specs.Prelude.{◌≢◌, ◌==◌, ◌&&◌, option_map, replicate, Bool, true}
use Rattle.a_terms.specs.Tree.{ATy, ATys, NoATys, MoreATys, AVal, Var, AProg}
use Rattle.a_terms.specs.Meaning.{AWord, ZInt, ZTuple, ZLabel, AHeap, empties, value}
use Rattle.t_terms.specs.Tree.{TBlock}
use Rattle.t_terms.specs.Registers.{with_reg}
use Rattle.t_rules.specs.Erase.{EWord, EInt, EAddress, ELabel, EEmpty, EHeap, ERegs}
use Rattle.t_gen_rules.specs.Gen.{tys, place}
use Rattle.t_gen_laws.specs.Rules.{Held, holding, Stay, Scope}
use Rattle.t_rules.proofs.Settled.{there}

-- where a term stands, part by part
abbrev pub scope : List TBlock → AProg → ℕ → List ℕ → List ATy → Scope
scope P p k m g = record { blocks = P; program = p; owes = k; regs = m; types = g }

abbrev pub word : AWord → EWord
word (ZInt i) = EInt i
word (ZTuple a) = EAddress a
word (ZLabel l) = ELabel (suc l)

abbrev pub slot : Option AWord → EWord
slot None = EEmpty
slot (Some w) = word w

abbrev pub tuple : List (Option AWord) → List EWord
tuple fs = map slot fs

abbrev pub heap : AHeap → EHeap
heap h = map tuple h

pub tuple_empties : (ts : ATys) → tuple (empties ts) ≡ replicate (length (tys ts)) EEmpty
tuple_empties NoATys = refl
tuple_empties (MoreATys t ts) = ap (λ l. EEmpty ∷ l) (tuple_empties ts)

-- a register that is written, and another one
pub get_same : {A : Type 0} (c : ℕ → Option A) (r : ℕ) (x : A) → with_reg c r x r ≡ Some x
get_same c r x = ap (λ b. cond b (Some x) (c r)) (eq-eqb r r refl)

pub get_other : {A : Type 0} (c : ℕ → Option A) (r q : ℕ) (x : A) → q ≢ r → with_reg c r x q ≡ c q
get_other c r q x ne = ap (λ b. cond b (Some x) (c q)) (ne_eqb r q (λ e. absurd (ne (omega arith))))

-- the values of the variables that are used, each in its register
abbrev pub Agree : ERegs → List ℕ → List AWord → (ℕ → Bool) → Type 0
Agree ρ m env u = (n : ℕ) (w : AWord) → u n ≡ true → slice_get env n ≡ Some w → ρ (place m n) ≡ Some (word w)

-- fewer variables
pub agree_fewer : (ρ : ERegs) (m : List ℕ) (env : List AWord) (u v : ℕ → Bool) →
    ((n : ℕ) → v n ≡ true → u n ≡ true) → Agree ρ m env u → Agree ρ m env v
agree_fewer ρ m env u v k a = λ n w y x. a n w (k n y) x

-- each register that holds a value has its word
abbrev pub Fits : ERegs → Held → List AWord → Type 0
Fits ρ c env = (r : ℕ) (v : AVal) → c r ≡ Some v → (w : AWord) × (value env v ≡ Some w) × (ρ r ≡ Some (word w))

none_some : {A : Type 0} (x : A) → None ≡ Some x → ⊥
none_some x e = cc

-- what holds a variable is its register
held_var : (m : List ℕ) (i : ℕ) (u : ℕ → Bool) (r : ℕ) (v : AVal) → holding i m u r ≡ Some v →
    (n : ℕ) × (u n ≡ true) × (n < length m) × (place m n ≡ r) × (v ≡ Var (i + n))
held_var [] i u r v e = absurd (none_some v e)
held_var (q ∷ m) i u r v h = cond_both (u 0 && q == r) (Some (Var i)) (holding (suc i) m (λ n. u (suc n)) r)
    (λ o. o ≡ Some v → (n : ℕ) × (u n ≡ true) × (n < suc (length m)) × (place (q ∷ m) n ≡ r) × (v ≡ Var (i + n)))
    (λ c e.
    let p = and_parts (u 0) (q == r) c in
    let same : Var i ≡ v = cc in
    let z : i ≡ i + 0 = omega arith in
    (0, p.0, omega arith, eqb-true q r p.1, sym same ∙ ap Var z))
    (λ c e.
    let x = held_var m (suc i) (λ n. u (suc n)) r v e in
    let z : suc i + x.0 ≡ i + suc x.0 = omega arith in
    (suc x.0, x.1, omega (arith, x.2), x.3, x.4 ∙ ap Var z)) h

pub fits_start : (ρ : ERegs) (m : List ℕ) (env : List AWord) (u : ℕ → Bool) → length m ≡ length env →
    Agree ρ m env u → Fits ρ (holding 0 m u) env
fits_start ρ m env u long a r v e =
    let x = held_var m 0 u r v e in
    let w = there env x.0 (omega (arith, x.2, long)) in
    let z : 0 + x.0 ≡ x.0 = omega arith in
    let is : value env v ≡ Some w.0 = ap (value env) (x.4 ∙ ap Var z) ∙ w.1 in
    (w.0, is, ap ρ (sym x.3) ∙ a x.0 w.0 x.1 w.1)

-- one more variable, in register r
pub agree_next : (ρ σ : ERegs) (c : Held) (m : List ℕ) (env : List AWord) (v : ℕ → Bool) (r : ℕ) (w : AWord) →
    length m ≡ length env → Fits ρ c env → Stay m (λ n. v (suc n)) c → σ r ≡ Some (word w) →
    ((n : ℕ) → v (suc n) ≡ true → n < length m → σ (place m n) ≡ ρ (place m n)) → Agree σ (r ∷ m) (w ∷ env) v
agree_next ρ σ c m env v r w long fits stay here kept = go
  where
    go : (n : ℕ) (x : AWord) → v n ≡ true → slice_get (w ∷ env) n ≡ Some x →
        σ (place (r ∷ m) n) ≡ Some (word x)
    go zero x y e = here ∙ ap (option_map word) e
    go (suc n) x y e =
        let lt = slice_get_within env n x e in
        let inside : n < length m = omega (arith, lt, long) in
        let f = fits (place m n) (Var n) (stay n y inside) in
        kept n y inside ∙ f.2 ∙ ap (option_map word) (sym f.1 ∙ e)

-- the variables that stay have their words
pub agree_stay : (ρ : ERegs) (c : Held) (m : List ℕ) (env : List AWord) (u : ℕ → Bool) → length m ≡ length env →
    Fits ρ c env → Stay m u c → Agree ρ m env u
agree_stay ρ c m env u long fits stay n x y e =
    let lt = slice_get_within env n x e in
    let f = fits (place m n) (Var n) (stay n y (omega (arith, lt, long))) in
    f.2 ∙ ap (option_map word) (sym f.1 ∙ e)
