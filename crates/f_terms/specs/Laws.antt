-- Laws of the source calculus.
use Rattle.std.specs.Prelude.{◌≡◌, ℕ, ℤ, ◌+◌, ◌≤◌, ◌⊎◌, ◌↔◌, Option}
use Rattle.f_terms.specs.Ty.{Ty, TAll, Tys, NoTys, MoreTys, shift, put}
use Rattle.f_terms.specs.Tm.{Spn, Tm, Term, plain}
use Rattle.f_terms.specs.Limits.{Within}
use Rattle.f_terms.specs.Scope.{IsClosed}
use Rattle.f_terms.specs.Typing.{HasType, IsProgram}
use Rattle.f_terms.specs.Mismatch.{Mismatch}
use Rattle.f_terms.specs.Faults.{Passes, FaultWith, Fault}
use Rattle.f_terms.specs.Accepted.{KeepsLimits}
use Rattle.f_terms.specs.Eval.{Val, Vals, Gives, cells, eval, eval_by, turn, Evaluates, IsSpent}
use Rattle.f_terms.specs.Replaced.{replaced, values_replaced, result_replaced}
use Rattle.f_terms.specs.declared.fault.Code.{Code}

-- two puts exchange, the one put into the other
abbrev pub PutsExchange : Type 0
PutsExchange = (i j : ℕ) (u v t : Ty) → i ≤ j → put j v (put i u t) ≡ put i (put j v u) (put (j + 1) (shift 1 i v) t)

-- a put under a binder is a put of the type shifted once, for the next index
abbrev pub PutUnderABinder : Type 0
PutUnderABinder = (c : ℕ) (s t : Ty) → put c s (TAll t) ≡ TAll (put (c + 1) (shift 1 0 s) t)

-- a term has at most one type
abbrev pub OneType : Type 0
OneType = (e : Term) (n : ℕ) (g : Tys) (t u : Ty) → HasType e n g t → HasType e n g u → t ≡ u

-- each type of a context keeps the limits
abbrev pub AllWithin : Tys → Type 0
AllWithin NoTys = Unit {0}
AllWithin (MoreTys t g) = Within t × AllWithin g

-- every check holds exactly where the term has the type and the limits are kept
abbrev pub PassesWhereTyped : Type 0
PassesWhereTyped = (e : Tm) (n : ℕ) (g : Tys) (t : Ty) → AllWithin g →
    (Passes e n g t ↔ HasType (plain e) n g t × KeepsLimits (plain e) n g)

-- what passes has no first fault
abbrev pub NoFaultBesideAPass : Type 0
NoFaultBesideAPass = (e : Tm) (n : ℕ) (g : Tys) (t : Ty) (c : Code) (p : Spn) → Passes e n g t → Fault e n g c p → ⊥

-- a closed term passes every check, or has a first fault
abbrev pub PassOrFault : Type 0
PassOrFault = (e : Tm) → IsClosed (plain e) →
    ((t : Ty) × Passes e 0 NoTys t) ⊎ ((c : Code) × (p : Spn) × Fault e 0 NoTys c p)

-- two first faults are equal, in code and place
abbrev pub OneFault : Type 0
OneFault = (e : Tm) (n : ℕ) (g : Tys) (c d : Code) (p q : Spn) → Fault e n g c p → Fault e n g d q → (c ≡ d) × (p ≡ q)

-- and so is what is at odds in them
abbrev pub OneMismatch : Type 0
OneMismatch = (e : Tm) (n : ℕ) (g : Tys) (c d : Code) (p q : Spn) (m k : Option Mismatch) →
    FaultWith e n g c p m → FaultWith e n g d q k → m ≡ k

-- the rules of evaluation with no bound on the depth: those of `eval_by`, where a body is entered by `turn`
abbrev pub KeepsRules : Type 0
KeepsRules = (n : ℕ) (st env : Vals) (e : Term) → eval n st env e ≡ eval_by turn env e n st

-- more turns: the same value and store, and so many more turns left
abbrev pub MoreTurnsKeepTheValue : Type 0
MoreTurnsKeepTheValue = (n more left : ℕ) (st env : Vals) (e : Term) (v : Val) (after : Vals) →
    eval n st env e ≡ Gives v left after → eval (n + more) st env e ≡ Gives v (left + more) after

-- no more turns are left than were allowed
abbrev pub LeavesAtMost : Type 0
LeavesAtMost = (n left : ℕ) (st env : Vals) (e : Term) (v : Val) (after : Vals) → eval n st env e ≡ Gives v left after →
    left ≤ n

-- a store only grows
abbrev pub StoreGrows : Type 0
StoreGrows = (n left : ℕ) (st env : Vals) (e : Term) (v : Val) (after : Vals) → eval n st env e ≡ Gives v left after →
    cells st ≤ cells after

-- within any numbers of turns, one integer
abbrev pub OneAnswer : Type 0
OneAnswer = (e : Term) (n m : ℕ) (i j : ℤ) → Evaluates e n i → Evaluates e m j → i ≡ j

-- a program evaluates to an integer, or is spent: no rule is ever missing
abbrev pub NeverStuck : Type 0
NeverStuck = (e : Term) → IsProgram e → (n : ℕ) → ((i : ℤ) × Evaluates e n i) ⊎ IsSpent e n

-- packages don't show in an evaluation: that of the term with each pack replaced by its part and each open by a let is
-- spent at the same turns, and else gives the same value, turns left and store, with the same replaced in their bodies
abbrev pub PackagesDoNotShow : Type 0
PackagesDoNotShow = (n : ℕ) (st env : Vals) (e : Term) →
    eval n (values_replaced st) (values_replaced env) (replaced e) ≡ result_replaced (eval n st env e)
