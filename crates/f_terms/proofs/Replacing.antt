-- Packages don't show in an evaluation.
use Rattle.std.proofs.Common.{◌≡◌, ℕ, zero, suc, Bool, true, false, cond, refl, ap, ap₂, ◌∙◌}
use Rattle.idx_core.specs.declared.arith.Op.{Op}
use Rattle.idx_core.specs.Arith.{is_zero}
use Rattle.f_terms.specs.Tm.{Term, MVar, MNum, MFix, MApp, MGen, MInst, MTuple, MProj, MArith, MIf0, MLet, MPack}
use Rattle.f_terms.specs.Tm.{MOpen, MRef, MDeref, MAssign, Terms, NoTerms, MoreTerms}
use Rattle.f_terms.specs.Eval.{Val, VInt, VTup, VFun, VSus, VCell, Vals, Empty, And, Result, Gives, Spent, Stuck}
use Rattle.f_terms.specs.Eval.{Results, GiveAll, SpentAll, StuckAll, then_eval, then_all, all_then, as_tuple, value_at}
use Rattle.f_terms.specs.Eval.{given, project, cells, one_more, hold, fresh, fetch, assign, Enter, apply, inst}
use Rattle.f_terms.specs.Eval.{operate, choose, eval_by, eval_all, enter_by}
use Rattle.f_terms.specs.Laws.{PackagesDoNotShow}
use Rattle.f_terms.specs.Replaced.{replaced, replaced_all, value_replaced, values_replaced, result_replaced}

abbrev results_replaced : Results → Results
results_replaced (GiveAll vs left st) = GiveAll (values_replaced vs) left (values_replaced st)
results_replaced SpentAll = SpentAll
results_replaced StuckAll = StuckAll

then_same : (r r' : Result) (go go' : Val → ℕ → Vals → Result) → r' ≡ result_replaced r →
    ((v : Val) (n : ℕ) (st : Vals) → go' (value_replaced v) n (values_replaced st) ≡ result_replaced (go v n st)) →
    then_eval r' go' ≡ result_replaced (then_eval r go)
then_same (Gives v n st) r' go go' e f = ap (λ x. then_eval x go') e ∙ f v n st
then_same Spent r' go go' e f = ap (λ x. then_eval x go') e
then_same Stuck r' go go' e f = ap (λ x. then_eval x go') e

then_all_same : (r r' : Result) (go go' : Val → ℕ → Vals → Results) → r' ≡ result_replaced r →
    ((v : Val) (n : ℕ) (st : Vals) → go' (value_replaced v) n (values_replaced st) ≡ results_replaced (go v n st)) →
    then_all r' go' ≡ results_replaced (then_all r go)
then_all_same (Gives v n st) r' go go' e f = ap (λ x. then_all x go') e ∙ f v n st
then_all_same Spent r' go go' e f = ap (λ x. then_all x go') e
then_all_same Stuck r' go go' e f = ap (λ x. then_all x go') e

and_same : (v : Val) (r r' : Results) → r' ≡ results_replaced r →
    all_then r' (λ vs n st. GiveAll (And (value_replaced v) vs) n st)
    ≡ results_replaced (all_then r (λ vs n st. GiveAll (And v vs) n st))
and_same v (GiveAll vs n st) r' e = ap (λ x. all_then x (λ vs n st. GiveAll (And (value_replaced v) vs) n st)) e
and_same v SpentAll r' e = ap (λ x. all_then x (λ vs n st. GiveAll (And (value_replaced v) vs) n st)) e
and_same v StuckAll r' e = ap (λ x. all_then x (λ vs n st. GiveAll (And (value_replaced v) vs) n st)) e

tuple_same : (r r' : Results) → r' ≡ results_replaced r → as_tuple r' ≡ result_replaced (as_tuple r)
tuple_same (GiveAll vs n st) r' e = ap as_tuple e
tuple_same SpentAll r' e = ap as_tuple e
tuple_same StuckAll r' e = ap as_tuple e

at_same : (vs : Vals) (i n : ℕ) (st : Vals) → given (value_at (values_replaced vs) i) n (values_replaced st)
    ≡ result_replaced (given (value_at vs i) n st)
at_same Empty i n st = refl
at_same (And v vs) zero n st = refl
at_same (And v vs) (suc i) n st = at_same vs i n st

project_same : (i : ℕ) (v : Val) (n : ℕ) (st : Vals) → project i (value_replaced v) n (values_replaced st)
    ≡ result_replaced (project i v n st)
project_same zero (VInt j) n st = refl
project_same (suc i) (VInt j) n st = refl
project_same zero (VTup vs) n st = refl
project_same (suc i) (VTup vs) n st = at_same vs i n st
project_same zero (VFun env body) n st = refl
project_same (suc i) (VFun env body) n st = refl
project_same zero (VSus env body) n st = refl
project_same (suc i) (VSus env body) n st = refl
project_same zero (VCell a) n st = refl
project_same (suc i) (VCell a) n st = refl

operate_same : (op : Op) (v w : Val) (n : ℕ) (st : Vals) →
    operate op (value_replaced v) (value_replaced w) n (values_replaced st) ≡ result_replaced (operate op v w n st)
operate_same op (VInt i) (VInt j) n st = refl
operate_same op (VInt i) (VTup vs) n st = refl
operate_same op (VInt i) (VFun env body) n st = refl
operate_same op (VInt i) (VSus env body) n st = refl
operate_same op (VInt i) (VCell a) n st = refl
operate_same op (VTup vs) w n st = refl
operate_same op (VFun env body) w n st = refl
operate_same op (VSus env body) w n st = refl
operate_same op (VCell a) w n st = refl

choose_same : (v : Val) (a b a' b' : Result) → a' ≡ result_replaced a → b' ≡ result_replaced b →
    choose (value_replaced v) a' b' ≡ result_replaced (choose v a b)
choose_same (VInt i) a b a' b' e f = pick (is_zero i)
  where
    pick : (z : Bool) → (cond z a' b') ≡ result_replaced (cond z a b)
    pick true = e
    pick false = f
choose_same (VTup vs) a b a' b' e f = refl
choose_same (VFun env body) a b a' b' e f = refl
choose_same (VSus env body) a b a' b' e f = refl
choose_same (VCell c) a b a' b' e f = refl

-- stores
count_same : (st : Vals) → cells (values_replaced st) ≡ cells st
count_same Empty = refl
count_same (And v vs) = ap suc (count_same vs)

last_same : (st : Vals) (w : Val) → one_more (values_replaced st) (value_replaced w) ≡ values_replaced (one_more st w)
last_same Empty w = refl
last_same (And v vs) w = ap (And (value_replaced v)) (last_same vs w)

hold_same : (i : ℕ) (st : Vals) (w : Val) →
    hold i (value_replaced w) (values_replaced st) ≡ values_replaced (hold i w st)
hold_same i Empty w = refl
hold_same zero (And v vs) w = refl
hold_same (suc i) (And v vs) w = ap (And (value_replaced v)) (hold_same i vs w)

fresh_same : (v : Val) (n : ℕ) (st : Vals) →
    fresh (value_replaced v) n (values_replaced st) ≡ result_replaced (fresh v n st)
fresh_same v n st = ap₂ (λ c x. Gives (VCell c) n x) (count_same st) (last_same st v)

fetch_same : (v : Val) (n : ℕ) (st : Vals) →
    fetch (value_replaced v) n (values_replaced st) ≡ result_replaced (fetch v n st)
fetch_same (VInt i) n st = refl
fetch_same (VTup vs) n st = refl
fetch_same (VFun env body) n st = refl
fetch_same (VSus env body) n st = refl
fetch_same (VCell a) n st = at_same st a n st

assign_same : (v w : Val) (n : ℕ) (st : Vals) → assign (value_replaced v) (value_replaced w) n (values_replaced st)
    ≡ result_replaced (assign v w n st)
assign_same (VInt i) w n st = refl
assign_same (VTup vs) w n st = refl
assign_same (VFun env body) w n st = refl
assign_same (VSus env body) w n st = refl
assign_same (VCell a) w n st =
    then_same _ _ _ _ (at_same st a n st) (λ old n1 s1. ap (Gives (VTup Empty) n1) (hold_same a s1 w))

abbrev SameEnter : Enter → Type 0
SameEnter enter = (env : Vals) (body : Term) (n : ℕ) (st : Vals) →
    enter (values_replaced env) (replaced body) n (values_replaced st) ≡ result_replaced (enter env body n st)

apply_same : (enter : Enter) → SameEnter enter → (v w : Val) (n : ℕ) (st : Vals) →
    apply enter (value_replaced v) (value_replaced w) n (values_replaced st) ≡ result_replaced (apply enter v w n st)
apply_same enter s (VInt i) w n st = refl
apply_same enter s (VTup vs) w n st = refl
apply_same enter s (VFun env body) w n st = s (And w (And (VFun env body) env)) body n st
apply_same enter s (VSus env body) w n st = refl
apply_same enter s (VCell a) w n st = refl

inst_same : (enter : Enter) → SameEnter enter → (v : Val) (n : ℕ) (st : Vals) →
    inst enter (value_replaced v) n (values_replaced st) ≡ result_replaced (inst enter v n st)
inst_same enter s (VInt i) n st = refl
inst_same enter s (VTup vs) n st = refl
inst_same enter s (VFun env body) n st = refl
inst_same enter s (VSus env body) n st = s env body n st
inst_same enter s (VCell a) n st = refl

module _ (enter : Enter) (s : SameEnter enter) where
  mutual
    same : (e : Term) (env : Vals) (n : ℕ) (st : Vals) →
        eval_by enter (values_replaced env) (replaced e) n (values_replaced st)
        ≡ result_replaced (eval_by enter env e n st)
    same (MVar i) env n st = at_same env i n st
    same (MNum i) env n st = refl
    same (MFix arg res body) env n st = refl
    same (MApp f x) env n st =
        then_same _ _ _ _ (same f env n st)
        (λ v n1 s1. then_same _ _ _ _ (same x env n1 s1) (λ w n2 s2. apply_same enter s v w n2 s2))
    same (MGen body) env n st = refl
    same (MInst e t) env n st = then_same _ _ _ _ (same e env n st) (λ v n1 s1. inst_same enter s v n1 s1)
    same (MTuple es) env n st = tuple_same _ _ (sames es env n st)
    same (MProj i e) env n st = then_same _ _ _ _ (same e env n st) (λ v n1 s1. project_same i v n1 s1)
    same (MArith op a b) env n st =
        then_same _ _ _ _ (same a env n st)
        (λ v n1 s1. then_same _ _ _ _ (same b env n1 s1) (λ w n2 s2. operate_same op v w n2 s2))
    same (MIf0 c a b) env n st =
        then_same _ _ _ _ (same c env n st) (λ v n1 s1. choose_same v _ _ _ _ (same a env n1 s1) (same b env n1 s1))
    same (MLet a b) env n st = then_same _ _ _ _ (same a env n st) (λ v n1 s1. same b (And v env) n1 s1)
    same (MPack h e t) env n st = same e env n st
    same (MOpen a b) env n st = then_same _ _ _ _ (same a env n st) (λ v n1 s1. same b (And v env) n1 s1)
    same (MRef e) env n st = then_same _ _ _ _ (same e env n st) (λ v n1 s1. fresh_same v n1 s1)
    same (MDeref e) env n st = then_same _ _ _ _ (same e env n st) (λ v n1 s1. fetch_same v n1 s1)
    same (MAssign a b) env n st =
        then_same _ _ _ _ (same a env n st)
        (λ v n1 s1. then_same _ _ _ _ (same b env n1 s1) (λ w n2 s2. assign_same v w n2 s2))

    sames : (es : Terms) (env : Vals) (n : ℕ) (st : Vals) →
        eval_all enter (values_replaced env) (replaced_all es) n (values_replaced st)
        ≡ results_replaced (eval_all enter env es n st)
    sames NoTerms env n st = refl
    sames (MoreTerms e es) env n st =
        then_all_same _ _ _ _ (same e env n st) (λ v n1 s1. and_same v _ _ (sames es env n1 s1))

enters : (d : ℕ) → SameEnter (enter_by d)
enters zero env body zero st = refl
enters (suc d) env body zero st = refl
enters zero env body (suc n) st = refl
enters (suc d) env body (suc n) st = same (enter_by d) (enters d) body env n st

pub replaced_kept : PackagesDoNotShow
replaced_kept n st env e = same (enter_by n) (enters n) e env n st
