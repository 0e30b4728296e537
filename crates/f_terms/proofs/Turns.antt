-- How deep bodies are entered does not matter, more turns change no value, no cell is lost, and there is one answer.
use Rattle.std.proofs.Common.{◌≡◌, ℕ, ℤ, zero, suc, ◌+◌, ◌≤◌, Option, Some, None, Bool, true, false, cond, refl, sym}
use Rattle.std.proofs.Common.{ap, ◌∙◌, subst, arith}
use Rattle.idx_core.specs.declared.arith.Op.{Op}
use Rattle.idx_core.specs.Arith.{is_zero}
use Rattle.f_terms.specs.Tm.{Term, MVar, MNum, MFix, MApp, MGen, MInst, MTuple, MProj, MArith, MIf0, MLet, MPack}
use Rattle.f_terms.specs.Tm.{MOpen, MRef, MDeref, MAssign, Terms, NoTerms, MoreTerms}
use Rattle.f_terms.specs.Eval.{Val, VInt, VTup, VFun, VSus, VCell, Vals, Empty, And, Result, Gives, Spent, Stuck}
use Rattle.f_terms.specs.Eval.{Results, GiveAll, SpentAll, StuckAll, then_eval, then_all, all_then, as_tuple, value_at}
use Rattle.f_terms.specs.Eval.{given, project, cells, one_more, hold, fresh, fetch, assign, Enter, apply, inst}
use Rattle.f_terms.specs.Eval.{operate, choose, eval_by, eval_all, enter_by, eval, turn}
use Rattle.f_terms.specs.Laws.{KeepsRules, MoreTurnsKeepTheValue, LeavesAtMost, StoreGrows, OneAnswer}

-- the turns left are at most n, and the store has at least c cells
abbrev Bounded : ℕ → ℕ → Result → Type 0
Bounded n c (Gives v m st) = (m ≤ n) × (c ≤ cells st)
Bounded n c Spent = Unit {0}
Bounded n c Stuck = Unit {0}

abbrev AllBounded : ℕ → ℕ → Results → Type 0
AllBounded n c (GiveAll v m st) = (m ≤ n) × (c ≤ cells st)
AllBounded n c SpentAll = Unit {0}
AllBounded n c StuckAll = Unit {0}

looser : (n m c d : ℕ) (r : Result) → m ≤ n → c ≤ d → Bounded m d r → Bounded n c r
looser n m c d (Gives v k st) le le' h = (omega (arith, le, h.0), omega (arith, le', h.1))
looser n m c d Spent le le' h = tt
looser n m c d Stuck le le' h = tt

abbrev Agree : ℕ → ℕ → Result → Result → Type 0
Agree n c r r' = (r ≡ r') × Bounded n c r

abbrev AgreeAll : ℕ → ℕ → Results → Results → Type 0
AgreeAll n c r r' = (r ≡ r') × AllBounded n c r

agree_less : (n m c d : ℕ) (r r' : Result) → m ≤ n → c ≤ d → Agree m d r r' → Agree n c r r'
agree_less n m c d r r' le le' h = (h.0, looser n m c d r le le' h.1)

agree_all_less : (n m c d : ℕ) (r r' : Results) → m ≤ n → c ≤ d → AgreeAll m d r r' → AgreeAll n c r r'
agree_all_less n m c d (GiveAll vs k st) r' le le' h = (h.0, (omega (arith, le, h.1.0), omega (arith, le', h.1.1)))
agree_all_less n m c d SpentAll r' le le' h = (h.0, tt)
agree_all_less n m c d StuckAll r' le le' h = (h.0, tt)

agree_then : (n c : ℕ) (r r' : Result) (go go' : Val → ℕ → Vals → Result) → Agree n c r r' →
    ((v : Val) (m : ℕ) (st : Vals) → m ≤ n → c ≤ cells st → Agree m (cells st) (go v m st) (go' v m st)) →
    Agree n c (then_eval r go) (then_eval r' go')
agree_then n c (Gives v m st) r' go go' h f =
    let g = f v m st h.1.0 h.1.1 in
    (g.0 ∙ ap (λ r. then_eval r go') h.0, looser n m c (cells st) (go v m st) h.1.0 h.1.1 g.1)
agree_then n c Spent r' go go' h f = (ap (λ r. then_eval r go') h.0, tt)
agree_then n c Stuck r' go go' h f = (ap (λ r. then_eval r go') h.0, tt)

agree_then_all : (n c : ℕ) (r r' : Result) (go go' : Val → ℕ → Vals → Results) → Agree n c r r' →
    ((v : Val) (m : ℕ) (st : Vals) → m ≤ n → c ≤ cells st → AgreeAll m (cells st) (go v m st) (go' v m st)) →
    AgreeAll n c (then_all r go) (then_all r' go')
agree_then_all n c (Gives v m st) r' go go' h f =
    let g = agree_all_less n m c (cells st) (go v m st) (go' v m st) h.1.0 h.1.1 (f v m st h.1.0 h.1.1) in
    (g.0 ∙ ap (λ r. then_all r go') h.0, g.1)
agree_then_all n c Spent r' go go' h f = (ap (λ r. then_all r go') h.0, tt)
agree_then_all n c Stuck r' go go' h f = (ap (λ r. then_all r go') h.0, tt)

agree_cons : (n c : ℕ) (v : Val) (r r' : Results) → AgreeAll n c r r' →
    AgreeAll n c (all_then r (λ vs m st. GiveAll (And v vs) m st)) (all_then r' (λ vs m st. GiveAll (And v vs) m st))
agree_cons n c v (GiveAll vs m st) r' h = (ap (λ r. all_then r (λ vs m st. GiveAll (And v vs) m st)) h.0, h.1)
agree_cons n c v SpentAll r' h = (ap (λ r. all_then r (λ vs m st. GiveAll (And v vs) m st)) h.0, tt)
agree_cons n c v StuckAll r' h = (ap (λ r. all_then r (λ vs m st. GiveAll (And v vs) m st)) h.0, tt)

agree_tuple : (n c : ℕ) (r r' : Results) → AgreeAll n c r r' → Agree n c (as_tuple r) (as_tuple r')
agree_tuple n c (GiveAll vs m st) r' h = (ap as_tuple h.0, h.1)
agree_tuple n c SpentAll r' h = (ap as_tuple h.0, tt)
agree_tuple n c StuckAll r' h = (ap as_tuple h.0, tt)

agree_self : (n c : ℕ) (r : Result) → Bounded n c r → Agree n c r r
agree_self n c r h = (refl, h)

given_most : (o : Option Val) (n : ℕ) (st : Vals) → Bounded n (cells st) (given o n st)
given_most None n st = tt
given_most (Some v) n st = (omega arith, omega arith)

project_most : (i : ℕ) (v : Val) (n : ℕ) (st : Vals) → Bounded n (cells st) (project i v n st)
project_most zero (VInt j) n st = tt
project_most (suc i) (VInt j) n st = tt
project_most zero (VTup vs) n st = tt
project_most (suc i) (VTup vs) n st = given_most (value_at vs i) n st
project_most zero (VFun env e) n st = tt
project_most (suc i) (VFun env e) n st = tt
project_most zero (VSus env e) n st = tt
project_most (suc i) (VSus env e) n st = tt
project_most zero (VCell p) n st = tt
project_most (suc i) (VCell p) n st = tt

operate_most : (op : Op) (v w : Val) (n : ℕ) (st : Vals) → Bounded n (cells st) (operate op v w n st)
operate_most op (VInt i) (VInt j) n st = (omega arith, omega arith)
operate_most op (VInt i) (VTup vs) n st = tt
operate_most op (VInt i) (VFun env e) n st = tt
operate_most op (VInt i) (VSus env e) n st = tt
operate_most op (VInt i) (VCell p) n st = tt
operate_most op (VTup vs) w n st = tt
operate_most op (VFun env e) w n st = tt
operate_most op (VSus env e) w n st = tt
operate_most op (VCell p) w n st = tt

-- stores
more_cells : (st : Vals) (v : Val) → cells (one_more st v) ≡ suc (cells st)
more_cells Empty v = refl
more_cells (And w st) v = ap suc (more_cells st v)

same_cells : (p : ℕ) (v : Val) (st : Vals) → cells (hold p v st) ≡ cells st
same_cells p v Empty = refl
same_cells zero v (And w st) = refl
same_cells (suc p) v (And w st) = ap suc (same_cells p v st)

fresh_most : (v : Val) (n : ℕ) (st : Vals) → Bounded n (cells st) (fresh v n st)
fresh_most v n st = (omega arith, omega (arith, more_cells st v))

fetch_most : (v : Val) (n : ℕ) (st : Vals) → Bounded n (cells st) (fetch v n st)
fetch_most (VInt i) n st = tt
fetch_most (VTup vs) n st = tt
fetch_most (VFun env e) n st = tt
fetch_most (VSus env e) n st = tt
fetch_most (VCell p) n st = given_most (value_at st p) n st

put_most : (o : Option Val) (p : ℕ) (w : Val) (n : ℕ) (st : Vals) → Bounded n (cells st)
    (then_eval (given o n st) (λ old n1 s1. Gives (VTup Empty) n1 (hold p w s1)))
put_most None p w n st = tt
put_most (Some v) p w n st = (omega arith, omega (arith, same_cells p w st))

assign_most : (v w : Val) (n : ℕ) (st : Vals) → Bounded n (cells st) (assign v w n st)
assign_most (VInt i) w n st = tt
assign_most (VTup vs) w n st = tt
assign_most (VFun env e) w n st = tt
assign_most (VSus env e) w n st = tt
assign_most (VCell p) w n st = put_most (value_at st p) p w n st

record Alike (n : ℕ) (enter enter' : Enter) : Type 0 where
  alike : (env : Vals) (body : Term) (m : ℕ) (st : Vals) → m ≤ n →
      Agree m (cells st) (enter env body m st) (enter' env body m st)

module _ (top : ℕ) (enter enter' : Enter) (same : Alike top enter enter') where
  agree_apply : (v w : Val) (n : ℕ) (st : Vals) → n ≤ top →
      Agree n (cells st) (apply enter v w n st) (apply enter' v w n st)
  agree_apply (VInt i) w n st le = (refl, tt)
  agree_apply (VTup vs) w n st le = (refl, tt)
  agree_apply (VFun env body) w n st le = same.alike _ body n st le
  agree_apply (VSus env body) w n st le = (refl, tt)
  agree_apply (VCell p) w n st le = (refl, tt)

  agree_inst : (v : Val) (n : ℕ) (st : Vals) → n ≤ top → Agree n (cells st) (inst enter v n st) (inst enter' v n st)
  agree_inst (VInt i) n st le = (refl, tt)
  agree_inst (VTup vs) n st le = (refl, tt)
  agree_inst (VFun env body) n st le = (refl, tt)
  agree_inst (VSus env body) n st le = same.alike env body n st le
  agree_inst (VCell p) n st le = (refl, tt)

  agree_choose : (n c : ℕ) (v : Val) (a a' b b' : Result) → Agree n c a a' → Agree n c b b' →
      Agree n c (choose v a b) (choose v a' b')
  agree_choose n c (VInt i) a a' b b' h k = pick (is_zero i)
    where
      pick : (t : Bool) → Agree n c (cond t a b) (cond t a' b')
      pick true = h
      pick false = k
  agree_choose n c (VTup vs) a a' b b' h k = (refl, tt)
  agree_choose n c (VFun env e) a a' b b' h k = (refl, tt)
  agree_choose n c (VSus env e) a a' b b' h k = (refl, tt)
  agree_choose n c (VCell p) a a' b b' h k = (refl, tt)

  mutual
    agree : (e : Term) (env : Vals) (n : ℕ) (st : Vals) → n ≤ top →
        Agree n (cells st) (eval_by enter env e n st) (eval_by enter' env e n st)
    agree (MVar i) env n st le = agree_self n _ _ (given_most (value_at env i) n st)
    agree (MNum i) env n st le = (refl, (omega arith, omega arith))
    agree (MFix arg res body) env n st le = (refl, (omega arith, omega arith))
    agree (MApp f x) env n st le =
        agree_then n _ _ _ _ _ (agree f env n st le)
        (λ v m s1 h g. agree_then m _ _ _ _ _ (agree x env m s1 (omega (arith, le, h)))
        (λ w k s2 h' g'. agree_apply v w k s2 (omega (arith, le, h, h'))))
    agree (MGen body) env n st le = (refl, (omega arith, omega arith))
    agree (MInst e t) env n st le =
        agree_then n _ _ _ _ _ (agree e env n st le) (λ v m s1 h g. agree_inst v m s1 (omega (arith, le, h)))
    agree (MTuple es) env n st le = agree_tuple n _ _ _ (agree_all es env n st le)
    agree (MProj i e) env n st le =
        agree_then n _ _ _ _ _ (agree e env n st le) (λ v m s1 h g. agree_self m _ _ (project_most i v m s1))
    agree (MArith op a b) env n st le =
        agree_then n _ _ _ _ _ (agree a env n st le)
        (λ v m s1 h g. agree_then m _ _ _ _ _ (agree b env m s1 (omega (arith, le, h)))
        (λ w k s2 h' g'. agree_self k _ _ (operate_most op v w k s2)))
    agree (MIf0 c a b) env n st le =
        agree_then n _ _ _ _ _ (agree c env n st le)
        (λ v m s1 h g. agree_choose m _ v _ _ _ _ (agree a env m s1 (omega (arith, le, h)))
        (agree b env m s1 (omega (arith, le, h))))
    agree (MLet a b) env n st le =
        agree_then n _ _ _ _ _ (agree a env n st le) (λ v m s1 h g. agree b (And v env) m s1 (omega (arith, le, h)))
    agree (MPack x e s) env n st le = agree e env n st le
    agree (MOpen a b) env n st le =
        agree_then n _ _ _ _ _ (agree a env n st le) (λ v m s1 h g. agree b (And v env) m s1 (omega (arith, le, h)))
    agree (MRef e) env n st le =
        agree_then n _ _ _ _ _ (agree e env n st le) (λ v m s1 h g. agree_self m _ _ (fresh_most v m s1))
    agree (MDeref e) env n st le =
        agree_then n _ _ _ _ _ (agree e env n st le) (λ v m s1 h g. agree_self m _ _ (fetch_most v m s1))
    agree (MAssign a b) env n st le =
        agree_then n _ _ _ _ _ (agree a env n st le)
        (λ v m s1 h g. agree_then m _ _ _ _ _ (agree b env m s1 (omega (arith, le, h)))
        (λ w k s2 h' g'. agree_self k _ _ (assign_most v w k s2)))

    agree_all : (es : Terms) (env : Vals) (n : ℕ) (st : Vals) → n ≤ top →
        AgreeAll n (cells st) (eval_all enter env es n st) (eval_all enter' env es n st)
    agree_all NoTerms env n st le = (refl, (omega arith, omega arith))
    agree_all (MoreTerms e es) env n st le =
        agree_then_all n _ _ _ _ _ (agree e env n st le)
        (λ v m s1 h g. agree_cons m _ v _ _ (agree_all es env m s1 (omega (arith, le, h))))

turn_more : (n c : ℕ) (r r' : Result) → Agree n c r r' → Agree (suc n) c r r'
turn_more n c r r' h = agree_less (suc n) n c c r r' (omega arith) (omega arith) h

alike_depth : (d d' : ℕ) (env : Vals) (body : Term) (m : ℕ) (st : Vals) → m ≤ d → m ≤ d' →
    Agree m (cells st) (enter_by d env body m st) (enter_by d' env body m st)
alike_depth d d' env body zero st le le' = (refl, tt)
alike_depth zero d' env body (suc m) st le le' = absurd (omega (arith, le))
alike_depth (suc d) zero env body (suc m) st le le' = absurd (omega (arith, le'))
alike_depth (suc d) (suc d') env body (suc m) st le le' =
    turn_more m _ _ _
    (agree m (enter_by d) (enter_by d')
    (record {
      alike = λ env body k s h. alike_depth d d' env body k s (omega (arith, le, h))
          (omega (arith, le', h));
    }) body env m st (omega arith))

alike_turn : (d : ℕ) (env : Vals) (body : Term) (m : ℕ) (st : Vals) → m ≤ d →
    Agree m (cells st) (enter_by d env body m st) (turn env body m st)
alike_turn d env body zero st le = (refl, tt)
alike_turn zero env body (suc m) st le = absurd (omega (arith, le))
alike_turn (suc d) env body (suc m) st le =
    turn_more m _ _ _
    (agree m (enter_by d) (enter_by m)
    (record { alike = λ env body k s h. alike_depth d m env body k s (omega (arith, le, h)) h }) body env m st
    (omega arith))

pub rules_kept : KeepsRules
rules_kept n st env e =
    (agree n (enter_by n) turn (record { alike = λ env body k s h. alike_turn n env body k s h }) e env n st
    (omega arith)).0

-- the second has so many turns more
abbrev More : ℕ → Result → Result → Type 0
More k (Gives v m st) r' = r' ≡ Gives v (m + k) st
More k Spent r' = Unit {0}
More k Stuck r' = r' ≡ Stuck

abbrev MoreAll : ℕ → Results → Results → Type 0
MoreAll k (GiveAll v m st) r' = r' ≡ GiveAll v (m + k) st
MoreAll k SpentAll r' = Unit {0}
MoreAll k StuckAll r' = r' ≡ StuckAll

more_then : (k : ℕ) (r r' : Result) (go go' : Val → ℕ → Vals → Result) → More k r r' →
    ((v : Val) (m : ℕ) (st : Vals) → More k (go v m st) (go' v (m + k) st)) →
    More k (then_eval r go) (then_eval r' go')
more_then k (Gives v m st) r' go go' h f = subst (λ r. More k (go v m st) (then_eval r go')) (sym h) (f v m st)
more_then k Spent r' go go' h f = tt
more_then k Stuck r' go go' h f = ap (λ r. then_eval r go') h

more_then_all : (k : ℕ) (r r' : Result) (go go' : Val → ℕ → Vals → Results) → More k r r' →
    ((v : Val) (m : ℕ) (st : Vals) → MoreAll k (go v m st) (go' v (m + k) st)) →
    MoreAll k (then_all r go) (then_all r' go')
more_then_all k (Gives v m st) r' go go' h f = subst (λ r. MoreAll k (go v m st) (then_all r go')) (sym h) (f v m st)
more_then_all k Spent r' go go' h f = tt
more_then_all k Stuck r' go go' h f = ap (λ r. then_all r go') h

more_cons : (k : ℕ) (v : Val) (r r' : Results) → MoreAll k r r' →
    MoreAll k (all_then r (λ vs m st. GiveAll (And v vs) m st)) (all_then r' (λ vs m st. GiveAll (And v vs) m st))
more_cons k v (GiveAll vs m st) r' h = ap (λ r. all_then r (λ vs m st. GiveAll (And v vs) m st)) h
more_cons k v SpentAll r' h = tt
more_cons k v StuckAll r' h = ap (λ r. all_then r (λ vs m st. GiveAll (And v vs) m st)) h

more_tuple : (k : ℕ) (r r' : Results) → MoreAll k r r' → More k (as_tuple r) (as_tuple r')
more_tuple k (GiveAll vs m st) r' h = ap as_tuple h
more_tuple k SpentAll r' h = tt
more_tuple k StuckAll r' h = ap as_tuple h

more_given : (k : ℕ) (o : Option Val) (n : ℕ) (st : Vals) → More k (given o n st) (given o (n + k) st)
more_given k None n st = refl
more_given k (Some v) n st = refl

more_project : (k i : ℕ) (v : Val) (n : ℕ) (st : Vals) → More k (project i v n st) (project i v (n + k) st)
more_project k zero (VInt j) n st = refl
more_project k (suc i) (VInt j) n st = refl
more_project k zero (VTup vs) n st = refl
more_project k (suc i) (VTup vs) n st = more_given k (value_at vs i) n st
more_project k zero (VFun env e) n st = refl
more_project k (suc i) (VFun env e) n st = refl
more_project k zero (VSus env e) n st = refl
more_project k (suc i) (VSus env e) n st = refl
more_project k zero (VCell p) n st = refl
more_project k (suc i) (VCell p) n st = refl

more_operate : (k : ℕ) (op : Op) (v w : Val) (n : ℕ) (st : Vals) →
    More k (operate op v w n st) (operate op v w (n + k) st)
more_operate k op (VInt i) (VInt j) n st = refl
more_operate k op (VInt i) (VTup vs) n st = refl
more_operate k op (VInt i) (VFun env e) n st = refl
more_operate k op (VInt i) (VSus env e) n st = refl
more_operate k op (VInt i) (VCell p) n st = refl
more_operate k op (VTup vs) w n st = refl
more_operate k op (VFun env e) w n st = refl
more_operate k op (VSus env e) w n st = refl
more_operate k op (VCell p) w n st = refl

more_fetch : (k : ℕ) (v : Val) (n : ℕ) (st : Vals) → More k (fetch v n st) (fetch v (n + k) st)
more_fetch k (VInt i) n st = refl
more_fetch k (VTup vs) n st = refl
more_fetch k (VFun env e) n st = refl
more_fetch k (VSus env e) n st = refl
more_fetch k (VCell p) n st = more_given k (value_at st p) n st

more_put : (k : ℕ) (o : Option Val) (p : ℕ) (w : Val) (n : ℕ) (st : Vals) → More k
    (then_eval (given o n st) (λ old n1 s1. Gives (VTup Empty) n1 (hold p w s1)))
    (then_eval (given o (n + k) st) (λ old n1 s1. Gives (VTup Empty) n1 (hold p w s1)))
more_put k None p w n st = refl
more_put k (Some v) p w n st = refl

more_assign : (k : ℕ) (v w : Val) (n : ℕ) (st : Vals) → More k (assign v w n st) (assign v w (n + k) st)
more_assign k (VInt i) w n st = refl
more_assign k (VTup vs) w n st = refl
more_assign k (VFun env e) w n st = refl
more_assign k (VSus env e) w n st = refl
more_assign k (VCell p) w n st = more_put k (value_at st p) p w n st

record Further (k : ℕ) (enter enter' : Enter) : Type 0 where
  further : (env : Vals) (body : Term) (n : ℕ) (st : Vals) → More k (enter env body n st) (enter' env body (n + k) st)

module _ (k : ℕ) (enter enter' : Enter) (same : Further k enter enter') where
  more_apply : (v w : Val) (n : ℕ) (st : Vals) → More k (apply enter v w n st) (apply enter' v w (n + k) st)
  more_apply (VInt i) w n st = refl
  more_apply (VTup vs) w n st = refl
  more_apply (VFun env body) w n st = same.further _ body n st
  more_apply (VSus env body) w n st = refl
  more_apply (VCell p) w n st = refl

  more_inst : (v : Val) (n : ℕ) (st : Vals) → More k (inst enter v n st) (inst enter' v (n + k) st)
  more_inst (VInt i) n st = refl
  more_inst (VTup vs) n st = refl
  more_inst (VFun env body) n st = refl
  more_inst (VSus env body) n st = same.further env body n st
  more_inst (VCell p) n st = refl

  more_choose : (v : Val) (a a' b b' : Result) → More k a a' → More k b b' → More k (choose v a b) (choose v a' b')
  more_choose (VInt i) a a' b b' h g = pick (is_zero i)
    where
      pick : (t : Bool) → More k (cond t a b) (cond t a' b')
      pick true = h
      pick false = g
  more_choose (VTup vs) a a' b b' h g = refl
  more_choose (VFun env e) a a' b b' h g = refl
  more_choose (VSus env e) a a' b b' h g = refl
  more_choose (VCell p) a a' b b' h g = refl

  mutual
    more : (e : Term) (env : Vals) (n : ℕ) (st : Vals) →
        More k (eval_by enter env e n st) (eval_by enter' env e (n + k) st)
    more (MVar i) env n st = more_given k (value_at env i) n st
    more (MNum i) env n st = refl
    more (MFix arg res body) env n st = refl
    more (MApp f x) env n st =
        more_then k _ _ _ _ (more f env n st)
        (λ v m s1. more_then k _ _ _ _ (more x env m s1) (λ w l s2. more_apply v w l s2))
    more (MGen body) env n st = refl
    more (MInst e t) env n st = more_then k _ _ _ _ (more e env n st) (λ v m s1. more_inst v m s1)
    more (MTuple es) env n st = more_tuple k _ _ (more_all es env n st)
    more (MProj i e) env n st = more_then k _ _ _ _ (more e env n st) (λ v m s1. more_project k i v m s1)
    more (MArith op a b) env n st =
        more_then k _ _ _ _ (more a env n st)
        (λ v m s1. more_then k _ _ _ _ (more b env m s1) (λ w l s2. more_operate k op v w l s2))
    more (MIf0 c a b) env n st =
        more_then k _ _ _ _ (more c env n st) (λ v m s1. more_choose v _ _ _ _ (more a env m s1) (more b env m s1))
    more (MLet a b) env n st = more_then k _ _ _ _ (more a env n st) (λ v m s1. more b (And v env) m s1)
    more (MPack x e s) env n st = more e env n st
    more (MOpen a b) env n st = more_then k _ _ _ _ (more a env n st) (λ v m s1. more b (And v env) m s1)
    more (MRef e) env n st = more_then k _ _ _ _ (more e env n st) (λ v m s1. refl)
    more (MDeref e) env n st = more_then k _ _ _ _ (more e env n st) (λ v m s1. more_fetch k v m s1)
    more (MAssign a b) env n st =
        more_then k _ _ _ _ (more a env n st)
        (λ v m s1. more_then k _ _ _ _ (more b env m s1) (λ w l s2. more_assign k v w l s2))

    more_all : (es : Terms) (env : Vals) (n : ℕ) (st : Vals) →
        MoreAll k (eval_all enter env es n st) (eval_all enter' env es (n + k) st)
    more_all NoTerms env n st = refl
    more_all (MoreTerms e es) env n st =
        more_then_all k _ _ _ _ (more e env n st) (λ v m s1. more_cons k v _ _ (more_all es env m s1))

further : (k d : ℕ) → Further k (enter_by d) (enter_by (d + k))
further k zero = record { further = λ env body n st. start env body n st }
  where
    start : (env : Vals) (body : Term) (n : ℕ) (st : Vals) →
        More k (enter_by 0 env body n st) (enter_by (0 + k) env body (n + k) st)
    start env body zero st = tt
    start env body (suc n) st = tt
further k (suc d) = record { further = λ env body n st. step (further k d) env body n st }
  where
    step : Further k (enter_by d) (enter_by (d + k)) → (env : Vals) (body : Term) (n : ℕ) (st : Vals) →
        More k (enter_by (suc d) env body n st) (enter_by (suc d + k) env body (n + k) st)
    step ih env body zero st = tt
    step ih env body (suc n) st =
        let e : suc (d + k) ≡ suc d + k = omega arith in
        let e' : suc (n + k) ≡ suc n + k = omega arith in
        subst (λ x. More k (eval_by (enter_by d) env body n st) (enter_by x env body (suc n + k) st)) e
        (subst (λ y. More k (eval_by (enter_by d) env body n st) (enter_by (suc (d + k)) env body y st)) e'
        (more k (enter_by d) (enter_by (d + k)) ih body env n st))

pub more_turns : MoreTurnsKeepTheValue
more_turns n k left st env e v after h =
    subst (λ r. More k r (eval (n + k) st env e)) h (more k (enter_by n) (enter_by (n + k)) (further k n) e env n st)

bounds : (n left : ℕ) (st env : Vals) (e : Term) (v : Val) (after : Vals) → eval n st env e ≡ Gives v left after →
    (left ≤ n) × (cells st ≤ cells after)
bounds n left st env e v after h =
    subst (λ r. Bounded n (cells st) r) h
    (agree n (enter_by n) (enter_by n) (record { alike = λ env body m s le. alike_depth n n env body m s le le }) e
    env n st (omega arith)).1

pub leaves_at_most : LeavesAtMost
leaves_at_most n left st env e v after h = (bounds n left st env e v after h).0

pub store_grows : StoreGrows
store_grows n left st env e v after h = (bounds n left st env e v after h).1

value_is : {v w : Val} {m k : ℕ} {s t : Vals} → Gives v m s ≡ Gives w k t → v ≡ w
value_is e = cc

integer_is : {i j : ℤ} → VInt i ≡ VInt j → i ≡ j
integer_is e = cc

pub one_answer : OneAnswer
one_answer e n m i j h k =
    let swap : m + n ≡ n + m = omega arith in
    integer_is (value_is
    (sym (more_turns n m h.0 Empty Empty e (VInt i) h.1.0 h.1.1) ∙ ap (λ x. eval x Empty Empty e) (sym swap)
    ∙ more_turns m n k.0 Empty Empty e (VInt j) k.1.0 k.1.1))
