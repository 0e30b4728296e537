-- What the items of a source mean: each is a term of type int, of few nodes, which evaluates to an integer within few
-- turns.
use Rattle.std.proofs.Common.{◌≡◌, ◌≤◌, ◌<◌, ℕ, ℤ, zero, suc, ◌+◌, ◌-ℤ◌, pos, Bool, true, false, cond, refl, ◌∙◌, ap}
use Rattle.std.proofs.Common.{subst, arith, lit<, lit≤}
use Rattle.std.specs.Int.{int_wrap, w64}
use Rattle.std.proofs.lemmas.Bool.Decides.{nat_tests}
use Rattle.std.proofs.lemmas.Int.{ints, int_wrap_fits}
use Rattle.idx_core.specs.declared.arith.Op.TheVariants.{Add, Sub, Mul}
use Rattle.idx_core.specs.Arith.{compute, is_zero}
use Rattle.f_terms.specs.Ty.{TInt, TVar, TArrow, NoTys, MoreTys, TTuple}
use Rattle.f_terms.specs.Tm.{Spn, Tm, SVar, SNum, SFix, SApp, SGen, SInst, STuple, SProj, SArith, SIf0, NoTms, MoreTms}
use Rattle.f_terms.specs.Tm.{plain, Term, MVar, MNum, MFix, MApp, MGen, MInst, MTuple, MProj, MArith, MIf0, NoTerms}
use Rattle.f_terms.specs.Tm.{MoreTerms}
use Rattle.f_terms.specs.Limits.{nodes}
use Rattle.f_terms.specs.Typing.{HasType}
use Rattle.f_terms.specs.Faults.{Passes}
use Rattle.f_terms.specs.Accepted.{KeepsLimits}
use Rattle.f_terms.specs.Cells.{has_cells}
use Rattle.f_terms.specs.Laws.{PassesWhereTyped, KeepsRules}
use Rattle.f_terms.specs.Eval.{VInt, VFun, Vals, Empty, And, Gives, Result, then_eval, operate, apply, eval_by, turn}
use Rattle.f_seeds.specs.declared.item.Kind.{Kind}
use Rattle.f_seeds.specs.declared.item.Kind.TheVariants.{Number, Factorial, Field, Identity, Branch, Twice}

-- the terms for which the items stand, with their places left aside, and with any place
abbrev counted : Term
counted = MIf0 (MVar 0) (MNum (pos 1)) (MArith Mul (MVar 0) (MApp (MVar 1) (MArith Sub (MVar 0) (MNum (pos 1)))))

abbrev twice : Term
twice = MApp (MVar 1) (MApp (MVar 1) (MVar 0))

abbrev pub item_term : Kind → ℕ → Term
item_term Number c = MNum (pos c)
item_term Factorial c = MApp (MFix TInt TInt counted) (MNum (pos c))
item_term Field c =
    MProj 2 (MTuple
    (MoreTerms (MNum (pos c))
    (MoreTerms (MArith Add (MNum (pos c)) (MNum (pos 1))) (MoreTerms (MTuple NoTerms) NoTerms))))
item_term Identity c = MApp (MInst (MGen (MFix (TVar 0) (TVar 0) (MVar 0))) TInt) (MNum (pos c))
item_term Branch c = MIf0 (MNum (pos c)) (MNum (pos 1)) (MNum (pos 2))
item_term Twice c =
    MApp (MFix (TArrow TInt TInt) TInt (MApp (MVar 0) (MApp (MVar 0) (MNum (pos c)))))
    (MFix TInt TInt (MArith Mul (MVar 0) (MNum (pos 3))))

abbrev at : Spn
at = (0, 0)

abbrev placed : Kind → ℕ → Tm
placed Number c = SNum at (pos c)
placed Factorial c =
    SApp at (SFix at TInt TInt
    (SIf0 at (SVar at 0) (SNum at (pos 1))
    (SArith at Mul (SVar at 0) (SApp at (SVar at 1) (SArith at Sub (SVar at 0) (SNum at (pos 1)))))))
    (SNum at (pos c))
placed Field c =
    SProj at 2 (STuple at
    (MoreTms (SNum at (pos c))
    (MoreTms (SArith at Add (SNum at (pos c)) (SNum at (pos 1))) (MoreTms (STuple at NoTms) NoTms))))
placed Identity c = SApp at (SInst at (SGen at (SFix at (TVar 0) (TVar 0) (SVar at 0))) TInt) (SNum at (pos c))
placed Branch c = SIf0 at (SNum at (pos c)) (SNum at (pos 1)) (SNum at (pos 2))
placed Twice c =
    SApp at (SFix at (TArrow TInt TInt) TInt (SApp at (SVar at 0) (SApp at (SVar at 0) (SNum at (pos c)))))
    (SFix at TInt TInt (SArith at Mul (SVar at 0) (SNum at (pos 3))))

is_item : (kind : Kind) (c : ℕ) → plain (placed kind c) ≡ item_term kind c
is_item Number c = refl
is_item Factorial c = refl
is_item Field c = refl
is_item Identity c = refl
is_item Branch c = refl
is_item Twice c = refl

-- each check of an item passes
passes : (kind : Kind) (c : ℕ) → Passes (placed kind c) 0 NoTys TInt
passes Number c = refl
passes Factorial c =
    (TInt, (refl, tt, tt, (lit≤ tt, lit≤ tt), (refl, refl, (refl, refl, (TInt, refl, (refl, refl, refl))))), refl)
passes Field c = (
  MoreTys TInt (MoreTys TInt (MoreTys (TTuple NoTys) NoTys)),
  refl,
  (
    _,
    refl,
    (
      TInt,
      _,
      refl,
      refl,
      (TInt, _, refl, (refl, refl, refl), (TTuple NoTys, _, refl, (NoTys, refl, refl, (lit≤ tt, lit≤ tt)), refl)),
    ),
    (lit≤ tt, lit≤ tt),
  ),
)
passes Identity c = (
  TInt,
  (
    TArrow (TVar 0) (TVar 0),
    refl,
    tt,
    (TArrow (TVar 0) (TVar 0), refl, (refl, lit< tt, lit< tt, (lit≤ tt, lit≤ tt), refl), (lit≤ tt, lit≤ tt)),
    (lit≤ tt, lit≤ tt),
    (lit≤ tt, lit≤ tt),
  ),
  refl,
)
passes Branch c = (refl, refl, refl)
passes Twice c = (
  TArrow TInt TInt,
  (refl, (tt, tt), tt, (lit≤ tt, lit≤ tt), (TInt, refl, (TInt, refl, refl))),
  (refl, tt, tt, (lit≤ tt, lit≤ tt), (refl, refl, refl)),
)

few_nodes : (kind : Kind) (c : ℕ) → nodes (item_term kind c) ≤ 13
few_nodes Number c = lit≤ tt
few_nodes Factorial c = lit≤ tt
few_nodes Field c = lit≤ tt
few_nodes Identity c = lit≤ tt
few_nodes Branch c = lit≤ tt
few_nodes Twice c = lit≤ tt

-- evaluation: the value of an item, and its turns

abbrev product_to : ℕ → ℤ
product_to zero = pos 1
product_to (suc c) = compute Mul (pos (suc c)) (product_to c)

abbrev pub turns : Kind → ℕ → ℕ
turns Factorial c = suc c
turns Identity c = 2
turns Twice c = 3
turns _ c = 0

-- the term has the type int within the limits on types and so many nodes, and uses these turns, whatever is left after
-- them, with any store, which stays as it is; it has no cells
pub record Given (e : Term) (used most : ℕ) : Type 0 where
  pub typed : HasType e 0 NoTys TInt
  pub limits : KeepsLimits e 0 NoTys
  pub few : nodes e ≤ most
  pub value : ℤ
  pub gives : (n : ℕ) (st : Vals) → eval_by turn Empty e (used + n) st ≡ Gives (VInt value) n st
  pub cell_free : has_cells e ≡ false

one_less : (c : ℕ) → c < 20 → compute Sub (pos (suc c)) (pos 1) ≡ pos c
one_less c h =
    let less : pos (suc c) -ℤ pos 1 ≡ pos c = omega (arith, ints) in
    ap (λ (z : ℤ). int_wrap w64 z) less ∙ int_wrap_fits w64 (pos c) (omega (arith, ints))

abbrev around : ℕ → Vals
around c = And (VInt (pos c)) (And (VFun Empty counted) Empty)

-- the body of the factorial is entered with c
entered : KeepsRules → (c n : ℕ) (st : Vals) → apply turn (VFun Empty counted) (VInt (pos c)) (suc c + n) st
    ≡ eval_by turn (around c) counted (c + n) st
entered rules c n st =
    let same : suc (c + n) ≡ suc c + n = omega arith in
    subst (λ (m : ℕ). turn (around c) counted m st ≡ eval_by turn (around c) counted (c + n) st) same
    (rules (c + n) st (around c) counted)

abbrev then_multiply : ℤ → Result → Result
then_multiply i r = then_eval r (λ w n st. operate Mul (VInt i) w n st)

not_zero : (c : ℕ) → is_zero (pos (suc c)) ≡ false
not_zero c = grind (arith, ints, nat_tests)

counts : KeepsRules → (c n : ℕ) (st : Vals) → c < 20 → apply turn (VFun Empty counted) (VInt (pos c)) (suc c + n) st
    ≡ Gives (VInt (product_to c)) n st
counts rules zero n st h = entered rules 0 n st ∙ ap (λ (m : ℕ). Gives (VInt (pos 1)) m st) (omega arith)
counts rules (suc c) n st h =
    let smaller : apply turn (VFun Empty counted) (VInt (compute Sub (pos (suc c)) (pos 1))) (suc c + n) st
    ≡ Gives (VInt (product_to c)) n st =
    ap (λ (z : ℤ). apply turn (VFun Empty counted) (VInt z) (suc c + n) st) (one_less c (omega arith))
    ∙ counts rules c n st (omega arith) in
    let chosen : eval_by turn (around (suc c)) counted (suc c + n) st
    ≡ then_multiply (pos (suc c))
    (apply turn (VFun Empty counted) (VInt (compute Sub (pos (suc c)) (pos 1))) (suc c + n) st) =
    ap (λ (b : Bool). cond b (Gives (VInt (pos 1)) (suc c + n) st)
    (then_multiply (pos (suc c))
    (apply turn (VFun Empty counted) (VInt (compute Sub (pos (suc c)) (pos 1))) (suc c + n) st))) (not_zero c) in
    entered rules (suc c) n st ∙ (chosen ∙ ap (λ (r : Result). then_multiply (pos (suc c)) r) smaller)

branch : (b : Bool) (m : ℕ) (st : Vals) → cond b (Gives (VInt (pos 1)) m st) (Gives (VInt (pos 2)) m st)
    ≡ Gives (VInt (cond b (pos 1) (pos 2))) m st
branch true m st = refl
branch false m st = refl

evaluates : KeepsRules → (kind : Kind) (c : ℕ) → c < 20 →
    (i : ℤ) × ((n : ℕ) (st : Vals) → eval_by turn Empty (item_term kind c) (turns kind c + n) st ≡ Gives (VInt i) n st)
evaluates rules Number c h = (pos c, λ n st. ap (λ (m : ℕ). Gives (VInt (pos c)) m st) (omega arith))
evaluates rules Factorial c h = (product_to c, λ n st. counts rules c n st h)
evaluates rules Field c h = (
  compute Add (pos c) (pos 1),
  λ n st. ap (λ (m : ℕ). Gives (VInt (compute Add (pos c) (pos 1))) m st) (omega arith),
)
evaluates rules Identity c h = (
  pos c,
  λ n st.
      let same : suc (suc n) ≡ 2 + n = omega arith in
      subst (λ (m : ℕ). eval_by turn Empty (item_term Identity c) m st ≡ Gives (VInt (pos c)) n st) same refl,
)
evaluates rules Branch c h = (
  cond (is_zero (pos c)) (pos 1) (pos 2),
  λ n st. branch (is_zero (pos c)) (0 + n) st
      ∙ ap (λ (m : ℕ). Gives (VInt (cond (is_zero (pos c)) (pos 1) (pos 2))) m st) (omega arith),
)
evaluates rules Twice c h = (
  compute Mul (compute Mul (pos c) (pos 3)) (pos 3),
  λ n st.
      let same : suc (suc (suc n)) ≡ 3 + n = omega arith in
      subst (λ (m : ℕ). eval_by turn Empty (item_term Twice c) m st
      ≡ Gives (VInt (compute Mul (compute Mul (pos c) (pos 3)) (pos 3))) n st) same refl,
)

no_cells : (kind : Kind) (c : ℕ) → has_cells (item_term kind c) ≡ false
no_cells Number c = refl
no_cells Factorial c = refl
no_cells Field c = refl
no_cells Identity c = refl
no_cells Branch c = refl
no_cells Twice c = refl

pub item_given : PassesWhereTyped → KeepsRules → (kind : Kind) (c : ℕ) → c < 20 →
    Given (item_term kind c) (turns kind c) 13
item_given typing rules kind c h =
    let typed = subst (λ (e : Term). HasType e 0 NoTys TInt × KeepsLimits e 0 NoTys) (is_item kind c)
    ((typing (placed kind c) 0 NoTys TInt tt).0 (passes kind c)) in
    let v = evaluates rules kind c h in
    record {
      typed = typed.0;
      limits = typed.1;
      few = few_nodes kind c;
      value = v.0;
      gives = v.1;
      cell_free = no_cells kind c;
    }
