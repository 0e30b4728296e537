-- Rows, computed: `7`, the factorial of 5, the identity at int; and terms held beside the rules of the relation, with
-- others that no rule gives.
use Rattle.std.proofs.Common.{pos, ◌≡◌, ◌∙◌, refl, sym, ap, subst, inl, inr}
use Rattle.std.specs.Prelude.{ℤ, false}
use Rattle.std.specs.Int.{int_wrap}
use Rattle.idx_core.specs.declared.arith.Op.TheVariants.{Add, Sub, Mul}
use Rattle.f_terms.specs.Ty.{TInt, TVar, TArrow, TTuple, TSome, NoTys, MoreTys}
use Rattle.f_terms.specs.Tm.{Term, MVar, MNum, MFix, MApp, MGen, MInst, MTuple, MProj, MArith, MIf0, MLet, MPack}
use Rattle.f_terms.specs.Tm.{MOpen, MRef, MDeref, MAssign, NoTerms, MoreTerms}
use Rattle.calc_core.specs.Ends.{Halted}
use Rattle.k_terms.specs.K.{KTy, TKInt, TKVar, TKCode, TKExists, NoKTys, MoreKTys, KVal, KVar, KInt, KCode, NoKVals}
use Rattle.k_terms.specs.K.{MoreKVals, KName, KArith, KPack, KUnpack, KCell, KGet, KSet, KTm, KLet, KCall, KIf, KHalt}
use Rattle.k_terms.specs.Meaning.{krun}
use Rattle.k_laws.specs.Annotate.{cps_term}
use Rattle.k_laws.specs.Cps.{Level}
use Rattle.k_laws.specs.Translates.{cps_program}
use Rattle.k_laws.specs.Sites.{sites}
use Rattle.k_laws.specs.Count.{count}

abbrev factorial : Term
factorial = MApp
    (MFix TInt TInt
    (MIf0 (MVar 0) (MNum (pos 1)) (MArith Mul (MVar 0) (MApp (MVar 1) (MArith Sub (MVar 0) (MNum (pos 1)))))))
    (MNum (pos 5))

abbrev identity : Term
identity = MApp (MInst (MGen (MFix (TVar 0) (TVar 0) (MVar 0))) TInt) (MNum (pos 3))

row_one : sites false (MNum (pos 7)) ≡ 0
row_one = refl

row_two : sites false factorial ≡ 3
row_two = refl

row_four : sites false identity ≡ 4
row_four = refl

halts : (krun 12 (cps_term factorial)).end ≡ Halted (pos 120)
unfolding int_wrap
halts = refl

-- code 0 is the function, entered in 6 turns
seldom : count 0 (krun 12 (cps_term factorial)).entered ≡ 6
unfolding int_wrap
seldom = refl

same : (krun 4 (cps_term identity)).end ≡ Halted (pos 3)
same = refl

-- if0(0, 1, 2) + 3: what comes after the choice is named once, and both branches call it.
-- k = code(x: int). y = x + 3; halt y; if 0 is 0 then k(1) else k(2)
abbrev choice : Term
choice = MArith Add (MIf0 (MNum (pos 0)) (MNum (pos 1)) (MNum (pos 2))) (MNum (pos 3))

abbrev plus_three : KVal → KTm
plus_three v = KLet (KArith Add v (KInt (pos 3))) (KHalt (KVar 0))

abbrev to_first : ℤ → KTm
to_first n = KCall (KVar 0) NoKTys (MoreKVals (KInt n) NoKVals)

abbrev named_once : KTm
named_once =
    KLet (KName (KCode 0 (MoreKTys TKInt NoKTys) (plus_three (KVar 0))))
    (KIf (KInt (pos 0)) (to_first (pos 1)) (to_first (pos 2)))

named_once_is_it : cps_term choice ≡ named_once
named_once_is_it = refl

named_once_is_one : cps_program choice named_once
named_once_is_one = (
  (refl, (refl, refl, refl), refl),
  (
    (refl, refl, refl),
    (
      _,
      _,
      (_, refl, (refl, inl (_, _, _, (0, refl, refl), refl, refl, inl (_, (0, refl, refl), refl)))),
      refl,
      (
        refl,
        inl (
          _,
          _,
          _,
          refl,
          refl,
          (refl, inl (_, _, (0, refl, refl), refl, refl)),
          (refl, inl (_, _, (0, refl, refl), refl, refl)),
        ),
      ),
    ),
  ),
)

-- what comes after copied into both branches is no translation
abbrev copied : KTm
copied = KIf (KInt (pos 0)) (plus_three (KInt (pos 1))) (plus_three (KInt (pos 2)))

copied_is_none : cps_program choice copied → ⊥
copied_is_none h = other _ _ h.1.1.3
  where
    other : (v : KVal) (rest : KTm) → copied ≡ KLet (KName v) rest → ⊥
    other v rest e = cc

-- 5 - 2: the left operand stays the left one
abbrev difference : Term
difference = MArith Sub (MNum (pos 5)) (MNum (pos 2))

abbrev minus : KVal → KVal → KTm
minus v w = KLet (KArith Sub v w) (KHalt (KVar 0))

difference_is_one : cps_program difference (minus (KInt (pos 5)) (KInt (pos 2)))
difference_is_one =
    ((refl, refl, refl), (refl, inl (refl, inl (_, _, _, refl, refl, refl, inl (_, (0, refl, refl), refl)))))

-- a term that names a value, and the first operand of one that computes
abbrev Names : KTm → Type 0
Names (KLet (KName v) rest) = Unit {0}
Names t = ⊥

abbrev first_operand : KTm → KVal
first_operand (KLet (KArith op v w) rest) = v
first_operand t = KInt (pos 0)

named_first : (v : KVal) (rest : KTm) → minus (KInt (pos 2)) (KInt (pos 5)) ≡ KLet (KName v) rest → ⊥
named_first v rest e = subst Names (sym e) tt

exchanged_is_none : cps_program difference (minus (KInt (pos 2)) (KInt (pos 5))) → ⊥
exchanged_is_none (ty, (ta, inl (tb, inl (a, b, rest, ea, eb, e, more)))) = other a b rest ea e
  where
    other : (a b : KVal) (rest : KTm) → a ≡ KInt (pos 5) →
        minus (KInt (pos 2)) (KInt (pos 5)) ≡ KLet (KArith Sub a b) rest → ⊥
    other a b rest ea e = let q : ◌≡◌ {A = KVal} (KInt (pos 2)) (KInt (pos 5)) = ap first_operand e ∙ ea in cc
exchanged_is_none (ty, (ta, inl (tb, inr (v, rest, x, e, more)))) = named_first v rest e
exchanged_is_none (ty, (ta, inr (v, rest, x, e, more))) = named_first v rest e

-- fix f(x: int): int. x: the function takes its argument and then what comes after; its own name is neither
abbrev itself : Term
itself = MApp (MFix TInt TInt (MVar 0)) (MNum (pos 7))

-- f = code(x: int, k: code(int)). k(x); f(7, code(y: int). halt y)
abbrev calls_with : KVal → KTm
calls_with given =
    KLet (KName (KCode 0 (MoreKTys TKInt (MoreKTys (TKCode 0 (MoreKTys TKInt NoKTys)) NoKTys))
    (KCall (KVar 0) NoKTys (MoreKVals given NoKVals))))
    (KCall (KVar 0) NoKTys
    (MoreKVals (KInt (pos 7)) (MoreKVals (KCode 0 (MoreKTys TKInt NoKTys) (KHalt (KVar 0))) NoKVals)))

itself_is_it : cps_term itself ≡ calls_with (KVar 1)
itself_is_it = refl

itself_is_one : cps_program itself (calls_with (KVar 1))
itself_is_one = (
  (TInt, (refl, tt, tt, refl), refl),
  TInt,
  (
    (refl, tt, tt, refl),
    inr (
      _,
      _,
      (_, refl, (refl, Level 1, refl, inl (_, _, (0, refl, refl), (1, refl, refl), refl))),
      refl,
      (refl, inl (inl (_, _, _, (0, refl, refl), refl, (_, refl, (_, (0, refl, refl), refl)), refl))),
    ),
  ),
)

-- let x = 2 in let x = x + 1 in x * x: an integer stands in place, and no name is bound twice
abbrev square : Term
square = MLet (MNum (pos 2)) (MLet (MArith Add (MVar 0) (MNum (pos 1))) (MArith Mul (MVar 0) (MVar 0)))

square_is_it : cps_term square
    ≡ KLet (KArith Add (KInt (pos 2)) (KInt (pos 1))) (KLet (KArith Mul (KVar 0) (KVar 0)) (KHalt (KVar 0)))
square_is_it = refl

squares : (krun 0 (cps_term square)).end ≡ Halted (pos 9)
unfolding int_wrap
squares = refl

-- (fix f(x: int): int. let y = x in f y) 0: the second part of a `let` is in tail place where the `let` is
again : sites false (MApp (MFix TInt TInt (MLet (MVar 0) (MApp (MVar 2) (MVar 0)))) (MNum (pos 0))) ≡ 2
again = refl

-- open [a, x] = pack [int, <3, fix f(y: int): int. y + 1>] as some a. <a, a -> int> in (#2 x) (#1 x)
abbrev counter : Term
counter = MOpen
    (MPack TInt (MTuple
    (MoreTerms (MNum (pos 3)) (MoreTerms (MFix TInt TInt (MArith Add (MVar 0) (MNum (pos 1)))) NoTerms)))
    (TSome (TTuple (MoreTys (TVar 0) (MoreTys (TArrow (TVar 0) TInt) NoTys)))))
    (MApp (MProj 2 (MVar 0)) (MProj 1 (MVar 0)))

opens_to : (krun 2 (cps_term counter)).end ≡ Halted (pos 4)
unfolding int_wrap
opens_to = refl

two_codes : sites false counter ≡ 2
two_codes = refl

-- (open [a, x] = pack [int, 3] as some a. a in 1) + (gen b. fix f(y: b): b. y)[int] 2: the hidden type has a name in
-- all that comes after, so that the code of `gen b` stands under two
abbrev opened_first : Term
opened_first =
    MArith Add (MOpen (MPack TInt (MNum (pos 3)) (TSome (TVar 0))) (MNum (pos 1)))
    (MApp (MInst (MGen (MFix (TVar 0) (TVar 0) (MVar 0))) TInt) (MNum (pos 2)))

-- gen b. open [a, x] = pack [b -> b, fix f(y: b): b. y] as some a. a in fix g(z: b): b. z: b is the first type name
-- and a the second, so that b stands as 1 under both
abbrev under_both : Term
under_both =
    MGen (MOpen (MPack (TArrow (TVar 0) (TVar 0)) (MFix (TVar 0) (TVar 0) (MVar 0)) (TSome (TVar 0)))
    (MFix (TVar 1) (TVar 1) (MVar 0)))

abbrev function : KTy → KTy
function t = TKCode 0 (MoreKTys t (MoreKTys (TKCode 0 (MoreKTys t NoKTys)) NoKTys))

abbrev same_of : KTy → KVal
same_of t = KCode 0 (MoreKTys t (MoreKTys (TKCode 0 (MoreKTys t NoKTys)) NoKTys))
    (KCall (KVar 0) NoKTys (MoreKVals (KVar 1) NoKVals))

under_both_is_it : cps_term under_both
    ≡ KLet (KName (KCode 1 (MoreKTys (TKCode 0 (MoreKTys (function (TKVar 0)) NoKTys)) NoKTys)
    (KLet (KName (same_of (TKVar 0)))
    (KLet (KPack (function (TKVar 0)) (KVar 0) (TKExists (TKVar 0)))
    (KLet (KUnpack (KVar 0))
    (KLet (KName (same_of (TKVar 1))) (KCall (KVar 4) NoKTys (MoreKVals (KVar 0) NoKVals))))))))
    (KHalt (KVar 0))
under_both_is_it = refl

opened_adds : (krun 4 (cps_term opened_first)).end ≡ Halted (pos 3)
unfolding int_wrap
opened_adds = refl

-- let c = ref 1 in (let u = c := 2 in 10) + !c: parts come from left to right
abbrev left_first : Term
left_first =
    MLet (MRef (MNum (pos 1))) (MArith Add (MLet (MAssign (MVar 0) (MNum (pos 2))) (MNum (pos 10))) (MDeref (MVar 0)))

left_first_is_it : cps_term left_first
    ≡ KLet (KCell (KInt (pos 1)))
    (KLet (KSet (KVar 0) (KInt (pos 2)))
    (KLet (KGet (KVar 1)) (KLet (KArith Add (KInt (pos 10)) (KVar 0)) (KHalt (KVar 0)))))
left_first_is_it = refl

gives_twelve : (krun 0 (cps_term left_first)).end ≡ Halted (pos 12)
unfolding int_wrap
gives_twelve = refl

-- let r = ref (fix f(n: int): int. n) in let u = r := (fix g(n: int): int. if0(n, 0, 1 + (!r) (n - 1))) in (!r) 4
abbrev through_a_cell : Term
through_a_cell = MLet (MRef (MFix TInt TInt (MVar 0)))
    (MLet (MAssign (MVar 0)
    (MFix TInt TInt
    (MIf0 (MVar 0) (MNum (pos 0))
    (MArith Add (MNum (pos 1)) (MApp (MDeref (MVar 2)) (MArith Sub (MVar 0) (MNum (pos 1))))))))
    (MApp (MDeref (MVar 1)) (MNum (pos 4))))

counts_down : (krun 10 (cps_term through_a_cell)).end ≡ Halted (pos 4)
unfolding int_wrap
counts_down = refl
