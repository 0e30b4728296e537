-- Programs before and after: a recursive function, a polymorphic one, one that recurs through a cell, and a package.
use Rattle.std.specs.Int.{int_wrap}
use Rattle.std.proofs.Common.{pos, ◌≡◌, ◌<◌, ◌+◌, ℕ, arith, Some, None, [], ◌∷◌, refl, sym, ap, ◌∙◌, subst}
use Rattle.std.specs.Prelude.{◌≢◌}
use Rattle.idx_core.specs.declared.arith.Op.TheVariants.{Add, Sub, Mul}
use Rattle.calc_core.specs.Ends.{Halted, Spent}
use Rattle.k_terms.specs.K.{KTy, TKInt, TKVar, TKTuple, TKCode, TKExists, NoKTys, MoreKTys, KVar, KInt, KTuple, KCode}
use Rattle.k_terms.specs.K.{NoKVals, MoreKVals, KName, KProj, KArith, KPack, KUnpack, KCell, KGet, KSet, KTm, KLet}
use Rattle.k_terms.specs.K.{KCall, KIf, KHalt}
use Rattle.k_terms.specs.Meaning.{krun}
use Rattle.c_terms.specs.C.{CTm, TCInt, TCVar, TCTuple, TCCode, TCExists, NoCTys, MoreCTys, CVal, CVals, CVar, CInt}
use Rattle.c_terms.specs.C.{CTuple, CCode, CApply, CPack, NoCVals, MoreCVals, CName, CProj, CArith, CUnpack, CLet}
use Rattle.c_terms.specs.C.{CCall, CHalt}
use Rattle.c_terms.specs.Meaning.{crun}
use Rattle.k_terms.specs.Typing.{KTyped}
use Rattle.c_rules.specs.Close.{close_of}
use Rattle.c_laws.specs.Row.{IsPlace, Where, inside, with_name, nowhere, IsTranslation}

abbrev cont : KTy
cont = TKCode 0 (MoreKTys TKInt NoKTys)

abbrev pub fact : KTm
fact = KLet (KName (KCode 0 (MoreKTys TKInt (MoreKTys cont NoKTys))
    (KIf (KVar 1) (KCall (KVar 0) NoKTys (MoreKVals (KInt (pos 1)) NoKVals))
    (KLet (KArith Sub (KVar 1) (KInt (pos 1)))
    (KCall (KVar 3) NoKTys
    (MoreKVals (KVar 0)
    (MoreKVals (KCode 0 (MoreKTys TKInt NoKTys)
    (KLet (KArith Mul (KVar 4) (KVar 0)) (KCall (KVar 4) NoKTys (MoreKVals (KVar 0) NoKVals))))
    NoKVals)))))))
    (KCall (KVar 0) NoKTys
    (MoreKVals (KInt (pos 5)) (MoreKVals (KCode 0 (MoreKTys TKInt NoKTys) (KHalt (KVar 0))) NoKVals)))

runs : krun 20 fact ≡ record { end = Halted (pos 120); entered = 0 ∷ 0 ∷ 0 ∷ 0 ∷ 0 ∷ 0 ∷ 1 ∷ 1 ∷ 1 ∷ 1 ∷ 1 ∷ 2 ∷ [] }
unfolding int_wrap
runs = refl

runs_closed : crun 12 (close_of fact)
    ≡ record { end = Halted (pos 120); entered = 0 ∷ 0 ∷ 0 ∷ 0 ∷ 0 ∷ 0 ∷ 1 ∷ 1 ∷ 1 ∷ 1 ∷ 1 ∷ 2 ∷ [] }
unfolding int_wrap
runs_closed = refl

spent : krun 11 fact ≡ record { end = Spent; entered = 0 ∷ 0 ∷ 0 ∷ 0 ∷ 0 ∷ 0 ∷ 1 ∷ 1 ∷ 1 ∷ 1 ∷ 1 ∷ [] }
unfolding int_wrap
spent = refl

-- the identity at every type, at int
abbrev pub ident : KTm
ident = KLet
    (KName (KCode 1 (MoreKTys (TKVar 0) (MoreKTys (TKCode 0 (MoreKTys (TKVar 0) NoKTys)) NoKTys))
    (KCall (KVar 0) NoKTys (MoreKVals (KVar 1) NoKVals))))
    (KCall (KVar 0) (MoreKTys TKInt NoKTys)
    (MoreKVals (KInt (pos 5)) (MoreKVals (KCode 0 (MoreKTys TKInt NoKTys) (KHalt (KVar 0))) NoKVals)))

pub typed : KTyped 0 [] ident
typed = (
  _,
  (refl, (one, ((one, tt), tt)), (_, refl, tt, (_, _, refl, refl, refl))),
  (_, refl, (tt, tt), (_, _, refl, refl, (_, _, refl, (refl, (tt, tt), refl), refl))),
)
  where
    one : 0 < 1
    one = omega arith

-- recursion through a cell: r = ref f; r := g, where g calls what r holds; then (!r) 4
abbrev pub knot : KTm
knot =
    KLet (KName (KCode 0 (MoreKTys TKInt (MoreKTys cont NoKTys)) (KCall (KVar 0) NoKTys (MoreKVals (KVar 1) NoKVals))))
    (KLet (KCell (KVar 0))
    (KLet (KName (KCode 0 (MoreKTys TKInt (MoreKTys cont NoKTys))
    (KIf (KVar 1) (KCall (KVar 0) NoKTys (MoreKVals (KInt (pos 0)) NoKVals))
    (KLet (KGet (KVar 3))
    (KLet (KArith Sub (KVar 2) (KInt (pos 1)))
    (KCall (KVar 1) NoKTys
    (MoreKVals (KVar 0)
    (MoreKVals (KCode 0 (MoreKTys TKInt NoKTys)
    (KLet (KArith Add (KInt (pos 1)) (KVar 0)) (KCall (KVar 5) NoKTys (MoreKVals (KVar 0) NoKVals))))
    NoKVals))))))))
    (KLet (KSet (KVar 1) (KVar 0))
    (KLet (KGet (KVar 2))
    (KCall (KVar 0) NoKTys
    (MoreKVals (KInt (pos 4)) (MoreKVals (KCode 0 (MoreKTys TKInt NoKTys) (KHalt (KVar 0))) NoKVals)))))))

knot_runs : krun 20 knot ≡ record { end = Halted (pos 4); entered = 1 ∷ 1 ∷ 1 ∷ 1 ∷ 1 ∷ 2 ∷ 2 ∷ 2 ∷ 2 ∷ 3 ∷ [] }
unfolding int_wrap
knot_runs = refl

knot_closed : crun 20 (close_of knot) ≡ krun 20 knot
unfolding int_wrap
knot_closed = refl

pub knot_typed : KTyped 0 [] knot
knot_typed = (
  _,
  (refl, (tt, ((tt, tt), tt)), (_, refl, tt, (_, _, refl, refl, refl))),
  (
    _,
    (_, refl, refl),
    (
      _,
      (
        refl,
        (tt, ((tt, tt), tt)),
        (
          refl,
          (_, refl, tt, (_, _, refl, refl, refl)),
          (
            _,
            refl,
            (
              _,
              (refl, refl, refl),
              (
                _,
                refl,
                tt,
                (
                  _,
                  _,
                  refl,
                  refl,
                  (
                    _,
                    _,
                    refl,
                    (refl, (tt, tt), (_, (refl, refl, refl), (_, refl, tt, (_, _, refl, refl, refl)))),
                    refl,
                  ),
                ),
              ),
            ),
          ),
        ),
      ),
      (
        _,
        (_, refl, refl, refl),
        (_, refl, (_, refl, tt, (_, _, refl, refl, (_, _, refl, (refl, (tt, tt), refl), refl)))),
      ),
    ),
  ),
)

-- a parcel: x = pack[int, <3, code>] as some a. <a, code(a, code(int))>; a, y = unpack x; (#2 y)(#1 y)
abbrev shape : KTy
shape = TKExists (TKTuple (MoreKTys (TKVar 0) (MoreKTys (TKCode 0 (MoreKTys (TKVar 0) (MoreKTys cont NoKTys))) NoKTys)))

abbrev pub parcel : KTm
parcel = KLet
    (KPack TKInt
    (KTuple (MoreKVals (KInt (pos 3))
    (MoreKVals (KCode 0 (MoreKTys TKInt (MoreKTys cont NoKTys))
    (KLet (KArith Add (KVar 1) (KInt (pos 1))) (KCall (KVar 1) NoKTys (MoreKVals (KVar 0) NoKVals))))
    NoKVals))) shape)
    (KLet (KUnpack (KVar 0))
    (KLet (KProj 2 (KVar 0))
    (KLet (KProj 1 (KVar 1))
    (KCall (KVar 1) NoKTys
    (MoreKVals (KVar 0) (MoreKVals (KCode 0 (MoreKTys TKInt NoKTys) (KHalt (KVar 0))) NoKVals))))))

parcel_runs : krun 20 parcel ≡ record { end = Halted (pos 4); entered = 0 ∷ 1 ∷ [] }
unfolding int_wrap
parcel_runs = refl

parcel_closed : crun 20 (close_of parcel) ≡ krun 20 parcel
unfolding int_wrap
parcel_closed = refl

pub parcel_typed : KTyped 0 [] parcel
parcel_typed = (
  _,
  (
    _,
    refl,
    refl,
    tt,
    (one, ((one, ((tt, tt), tt)), tt)),
    (
      _,
      refl,
      (
        _,
        _,
        refl,
        refl,
        (
          _,
          _,
          refl,
          (refl, (tt, ((tt, tt), tt)), (_, (refl, refl, refl), (_, refl, tt, (_, _, refl, refl, refl)))),
          refl,
        ),
      ),
    ),
  ),
  (
    _,
    refl,
    (
      _,
      (_, refl, refl),
      (_, (_, refl, refl), (_, refl, tt, (_, _, refl, refl, (_, _, refl, (refl, (tt, tt), refl), refl)))),
    ),
  ),
)
  where
    one : 0 < 1
    one = omega arith

-- the environment is the first argument, and its fields are the free variables, outermost first:
-- x = 1; y = 2; (code(z: int). d = x - y; halt d)(7)
abbrev pub pair : KTm
pair = KLet (KName (KInt (pos 1)))
    (KLet (KName (KInt (pos 2)))
    (KCall (KCode 0 (MoreKTys TKInt NoKTys) (KLet (KArith Sub (KVar 3) (KVar 2)) (KHalt (KVar 0)))) NoKTys
    (MoreKVals (KInt (pos 7)) NoKVals)))

abbrev pub pair_closed : CTm
pair_closed =
    let ints = TCTuple (MoreCTys TCInt (MoreCTys TCInt NoCTys)) in
    let body =
    CLet (CProj 1 (CVar 1)) (CLet (CProj 2 (CVar 2)) (CLet (CArith Sub (CVar 1) (CVar 0)) (CHalt (CVar 0)))) in
    let shape = TCExists
    (TCTuple (MoreCTys (TCCode 0 (MoreCTys (TCVar 0) (MoreCTys TCInt NoCTys))) (MoreCTys (TCVar 0) NoCTys))) in
    let closure =
    CPack ints (CTuple
    (MoreCVals (CApply (CCode 0 (MoreCTys ints (MoreCTys TCInt NoCTys)) body) NoCTys)
    (MoreCVals (CTuple (MoreCVals (CVar 1) (MoreCVals (CVar 0) NoCVals))) NoCVals))) shape in
    CLet (CName (CInt (pos 1)))
    (CLet (CName (CInt (pos 2)))
    (CLet (CUnpack closure)
    (CLet (CProj 1 (CVar 0))
    (CLet (CProj 2 (CVar 1))
    (CCall (CVar 1) NoCTys (MoreCVals (CVar 0) (MoreCVals (CInt (pos 7)) NoCVals)))))))

pair_is : close_of pair ≡ pair_closed
pair_is = refl

-- inside the code: y, x, the argument, the environment and the code; and where a code with two arguments uses itself,
-- its own closure first
abbrev ints : Where
ints = with_name TKInt (with_name TKInt nowhere)

names_inside : (inside ints 0 (MoreKTys TKInt NoKTys) (KLet (KArith Sub (KVar 3) (KVar 2)) (KHalt (KVar 0)))).names
    ≡ Some 2 ∷ Some 3 ∷ Some 0 ∷ None ∷ None ∷ []
names_inside = refl

names_with_own : (inside ints 0 (MoreKTys TKInt (MoreKTys TKInt NoKTys))
    (KCall (KVar 2) NoKTys (MoreKVals (KVar 1) (MoreKVals (KVar 4) NoKVals)))).names
    ≡ Some 2 ∷ Some 4 ∷ Some 0 ∷ Some 1 ∷ None ∷ None ∷ []
names_with_own = refl

other : (i : ℕ) → Some i ≢ Some (i + 1)
other i e = let q : i ≡ i + 1 = cc in omega (arith, q)

-- by the rules: the free variables x and y are 1 and 0, and so are their names; inside the code they are 3 and 2, and
-- their names again 1 and 0
pair_translated : IsTranslation pair pair_closed
pair_translated = (
  _,
  _,
  refl,
  (_, refl, refl),
  (
    _,
    _,
    refl,
    (_, refl, refl),
    (
      _,
      _,
      refl,
      (
        _,
        _,
        refl,
        (_, _, refl, (1, refl, (other 0, refl)), (_, _, refl, (0, refl, refl), refl)),
        (_, _, refl, (_, _, refl, (1, refl, (other 2, refl)), (0, refl, refl)), (_, refl, (0, refl, refl))),
      ),
      (_, _, refl, refl, refl),
    ),
  ),
)

-- the environment the other way round, its fields too, means the same and is no translation
abbrev pair_turned : CTm
pair_turned =
    let ints = TCTuple (MoreCTys TCInt (MoreCTys TCInt NoCTys)) in
    let body =
    CLet (CProj 1 (CVar 1)) (CLet (CProj 2 (CVar 2)) (CLet (CArith Sub (CVar 0) (CVar 1)) (CHalt (CVar 0)))) in
    let shape = TCExists
    (TCTuple (MoreCTys (TCCode 0 (MoreCTys (TCVar 0) (MoreCTys TCInt NoCTys))) (MoreCTys (TCVar 0) NoCTys))) in
    let closure =
    CPack ints (CTuple
    (MoreCVals (CApply (CCode 0 (MoreCTys ints (MoreCTys TCInt NoCTys)) body) NoCTys)
    (MoreCVals (CTuple (MoreCVals (CVar 0) (MoreCVals (CVar 1) NoCVals))) NoCVals))) shape in
    CLet (CName (CInt (pos 1)))
    (CLet (CName (CInt (pos 2)))
    (CLet (CUnpack closure)
    (CLet (CProj 1 (CVar 0))
    (CLet (CProj 2 (CVar 1))
    (CCall (CVar 1) NoCTys (MoreCVals (CVar 0) (MoreCVals (CInt (pos 7)) NoCVals)))))))

turned_means_the_same : crun 1 pair_turned ≡ crun 1 pair_closed
unfolding int_wrap
turned_means_the_same = refl

-- what follows a declaration, and the environment of the closure that a term opens
abbrev after : CTm → CTm
after (CLet d t) = t
after t = t

abbrev env_in : CVal → CVals
env_in (CPack h (CTuple (MoreCVals c (MoreCVals (CTuple vs) NoCVals))) s) = vs
env_in v = NoCVals

abbrev env_of : CTm → CVals
env_of (CLet (CUnpack v) t) = env_in v
env_of t = NoCVals

-- the number of the variable that is the first value
abbrev number : CVal → ℕ
number (CVar i) = i
number v = 0

abbrev first_value : CVals → CVal
first_value NoCVals = CInt (pos 0)
first_value (MoreCVals v vs) = v

turned_is_none : IsTranslation pair pair_turned → ⊥
turned_is_none
    (d, rest, e, rd, (d2, rest2, e2, rd2, (c, us, e3, (ys, body, ec, (v, vs, ev, (j, is, place), more), rt), rvs))) =
    let first : rest ≡ after pair_turned = sym (ap after e) in
    let second : rest2 ≡ after (after pair_turned) = sym (ap after e2) ∙ ap after first in
    let same : env_of (after (after pair_turned)) ≡ env_in c = ap env_of (sym second ∙ e3) in
    clash v vs j (same ∙ ap env_in ec ∙ ev) is place
  where
    clash : (v : CVal) (vs : CVals) (j : ℕ) → MoreCVals (CVar 0) (MoreCVals (CVar 1) NoCVals) ≡ MoreCVals v vs →
        v ≡ CVar j → IsPlace 1 (Some 0 ∷ Some 1 ∷ []) j → ⊥
    clash v vs j e is place =
        let q : 0 ≡ j = ap number (ap first_value e ∙ is) in
        other 0 (subst (IsPlace 1 (Some 0 ∷ Some 1 ∷ [])) (sym q) place)

-- a function makes its own closure again from its code and the environment that it was given:
-- (f = code(x: int). f(x))(3)
abbrev loop : KTm
loop =
    KCall (KCode 0 (MoreKTys TKInt NoKTys) (KCall (KVar 1) NoKTys (MoreKVals (KVar 0) NoKVals))) NoKTys
    (MoreKVals (KInt (pos 3)) NoKVals)

-- what the closure that is made again has for its environment
abbrev loop_with : CVal → CTm
loop_with env =
    let shape = TCExists
    (TCTuple (MoreCTys (TCCode 0 (MoreCTys (TCVar 0) (MoreCTys TCInt NoCTys))) (MoreCTys (TCVar 0) NoCTys))) in
    let pack = λ (code : CVal) (env : CVal).
    CPack (TCTuple NoCTys) (CTuple (MoreCVals (CApply code NoCTys) (MoreCVals env NoCVals))) shape in
    let call = λ (f : CVal) (x : CVal).
    CLet (CUnpack f)
    (CLet (CProj 1 (CVar 0))
    (CLet (CProj 2 (CVar 1)) (CCall (CVar 1) NoCTys (MoreCVals (CVar 0) (MoreCVals x NoCVals))))) in
    let code = CCode 0 (MoreCTys (TCTuple NoCTys) (MoreCTys TCInt NoCTys))
    (CLet (CName (pack (CVar 2) env)) (call (CVar 0) (CVar 4))) in
    call (pack code (CTuple NoCVals)) (CInt (pos 3))

loop_is : close_of loop ≡ loop_with (CVar 1)
loop_is = refl

-- the closure made again with another environment, here the empty one outside, is no translation
abbrev opened : CTm → CVal
opened (CLet (CUnpack v) t) = v
opened t = CInt (pos 0)

abbrev made_again : CVal → CVal
made_again (CPack h (CTuple (MoreCVals (CApply (CCode owes args (CLet (CName v) t)) ts) vs)) s) = v
made_again v = CInt (pos 0)

abbrev env_var : CVal → ℕ
env_var (CPack h (CTuple (MoreCVals c (MoreCVals (CVar i) NoCVals))) s) = i
env_var v = 0

outer_is_none : IsTranslation loop (loop_with (CTuple NoCVals)) → ⊥
outer_is_none (c, us, e, (ys, body, ec, st, rt), rvs) =
    let one : 0 ≡ 1 = ap env_var (ap made_again (ap opened e ∙ ec)) in omega (arith, one)
