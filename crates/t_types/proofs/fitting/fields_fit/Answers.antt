use Rattle.std.proofs.Common.{refl}
use Rattle.std.proofs.lemmas.Iterator.{empty_from_Zip}
use Rattle.t_types.proofs.FitPlaces.{AllFit, fit_len}
use Rattle.t_types.proofs.Pairs.{starts, ends, firsts, goes_on}
use Rattle.t_types.proofs.fitting.fields_fit.Goals as goal

pub returns-then-a-b : goal.returns-then-a-b
returns-then-a-b c = ((λ h. cc), (λ h. absurd (c.if-a-b.true (fit_len c.args.a.now c.args.b.now h))))

pub loop-x-init : goal.loop-x-init
loop-x-init c =
    let z = c.zip-x-items.ensures in
    let e = c.into_iter-x-iterator.ensures.into_iter_gives in
    starts AllFit _ _ _ _ (rw (e, z.first) c.iter.ensures.rest) (rw e z.second.0) c.if-a-b.false

pub returns-then-not-flag_fits : goal.returns-then-not-flag_fits
returns-then-not-flag_fits c =
    let s = c.in-Some.ensures.steps in
    ((λ h. cc), (λ h. c.if-not-flag_fits.ensures.1 (firsts AllFit _ _ _ _ _ _ _ _ c.loop-x.invariant s.0 s.1 h).1))

pub returns-then-not-eq : goal.returns-then-not-eq
returns-then-not-eq c =
    let s = c.in-Some.ensures.steps in
    ((λ h. cc), (λ h. c.if-not-eq.ensures.1 (firsts AllFit _ _ _ _ _ _ _ _ c.loop-x.invariant s.0 s.1 h).0))

pub loop-x-preserved : goal.loop-x-preserved
loop-x-preserved c =
    let s = c.in-Some.ensures.steps in
    goes_on AllFit _ _ _ _ _ _ _ _ c.loop-x.invariant s.0 s.1
    (λ h. (c.if-not-eq.ensures.0 refl, c.if-not-flag_fits.ensures.0 refl, h)) (λ h. h.2)

pub returns : goal.returns
returns c =
    let l = c.loop-x in
    let e = empty_from_Zip l.x-iterator c.next.new.self _ c.in-None.is c.next.ensures.steps l.invariant.long in
    ((λ h. ends AllFit _ _ _ _ l.invariant e.0 e.1 tt), (λ h. refl))
