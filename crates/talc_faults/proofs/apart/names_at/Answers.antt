use Rattle.std.proofs.Common.{◌≡◌, suc, ◌-◌, ◌<◌, length, arith}
use Rattle.talc_faults.proofs.PathLemmas.{names_on}
use Rattle.talc_faults.proofs.apart.names_at.Goals as goal

pub loop-at-preserved : goal.loop-at-preserved
loop-at-preserved c =
    let n = c.loop-at.at in
    let e : n ≡ suc (n - 1) = let t = c.loop-at-test.true in omega arith in
    let there : n - 1 < length c.args.path.now =
    let t = c.loop-at-test.true in omega (arith, c.loop-at.invariant.0) in (
      omega (arith, c.loop-at.invariant.0),
      names_on c.loop-at.inner c.in_ok-inner.inner c.args.path.now n (n - 1) _ _ e there c.in_ok-inner.ensures
          c.loop-at.invariant.1,
    )
