use Rattle.std.proofs.Common.{◌≡◌, suc, ◌+◌, ◌-◌, ◌<◌, length, sym, arith}
use Rattle.type_path.specs.Assembly.{binds}
use Rattle.type_path.specs.ReadPart.{part_of}
use Rattle.type_path.proofs.AssemblySteps.{bound_on, bound_ends}
use Rattle.type_path.proofs.assembly.assembly_bound.Goals as goal

pub returns-in-None : goal.returns-in-None
returns-in-None c =
    let n = c.loop-at.at in
    let e : n ≡ suc (n - 1) = let t = c.loop-at-test.true in omega arith in
    let there : n - 1 < length c.args.path.now =
    let t = c.loop-at-test.true in omega (arith, c.loop-at.invariant.0) in
    let more : c.in_ok-count.count ≡ c.loop-at.count + binds (part_of c.loop-at.part) =
    omega (arith, c.in_ok-count.ensures, c.binds.ensures) in
    bound_ends c.args.path.now n (n - 1) _ (part_of c.loop-at.part) _ _ _ e there more c.loop-at.invariant.1
    (sym c.in-None.ensures)

pub loop-at-preserved : goal.loop-at-preserved
loop-at-preserved c =
    let n = c.loop-at.at in
    let e : n ≡ suc (n - 1) = let t = c.loop-at-test.true in omega arith in
    let there : n - 1 < length c.args.path.now =
    let t = c.loop-at-test.true in omega (arith, c.loop-at.invariant.0) in
    let more : c.in_ok-count.count ≡ c.loop-at.count + binds (part_of c.loop-at.part) =
    omega (arith, c.in_ok-count.ensures, c.binds.ensures) in (
      omega (arith, c.loop-at.invariant.0),
      bound_on c.args.path.now n (n - 1) _ (part_of c.loop-at.part) _ _ _ e there more c.loop-at.invariant.1
          (part_of c.in-Some.next) (sym c.in-Some.ensures),
    )
