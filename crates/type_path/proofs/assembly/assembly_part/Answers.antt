use Rattle.std.proofs.Common.{◌≡◌, suc, ◌-◌, ◌<◌, length, sym, ◌∙◌, arith}
use Rattle.type_path.specs.Assembly.{into}
use Rattle.type_path.specs.ReadPart.{part_of}
use Rattle.type_path.proofs.Steps.{goes_on, leads_nowhere}
use Rattle.type_path.proofs.assembly.assembly_part.Goals as goal

pub returns-in-None : goal.returns-in-None
returns-in-None c =
    let n = c.loop-at.at in
    let e : n ≡ suc (n - 1) = let t = c.loop-at-test.true in omega arith in
    let there : n - 1 < length c.args.path.now =
    let t = c.loop-at-test.true in omega (arith, c.loop-at.invariant.0) in
    sym (c.loop-at.invariant.1
    ∙ leads_nowhere into c.args.path.now n (n - 1) _ (part_of c.loop-at.part) e there (sym c.in-None.ensures))

pub loop-at-preserved : goal.loop-at-preserved
loop-at-preserved c =
    let n = c.loop-at.at in
    let e : n ≡ suc (n - 1) = let t = c.loop-at-test.true in omega arith in
    let there : n - 1 < length c.args.path.now =
    let t = c.loop-at-test.true in omega (arith, c.loop-at.invariant.0) in (
      omega (arith, c.loop-at.invariant.0),
      c.loop-at.invariant.1
          ∙ goes_on into c.args.path.now n (n - 1) _ (part_of c.loop-at.part) e there (part_of c.in-Some.next)
          (sym c.in-Some.ensures),
    )
