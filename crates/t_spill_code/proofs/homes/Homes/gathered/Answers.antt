use Rattle.std.proofs.Common.{◌≡◌, refl, arith, rules, subst}
use Rattle.t_spill_code.proofs.Gathered.{Placed, gathered_homes, gathered_has}
use Rattle.t_spill_code.proofs.homes.Homes.gathered.Goals as goal

pub returns : goal.returns
returns c =
    let high = c.args.high.now in
    let zero : c.loop-left.left ≡ 0 = omega (arith, c.loop-left-test.false) in
    let placed = subst (λ i. Placed c.loop-left.places i c.args.high.now) zero c.loop-left.invariant.places in (
      refl,
      λ r. gathered_homes c.args.split.low _ c.loop-left.places high r
          (search rules) placed,
      λ r. gathered_has c.loop-left.places high r placed,
    )
