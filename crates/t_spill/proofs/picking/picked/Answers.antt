use Rattle.std.proofs.Common.{refl, sym, subst}
use Rattle.t_spill_code.specs.Homes.{Lists}
use Rattle.t_spill.proofs.Framed.{picked_next, picked_all}
use Rattle.t_spill.proofs.picking.picked.Goals as goal

pub loop-r-preserved : goal.loop-r-preserved
loop-r-preserved c = λ n x ws k t.
    picked_next c.args.homes.now.split.low ws x c.deref-r-items.result.now c.loop-r.r-index _ 0 c.loop-r.made.items _
    c.is_wanted-wanted.result _
    c.loop-r-test.true refl (c.is_wanted-wanted.ensures ws t) (λ rest. c.in_ok-pick.ensures n x rest k)
    (c.loop-r.invariant n x ws k t)

pub returns : goal.returns
returns c = (
  c.deref-r-items.result.now,
  subst (Lists c.args.homes.now) (sym c.deref-r-items.ensures.value) c.in_ok-registers.ensures,
  λ n x ws k t. picked_all c.args.homes.now.split.low ws x c.deref-r-items.result.now c.loop-r.r-index
      c.loop-r.made.items _ c.loop-r-test.false (c.loop-r.invariant n x ws k t),
)
