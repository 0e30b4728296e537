use Rattle.std.proofs.Common.{refl, sym}
use Rattle.t_types.specs.Fits.{lookup}
use Rattle.t_types.specs.Read.{file}
use Rattle.t_types.proofs.Files.{RegFits, regs_fit, file_fits_all, entry_fits, entry_absent}
use Rattle.t_types.proofs.fitting.each_fits.Goals as goal
use Rattle.idx_core.proofs.Lists.{item_has, items_more}

pub returns-then-not-fits : goal.returns-then-not-fits
returns-then-not-fits c =
    let g = lookup (file c.args.a.now) in (
      (λ h. cc),
      λ h.
          c.if-not-fits.ensures.1
          (entry_fits g c.reg-item.result _ (sym c.in-Some.ensures)
          (item_has (RegFits g) _ _ _ c.reg-item.is c.loop-reg-test.true (regs_fit g c.args.b.now h))),
    )

pub returns-in-None : goal.returns-in-None
returns-in-None c =
    let g = lookup (file c.args.a.now) in (
      (λ h. cc),
      λ h.
          absurd (entry_absent g c.reg-item.result (sym c.in-None.ensures)
          (item_has (RegFits g) _ _ _ c.reg-item.is c.loop-reg-test.true (regs_fit g c.args.b.now h))),
    )

pub loop-reg-preserved : goal.loop-reg-preserved
loop-reg-preserved c =
    let g = lookup (file c.args.a.now) in
    items_more (RegFits g) _ _ _ c.reg-item.is c.loop-reg-test.true c.loop-reg.invariant
    (_, sym c.in-Some.ensures, c.if-not-fits.ensures.0 refl)

pub returns : goal.returns
returns c = (
  λ h. file_fits_all (lookup (file c.args.a.now)) c.args.b.now c.loop-reg.reg-index c.loop-reg.invariant
      c.loop-reg-test.false,
  λ h. refl,
)
