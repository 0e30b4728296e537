use Rattle.std.proofs.Common.{length, get_or, refl, arith, Ok, Err}
use Rattle.std.proofs.lemmas.Result.{err_from_is_err_and}
use Rattle.t_intern.proofs.Growing.{grown_next, grown_same, grown_length}
use Rattle.t_intern.proofs.Walked.{reg_below}
use Rattle.t_known.specs.Known.{known}
use Rattle.t_check.proofs.Missing.{file_left, reg_more, reg_fault, file_end, reg_grown}
use Rattle.t_known.proofs.Noting.{sound_grown}
use Rattle.t_check.proofs.unfit.check_file.Goals as goal
use Rattle.idx_core.proofs.Lists.{item}

pub loop-reg-init : goal.loop-reg-init
loop-reg-init c =
    let ts = c.args.types.now in
    let k = c.args.registers.now in
    record { grown = grown_same ts ts refl; left = file_left k.names (known ts k) c.args.span ts c.args.regs.now }

pub check_reg-requires-clause-sound : goal.check_reg-requires-clause-sound
check_reg-requires-clause-sound c =
    sound_grown c.args.types.now c.loop-reg.types c.loop-reg.invariant.grown c.args.registers.now c.requires.sound

pub check_reg-requires-clause-wanted : goal.check_reg-requires-clause-wanted
check_reg-requires-clause-wanted c =
    let l = c.loop-reg in
    let xs = c.args.regs.now in
    let lt = c.loop-reg-test.true in
    let below = reg_below (length c.args.types.now) xs l.reg-index (get_or xs l.reg-index (0, 0)) lt
    (item xs l.reg-index (0, 0) lt) c.requires.regs in
    omega (arith, below, grown_length c.args.types.now l.types l.invariant.grown)

pub returns-in_err-check_reg-clause-grown : goal.returns-in_err-check_reg-clause-grown
returns-in_err-check_reg-clause-grown c = grown_next _ _ _ c.loop-reg.invariant.grown c.in_err-check_reg.ensures.grown

pub returns-in_err-check_reg-clause-fit : goal.returns-in_err-check_reg-clause-fit
returns-in_err-check_reg-clause-fit c =
    let l = c.loop-reg in
    let ts = c.args.types.now in
    let k = c.args.registers.now in
    let s = c.args.span in
    let xs = c.args.regs.now in
    let lt = c.loop-reg-test.true in
    let x = get_or xs l.reg-index (0, 0) in
    let is = item xs l.reg-index (0, 0) lt in
    let below = reg_below (length ts) xs l.reg-index x lt is c.requires.regs in
    let p = err_from_is_err_and c.from_residual.result c.from_residual.ensures.1 in
    let e = c.in_err-check_reg.field-0.0 in
    let us = c.check_reg.new.types in
    let told = reg_grown ts l.types l.invariant.grown k c.requires.sound k.names s x.0 x.1 below
    us (Err e) c.in_err-check_reg.ensures.fit in
    rw (p.1, p.2) (reg_fault k.names (known ts k) s ts xs l.reg-index x is lt l.invariant.left us e told)

pub loop-reg-preserved : goal.loop-reg-preserved
loop-reg-preserved c =
    let l = c.loop-reg in
    let ts = c.args.types.now in
    let k = c.args.registers.now in
    let s = c.args.span in
    let xs = c.args.regs.now in
    let lt = c.loop-reg-test.true in
    let x = get_or xs l.reg-index (0, 0) in
    let is = item xs l.reg-index (0, 0) lt in
    let below = reg_below (length ts) xs l.reg-index x lt is c.requires.regs in
    let told = reg_grown ts l.types l.invariant.grown k c.requires.sound k.names s x.0 x.1 below
    c.check_reg.new.types (Ok tt) c.in_ok-check_reg.ensures.fit in
    record {
      grown = grown_next _ _ _ l.invariant.grown c.in_ok-check_reg.ensures.grown;
      left = reg_more k.names (known ts k) s ts xs l.reg-index x is lt told l.invariant.left;
    }

pub returns-clause-fit : goal.returns-clause-fit
returns-clause-fit c =
    let ts = c.args.types.now in
    let k = c.args.registers.now in
    file_end k.names (known ts k) c.args.span ts c.args.regs.now c.loop-reg.reg-index c.loop-reg-test.false
    c.loop-reg.invariant.left
