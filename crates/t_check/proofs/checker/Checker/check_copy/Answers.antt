use Rattle.t_known.specs.Known.{known, seen}
use Rattle.t_known.proofs.Noting.{set_known, set_sound}
use Rattle.t_terms.specs.ReadProgram.{program}
use Rattle.t_check.proofs.Typing.{copy_is}
use Rattle.t_check.proofs.checker.Checker.check_copy.Goals as goal

pub returns-in_ok-set-in-Some-clause-step : goal.returns-in_ok-set-in-Some-clause-step
returns-in_ok-set-in-Some-clause-step c = λ ts sound.
    let k = c.args.self.now.registers in
    let h = c.set.new.self in
    let e = c.in-Some.entry in
    let found = c.in-Some.ensures.found ts sound in
    copy_is (program c.args.self.now.program.now) k.names (known ts k) c.args.span ts h c.args.rd c.args.r
    (seen ts k.names e) found.0 (set_known ts k h c.args.rd e c.in_ok-set-in-Some.ensures)
    (set_sound ts k h c.args.rd e c.in_ok-set-in-Some.ensures found.1 sound) c.in_ok-set-in-Some.ensures.1
