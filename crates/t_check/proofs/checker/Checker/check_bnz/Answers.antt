use Rattle.std.proofs.Common.{◌∙◌}
use Rattle.t_terms.specs.Read.{value}
use Rattle.t_terms.specs.ReadProgram.{program}
use Rattle.t_known.specs.Known.{known}
use Rattle.t_known.proofs.Noting.{known_grown}
use Rattle.t_check.proofs.Typing.{bnz_is}
use Rattle.t_check.proofs.checker.Checker.check_bnz.Goals as goal

pub returns-clause-step : goal.returns-clause-step
returns-clause-step c =
    let ts = c.args.types.now in
    let us = c.check_target.new.types in
    let k = c.args.self.now.registers in
    let done = c.check_target.ensures in
    bnz_is (program c.args.self.now.program.now) k.names (known ts k) c.args.span us c.check_target.new.self.registers
    c.args.r (value c.args.v.now) c.in_ok-check_int.ensures
    (done.known us ∙ known_grown ts us done.grown k c.requires.place.sound) done.names c.check_target.result done.sound
    done.entered
