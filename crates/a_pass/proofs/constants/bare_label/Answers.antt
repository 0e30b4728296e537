use Rattle.std.proofs.Common.{length, ap, arith}
use Rattle.a_pass.specs.Scope.{base_at}
use Rattle.a_pass.proofs.Every.{not_bare}
use Rattle.a_pass.proofs.constants.bare_label.Goals as goal

pub returns-then-wraps-gt0 : goal.returns-then-wraps-gt0
returns-then-wraps-gt0 c =
    not_bare c.args.value.now.wraps.items (base_at 0 c.args.value.now.base)
    (omega (arith, c.if-wraps-gt0.true, ap length c.as_slice-wraps.ensures.value))
