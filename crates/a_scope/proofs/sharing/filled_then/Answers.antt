use Rattle.std.proofs.Common.{arith}
use Rattle.a_scope.proofs.Filling.{filled_again}
use Rattle.a_scope.proofs.sharing.filled_then.Goals as goal

pub returns-then-i-filled : goal.returns-then-i-filled
returns-then-i-filled c = (
  omega (arith, c.if-i-eq0.false),
  omega (arith, c.if-i-filled.true),
  λ t. filled_again c.args.i c.args.filled t (omega (arith, c.if-i-eq0.false)) c.if-i-filled.true,
)
