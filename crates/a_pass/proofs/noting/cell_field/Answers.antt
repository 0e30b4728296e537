use Rattle.std.proofs.Common.{arith}
use Rattle.c_terms.specs.Read.{ctree}
use Rattle.a_laws.specs.Allocate.{atype}
use Rattle.a_pass.proofs.Keeping.{cell_in, cell_out}
use Rattle.a_pass.proofs.noting.cell_field.Goals as goal

pub returns-then-i-eq1 : goal.returns-then-i-eq1
returns-then-i-eq1 c = cell_in (atype (ctree c.args.t.now)) c.args.i (omega (arith, c.if-i-eq1.true))

pub returns-else-i-eq1 : goal.returns-else-i-eq1
returns-else-i-eq1 c = cell_out (atype (ctree c.args.t.now)) c.args.i (λ e. omega (arith, c.if-i-eq1.false, e))
