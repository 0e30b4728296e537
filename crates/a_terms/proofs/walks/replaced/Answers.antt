use Rattle.std.proofs.Common.{sym, arith}
use Rattle.idx_core.specs.Laws.{putted_lt}
use Rattle.a_terms.specs.Tree.{AVar, over}
use Rattle.a_terms.specs.Read.{atree}
use Rattle.a_terms.proofs.walks.replaced.Goals as goal

pub returns-then-i-d : goal.returns-then-i-d
returns-then-i-d c = sym (putted_lt AVar over c.args.c (atree c.args.s.now) c.args.d c.args.i (omega arith))
