use Rattle.std.proofs.Common.{◌∙◌, ap, sym, arith}
use Rattle.idx_core.specs.Laws.{shifted_lt, shifted_ge}
use Rattle.calc_core.specs.Types.{VarTy}
use Rattle.let_types.proofs.walks.moved.Goals as goal

pub returns-then-i-cut : goal.returns-then-i-cut
returns-then-i-cut c = sym (shifted_lt VarTy c.args.by c.args.cut c.args.i (omega arith))

pub returns : goal.returns
returns c = ap VarTy c.in_ok-j.ensures ∙ sym (shifted_ge VarTy c.args.by c.args.cut c.args.i (omega arith))
