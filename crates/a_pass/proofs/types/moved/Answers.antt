use Rattle.std.proofs.Common.{◌∙◌, ap, sym, arith}
use Rattle.idx_core.specs.Laws.{shifted_lt, shifted_ge}
use Rattle.a_terms.specs.Tree.{AVar}
use Rattle.a_pass.proofs.types.moved.Goals as goal

pub returns-then-i-d : goal.returns-then-i-d
returns-then-i-d c = sym (shifted_lt AVar c.args.by c.args.d c.args.i (omega arith))

pub returns-in_ok-j : goal.returns-in_ok-j
returns-in_ok-j c = ap AVar c.in_ok-j.ensures ∙ sym (shifted_ge AVar c.args.by c.args.d c.args.i (omega arith))
