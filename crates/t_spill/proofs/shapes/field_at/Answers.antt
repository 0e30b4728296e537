use Rattle.std.proofs.Common.{sym, ◌∙◌}
use Rattle.std.proofs.lemmas.Result.{IfOk-weaker}
use Rattle.t_spill.proofs.Tuples.{field_is, no_field}
use Rattle.t_spill.proofs.shapes.field_at.Goals as goal

pub returns-then-i-fs : goal.returns-then-i-fs
returns-then-i-fs c =
    IfOk-weaker c.copy.result _ _ (λ t h. h ∙ field_is c.args.fs.now c.args.i c.index-fs-i.result c.if-i-fs.true)
    c.copy.ensures

pub returns-else-i-fs : goal.returns-else-i-fs
returns-else-i-fs c = sym (no_field c.args.fs.now c.args.i c.if-i-fs.false)
