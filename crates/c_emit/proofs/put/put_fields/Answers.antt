use Rattle.std.proofs.Common.{ap, ◌∙◌, sym}
use Rattle.c_terms.specs.Read.{written}
use Rattle.c_emit.proofs.Writes.{fields_step}
use Rattle.c_emit.proofs.put.put_fields.Goals as goal

pub loop-i-preserved : goal.loop-i-preserved
loop-i-preserved c = λ rest.
    c.in_ok-put-2.ensures _ ∙ c.in_ok-put.ensures _
    ∙ sym (ap (written c.loop-i.out.items)
    (fields_step c.args.k c.loop-i.i c.loop-i.level c.in_ok-level.level rest c.loop-i-test.true
    c.in_ok-level.ensures))
    ∙ c.loop-i.invariant rest
