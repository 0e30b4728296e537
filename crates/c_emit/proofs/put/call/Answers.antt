use Rattle.std.proofs.Common.{ap, ◌∙◌}
use Rattle.c_terms.specs.Read.{written, ctys}
use Rattle.c_emit.proofs.Writes.{called_is}
use Rattle.c_emit.proofs.put.call.Goals as goal

pub returns : goal.returns
returns c = λ rest.
    c.in_ok-put-8.ensures rest ∙ c.in_ok-put-7.ensures _ ∙ c.in_ok-put-6.ensures _ ∙ c.in_ok-put-5.ensures _
    ∙ c.in_ok-put-4.ensures _ ∙ c.in_ok-put-3.ensures _ ∙ c.in_ok-put-2.ensures _ ∙ c.in_ok-put.ensures _
    ∙ ap (written c.args.out.now.items)
    (called_is c.args.at c.in_ok-code.code c.in_ok-env.env c.args.count c.in_ok-count.count
    (ctys c.args.types.items) rest c.in_ok-code.ensures c.in_ok-env.ensures c.in_ok-count.ensures)
