use Rattle.std.proofs.Common.{ap, ◌∙◌}
use Rattle.c_terms.specs.Read.{written}
use Rattle.c_emit.proofs.Writes.{written_push}
use Rattle.c_emit.proofs.put.put.Goals as goal

pub returns : goal.returns
returns c =
    λ rest. ap (λ ns. written ns rest) c.in_ok-push.ensures.items ∙ written_push c.args.out.now.items c.args.node rest
