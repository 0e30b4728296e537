use Rattle.std.proofs.Common.{ap, ◌∙◌}
use Rattle.t_spill_code.specs.Onto.{onto}
use Rattle.t_spill_code.proofs.Made.{onto_snoc}
use Rattle.t_spill_code.proofs.emit.put.Goals as goal

pub returns : goal.returns
returns c =
    λ rest. ap (λ xs. onto xs rest) c.in_ok-push.ensures.items ∙ onto_snoc c.args.code.now.items (c.args.i, _) rest
