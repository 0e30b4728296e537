use Rattle.std.proofs.Common.{ap, ◌∙◌}
use Rattle.t_spill.specs.Wants.{join}
use Rattle.t_spill.proofs.Wants.{join_snoc}
use Rattle.t_spill.proofs.reads.note.Goals as goal

pub returns : goal.returns
returns c = λ rest. ap (λ xs. join xs rest) c.in_ok-push.ensures.items ∙ join_snoc c.args.wants.now.items c.args.r rest
