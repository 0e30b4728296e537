use Rattle.std.proofs.Common.{◌∙◌}
use Rattle.t_known.proofs.Noting.{found_is}
use Rattle.t_known.proofs.registers.Registers.find.Goals as goal

pub returns-clause-found : goal.returns-clause-found
returns-clause-found c =
    λ ts h. found_is ts c.args.self.now c.args.r c.copied.result (c.copied.ensures ∙ c.get.ensures.value) h
