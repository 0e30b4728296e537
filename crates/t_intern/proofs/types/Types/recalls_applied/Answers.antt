use Rattle.std.proofs.Common.{subst}
use Rattle.t_intern.specs.Applied.{applied}
use Rattle.t_intern.specs.Found.{made_found}
use Rattle.t_intern.specs.Memo.{AreApplied}
use Rattle.t_intern.proofs.MadePairs.{made_recalled}
use Rattle.t_intern.proofs.types.Types.recalls_applied.Goals as goal

pub returns : goal.returns
returns c =
    let all = subst (AreApplied (made_found c.self.inside.applied)) c.self.view_is c.self.invariant.applied in
    made_recalled applied (made_found c.self.inside.applied) c.args.self.now c.args.n c.args.args c.recall.result
    c.recall.ensures all
