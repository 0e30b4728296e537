use Rattle.std.proofs.Common.{subst}
use Rattle.t_intern.specs.Found.{made_found}
use Rattle.t_intern.specs.Marks.{marked}
use Rattle.t_intern.specs.Memo.{AreMarked}
use Rattle.t_intern.proofs.MadePairs.{made_recalled}
use Rattle.t_intern.proofs.types.Types.recalls_mark.Goals as goal

pub returns : goal.returns
returns c =
    let all = subst (AreMarked (made_found c.self.inside.marked)) c.self.view_is c.self.invariant.marked in
    made_recalled marked (made_found c.self.inside.marked) c.args.self.now c.args.n c.args.set c.recall.result
    c.recall.ensures all
