use Rattle.std.proofs.Common.{subst}
use Rattle.t_intern.specs.Found.{shift_found}
use Rattle.t_intern.specs.Memo.{AreShifts}
use Rattle.t_intern.proofs.MadeShifts.{recalled}
use Rattle.t_intern.proofs.types.Types.recalls_shift.Goals as goal

pub returns : goal.returns
returns c =
    let all = subst (AreShifts (shift_found c.self.inside.shifted)) c.self.view_is c.self.invariant.shifted in
    recalled (shift_found c.self.inside.shifted) c.args.self.now c.args.n c.args.by c.args.cut c.recall.result
    c.recall.ensures all
