use Rattle.std.proofs.Common.{ap}
use Rattle.std.specs.Map.{lookup}
use Rattle.t_intern.specs.Found.{same_shift}
use Rattle.t_intern.proofs.MadeShifts.{shift_noted, same_shifts}
use Rattle.t_intern.proofs.SeenPairs.{either}
use Rattle.t_intern.proofs.shifts.Shifts.note.Goals as goal

pub returns : goal.returns
returns c = λ ts all l is. either c.insert.result c.insert.ensures.updates c.insert.ensures.err
    (λ u. shift_noted _ _ ts c.args.n c.args.by c.args.cut c.args.number u.0 all l is)
    (λ e. same_shifts _ _ ts (λ k. ap (lookup (same_shift k)) e) all)
