use Rattle.std.proofs.Common.{sym, subst}
use Rattle.t_intern.specs.Found.{shift_found}
use Rattle.t_intern.specs.Memo.{AreShifts}
use Rattle.t_intern.proofs.types.Types.note_shift.Goals as goal

pub invariant_of-self : goal.invariant_of-self
invariant_of-self c =
    let i = c.self.invariant in
    let old = subst (AreShifts (shift_found c.self.inside.shifted)) c.self.view_is i.shifted in
    let new = c.note.ensures c.args.self.now old c.requires.there c.requires.number in
    let shifted = subst (AreShifts (shift_found c.note.new.self)) (sym c.self.view_is) new in
    record {
      parts = i.parts;
      once = i.once;
      bounds = i.bounds;
      fitted = i.fitted;
      shifted = shifted;
      marked = i.marked;
      applied = i.applied;
    }
