use Rattle.std.proofs.Common.{sym, subst}
use Rattle.t_intern.specs.Applied.{applied as applied_to}
use Rattle.t_intern.specs.Found.{made_found}
use Rattle.t_intern.specs.Memo.{AreApplied}
use Rattle.t_intern.proofs.types.Types.note_applied.Goals as goal

pub invariant_of-self : goal.invariant_of-self
invariant_of-self c =
    let i = c.self.invariant in
    let old = subst (AreApplied (made_found c.self.inside.applied)) c.self.view_is i.applied in
    let new = c.note.ensures applied_to c.args.self.now old c.requires.there c.requires.args c.requires.number in
    let applied = subst (AreApplied (made_found c.note.new.self)) (sym c.self.view_is) new in
    record {
      parts = i.parts;
      once = i.once;
      bounds = i.bounds;
      fitted = i.fitted;
      shifted = i.shifted;
      marked = i.marked;
      applied = applied;
    }
