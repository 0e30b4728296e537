use Rattle.std.proofs.Common.{sym, subst}
use Rattle.t_intern.specs.Found.{made_found}
use Rattle.t_intern.specs.Marks.{marked as with_marks}
use Rattle.t_intern.specs.Memo.{AreMarked}
use Rattle.t_intern.proofs.types.Types.note_mark.Goals as goal

pub invariant_of-self : goal.invariant_of-self
invariant_of-self c =
    let i = c.self.invariant in
    let old = subst (AreMarked (made_found c.self.inside.marked)) c.self.view_is i.marked in
    let new = c.note.ensures with_marks c.args.self.now old c.requires.there c.requires.set c.requires.number in
    let marked = subst (AreMarked (made_found c.note.new.self)) (sym c.self.view_is) new in
    record {
      parts = i.parts;
      once = i.once;
      bounds = i.bounds;
      fitted = i.fitted;
      shifted = i.shifted;
      marked = marked;
      applied = i.applied;
    }
