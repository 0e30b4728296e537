use Rattle.std.proofs.Common.{sym, subst}
use Rattle.t_intern.specs.Fitting.{AllFit}
use Rattle.t_intern.specs.Found.{seen}
use Rattle.t_intern.proofs.types.Types.note_fit.Goals as goal

pub invariant_of-self : goal.invariant_of-self
invariant_of-self c =
    let i = c.self.invariant in
    let old = subst (AllFit (seen c.self.inside.fitted)) c.self.view_is i.fitted in
    let new = c.note.ensures c.args.self.now old c.requires.left c.requires.right c.requires.fit in
    let fitted = subst (AllFit (seen c.note.new.self)) (sym c.self.view_is) new in
    record {
      parts = i.parts;
      once = i.once;
      bounds = i.bounds;
      fitted = fitted;
      shifted = i.shifted;
      marked = i.marked;
      applied = i.applied;
    }
