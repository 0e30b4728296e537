use Rattle.std.proofs.Common.{arith}
use Rattle.t_intern.specs.Marks.{marked}
use Rattle.t_intern.proofs.Growing.{grown_length}
use Rattle.t_intern.proofs.MadePairs.{made_next}
use Rattle.t_known.proofs.marking.mark.Goals as goal

pub note_mark-requires-clause-there : goal.note_mark-requires-clause-there
note_mark-requires-clause-there c =
    omega (arith, c.requires.there, grown_length c.args.types.now c.mark_anew.new.types c.in_ok-made.ensures.grown)

pub note_mark-requires-clause-set : goal.note_mark-requires-clause-set
note_mark-requires-clause-set c =
    omega (arith, c.requires.set, grown_length c.args.types.now c.mark_anew.new.types c.in_ok-made.ensures.grown)

pub note_mark-requires-clause-number : goal.note_mark-requires-clause-number
note_mark-requires-clause-number c =
    made_next marked c.args.types.now c.mark_anew.new.types c.args.n c.args.set c.in_ok-made.made
    c.in_ok-made.ensures.grown c.requires.there c.requires.set c.in_ok-made.ensures.number
