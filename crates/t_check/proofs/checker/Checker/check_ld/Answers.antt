use Rattle.std.proofs.Common.{◌∙◌, ap, Some, Bool}
use Rattle.t_types.specs.Fields.{AField}
use Rattle.t_intern.specs.Nodes.{at}
use Rattle.t_known.proofs.Noting.{noted_since, sound_grown}
use Rattle.t_check.proofs.checker.Checker.check_ld.Goals as goal

pub returns-clause-step : goal.returns-clause-step
returns-clause-step c =
    let ts = c.args.types.now in
    let k = c.args.self.now.registers in
    let us = c.field_of.new.types in
    let sound = c.requires.place.sound in
    let grown = c.in_ok-loaded.ensures.grown in
    let h = c.in_ok-loaded.ensures.field in
    let t = at us c.in_ok-loaded.loaded in
    let noted = c.in_ok-note.ensures us (sound_grown ts us grown k sound) h.4 h.3 in (
      (
        h.0,
        t,
        h.1,
        h.2 ∙ ap (λ (b : Bool). Some (AField t b)) c.if-not-flag.false,
        noted_since ts us k c.note.new.self c.args.regs.rd t grown sound noted,
      ),
      noted.1,
      noted.2,
    )
