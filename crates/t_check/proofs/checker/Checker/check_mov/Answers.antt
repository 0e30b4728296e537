use Rattle.std.proofs.Common.{sym, subst}
use Rattle.t_terms.specs.Tree.{TValue, Mov}
use Rattle.t_terms.specs.ReadProgram.{program}
use Rattle.t_intern.specs.Nodes.{at}
use Rattle.t_known.specs.Known.{known}
use Rattle.t_check.specs.Verdict.{IsStep}
use Rattle.t_known.proofs.Noting.{noted_since, sound_grown}
use Rattle.t_check.proofs.checker.Checker.check_mov.Goals as goal

pub returns-in-Some-clause-step : goal.returns-in-Some-clause-step
returns-in-Some-clause-step c =
    let k = c.args.self.now.registers in
    let ts = c.args.types.now in
    subst (λ (v : TValue). IsStep (program c.args.self.now.program.now) ts k.names
    (known ts k) c.check_copy.new.self.registers c.args.span (Mov c.args.rd v) c.check_copy.result)
    (sym c.in-Some.ensures) (c.check_copy.ensures.step ts c.requires.place.sound)

pub returns-clause-step : goal.returns-clause-step
returns-clause-step c =
    let ts = c.args.types.now in
    let k = c.args.self.now.registers in
    let us = c.type_of_value.new.types in
    let sound = c.requires.place.sound in
    let grown = c.in_ok-found.ensures.grown in
    let typed = c.in_ok-found.ensures.typed in
    let t = at us c.in_ok-found.found in
    let noted = c.in_ok-note.ensures us (sound_grown ts us grown k sound) typed.0 typed.2 in
    ((t, typed.1, noted_since ts us k c.note.new.self c.args.rd t grown sound noted), noted.1, noted.2)
