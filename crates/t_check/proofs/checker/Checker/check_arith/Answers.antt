use Rattle.std.proofs.Common.{◌∙◌, ap, sym, subst, refl, Result, true≢false}
use Rattle.t_types.specs.Tree.{Ty}
use Rattle.t_terms.specs.Read.{value}
use Rattle.t_terms.specs.ReadProgram.{program}
use Rattle.t_known.specs.declared.refusal.Refusal.{Refusal}
use Rattle.t_terms.specs.Tree.{Arith}
use Rattle.t_terms.specs.Registers.{with_reg}
use Rattle.t_rules.specs.Rules.{Has}
use Rattle.t_intern.specs.Nodes.{at}
use Rattle.t_known.specs.Known.{known}
use Rattle.t_check.specs.Verdict.{IsStep}
use Rattle.t_known.proofs.Noting.{noted_since, sound_grown}
use Rattle.t_check.proofs.Typing.{operand}
use Rattle.t_check.proofs.checker.Checker.check_arith.Goals as goal

pub returns-then-not-is_int-clause-step : goal.returns-then-not-is_int-clause-step
returns-then-not-is_int-clause-step c = λ op.
    let P = program c.args.self.now.program.now in
    let k = c.args.self.now.registers in
    let g = known c.args.types.now k in
    let us = c.type_of_value.new.types in
    let v = value c.args.v.now in
    subst (λ (r : Result (Unit {0}) Refusal). IsStep P us k.names g k c.args.span
    (Arith op c.args.regs.rd c.args.regs.rs v) r)
    (sym c.refused.ensures)
    (operand P k.names g c.args.span op c.args.regs.rd c.args.regs.rs v (at us c.in_ok-found.found)
    c.in_ok-check_int.ensures
    c.in_ok-found.ensures.typed.1 (λ e. absurd (true≢false (sym (c.if-not-is_int.ensures.1 e)))))

pub returns-clause-step : goal.returns-clause-step
returns-clause-step c = λ op.
    let P = program c.args.self.now.program.now in
    let ts = c.args.types.now in
    let k = c.args.self.now.registers in
    let g = known ts k in
    let us = c.type_of_value.new.types in
    let v = value c.args.v.now in
    let sound = c.requires.place.sound in
    let grown = c.in_ok-found.ensures.grown in
    let int = c.if-not-is_int.ensures.0 refl in
    let typed = c.in_ok-found.ensures.typed in
    let noted = c.in_ok-note.ensures us (sound_grown ts us grown k sound) typed.0 typed.2 in
    let since = noted_since ts us k c.note.new.self c.args.regs.rd (at us c.in_ok-found.found) grown sound noted in (
      (
        c.in_ok-check_int.ensures,
        subst (Has P k.names g v) int typed.1,
        since
            ∙ ap (λ (t : Ty). with_reg g c.args.regs.rd t) int,
      ),
      noted.1,
      noted.2,
    )
