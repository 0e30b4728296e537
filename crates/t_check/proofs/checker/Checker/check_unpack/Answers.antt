use Rattle.std.proofs.Common.{◌∙◌, sym, subst, ap, Result, ℕ}
use Rattle.t_types.specs.Fits.{RegTypes}
use Rattle.t_terms.specs.Read.{value}
use Rattle.t_terms.specs.ReadProgram.{program}
use Rattle.t_known.specs.declared.refusal.Refusal.{Refusal}
use Rattle.t_terms.specs.Tree.{Unpack}
use Rattle.t_terms.specs.Registers.{with_reg, raised}
use Rattle.t_rules.specs.Rules.{Has}
use Rattle.t_intern.specs.Nodes.{at}
use Rattle.t_types.specs.Bounds.{Bounded}
use Rattle.t_known.specs.Known.{known}
use Rattle.t_check.specs.Verdict.{IsStep}
use Rattle.t_rules.proofs.Depth.{unpacked}
use Rattle.t_known.proofs.Noting.{known_grown, sound_grown}
use Rattle.t_check.proofs.Typing.{unpack_other}
use Rattle.t_check.proofs.checker.Checker.check_unpack.Goals as goal

pub returns-in-None-clause-step : goal.returns-in-None-clause-step
returns-in-None-clause-step c =
    let P = program c.args.self.now.program.now in
    let k = c.args.self.now.registers in
    let g = known c.args.types.now k in
    let us = c.type_of_value.new.types in
    let v = value c.args.v.now in
    subst (λ (r : Result (Unit {0}) Refusal). IsStep P us k.names g k c.args.span (Unpack c.args.rd v) r)
    (sym c.refused.ensures)
    (unpack_other P k.names g c.args.span c.args.rd v (at us c.in_ok-found.found) c.in_ok-found.ensures.typed.1
    c.in-None.ensures)

pub returns-clause-step : goal.returns-clause-step
returns-clause-step c =
    let P = program c.args.self.now.program.now in
    let ts = c.args.types.now in
    let k = c.args.self.now.registers in
    let g = known ts k in
    let us = c.type_of_value.new.types in
    let v = value c.args.v.now in
    let typed = c.in_ok-found.ensures.typed in
    let t = at us c.in-Some.body in
    let sound = sound_grown ts us c.in_ok-found.ensures.grown k c.requires.place.sound in
    let bounded =
    subst (λ (m : ℕ). Bounded m t) (sym c.bind.ensures.names)
    (unpacked k.names t (subst (Bounded k.names) c.in-Some.ensures.0 typed.2)) in
    let noted = c.in_ok-note.ensures us (c.bind.ensures.sound us sound) c.in-Some.ensures.1 bounded in
    let before = c.bind.ensures.known us sound
    ∙ ap raised (known_grown ts us c.in_ok-found.ensures.grown k c.requires.place.sound) in (
      (
        t,
        subst (Has P k.names g v) c.in-Some.ensures.0 typed.1,
        noted.0
            ∙ ap (λ (x : RegTypes). with_reg x c.args.rd t) before,
      ),
      noted.1,
      noted.2 ∙ c.bind.ensures.names,
    )
