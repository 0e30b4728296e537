use Rattle.std.proofs.Common.{List, ℕ, refl, sym, ap, ◌∙◌, subst, ◌++◌}
use Rattle.std.proofs.lemmas.Result.{on_ok_weaker}
use Rattle.t_types.specs.declared.types.TType.{TType}
use Rattle.t_types.specs.Read.{file, file_tree}
use Rattle.t_terms.specs.Read.{instr}
use Rattle.t_terms.specs.ReadProgram.{program}
use Rattle.t_spill_rules.specs.Spill.{live, next, reads, numbers, high_part}
use Rattle.t_spill.specs.Ready.{InstrTypable}
use Rattle.t_spill.specs.Wants.{Tells}
use Rattle.t_spill.proofs.Beside.{between, entered_is}
use Rattle.t_spill.proofs.Knowing.{typable_read, names_room}
use Rattle.t_spill.proofs.Onward.{wants_here, targets_agree, text_computed}
use Rattle.t_spill.proofs.stepping.compute.Goals as goal

pub target-requires : goal.target-requires
target-requires c =
    let h = c.requires.stands in
    let b = h.4 in
    let P = program c.args.program.now in
    let i = instr c.args.i.now in
    subst (λ (xs : List (ℕ × TType)). InstrTypable P (file xs) i) (sym c.deref.ensures.value)
    (typable_read P h.0 h.1 (file_tree c.args.read.now) i h.5 b.ready.0)

pub pass_instr-requires : goal.pass_instr-requires
pass_instr-requires c =
    let h = c.requires.stands in
    let b = h.4 in
    let P = program c.args.program.now in
    let i = instr c.args.i.now in
    let ahead = c.args.walk.now.ahead in
    let ws = live P (next P h.2 i) h.3 in
    let entered =
    entered_is P h.1 c.args.read.now.regs.items c.deref.result.now i c.in_ok-entered.entered.items
    c.in_ok-entered.ensures c.deref.ensures.value h.5 in (
      ws,
      subst (λ (xs : List (ℕ × TType)). Tells ahead (reads i ++ numbers (file xs) ++ ws)) (sym c.deref-2.ensures.value)
          (subst (Tells ahead) (wants_here P h.2 h.1 i h.3 c.in_ok-entered.entered.items b.agrees entered) b.told),
    )

pub advance-requires-clause-typable : goal.advance-requires-clause-typable
advance-requires-clause-typable c =
    let h = c.requires.stands in
    let b = h.4 in
    typable_read (program c.args.program.now) h.0 h.1 (file_tree c.args.read.now) (instr c.args.i.now) h.5 b.ready.0

pub advance-requires-clause-room : goal.advance-requires-clause-room
advance-requires-clause-room c =
    let h = c.requires.stands in
    let b = h.4 in
    names_room (instr c.args.i.now) c.args.walk.now.known.names h.0 b.knows.0 b.ready.0.1

pub returns : goal.returns
returns c =
    on_ok_weaker c.advance.result
    (λ h n y x s b e.
    let P = program c.args.program.now in
    let i = instr c.args.i.now in
    let w = c.args.walk.now in
    let m = w.code.homes.split.low in
    let ws = live P (next P x i) s in
    let entered =
    entered_is P y c.args.read.now.regs.items c.deref.result.now i c.in_ok-entered.entered.items
    c.in_ok-entered.ensures c.deref.ensures.value e in
    let told = c.pass_instr.ensures ws
    (subst (λ (xs : List (ℕ × TType)). Tells w.ahead (reads i ++ numbers (file xs) ++ ws))
    (sym c.deref-2.ensures.value)
    (subst (Tells w.ahead) (wants_here P x y i s c.in_ok-entered.entered.items b.agrees entered) b.told)) in
    let high = ap file c.deref-3.ensures.value ∙ c.in_ok-high.ensures
    ∙ ap (high_part m) (entered ∙ targets_agree P x y i s b.agrees) in
    let new = record w {
      known = c.advance.new.known;
      ahead = c.pass_instr.new.ahead;
      code = record w.code { body = record w.code.body { tail = c.emit_step.new.code } };
    } in (
      refl,
      between P n y x w new i s b (h n y b.knows e) told refl,
      text_computed P x i s w.code.homes w.code.body.slots.items w.code.body.done.items w.code.body.tail.items
          c.emit_step.new.code.items (file c.deref-3.result.now) high c.in_ok-emit_step.ensures,
    ))
    c.advance.ensures
