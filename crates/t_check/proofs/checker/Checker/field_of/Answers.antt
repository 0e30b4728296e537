use Rattle.std.proofs.Common.{◌<◌, ◌≤◌, ◌∙◌, ap, sym, subst, length, get_or, arith, Result, Some, Bool, false, ℕ}
use Rattle.text_core.specs.Refusals.{nothing}
use Rattle.t_known.specs.declared.refusal.Refusal.{Refusal}
use Rattle.t_intern.specs.Nodes.{at}
use Rattle.t_intern.proofs.Walked.{field_below}
use Rattle.t_known.specs.Known.{known}
use Rattle.t_check.specs.Verdict.{IsFieldOf}
use Rattle.t_check.proofs.Loads.{shown_fields, shown_tuple, shown_none, part_fits, part_field, part_bounded}
use Rattle.t_check.proofs.Loads.{field_absent}
use Rattle.t_check.proofs.checker.Checker.field_of.Goals as goal
use Rattle.idx_core.proofs.Lists.{item}

pub returns-then-field-fields-clause-field : goal.returns-then-field-fields-clause-field
returns-then-field-fields-clause-field c =
    let ts = c.args.types.now in
    let k = c.args.self.now.registers in
    let e = c.in-Some.entry in
    let i = c.args.field in
    let xs = c.in-Some-fields.fields.now in
    let is = c.in-Some-fields.ensures.0 in
    let found = c.in-Some.ensures.found ts c.requires in
    let test = c.if-field-fields.true in
    let past : length xs ≤ i = omega arith in
    subst (λ (r : Result (ℕ × Bool) Refusal). IsFieldOf ts k.names (known ts k) c.args.r i c.args.span r)
    (sym c.refused-then-field-fields.ensures)
    (field_absent (known ts k) c.args.r i c.args.span (λ fs u flag. nothing)
    (shown_fields ts k.names e xs is found.1 i) (found.0 ∙ ap Some (shown_tuple ts k.names e xs is found.1 i))
    (shown_none ts k.names e xs is found.1 i past))

pub shift-requires-clause-there : goal.shift-requires-clause-there
shift-requires-clause-there c =
    let i = c.args.field in
    let xs = c.in-Some-fields.fields.now in
    let found = c.in-Some.ensures.found c.args.types.now c.requires in
    let test = c.if-field-fields.false in
    let lt : i < length xs = omega arith in
    let below = field_below c.in-Some.entry.ty xs i (get_or xs i (0, false)) lt (item xs i (0, false) lt)
    c.in-Some-fields.ensures.1 in
    let own_there = found.1.0 in
    omega arith

pub shift-requires-clause-fits : goal.shift-requires-clause-fits
shift-requires-clause-fits c =
    let ts = c.args.types.now in
    let k = c.args.self.now.registers in
    let i = c.args.field in
    let xs = c.in-Some-fields.fields.now in
    let found = c.in-Some.ensures.found ts c.requires in
    let test = c.if-field-fields.false in
    let lt : i < length xs = omega arith in
    part_fits ts k.names c.in-Some.entry xs c.in-Some-fields.ensures.0 found.1 i (get_or xs i (0, false)) lt
    (item xs i (0, false) lt) c.requires.few

pub returns-clause-field : goal.returns-clause-field
returns-clause-field c =
    let ts = c.args.types.now in
    let us = c.shift.new.self in
    let k = c.args.self.now.registers in
    let e = c.in-Some.entry in
    let i = c.args.field in
    let xs = c.in-Some-fields.fields.now in
    let is = c.in-Some-fields.ensures.0 in
    let found = c.in-Some.ensures.found ts c.requires in
    let test = c.if-field-fields.false in
    let lt : i < length xs = omega arith in
    let x = get_or xs i (0, false) in
    let here = item xs i (0, false) lt in
    let t = at us c.in_ok-n.n in
    let number = c.in_ok-n.ensures.number in (
      shown_fields ts k.names e xs is found.1 i,
      found.0 ∙ ap Some (shown_tuple ts k.names e xs is found.1 i),
      part_field ts k.names e xs is found.1 i x lt here t c.flag_of-flag.result number.1 c.flag_of-flag.ensures,
      part_bounded ts k.names e xs is found.1 i x lt here t number.1,
      number.0,
    )
