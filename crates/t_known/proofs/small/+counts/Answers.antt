use Rattle.std.proofs.Common.{get_or, false, arith}
use Rattle.idx_core.proofs.Lists.{item}
use Rattle.t_intern.specs.Nodes.{at}
use Rattle.t_intern.proofs.Walked.{reg_below, field_below}
use Rattle.t_known.proofs.Counted.{some_nodes}
use Rattle.t_known.proofs.small.+counts.Goals as goal

pub left_after-returns-then-count-eq0 : goal.left_after-returns-then-count-eq0
left_after-returns-then-count-eq0 t c =
    let none = c.if-count-eq0.true in
    omega (arith, some_nodes (at c.args.types.now c.args.n))

pub left_after_regs-left_after-requires : goal.left_after_regs-left_after-requires
left_after_regs-left_after-requires t c =
    let l = c.loop-reg in
    let lt = c.loop-reg-test.true in
    let x = get_or c.args.regs.now l.reg-index (0, 0) in
    let below = reg_below c.args.n c.args.regs.now l.reg-index x lt (item c.args.regs.now l.reg-index (0, 0) lt)
    c.requires.parts in
    (omega (arith, below, c.decreases), omega (arith, below, c.requires.there))

pub left_after_fields-left_after-requires : goal.left_after_fields-left_after-requires
left_after_fields-left_after-requires t c =
    let l = c.loop-field in
    let lt = c.loop-field-test.true in
    let x = get_or c.args.fields.now l.field-index (0, false) in
    let below = field_below c.args.n c.args.fields.now l.field-index x lt
    (item c.args.fields.now l.field-index (0, false) lt) c.requires.parts in
    (omega (arith, below, c.decreases), omega (arith, below, c.requires.there))
