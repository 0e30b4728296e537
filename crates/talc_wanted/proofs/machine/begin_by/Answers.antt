use Rattle.std.proofs.Common.{sym, ◌∙◌, ap}
use Rattle.text_core.specs.Table.{then_more}
use Rattle.talc_wanted.specs.Wanted.{lent}
use Rattle.talc_wanted.specs.Owing.{after_in, from_top}
use Rattle.talc_wanted.proofs.Rows.{no_more, own_first, other_next, not_this, last_row}
use Rattle.talc_wanted.proofs.machine.begin_by.Goals as goal
use Rattle.talc_wanted.proofs.machine.begin_by.Goals.{then-same+in_ok-own+else-own+in_ok-extend_from_slice, else-same}

pub loop-one-init : goal.loop-one-init
loop-one-init g c =
    let x = after_in g.G.Language.owes (lent c.args.others.now) c.args.line c.args.token in
    no_more x ∙ ap (λ r. then_more x (from_top r)) (sym c.truncate.ensures.items)

pub returns-then-own : goal.returns-then-own
returns-then-own g c =
    own_first g.G.Language.owes (after_in g.G.Language.owes (lent c.args.others.now) c.args.line c.args.token)
    c.args.token c.args.others.now c.loop-one.one-index c.one-item.result c.loop-one.now c.loop-one.row.items
    c.loop-one.invariant c.loop-one-test.true c.one-item.is _ _ c.if-same.ensures c.in_ok-own.ensures c.if-own.true

pub loop-one-preserved : goal.loop-one-preserved
loop-one-preserved g c =
    let x = after_in g.G.Language.owes (lent c.args.others.now) c.args.line c.args.token in
    elim c.if-same.branch [
      | then-same+in_ok-own+else-own+in_ok-extend_from_slice w ↦
          rw (w.now-is, w.row-is)
          (other_next g.G.Language.owes x c.args.token c.args.others.now c.loop-one.one-index c.one-item.result
          c.loop-one.now c.loop-one.row.items c.loop-one.invariant c.loop-one-test.true c.one-item.is _ _ _
          w.if-same.ensures w.in_ok-own.ensures w.if-own.false w.in_ok-extend_from_slice.ensures.items)
      | else-same w ↦
          rw (w.now-is, w.row-is)
          (not_this g.G.Language.owes x c.args.token c.args.others.now c.loop-one.one-index c.one-item.result
          c.loop-one.now c.loop-one.row.items c.loop-one.invariant c.loop-one-test.true c.one-item.is w.if-same.ensures)
    ]

pub returns : goal.returns
returns g c =
    last_row g.G.Language.owes (after_in g.G.Language.owes (lent c.args.others.now) c.args.line c.args.token)
    c.args.token c.args.others.now c.loop-one.one-index c.loop-one.now c.loop-one.row.items _ _ c.loop-one.invariant
    c.loop-one-test.false c.in_ok-last.ensures
