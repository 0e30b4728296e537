use Rattle.std.proofs.lemmas.Result.{err_from_is_err_and}
use Rattle.t_reader.proofs.Valuing.{body_start, body_stop, body_next, body_whole}
use Rattle.t_reader.proofs.resolve.body_in.Goals as goal

pub loop-step-init : goal.loop-step-init
loop-step-init c =
    rw c.in_ok-made.ensures.items (body_start c.args.text.now c.args.labels.now c.args.scope.now c.args.body.now)

pub loop-step-preserved : goal.loop-step-preserved
loop-step-preserved c =
    let l = c.loop-step in
    body_next c.args.text.now c.args.labels.now c.args.scope.now c.args.body.now l.step-index _ l.made.items
    c.step-item.result c.loop-step-test.true c.step-item.is l.invariant _ c.in_ok-instr.instr _
    c.in_ok-instr.ensures c.in_ok-push.ensures.items

pub returns-in_err-instr : goal.returns-in_err-instr
returns-in_err-instr c =
    let l = c.loop-step in
    let p = err_from_is_err_and c.from_residual-in_err-instr.result c.from_residual-in_err-instr.ensures.1 in
    rw (p.1, p.2)
    (body_stop c.args.text.now c.args.labels.now c.args.scope.now c.args.body.now l.step-index _ l.made.items
    c.step-item.result c.loop-step-test.true c.step-item.is l.invariant _ c.in_err-instr.ensures)

pub returns : goal.returns
returns c =
    let l = c.loop-step in
    body_whole c.args.text.now c.args.labels.now c.args.scope.now c.args.body.now l.step-index _ l.made.items
    c.loop-step-test.false l.invariant
