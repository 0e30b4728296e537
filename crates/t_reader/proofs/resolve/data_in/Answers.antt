use Rattle.std.proofs.lemmas.Result.{err_from_is_err_and}
use Rattle.t_reader.proofs.Dating.{data_start, data_stop, data_next, data_whole, data_stop_whole}
use Rattle.t_reader.proofs.resolve.data_in.Goals as goal

pub loop-datum-init : goal.loop-datum-init
loop-datum-init c =
    rw c.in_ok-fields.ensures.items (data_start c.args.text.now c.args.labels.now c.deref-datum-items.result.now)

pub loop-datum-preserved : goal.loop-datum-preserved
loop-datum-preserved c =
    let l = c.loop-datum in
    data_next c.args.text.now c.args.labels.now c.deref-datum-items.result.now l.datum-index l.fields.items
    c.datum-item.result c.loop-datum-test.true c.datum-item.is l.invariant c.in_ok-field.field _
    c.in_ok-field.ensures c.in_ok-push.ensures.items

pub returns-in_err-field : goal.returns-in_err-field
returns-in_err-field c =
    let l = c.loop-datum in
    let p = err_from_is_err_and c.from_residual-in_err-field.result c.from_residual-in_err-field.ensures.1 in
    rw (p.1, p.2)
    (data_stop_whole c.args.text.now c.args.labels.now c.args.tuple.now c.deref-datum-items.result.now
    c.deref-datum-items.ensures.value _
    (data_stop c.args.text.now c.args.labels.now c.deref-datum-items.result.now l.datum-index l.fields.items
    c.datum-item.result c.loop-datum-test.true c.datum-item.is l.invariant _ c.in_err-field.ensures))

pub returns : goal.returns
returns c =
    let l = c.loop-datum in
    data_whole c.args.text.now c.args.labels.now c.args.tuple.now c.deref-datum-items.result.now
    c.deref-datum-items.ensures.value l.datum-index l.fields c.loop-datum-test.false l.invariant
