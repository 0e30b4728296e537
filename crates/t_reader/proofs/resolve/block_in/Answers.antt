use Rattle.std.proofs.lemmas.Result.{err_from_is_err_and}
use Rattle.t_reader.proofs.Blocking.{block_1_stop, block_2_stop, block_3_stop, block_whole}
use Rattle.t_reader.proofs.resolve.block_in.Goals as goal

pub returns-in_err-regs : goal.returns-in_err-regs
returns-in_err-regs c =
    let p = err_from_is_err_and c.from_residual-in_err-regs.result c.from_residual-in_err-regs.ensures.1 in
    rw (p.1, p.2)
    (block_1_stop c.args.text.now c.args.labels.now c.args.block.now c.as_slice-names.result.now
    c.as_slice-names.ensures.value _ (rw c.new-scope.ensures at c.in_ok-bind_all.ensures.bound) c.deref.result.now
    c.deref.ensures.value _ c.in_err-regs.ensures)

pub returns-in_err-body : goal.returns-in_err-body
returns-in_err-body c =
    let p = err_from_is_err_and c.from_residual-in_err-body.result c.from_residual-in_err-body.ensures.1 in
    rw (p.1, p.2)
    (block_2_stop c.args.text.now c.args.labels.now c.args.block.now c.as_slice-names.result.now
    c.as_slice-names.ensures.value _ (rw c.new-scope.ensures at c.in_ok-bind_all.ensures.bound) c.deref.result.now
    c.deref.ensures.value _ c.in_ok-regs.regs c.in_ok-regs.ensures c.deref-2.result.now c.deref-2.ensures.value _
    c.in_err-body.ensures)

pub returns-in_err-end : goal.returns-in_err-end
returns-in_err-end c =
    let p = err_from_is_err_and c.from_residual-in_err-end.result c.from_residual-in_err-end.ensures.1 in
    rw (p.1, p.2)
    (block_3_stop c.args.text.now c.args.labels.now c.args.block.now c.as_slice-names.result.now
    c.as_slice-names.ensures.value _ (rw c.new-scope.ensures at c.in_ok-bind_all.ensures.bound) c.deref.result.now
    c.deref.ensures.value _ c.in_ok-regs.regs c.in_ok-regs.ensures c.deref-2.result.now c.deref-2.ensures.value _
    c.in_ok-body.body c.in_ok-body.ensures _ c.in_err-end.ensures)

pub returns : goal.returns
returns c =
    block_whole c.args.text.now c.args.labels.now c.args.block.now c.as_slice-names.result.now
    c.as_slice-names.ensures.value _ (rw c.new-scope.ensures at c.in_ok-bind_all.ensures.bound) c.deref.result.now
    c.deref.ensures.value _ c.in_ok-regs.regs c.in_ok-regs.ensures c.deref-2.result.now c.deref-2.ensures.value _
    c.in_ok-body.body c.in_ok-body.ensures c.in_ok-end.end c.in_ok-end.ensures
