use Rattle.std.proofs.lemmas.Result.{err_from_is_err_and}
use Rattle.t_reader.proofs.Naming.{types_start, types_stop, types_next, types_whole}
use Rattle.t_reader.proofs.types.types_in.Goals as goal

pub loop-ty-init : goal.loop-ty-init
loop-ty-init c =
    rw c.in_ok-made.ensures.items (types_start c.args.text.now c.args.scope.now c.args.list.now)

pub loop-ty-preserved : goal.loop-ty-preserved
loop-ty-preserved c =
    let l = c.loop-ty in
    types_next c.args.text.now c.args.scope.now c.args.list.now l.ty-index _ l.made.items c.ty-item.result
    c.loop-ty-test.true c.ty-item.is l.invariant _ c.in_ok-ty.ty _ c.in_ok-ty.ensures c.in_ok-push.ensures.items

pub returns-in_err-ty : goal.returns-in_err-ty
returns-in_err-ty c =
    let p = err_from_is_err_and c.from_residual-in_err-ty.result c.from_residual-in_err-ty.ensures.1 in
    rw (p.1, p.2)
    (types_stop c.args.text.now c.args.scope.now c.args.list.now c.loop-ty.ty-index _ c.loop-ty.made.items
    c.ty-item.result c.loop-ty-test.true c.ty-item.is c.loop-ty.invariant _ c.in_err-ty.ensures)

pub returns : goal.returns
returns c =
    types_whole c.args.text.now c.args.scope.now c.args.list.now c.loop-ty.ty-index _ c.loop-ty.made.items
    c.loop-ty-test.false c.loop-ty.invariant
