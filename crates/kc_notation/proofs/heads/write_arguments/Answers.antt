use Rattle.std.proofs.Common.{refl}
use Rattle.kc_notation.proofs.HeadLines.{argument_more, arguments_done}
use Rattle.kc_notation.proofs.heads.write_arguments.Goals as goal

pub loop-i-init : goal.loop-i-init
loop-i-init c = refl

pub loop-i-preserved : goal.loop-i-preserved
loop-i-preserved c =
    argument_more c.args.closures c.args.depth c.args.first c.loop-i.i c.args.ts.now _ _ _ _ _ _ _ _ c.index-ts-i.is
    c.loop-i-test.true c.in_ok-around.ensures c.loop-i.invariant c.in_ok-write_separator.ensures
    c.in_ok-write_value_name.ensures c.in_ok-extend_from_slice.ensures.items c.in_ok-write_any.ensures

pub returns : goal.returns
returns c =
    arguments_done c.args.closures c.args.depth c.args.first c.loop-i.i c.args.ts.now _ _ c.loop-i-test.false
    c.loop-i.invariant
