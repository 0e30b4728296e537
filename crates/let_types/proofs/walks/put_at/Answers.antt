use Rattle.std.proofs.Common.{◌-◌, arith, length}
use Rattle.calc_core.specs.Read.{all_trees}
use Rattle.let_types.proofs.Placing.{put_low, put_past, put_there}
use Rattle.let_types.proofs.walks.put_at.Goals as goal

pub returns-then-i-depth : goal.returns-then-i-depth
returns-then-i-depth c = put_low (all_trees c.args.types.now) c.args.depth c.args.i (omega arith)

pub returns-then-j-count : goal.returns-then-j-count
returns-then-j-count c =
    put_there c.args.types.now c.args.depth c.args.i (c.args.i - c.args.depth)
    (length c.args.types.now - 1 - (c.args.i - c.args.depth)) c.index-types-count.result _ (omega arith)
    (omega arith) c.index-types-count.is c.in_ok-made.ensures

pub returns : goal.returns
returns c =
    put_past c.args.types.now c.args.depth c.args.i (c.args.i - c.args.depth) c.in_ok-k.k
    (c.args.i - c.args.depth - length c.args.types.now) (omega arith) (omega arith) (omega (arith, c.in_ok-k.ensures))
