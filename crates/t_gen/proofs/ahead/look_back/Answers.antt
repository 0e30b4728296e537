use Rattle.std.proofs.Common.{◌≡◌, ◌<◌, ◌-◌, suc, length, arith}
use Rattle.t_gen.proofs.Telling.{told_more, row_at, row_kids, row_next, row_whole}
use Rattle.t_gen.proofs.ahead.look_back.Goals as goal

pub before-requires : goal.before-requires
before-requires c =
    let left = c.loop-left.left in
    let at : left ≡ suc (left - 1) = omega (arith, c.loop-left-test.true) in
    let low : left - 1 < length c.args.nodes.now = omega (arith, c.loop-left-test.true, c.loop-left.invariant.few) in
    record {
      arity = row_at c.args.nodes.now 1 (left - 1) c.index-nodes-left.result low c.index-nodes-left.is c.requires.row;
      kids = row_kids c.args.nodes.now (left - 1) left c.index-nodes-left.result _ at low c.index-nodes-left.is
          c.requires.row c.loop-left.invariant.row;
    }

pub loop-left-preserved : goal.loop-left-preserved
loop-left-preserved c =
    let left = c.loop-left.left in
    let at : left ≡ suc (left - 1) = omega (arith, c.loop-left-test.true) in
    let low : left - 1 < length c.args.nodes.now = omega (arith, c.loop-left-test.true, c.loop-left.invariant.few) in
    let r = told_more c.args.nodes.now (left - 1) left c.index-nodes-left.result c.loop-left.sets.items
    c.before-in-loop-left.new.sets.items c.loop-left.made.items _ c.in_ok-ahead.ahead at low
    c.index-nodes-left.is c.in_ok-push.ensures.items c.in_ok-ahead.ensures.told c.loop-left.invariant.sets
    c.loop-left.invariant.told in
    record {
      few = omega (arith, c.loop-left.invariant.few, c.loop-left-test.true);
      sets = r.0;
      told = r.1;
      row = row_next c.args.nodes.now (left - 1) left c.index-nodes-left.result _ _ at low c.index-nodes-left.is
          c.requires.row c.loop-left.invariant.row c.in_ok-ahead.ensures.count;
    }

pub returns-clause-one : goal.returns-clause-one
returns-clause-one c =
    row_whole c.args.nodes.now c.loop-left.left _ (omega (arith, c.loop-left-test.false)) c.requires.row
    c.loop-left.invariant.row
