use Rattle.std.proofs.Common.{arith}
use Rattle.h_terms.specs.Nodes.{h_blocks}
use Rattle.h_notation.proofs.ScopeTexts.{writing_arity, writing_end, writing_more, writing_some, writing_start}
use Rattle.h_notation.proofs.terms.write_term.Goals as goal

pub loop-node-init : goal.loop-node-init
loop-node-init c =
    writing_start c.args.of.typed (h_blocks c.args.of.blocks.now) c.args.nodes.now c.args.types c.len-count.result
    c.args.names.items _ _ _ c.requires.row c.requires.under
    (omega (arith, c.len-count.ensures, c.args.names.ok.0)) c.new.ensures.items
    c.in_ok-push.ensures.items

pub step-requires : goal.step-requires
step-requires c = record {
  arity = writing_arity _ _ c.args.nodes.now c.loop-node.node-index _ _ _ _ c.loop-node.invariant c.node-item.result
      c.node-item.is c.loop-node-test.true;
  some = writing_some _ _ c.args.nodes.now c.loop-node.node-index _ _ _ _ c.loop-node.invariant c.node-item.result
      c.node-item.is c.loop-node-test.true;
  fit = c.loop-node.invariant.fit;
}

pub loop-node-preserved : goal.loop-node-preserved
loop-node-preserved c =
    writing_more _ _ c.args.nodes.now c.loop-node.node-index _ _ _ _ c.loop-node.invariant c.node-item.result
    c.node-item.is c.loop-node-test.true _ _ _ c.in_ok-step.ensures.written c.in_ok-step.ensures.fit
    c.in_ok-step.ensures.count

pub returns : goal.returns
returns c = writing_end _ _ c.args.nodes.now c.loop-node.node-index _ _ _ _ c.loop-node.invariant c.loop-node-test.false
