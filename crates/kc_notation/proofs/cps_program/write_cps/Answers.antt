use Rattle.std.proofs.Common.{refl, ◌∙◌}
use Rattle.k_terms.specs.Read.{knode}
use Rattle.k_terms.specs.Whole.{term_of}
use Rattle.kc_notation.specs.ClosedWalk.{blank}
use Rattle.kc_notation.specs.CpsWalk.{step}
use Rattle.kc_notation.proofs.CpsStepping.{walk_more, walk_done}
use Rattle.kc_notation.proofs.cps_program.write_cps.Goals as goal

pub loop-node-init : goal.loop-node-init
loop-node-init c = (blank, c.in_ok-page.ensures, refl)

pub loop-node-preserved : goal.loop-node-preserved
loop-node-preserved c =
    let w = c.loop-node.invariant in (
      step c.args.typed (knode c.node-item.result) w.0,
      c.in_ok-step.ensures w.0 w.1,
      walk_more c.args.typed c.nodes-nodes.result.now c.loop-node.node-index c.node-item.result w.0 _ c.node-item.is
          c.loop-node-test.true w.2,
    )

pub returns : goal.returns
returns c =
    let w = c.loop-node.invariant in
    c.in_ok-text.ensures ∙ (c.in_ok-whole.ensures.shut w.0 w.1).text.is
    ∙ walk_done c.args.typed c.nodes-nodes.result.now c.loop-node.node-index w.0 (term_of c.args.program.now)
    c.loop-node-test.false w.2 c.nodes-nodes.ensures
