use Rattle.a_terms.specs.Tree.{AInt}
use Rattle.a_pass.proofs.Terms.{shown_now}
use Rattle.a_pass.proofs.Stepping.{arith_stepped}
use Rattle.a_pass.proofs.nodes.operate.Goals as goal

pub returns : goal.returns
returns c = arith_stepped c.args.progress.now _ c.args.place c.args.run c.in_ok-values.values.items c.requires.names
    c.requires.bound c.in_ok-values.ensures c.args.op _ c.in_ok-declare.ensures
    (shown_now c.args.place.binders AInt)
