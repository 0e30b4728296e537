use Rattle.std.proofs.Common.{[]}
use Rattle.a_terms.specs.NodeTrees.{a_onto, a_tree}
use Rattle.t_gen_rules.specs.Gen.{used}
use Rattle.t_gen.proofs.Telling.{popped}
use Rattle.t_gen.proofs.ahead.look_ahead.Goals as goal

pub returns-clause-first : goal.returns-clause-first
returns-clause-first c =
    let ns = c.args.nodes.now in
    let h = popped c.look_back.new.sets.items c.pop.new.self.items c.in-Some.whole
    (a_onto ns []) c.in-Some.ensures.items c.in_ok-each.ensures.sets in
    c.in_ok-first.ensures (used (a_tree ns)) h.0
