use Rattle.h_terms.specs.Nodes.{h_kids}
use Rattle.h_notation.proofs.ScopeTexts.{ready_now, step_count, step_written}
use Rattle.h_notation.proofs.terms.step.Goals as goal

pub step_at-requires : goal.step_at-requires
step_at-requires c = record {
  arity = c.requires.arity;
  ready = ready_now c.args.walk.now.names.items c.truncate.new.self.items c.args.walk.now.scopes.items
      c.pop.new.self.items c.in-Some.scope c.in-Some.ensures.items c.truncate.ensures.items c.requires.fit;
}

pub returns-clause-written : goal.returns-clause-written
returns-clause-written c =
    step_written c.args.walk.now.names.items c.truncate.new.self.items c.args.walk.now.scopes.items
    c.pop.new.self.items c.in-Some.scope c.in-Some.ensures.items c.truncate.ensures.items c.requires.fit _ _ _ _ _ _ _ _
    c.in_ok-step_at-in-Some.ensures

pub returns-clause-fit : goal.returns-clause-fit
returns-clause-fit c = c.in_ok-step_at-in-Some.ensures.fit

pub returns-clause-count : goal.returns-clause-count
returns-clause-count c =
    step_count c.args.walk.now.scopes.items c.pop.new.self.items c.in-Some.scope
    _ (h_kids c.args.node.now.form) c.in-Some.ensures.items
    c.in_ok-step_at-in-Some.ensures.count
