use Rattle.std.proofs.Common.{◌<◌, refl, sym, subst, arith, true≢false}
use Rattle.f_terms.specs.Waiting.{Holds, waiting_nodes}
use Rattle.f_terms.specs.ReadTerm.{node_at}
use Rattle.f_terms.proofs.Admitting.{has_room, not_bound, looked}
use Rattle.f_terms.proofs.admission.admit.Goals as goal

pub node-requires : goal.node-requires
node-requires c =
    (has_room c.args.term.now c.pop.new.self.items c.in-Some.part
    (subst (Holds c.args.term.now) c.in-Some.ensures.items c.loop-part.invariant)).0

pub returns-then-not-is_bound : goal.returns-then-not-is_bound
returns-then-not-is_bound c = (
  λ h. absurd (true≢false (sym h)),
  λ k. absurd (not_bound c.args.term.now c.pop.new.self.items c.in-Some.part c.node.result.now c.node.ensures.tree
      c.node.ensures.before
      (subst (Holds c.args.term.now) c.in-Some.ensures.items c.loop-part.invariant)
      (λ b. true≢false (sym (c.if-not-is_bound.ensures.1 b))) k.0),
)

pub push_parts-requires-clause-types : goal.push_parts-requires-clause-types
push_parts-requires-clause-types c =
    omega (
      arith,
      (has_room c.args.term.now c.pop.new.self.items c.in-Some.part
          (subst (Holds c.args.term.now) c.in-Some.ensures.items c.loop-part.invariant)).1,
    )

pub push_parts-requires-clause-values : goal.push_parts-requires-clause-values
push_parts-requires-clause-values c =
    omega (
      arith,
      (has_room c.args.term.now c.pop.new.self.items c.in-Some.part
          (subst (Holds c.args.term.now) c.in-Some.ensures.items c.loop-part.invariant)).2,
    )

pub loop-part-smaller : goal.loop-part-smaller
loop-part-smaller c =
    let at = node_at c.args.term.now in
    subst (λ ws. waiting_nodes at c.push_parts.new.waiting.items < waiting_nodes at ws) (sym c.in-Some.ensures.items)
    (looked c.args.term.now c.pop.new.self.items c.in-Some.part c.node.result.now c.node.ensures.tree
    c.node.ensures.before
    (subst (Holds c.args.term.now) c.in-Some.ensures.items c.loop-part.invariant) (c.if-not-is_bound.ensures.0 refl)
    c.push_parts.new.waiting.items c.in_ok-push_parts.ensures).1

pub loop-part-preserved : goal.loop-part-preserved
loop-part-preserved c =
    (looked c.args.term.now c.pop.new.self.items c.in-Some.part c.node.result.now c.node.ensures.tree
    c.node.ensures.before
    (subst (Holds c.args.term.now) c.in-Some.ensures.items c.loop-part.invariant) (c.if-not-is_bound.ensures.0 refl)
    c.push_parts.new.waiting.items c.in_ok-push_parts.ensures).0
