use Rattle.std.proofs.Common.{rules, ap}
use Rattle.f_terms.proofs.Parts.{added, order_more, counted_more, either}
use Rattle.std.proofs.Common.{◌≡◌, is_ok, ◌++◌, ◌∷◌, [], refl, List, length}
use Rattle.calc_core.specs.Arena.{InOrder}
use Rattle.f_terms.specs.Shape.{kids, nodes_at}
use Rattle.calc_core.specs.Roots.{total, roots}
use Rattle.f_terms.specs.declared.node.FNode.{FNode}
use Rattle.f_terms.proofs.node.FParts.add.Goals as goal

pub returns-in-Ok : goal.returns-in-Ok
returns-in-Ok c =
    added c.args.self.now _ (record { span = c.args.span; shape = c.args.shape }) _ (search (rules, c.in-Ok.ensures))
    (search rules) c.requires.loose

pub returns-in-Err : goal.returns-in-Err
returns-in-Err c = (search (rules, c.in-Err.ensures), ap (λ n. n.shape) c.in-Err.ensures.value_returned)

pub invariant_of-self : goal.invariant_of-self
invariant_of-self c =
    let n : FNode = record { span = c.args.span; shape = c.args.shape } in
    let p = c.args.self.now in
    let old = p.nodes.items in
    record {
      ordered = either (InOrder kids) (is_ok c.push.result) c.push.new.self.items
          (old ++ n ∷ []) old c.push.ensures.items (order_more p n (old ++ n ∷ []) refl c.requires.loose) p.ordered;
      counted = either (λ (xs : List FNode). total (nodes_at xs) (roots kids xs) ≡ length xs)
          (is_ok c.push.result) c.push.new.self.items (old ++ n ∷ []) old c.push.ensures.items
          (counted_more p n (old ++ n ∷ []) refl c.requires.differ c.requires.loose) p.counted;
    }
