use Rattle.std.proofs.Common.{◌≡◌, ◌∷◌, [], ◌++◌, ◌∙◌, ap, refl, List, length, rules}
use Rattle.std.proofs.lemmas.List.{drop_all}
use Rattle.a_pass.proofs.Walking.{walk_begins, walk_arity, walk_names, walk_bound, walk_goes, walk_stuck, walk_ends}
use Rattle.a_pass.proofs.Walking.{next_node}
use Rattle.a_pass.specs.declared.state.Place.{Place}
use Rattle.a_pass.proofs.term.walk.Goals as goal

pub loop-node-init : goal.loop-node-init
loop-node-init c =
    let long : c.len-count.result ≡ length c.args.names.items = search rules in
    let p : Place = record { depth = c.len-count.result; names = c.len-count.result; binders = 0 } in
    walk_begins _ c.args.nodes.now c.args.names.items p c.push.new.self.items c.new-out.result.items
    c.args.tuples.now.items c.requires.one c.requires.bound c.new-out.ensures.items
    (c.in_ok-push.ensures.items ∙ ap (λ (xs : List Place). xs ++ p ∷ []) c.new-places.ensures.items)
    long refl long

pub step-requires : goal.step-requires
step-requires c =
    let is =
    next_node c.args.nodes.now c.loop-node.node-index c.node-item.result c.loop-node-test.true c.node-item.is in
    record {
      arity = walk_arity _ _ _ _ _ _ _ _ _ _ _ _ _ is c.in-Some.ensures.items c.truncate.ensures.items
          c.loop-node.invariant;
      names = walk_names _ _ _ _ _ _ _ _ _ _ _ _ _ is c.in-Some.ensures.items c.truncate.ensures.items
          c.loop-node.invariant;
      bound = walk_bound _ _ _ _ _ _ _ _ _ _ _ _ _ is c.in-Some.ensures.items c.truncate.ensures.items
          c.loop-node.invariant;
    }

pub loop-node-preserved : goal.loop-node-preserved
loop-node-preserved c =
    let is =
    next_node c.args.nodes.now c.loop-node.node-index c.node-item.result c.loop-node-test.true c.node-item.is in
    walk_goes _ _ _ _ _ _ _ _ _ _ _ _ _ is c.in-Some.ensures.items c.truncate.ensures.items c.loop-node.invariant _ _
    c.in_ok-step.ensures

pub unreachable-requires : goal.unreachable-requires
unreachable-requires c =
    let is =
    next_node c.args.nodes.now c.loop-node.node-index c.node-item.result c.loop-node-test.true c.node-item.is in
    let none : length c.loop-node.progress.places.items ≡ 0 = search rules in
    walk_stuck _ _ _ _ _ _ _ _ _ _ is none c.loop-node.invariant

pub returns-clause-tree : goal.returns-clause-tree
returns-clause-tree c =
    (walk_ends _ _ _ _ _ _ _ _ (drop_all c.loop-node.node-index c.args.nodes.now c.loop-node-test.false)
    c.loop-node.invariant).0

pub returns-clause-one : goal.returns-clause-one
returns-clause-one c =
    (walk_ends _ _ _ _ _ _ _ _ (drop_all c.loop-node.node-index c.args.nodes.now c.loop-node-test.false)
    c.loop-node.invariant).1

pub returns-clause-keeps : goal.returns-clause-keeps
returns-clause-keeps c =
    (walk_ends _ _ _ _ _ _ _ _ (drop_all c.loop-node.node-index c.args.nodes.now c.loop-node-test.false)
    c.loop-node.invariant).2
