use Rattle.std.proofs.Common.{ℕ, sym, subst, drop, ◌+◌, ◌≡◌, ◌∷◌, [], ◌++◌, ◌∙◌, ap, List, length, rules}
use Rattle.std.proofs.lemmas.List.{drop_all}
use Rattle.a_terms.specs.NodeTrees.{a_onto, a_tree}
use Rattle.t_gen.proofs.Telling.{next_told}
use Rattle.t_gen.specs.declared.state.Place.{Place}
use Rattle.t_gen.proofs.Walking.{walk_begins, walk_arity, walk_fit, walk_keeps, walk_held, walk_count, walk_goes}
use Rattle.t_gen.proofs.Walking.{walk_stuck, walk_ends, next_node}
use Rattle.a_scope.specs.Scope.{homes}
use Rattle.a_scope.specs.declared.scope.Entry.{Entry}
use Rattle.t_gen_rules.specs.Gen.{used}
use Rattle.t_gen_laws.specs.Registers.{Own}
use Rattle.t_gen.specs.Keeps.{among, each}
use Rattle.t_gen.specs.Registers.{Holds}
use Rattle.t_gen.proofs.InUse.{rows_own, keeps_of}
use Rattle.t_gen.proofs.body.emit_body.Goals as goal

pub loop-node-init : goal.loop-node-init
loop-node-init c =
    let s = c.args.start in
    let es = s.vars.items in
    let ns = c.args.nodes.now in
    let u = used (a_tree ns) in
    let rs = c.in_ok-registers.registers in
    let p : Place = record { block = s.block; names = s.names; vars = c.len-count.result; registers = rs } in
    let own : Own (homes es) u = subst (λ m. Own m u) (sym c.requires.homes) (rows_own (length es) u) in
    let some = subst (λ (xs : List ℕ). Holds rs (among each (homes es) xs)) c.deref-2.ensures.value
    (subst (λ (xs : List Entry). Holds rs (among each (homes xs) c.deref-2.result.now)) c.deref.ensures.value
    c.in_ok-registers.ensures) in
    let keeps = keeps_of rs (homes es) u _ some c.in_ok-aheads.ensures.first own in
    record {
      told = c.in_ok-aheads.ensures.told;
      walked = walk_begins _ ns es p c.push.new.self.items c.args.out.now.items c.new.result.items c.requires.one
          c.requires.under c.new.ensures.items
          (c.in_ok-push.ensures.items ∙ ap (λ (xs : List Place). xs ++ p ∷ []) c.new-2.ensures.items)
          (search rules) c.requires.block keeps;
    }

pub step-requires : goal.step-requires
step-requires c =
    let is =
    next_node c.args.nodes.now c.loop-node.node-index c.node-item.result c.loop-node-test.true c.node-item.is in
    record {
      arity = walk_arity _ _ _ _ _ _ _ _ _ _ _ _ is c.in-Some.ensures.items c.truncate.ensures.items
          c.loop-node.invariant.walked;
      vars = walk_count _ _ _ _ _ _ _ _ _ _ _ _ is c.in-Some.ensures.items c.truncate.ensures.items
          c.loop-node.invariant.walked;
      fit = walk_fit _ _ _ _ _ _ _ _ _ _ _ _ is c.in-Some.ensures.items c.truncate.ensures.items
          c.loop-node.invariant.walked;
      held = walk_held _ _ _ _ _ _ _ _ _ _ _ _ is c.in-Some.ensures.items c.truncate.ensures.items
          c.loop-node.invariant.walked;
    }

pub loop-node-preserved : goal.loop-node-preserved
loop-node-preserved c =
    let is =
    next_node c.args.nodes.now c.loop-node.node-index c.node-item.result c.loop-node-test.true c.node-item.is in
    let rest = drop (c.loop-node.node-index + 1) c.args.nodes.now in
    let t = next_told c.args.nodes.now rest c.loop-node.aheads.items c.pop-in-loop-node.new.self.items
    c.loop-node.node-index c.node-item.result c.in-Some-pop.ahead is c.in-Some-pop.ensures.items
    c.loop-node.invariant.told in
    record {
      told = t.1;
      walked = walk_goes _ _ _ _ _ _ _ _ _ _ _ _ is c.in-Some.ensures.items c.truncate.ensures.items
          c.loop-node.invariant.walked _ _ _ _
          (c.in_ok-step.ensures (a_onto rest []) t.0
          (walk_keeps _ _ _ _ _ _ _ _ _ _ _ _ is c.in-Some.ensures.items c.truncate.ensures.items
          c.loop-node.invariant.walked));
    }

pub unreachable-requires : goal.unreachable-requires
unreachable-requires c =
    let is =
    next_node c.args.nodes.now c.loop-node.node-index c.node-item.result c.loop-node-test.true c.node-item.is in
    let none : length c.loop-node.walk.places.items ≡ 0 = search rules in
    walk_stuck _ _ _ _ _ _ _ _ _ is none c.loop-node.invariant.walked

pub returns : goal.returns
returns c = walk_ends _ _ _ _ _ _ _ (drop_all c.loop-node.node-index c.args.nodes.now c.loop-node-test.false)
    c.loop-node.invariant.walked
