use Rattle.std.proofs.Common.{◌≡◌, ◌∙◌, sym, subst, subst₂, [], length, rules, List}
use Rattle.std.specs.Vec.Iter.{into_iter_items}
use Rattle.h_pass.proofs.program.hoist.Goals as goal
use Rattle.c_terms.specs.Meaning.{crun}
use Rattle.c_terms.specs.Reach.{CWithin}
use Rattle.c_terms.specs.Read.{written}
use Rattle.c_terms.specs.Term.{term_of}
use Rattle.c_terms.specs.declared.node.CNode.{CNode}
use Rattle.h_terms.specs.Bound.{HFits}
use Rattle.h_terms.specs.Each.{HProgramWith}
use Rattle.h_terms.specs.Meaning.{hrun}
use Rattle.h_pass.proofs.Finishing.{begins, bound_of, goes_on, hoisted_whole}
use Rattle.h_pass.specs.Back.{IsHoisted}
use Rattle.h_pass.specs.Hoist.{blocks_of, main_of}
use Rattle.h_pass.specs.Walk.{Walked}

pub loop-node-init : goal.loop-node-init
loop-node-init c =
    let ns = c.into_nodes-node-items.result.items in
    let t = term_of c.args.program in
    let ok = c.bound_is_small_law.ensures t c.into_nodes-node-items.ensures.bound in
    let kept = c.scoped_is_back_law.ensures.nodes t ok.0 ok.1 in
    let all : into_iter_items c.into_iter-node-iterator.result ≡ ns = search rules in
    subst (λ (xs : List CNode). Walked c.in_ok-walk.walk (written xs []) (blocks_of t, main_of t)) (sym all)
    (begins t ns c.in_ok-walk.walk kept c.into_nodes-node-items.ensures.read c.in_ok-walk.ensures)

pub loop-node-preserved : goal.loop-node-preserved
loop-node-preserved c =
    let t = term_of c.args.program in
    goes_on _ _ c.in-Some.node c.loop-node.walk c.step.new.self (blocks_of t, main_of t)
    c.in-Some.ensures.steps.0 c.in_ok-step.ensures c.loop-node.invariant

pub made-requires-clause-blocks : goal.made-requires-clause-blocks
made-requires-clause-blocks c =
    let t = term_of c.args.program in
    let past : length (into_iter_items c.loop-node.node-iterator) ≡ 0 = search rules in
    let all = hoisted_whole t _ c.loop-node.walk c.finish_call.new.self past c.loop-node.invariant
    c.in_ok-finish_call.ensures.none c.in_ok-finish_call.ensures.goes in
    all.rows

pub made-requires-clause-main : goal.made-requires-clause-main
made-requires-clause-main c =
    let t = term_of c.args.program in
    let past : length (into_iter_items c.loop-node.node-iterator) ≡ 0 = search rules in
    let all = hoisted_whole t _ c.loop-node.walk c.finish_call.new.self past c.loop-node.invariant
    c.in_ok-finish_call.ensures.none c.in_ok-finish_call.ensures.goes in
    all.row

pub made-requires-clause-bound : goal.made-requires-clause-bound
made-requires-clause-bound c =
    let t = term_of c.args.program in
    let past : length (into_iter_items c.loop-node.node-iterator) ≡ 0 = search rules in
    let all = hoisted_whole t _ c.loop-node.walk c.finish_call.new.self past c.loop-node.invariant
    c.in_ok-finish_call.ensures.none c.in_ok-finish_call.ensures.goes in
    bound_of t _ _ all (λ h. c.hoist_types_law.ensures.fits _ _ t h) c.into_nodes-node-items.ensures.bound

pub returns-clause-blocks : goal.returns-clause-blocks
returns-clause-blocks c =
    let t = term_of c.args.program in
    let past : length (into_iter_items c.loop-node.node-iterator) ≡ 0 = search rules in
    let all = hoisted_whole t _ c.loop-node.walk c.finish_call.new.self past c.loop-node.invariant
    c.in_ok-finish_call.ensures.none c.in_ok-finish_call.ensures.goes in
    c.made.ensures.blocks ∙ all.blocks

pub returns-clause-main : goal.returns-clause-main
returns-clause-main c =
    let t = term_of c.args.program in
    let past : length (into_iter_items c.loop-node.node-iterator) ≡ 0 = search rules in
    let all = hoisted_whole t _ c.loop-node.walk c.finish_call.new.self past c.loop-node.invariant
    c.in_ok-finish_call.ensures.none c.in_ok-finish_call.ensures.goes in
    c.made.ensures.main ∙ all.main

pub returns-clause-back : goal.returns-clause-back
returns-clause-back c =
    let t = term_of c.args.program in
    let past : length (into_iter_items c.loop-node.node-iterator) ≡ 0 = search rules in
    let all = hoisted_whole t _ c.loop-node.walk c.finish_call.new.self past c.loop-node.invariant
    c.in_ok-finish_call.ensures.none c.in_ok-finish_call.ensures.goes in
    let ok = c.bound_is_small_law.ensures t c.into_nodes-node-items.ensures.bound in
    subst₂ (λ ks m. IsHoisted ks m t) (sym (c.made.ensures.blocks ∙ all.blocks))
    (sym (c.made.ensures.main ∙ all.main)) (c.scoped_is_back_law.ensures.back t ok.0)

pub returns-clause-meaning : goal.returns-clause-meaning
returns-clause-meaning c =
    let t = term_of c.args.program in
    let past : length (into_iter_items c.loop-node.node-iterator) ≡ 0 = search rules in
    let all = hoisted_whole t _ c.loop-node.walk c.finish_call.new.self past c.loop-node.invariant
    c.in_ok-finish_call.ensures.none c.in_ok-finish_call.ensures.goes in
    λ n. subst₂ (λ ks m. hrun n ks m ≡ crun n t) (sym (c.made.ensures.blocks ∙ all.blocks))
    (sym (c.made.ensures.main ∙ all.main)) (c.hoist_meaning_law.ensures t n)

pub returns-clause-reach : goal.returns-clause-reach
returns-clause-reach c =
    let t = term_of c.args.program in
    let past : length (into_iter_items c.loop-node.node-iterator) ≡ 0 = search rules in
    let all = hoisted_whole t _ c.loop-node.walk c.finish_call.new.self past c.loop-node.invariant
    c.in_ok-finish_call.ensures.none c.in_ok-finish_call.ensures.goes in
    λ N R B h. subst₂ (HProgramWith (CWithin N R B)) (sym (c.made.ensures.blocks ∙ all.blocks))
    (sym (c.made.ensures.main ∙ all.main)) (c.hoist_types_law.ensures.reach N R B t h)

pub returns-clause-bound : goal.returns-clause-bound
returns-clause-bound c =
    let t = term_of c.args.program in
    let past : length (into_iter_items c.loop-node.node-iterator) ≡ 0 = search rules in
    let all = hoisted_whole t _ c.loop-node.walk c.finish_call.new.self past c.loop-node.invariant
    c.in_ok-finish_call.ensures.none c.in_ok-finish_call.ensures.goes in
    λ N R h. subst₂ (HFits N R) (sym (c.made.ensures.blocks ∙ all.blocks))
    (sym (c.made.ensures.main ∙ all.main)) (c.hoist_types_law.ensures.fits N R t h)
