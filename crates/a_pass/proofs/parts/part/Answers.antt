use Rattle.std.proofs.Common.{◌≡◌, ap, ◌∙◌, refl, sym, subst, List, Some, rules, to_z, of_z, w64}
use Rattle.std.proofs.lemmas.Result.{IfOk-weaker}
use Rattle.h_terms.specs.H.{HVar, HInt, HLabel, HApply}
use Rattle.h_terms.specs.Nodes.{h_blocks, at_last}
use Rattle.c_terms.specs.Read.{ctys}
use Rattle.a_terms.specs.Tree.{Num}
use Rattle.calc_core.specs.declared.types.CoreType.{CoreType as CType}
use Rattle.a_pass.specs.Scope.{knowns, scope}
use Rattle.a_pass.specs.Emits.{Reads}
use Rattle.a_pass.proofs.Steps.{reads_deep, reads_leaf, reads_for, var_const}
use Rattle.a_pass.proofs.parts.part.Goals as goal

pub returns-in_ok-made-in-Var : goal.returns-in_ok-made-in-Var
returns-in_ok-made-in-Var c =
    reads_for _ _ _ _ _ _ _ _ _ _ _ _ _ _ _ (sym c.in-Var.is) (reads_deep _ _ _ _ _ _ _ _ _ _ _ _ _ _ _ (sym
    c.in_ok-made-in-Var.ensures.depth)
    (reads_leaf _ _ _ (HVar c.in-Var.i) _ _ _ _ c.args.run.depth _ _ _ _ c.in_ok-made-in-Var.ensures.values
    c.in_ok-made-in-Var.ensures.types
    (λ d. refl) (λ b. refl) (λ b. refl) (λ b d r. refl) (λ b d e. c.variable_leaf.ensures.value e)
    (c.variable_leaf.ensures.ty _) (λ b. c.variable_leaf.ensures.constant _ ∙
    var_const (knowns c.args.around.now.names.now) c.in-Var.i b)))

pub returns-in_ok-made-in-Int : goal.returns-in_ok-made-in-Int
returns-in_ok-made-in-Int c =
    let same : to_z w64 (of_z w64 c.in-Int.n) ≡ c.in-Int.n = search rules in
    reads_for _ _ _ _ _ _ _ _ _ _ _ _ _ _ _ (sym c.in-Int.is) (reads_deep _ _ _ _ _ _ _ _ _ _ _ _ _ _ _ (sym
    c.in_ok-made-in-Int.ensures.depth)
    (reads_leaf _ _ _ (HInt c.in-Int.n) _ _ _ _ c.args.run.depth _ _ _ _ c.in_ok-made-in-Int.ensures.values
    c.in_ok-made-in-Int.ensures.types
    (λ d. refl) (λ b. refl) (λ b. refl) (λ b d r. refl) (λ b d e. c.int_leaf.ensures.value e ∙
    ap Num same) (c.int_leaf.ensures.ty _) (λ b. c.int_leaf.ensures.constant _ ∙ ap Some (ap Num same))))

pub returns-in_ok-made-in-Label : goal.returns-in_ok-made-in-Label
returns-in_ok-made-in-Label c =
    reads_for _ _ _ _ _ _ _ _ _ _ _ _ _ _ _ (sym c.in-Label.is) (reads_deep _ _ _ _ _ _ _ _ _ _ _ _ _ _ _ (sym
    c.in_ok-made-in-Label.ensures.depth)
    (reads_leaf _ _ _ (HLabel c.in-Label.l) _ _ _ _ c.args.run.depth _ _ _ _ c.in_ok-made-in-Label.ensures.values
    c.in_ok-made-in-Label.ensures.types
    (λ d. refl) (λ b. refl) (λ b. refl) (λ b d r. refl) (λ b d e. c.label.ensures.value e) (c.label.ensures.ty _) (λ
    b. c.label.ensures.constant _)))

pub returns-in-Tuple : goal.returns-in-Tuple
returns-in-Tuple c =
    IfOk-weaker c.tuple.result _ _ (λ m h. reads_for _ _ _ _ _ _ _ _ _ _ _ _ _ _ _ (sym c.in-Tuple.is) (h (h_blocks
    c.args.around.now.blocks.now))) c.tuple.ensures

pub returns-in_ok-made-in-Apply : goal.returns-in_ok-made-in-Apply
returns-in_ok-made-in-Apply c =
    let ks = h_blocks c.args.around.now.blocks.now in
    let g = scope c.args.around.now.binders c.args.around.now.names.now in
    let ls = knowns c.args.around.now.names.now in
    let now = c.args.out.now.items in
    let kept = c.args.tuples.now.items in
    let made = c.in_ok-made-in-Apply.made in
    reads_for _ _ _ _ _ _ _ _ _ _ _ _ _ _ _ (sym c.in-Apply.is)
    (subst (λ (xs : List CType). Reads ks g ls (at_last (λ v. HApply v (ctys xs))) c.args.run.values.items
    c.args.run.types.items c.args.run.depth now kept made.values.items made.types.items made.depth now kept)
    c.deref.ensures.value (c.in_ok-made-in-Apply.ensures ks ls now kept))

pub returns-in_ok-made-in-Pack : goal.returns-in_ok-made-in-Pack
returns-in_ok-made-in-Pack c =
    reads_for _ _ _ _ _ _ _ _ _ _ _ _ _ _ _ (sym c.in-Pack.is) (c.in_ok-made-in-Pack.ensures (h_blocks
    c.args.around.now.blocks.now) (scope c.args.around.now.binders c.args.around.now.names.now)
    c.args.out.now.items c.args.tuples.now.items)
