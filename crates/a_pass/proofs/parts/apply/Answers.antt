use Rattle.std.proofs.Common.{◌∙◌, refl, sym}
use Rattle.h_terms.specs.H.{HApply}
use Rattle.c_terms.specs.Read.{ctys}
use Rattle.a_terms.specs.Tree as a
use Rattle.a_terms.specs.Typing.{aapply, or_int}
use Rattle.a_laws.specs.Allocate.{atypes}
use Rattle.a_pass.specs.Scope.{of_apply, scope}
use Rattle.a_pass.proofs.Steps.{apply_const, reads_deep, reads_wrap}
use Rattle.a_pass.proofs.parts.apply.Goals as goal

pub returns : goal.returns
returns c = λ ks ls out tuples.
    let at = scope c.args.around.now.binders c.args.around.now.names.now in
    let us = ctys c.args.ts.now in
    reads_deep ks at ls _ _ _ _ _ _ _ _ out out tuples tuples
    (sym (c.in_ok-made.ensures.depth ∙ c.pop_leaf.ensures.depth))
    (reads_wrap ks at ls (λ v. HApply v us) (λ v. a.Apply v (atypes us)) (λ t. or_int (aapply t (atypes us)))
    (λ x o. of_apply (atypes us) x)
    (λ d v. refl) (λ b v. refl) (λ b v. refl) (λ b d v r. refl) (λ b d e v. refl) (λ v. refl)
    (λ b d v. apply_const ls us b d v)
    _ _ _ _ _ _ c.args.run.depth out tuples c.in-Some.leaf.value c.in_ok-leaf.leaf.value c.in-Some.leaf.seen
    c.in_ok-leaf.leaf.seen
    c.in-Some.ensures.values c.in_ok-made.ensures.values c.in-Some.ensures.types c.in_ok-made.ensures.types
    c.in_ok-leaf.ensures.value c.in_ok-leaf.ensures.ty (c.in_ok-leaf.ensures.constant ls))
