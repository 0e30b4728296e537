use Rattle.std.proofs.Common.{◌∙◌, refl, sym}
use Rattle.h_terms.specs.H.{HPack}
use Rattle.c_terms.specs.Read.{ctree}
use Rattle.a_terms.specs.Tree as a
use Rattle.a_laws.specs.Allocate.{atype}
use Rattle.a_pass.specs.Scope.{knowns, of_pack}
use Rattle.a_pass.proofs.Steps.{pack_const, reads_deep, reads_wrap}
use Rattle.a_pass.proofs.parts.pack.Goals as goal

pub returns : goal.returns
returns c = λ ks g out tuples.
    let ls = knowns c.args.names.now in
    let h = ctree c.args.hidden.now in
    let s = ctree c.args.shape.now in
    reads_deep ks g ls _ _ _ _ _ _ _ _ out out tuples tuples
    (sym (c.in_ok-made.ensures.depth ∙ c.pop_leaf.ensures.depth))
    (reads_wrap ks g ls (λ v. HPack h v s) (λ v. a.Pack (atype h) v (atype s)) (λ t. atype s)
    (λ x o. of_pack (atype h) (atype s) o)
    (λ d v. refl) (λ b v. refl) (λ b v. refl) (λ b d v r. refl) (λ b d e v. refl) (λ v. refl)
    (λ b d v. pack_const ls h s b v)
    _ _ _ _ _ _ c.args.run.depth out tuples c.in-Some.leaf.value c.in_ok-leaf.leaf.value c.in-Some.leaf.seen
    c.in_ok-leaf.leaf.seen
    c.in-Some.ensures.values c.in_ok-made.ensures.values c.in-Some.ensures.types c.in_ok-made.ensures.types
    c.in_ok-leaf.ensures.value (c.in_ok-leaf.ensures.ty g) c.in_ok-leaf.ensures.constant)
