use Rattle.std.proofs.Common.{◌≡◌, ◌-◌, ◌∙◌, ap, arith}
use Rattle.t_terms.specs.Tree as T
use Rattle.t_terms.specs.Tree.{Then}
use Rattle.t_emit.specs.Code.{onto}
use Rattle.t_gen_rules.specs.Gen.{small, unnest, move, settle, home}
use Rattle.a_scope.specs.Scope.{homes}
use Rattle.a_terms.specs.NodeTrees.{a_value}
use Rattle.t_emit.proofs.decls.initialise.Goals as goal

pub returns : goal.returns
returns c = λ rest.
    let m = homes c.args.target.now.emitter.vars.now in
    let v = a_value c.args.v.now in
    let w = a_value c.args.w.now in
    let r = c.args.target.now.rd in
    let i = c.args.i in
    let t = c.in_ok-next.next in
    let less : c.saturating_sub-field.result ≡ i - 1 = omega (arith, c.saturating_sub-field.ensures) in
    c.in_ok-put.ensures rest ∙ c.in_ok-rs.ensures.code _ ∙ c.in_ok-emit_into.ensures _
    ∙ ap (λ f. onto c.args.code.now.items
    (unnest t m v
    (move r (small t m v) (unnest t m w (settle t (small t m w) (Then (T.St r f c.in_ok-rs.rs) rest)))))) less
    ∙ ap (λ q. onto c.args.code.now.items
    (unnest t m v (move r (small t m v) (unnest t m w (settle t (small t m w) (Then (T.St r (i - 1) q) rest))))))
    c.in_ok-rs.ensures.value
    ∙ ap (λ t. onto c.args.code.now.items
    (unnest t m v
    (move r (small t m v)
    (unnest t m w (settle t (small t m w) (Then (T.St r (i - 1) (home t (small t m w))) rest))))))
    c.in_ok-next.ensures
