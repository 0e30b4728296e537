use Rattle.std.proofs.Common.{◌≡◌, ◌∙◌, ◌++◌, ◌∷◌, [], ap, ap₂, arith, length, rules}
use Rattle.t_terms.specs.Tree as T
use Rattle.t_terms.specs.Tree.{Then}
use Rattle.t_terms.specs.Read.{blocks_of}
use Rattle.t_emit.specs.Code.{onto, reserved, small_by, unnest_by}
use Rattle.t_gen_rules.specs.Gen.{settle, home, tvars}
use Rattle.a_scope.specs.Scope.{homes, scope}
use Rattle.a_scope.proofs.Scopes.{length_homes, length_scope}
use Rattle.a_terms.specs.NodeTrees.{a_value}
use Rattle.t_emit.proofs.Chosen.{chosen_is}
use Rattle.t_emit.proofs.headers.emit_if0.Goals as goal

pub returns-clause-code : goal.returns-clause-code
returns-clause-code c = λ rest.
    let e = c.args.emitter.now in
    let v = a_value c.args.v.now in
    let old = c.args.code.now.items in
    let t0 = e.spare in
    let count : c.len-block.result ≡ length c.args.out.now.items = search rules in
    c.in_ok-put.ensures rest ∙ c.in_ok-r.ensures.code _
    ∙ ap₂ (λ q ts. onto old
    (unnest_by e v (settle t0 (small_by e v) (Then (T.Bnz q (T.Plain (T.Label c.len-block.result) ts)) rest))))
    c.in_ok-r.ensures.value c.in_ok-types.ensures
    ∙ ap (λ n. onto old
    (unnest_by e v
    (settle t0 (small_by e v)
    (Then (T.Bnz (home t0 (small_by e v)) (T.Plain (T.Label n) (tvars c.args.third.now.names))) rest)))) count

pub returns-clause-out : goal.returns-clause-out
returns-clause-out c = λ u h.
    let es = c.args.emitter.now.vars.now in
    let k = c.args.third.now.names in
    c.in_ok-reserve.ensures ∙ ap (λ f. blocks_of c.args.out.now.items ++ reserved k f ∷ [])
    (c.in_ok-registers.ensures
    ∙ chosen_is (homes es) (scope k es) c.args.third.now.used.now u
    (omega (arith, length_homes es, length_scope k es)) h)
