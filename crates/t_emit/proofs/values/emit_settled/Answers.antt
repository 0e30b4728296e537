use Rattle.std.proofs.Common.{◌∙◌, ap}
use Rattle.t_emit.specs.Code.{onto, unnest_by}
use Rattle.t_gen_rules.specs.Gen.{home, settle}
use Rattle.a_terms.specs.NodeTrees.{a_value}
use Rattle.t_emit.proofs.values.emit_settled.Goals as goal

pub returns-clause-value : goal.returns-clause-value
returns-clause-value c = c.in_ok-r.ensures.value ∙ ap (home c.args.emitter.now.spare) c.in_ok-held.ensures.value

pub returns-clause-code : goal.returns-clause-code
returns-clause-code c = λ rest.
    let e = c.args.emitter.now in
    c.in_ok-r.ensures.code rest ∙ c.in_ok-held.ensures.code _
    ∙ ap (λ x. onto c.args.code.now.items (unnest_by e (a_value c.args.v.now) (settle e.spare x rest)))
    c.in_ok-held.ensures.value
