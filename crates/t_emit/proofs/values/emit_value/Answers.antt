use Rattle.std.proofs.Common.{◌∙◌, ap}
use Rattle.t_emit.specs.Code.{onto, after_saves}
use Rattle.t_gen_rules.specs.Gen.{small, unnest}
use Rattle.a_scope.specs.Scope.{homes}
use Rattle.a_terms.specs.NodeTrees.{a_value}
use Rattle.t_emit.proofs.values.emit_value.Goals as goal

pub returns-clause-value : goal.returns-clause-value
returns-clause-value c =
    let e = c.args.emitter.now in
    c.in_ok-made.ensures.value
    ∙ ap (λ xs. small e.spare (after_saves xs (homes e.vars.now)) (a_value c.args.v.now))
    (c.deref.ensures.value ∙ c.new-saved.ensures.items)

pub returns-clause-code : goal.returns-clause-code
returns-clause-code c = λ rest.
    let e = c.args.emitter.now in
    c.in_ok-made.ensures.code rest
    ∙ ap (λ xs. onto c.args.code.now.items
    (unnest e.spare (after_saves xs (homes e.vars.now)) (a_value c.args.v.now) rest))
    (c.deref.ensures.value ∙ c.new-saved.ensures.items)
