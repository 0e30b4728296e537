use Rattle.std.proofs.Common.{◌∙◌, ap}
use Rattle.t_emit.specs.Code.{onto, unnest_by}
use Rattle.t_gen_rules.specs.Gen.{move}
use Rattle.a_terms.specs.NodeTrees.{a_value}
use Rattle.t_emit.proofs.values.emit_into.Goals as goal

pub returns : goal.returns
returns c = λ rest.
    c.in_ok-emit_move.ensures rest ∙ c.in_ok-held.ensures.code _
    ∙ ap (λ x. onto c.args.code.now.items
    (unnest_by c.args.emitter.now (a_value c.args.v.now) (move c.args.r x rest)))
    c.in_ok-held.ensures.value
