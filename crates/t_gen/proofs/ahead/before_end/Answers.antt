use Rattle.a_terms.specs.NodeTrees.{a_values}
use Rattle.t_gen.proofs.Telling.{pushed, end_holds}
use Rattle.t_gen.proofs.ahead.before_end.Goals as goal

pub returns-clause-told : goal.returns-clause-told
returns-clause-told c = λ ts e same l h.
    pushed c.args.sets.now.items _ _ e ts c.in_ok-push.ensures.items
    (end_holds (a_values c.args.values.now) e c.none-own.result c.note_all.new.used c.none-own.ensures
    c.in_ok-note_all.ensures same) l h
