use Rattle.t_gen_rules.specs.Gen.{generated}
use Rattle.t_gen_laws.proofs.meaning_is_kept.Goals as goal

pub returns : goal.returns
returns c = λ p main q f.
    c.rules_mean_the_same.ensures p main (generated p main) (c.typed_programs_are_never_wrong.ensures p main q)
    (c.generated_programs_are_by_rules.ensures p main q)
    (c.invariant_is_kept.ensures p main q f) (c.types_are_kept.ensures p main q)
