use Rattle.pipeline.proofs.OneTranslation.{made_is_translated}
use Rattle.pipeline.proofs.laws.made_programs_are_translations.Goals as goal

pub returns : goal.returns
returns c =
    made_is_translated c.conversion_is_a_translation.ensures c.conversion_keeps_types.ensures c.scope_law.ensures.before
    c.translation_law.ensures c.types_law.ensures.typed c.hoist_is_back_law.ensures c.hoist_types_law.ensures.types
    c.allocation_stands_for_its_program.ensures c.types_are_kept.ensures c.generated_programs_are_by_rules.ensures
