use Rattle.pipeline.proofs.RulesAlone as lemmas
use Rattle.pipeline.proofs.laws.translations_mean_the_same.Goals as goal

pub returns : goal.returns
returns c =
    lemmas.means_the_same c.meaning_is_kept.ensures c.types_are_kept.ensures c.scope_law.ensures.before
    c.translation_law.ensures c.meaning_law.ensures c.types_law.ensures.typed c.hoisted_means_the_same_law.ensures
    c.h_never_stuck_law.ensures c.standing_means_the_same.ensures c.rules_mean_the_same.ensures
    c.erased_code_stands_at_its_place.ensures c.runs_stay_within_times.ensures
