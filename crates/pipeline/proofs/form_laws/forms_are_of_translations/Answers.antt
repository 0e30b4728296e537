use Rattle.pipeline.proofs.Translations as lemmas
use Rattle.pipeline.proofs.form_laws.forms_are_of_translations.Goals as goal

pub returns : goal.returns
returns c = lemmas.forms_are_of_translations c.made_programs_are_translations.ensures
