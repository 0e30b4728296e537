use Rattle.c_laws.proofs.Translating.{is_translation}
use Rattle.c_laws.proofs.laws.translation_law.Goals as goal

pub returns : goal.returns
returns c = is_translation
