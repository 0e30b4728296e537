use Rattle.talc_core.proofs.BindingLemmas.{one_types_page}
use Rattle.talc_core.proofs.laws.one_types_page.Goals as goal

pub returns : goal.returns
returns c = one_types_page c.texts_keep_laws.ensures c.one_cut.ensures c.one_binding.ensures
