use Rattle.types_page.proofs.Binding.{one_binding}
use Rattle.types_page.proofs.laws.one_binding.Goals as goal

pub returns : goal.returns
returns c = one_binding
