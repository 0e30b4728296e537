use Rattle.std.proofs.Common.{◌∙◌, refl}
use Rattle.let_types.proofs.OneMore.{shown_own}
use Rattle.let_types.proofs.declaring.first_named.Goals as goal

pub returns : goal.returns
returns c = shown_own c.args.types (record { ty = c.in_ok-ty.ty; types = c.args.types }) refl ∙ c.in_ok-ty.ensures
