use Rattle.std.proofs.Common.{◌∙◌, refl}
use Rattle.let_types.proofs.OneMore.{shown_own}
use Rattle.h_notation.proofs.program.argument.Goals as goal

pub returns-then-of-clause-shown : goal.returns-then-of-clause-shown
returns-then-of-clause-shown c = λ shows.
    shown_own c.args.owes (record { ty = c.in_ok-ty.ty; types = c.args.owes }) refl ∙ c.in_ok-ty.ensures
