use Rattle.std.proofs.Common.{subst}
use Rattle.a_pass.specs.Scope.{NotesType}
use Rattle.a_pass.proofs.noting.made_value.Goals as goal

pub returns : goal.returns
returns c = subst (λ t. NotesType c.args.binders t c.made_now.result) c.in_ok-made.ensures c.made_now.ensures
