use Rattle.std.proofs.Common.{◌∙◌}
use Rattle.a_terms.specs.TypeLaws.{shift_none}
use Rattle.c_terms.specs.Read.{ctree}
use Rattle.a_laws.specs.Allocate.{atype}
use Rattle.a_pass.proofs.types.a_type.Goals as goal

pub returns : goal.returns
returns c = c.in_ok-made.ensures ∙ shift_none (atype (ctree c.args.t.now))
