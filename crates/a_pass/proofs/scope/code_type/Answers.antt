use Rattle.std.proofs.Common.{ap, ◌∙◌}
use Rattle.c_terms.specs.Read.{ctys}
use Rattle.a_terms.specs.Tree.{ACode}
use Rattle.a_terms.specs.ReadLaws.{a_code}
use Rattle.a_laws.specs.Allocate.{atypes}
use Rattle.a_pass.proofs.scope.code_type.Goals as goal

pub returns : goal.returns
returns c =
    let b = c.args.block.now in
    a_code b.owes c.in_ok-args.args ∙ ap (ACode b.owes) c.in_ok-args.ensures ∙ ap (λ ts. ACode b.owes (atypes (ctys
    ts))) c.deref.ensures.value
