use Rattle.std.proofs.Common.{ap, ◌∙◌, refl}
use Rattle.c_terms.specs.Read.{ctys}
use Rattle.a_laws.specs.Allocate.{atypes}
use Rattle.a_pass.proofs.Stepping.{call_stepped}
use Rattle.a_pass.proofs.nodes.call.Goals as goal

pub returns : goal.returns
returns c =
    call_stepped c.args.progress.now _ c.args.place c.args.run c.in_ok-values.values.items c.requires.names
    c.requires.bound c.in_ok-values.ensures c.args.types.now c.in_ok-types.types refl refl
    (c.in_ok-types.ensures ∙ ap (λ xs. atypes (ctys xs)) c.deref.ensures.value) c.in_ok-end.ensures
