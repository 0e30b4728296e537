use Rattle.std.proofs.Common.{◌∙◌, ap, sym, Some}
use Rattle.a_terms.specs.declared.nodes.AWrap.{AWrap}
use Rattle.a_terms.specs.Read.{maybe}
use Rattle.a_scope.specs.Scope.{wrap_type}
use Rattle.a_scope.proofs.value.type_of_wrap.Goals as goal

pub returns-in_ok-made-in-Pack : goal.returns-in_ok-made-in-Pack
returns-in_ok-made-in-Pack c = ap Some c.in_ok-made-in-Pack.ensures
    ∙ ap (λ (w : AWrap). wrap_type w (maybe c.args.ty)) (sym c.in-Pack.is)
