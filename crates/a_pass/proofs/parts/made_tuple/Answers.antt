use Rattle.std.proofs.Common.{ap, ◌∙◌}
use Rattle.a_terms.specs.Tree as a
use Rattle.a_terms.specs.Typing.{aset}
use Rattle.a_pass.specs.Scope.{all_of, scope}
use Rattle.a_pass.specs.Emits.{inits}
use Rattle.a_pass.proofs.Emitting.{emits_same, emits_then}
use Rattle.a_pass.proofs.TypeLists.{kinds_types, tuple_kind}
use Rattle.a_pass.proofs.parts.made_tuple.Goals as goal

pub returns-clause-emits : goal.returns-clause-emits
returns-clause-emits c = λ room is.
    let g = scope c.args.around.now.binders c.args.around.now.names.now in
    let kinds = c.in_ok-kinds.kinds in
    let same = c.in_ok-room.ensures ∙ ap (all_of g) c.deref.ensures.value ∙ kinds_types g kinds.items
    c.args.seen.items (c.in_ok-kinds.ensures g) ∙ is in
    emits_same _ _ _ _ (λ r. ap (λ ts. a.Let (a.Malloc ts) (inits c.args.depth 1 c.args.fields.items r)) same)
    (emits_then _ _ _ _ _ c.in_ok-malloc.ensures c.in_ok-level.ensures.emits)

pub returns-clause-level : goal.returns-clause-level
returns-clause-level c = c.in_ok-level.ensures.level

pub returns-clause-value : goal.returns-clause-value
returns-clause-value c = c.plain-value.ensures.value

pub returns-clause-ty : goal.returns-clause-ty
returns-clause-ty c = λ g.
    let kinds = c.in_ok-kinds.kinds in
    tuple_kind g kinds
    ∙ ap (λ ts. a.ATuple (aset ts)) (kinds_types g kinds.items c.args.seen.items (c.in_ok-kinds.ensures g))
