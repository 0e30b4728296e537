use Rattle.std.proofs.Common.{ap, ◌∙◌, List, [], ◌∷◌, ◌++◌}
use Rattle.a_terms.specs.Tree as a
use Rattle.a_terms.specs.Typing.{aset}
use Rattle.a_terms.specs.Read.{atrees}
use Rattle.a_terms.specs.declared.types.AType.{AType}
use Rattle.a_pass.proofs.Emitting.{emits_same}
use Rattle.a_pass.proofs.nodes.one_field.Goals as goal

pub returns-clause-ty : goal.returns-clause-ty
returns-clause-ty c =
    c.in_ok-cell.ensures
    ∙ ap (λ (xs : List AType). a.ATuple (aset (atrees xs)))
    (c.deref.ensures.value ∙ c.in_ok-push.ensures.items
    ∙ ap (λ (xs : List AType). xs ++ c.args.ty ∷ []) c.new-room.ensures.items)

pub returns-clause-emits : goal.returns-clause-emits
returns-clause-emits c =
    emits_same _ _ _ _
    (λ r. ap (λ (xs : List AType). a.Let (a.Malloc (atrees xs)) r)
    (c.in_ok-push.ensures.items ∙ ap (λ (xs : List AType). xs ++ c.args.ty ∷ []) c.new-room.ensures.items))
    c.in_ok-malloc.ensures
