use Rattle.std.proofs.Common.{◌∙◌, List, ap, map}
use Rattle.f_terms.specs.Ty.{TTuple, Tys, tys}
use Rattle.f_terms.specs.Read.{tree}
use Rattle.f_terms.specs.declared.types.FType.{FType}
use Rattle.f_terms.proofs.Trees.{tree_Tuple}
use Rattle.types_page.specs.Walk.{with_field}
use Rattle.types_page.proofs.Fields.{pushed}
use Rattle.types_page.proofs.types.more_fields.Goals as goal

pub returns : goal.returns
returns c =
    tree_Tuple _
    ∙ ap TTuple
    (ap (λ (xs : List FType). tys (map tree xs)) c.in_ok-push.ensures.items
    ∙ pushed c.fields_of-fields.result.items c.args.ty
    ∙ ap (λ (us : Tys). with_field us (tree c.args.ty)) c.fields_of-fields.ensures)
