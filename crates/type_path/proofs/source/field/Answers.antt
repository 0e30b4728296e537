use Rattle.std.proofs.Common.{◌≡◌, suc, ◌-◌, map, Some, ap, ◌∙◌, arith}
use Rattle.f_terms.specs.Ty.{tys}
use Rattle.f_terms.specs.Typing.{field_ty}
use Rattle.f_terms.specs.Read.{tree}
use Rattle.type_path.proofs.SourceFields.{field_there, field_gone}
use Rattle.type_path.proofs.source.field.Goals as goal

pub returns-then-at-ts : goal.returns-then-at-ts
returns-then-at-ts c =
    let ts = c.args.ts.now in
    let i = c.args.i in
    let at : suc (i - 1) ≡ i = omega (arith, c.if-i-eq0.false) in
    ap (λ t. Some (tree t)) c.index-ts-at.is
    ∙ field_there ts (i - 1) c.index-ts-at.result (omega (arith, c.if-at-ts.true))
    ∙ ap (field_ty (tys (map tree ts))) at

pub returns : goal.returns
returns c =
    let ts = c.args.ts.now in
    let i = c.args.i in
    let at : suc (i - 1) ≡ i = omega (arith, c.if-i-eq0.false) in
    field_gone ts (i - 1) (omega (arith, c.if-at-ts.false)) ∙ ap (field_ty (tys (map tree ts))) at
