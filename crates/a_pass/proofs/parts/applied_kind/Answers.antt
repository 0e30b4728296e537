use Rattle.std.proofs.Common.{◌≡◌, ap, ◌∙◌, sym, arith, length}
use Rattle.a_terms.specs.Typing.{aapply, or_int}
use Rattle.a_terms.specs.Read.{atrees}
use Rattle.a_pass.specs.Scope.{scope, type_of}
use Rattle.a_pass.proofs.parts.applied_kind.Goals as goal
use Rattle.std.proofs.lemmas.List.{nil_from_length as nothing}

pub returns-then-ts-eq0 : goal.returns-then-ts-eq0
returns-then-ts-eq0 c =
    let g = scope c.args.around.now.binders c.args.around.now.names.now in
    sym (ap (λ xs. or_int (aapply (type_of g c.args.ty) (atrees xs))) (nothing c.args.ts.now (let zero : length
    c.args.ts.now ≡ 0 = omega (arith, c.if-ts-eq0.true) in zero)))

pub returns : goal.returns
returns c = c.in_ok-made.ensures ∙ ap (λ x. or_int (aapply x (atrees c.args.ts.now))) c.in_ok-code.ensures
