use Rattle.std.proofs.Common.{◌≡◌, List, Some, map, refl, arith, subst}
use Rattle.f_terms.specs.Ty.{NoTys, Below}
use Rattle.f_terms.specs.Limits.{Within}
use Rattle.f_terms.specs.Typing.{ty_at}
use Rattle.f_terms.specs.Tm.{SVar}
use Rattle.f_terms.specs.Read.{tree, place}
use Rattle.f_check.specs.Scopes.{bound, names}
use Rattle.f_check.specs.declared.scope.Binder.{Binder}
use Rattle.f_check.proofs.begin.begin_var.Goals as goal

pub returns-clause-goes : goal.returns-clause-goes
returns-clause-goes c =
    let n = c.args.state.now.around in
    let t = tree c.in_ok-ty.ty in
    let found = subst (λ (bs : List Binder). (ty_at (names n NoTys (map bound bs)) c.args.name ≡ Some t) × Below n t
    × Within t) c.deref.ensures.value c.in_ok-ty.ensures in
    ((SVar (place c.args.span) c.args.name, (found, refl, c.requires.1)), omega arith)
