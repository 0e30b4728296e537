use Rattle.std.proofs.Common.{◌∙◌, ap, arith}
use Rattle.a_terms.specs.Typing.{more_vars}
use Rattle.a_terms.specs.Program.{program_in}
use Rattle.a_scope.specs.Scope.{scope, decl_tree, decl_ty}
use Rattle.a_scope.proofs.Scopes.{declared_is}
use Rattle.a_scope.proofs.declaring.declare.Goals as goal

pub returns-clause-scope : goal.returns-clause-scope
returns-clause-scope c =
    let x = decl_tree c.args.decl.now in
    let k = c.args.decl.now.names in
    let p = program_in c.args.program.now in
    let es = c.args.vars.now.items in
    let e = c.placed-entry.result in
    declared_is p x k es _ e c.in_ok-push.ensures.items c.requires.under (
    c.placed-entry.ensures.shown (more_vars x k) ∙ c.in_ok-made.ensures.0
    ∙ ap (λ us. decl_ty p (scope k us) x) c.deref.ensures.value
    )

pub returns-clause-more : goal.returns-clause-more
returns-clause-more c = (
  c.placed-entry.result,
  omega (arith, c.placed-entry.ensures.names, c.in_ok-made.ensures.1, c.in_ok-after.ensures),
  c.placed-entry.ensures.register,
  c.in_ok-push.ensures.items,
)
