use Rattle.std.proofs.Common.{◌∙◌, ap, sym, subst, suc, List}
use Rattle.a_terms.specs.Tree as a
use Rattle.a_terms.specs.Typing.{type_of, or_int, field_of, body_of, filled_of, more_vars, aunset}
use Rattle.a_terms.specs.Read.{atrees}
use Rattle.a_terms.specs.declared.types.AType.{AType}
use Rattle.a_terms.specs.NodeTrees.{a_values, a_decl}
use Rattle.a_terms.specs.Program.{program_in}
use Rattle.a_terms.specs.declared.nodes.AForm.{AForm}
use Rattle.a_scope.specs.Scope.{scope, EntryOf, decl_ty}
use Rattle.a_scope.proofs.Scopes.{own_stands}
use Rattle.a_scope.proofs.declaring.declared_entry.Goals as goal

pub returns-in_ok-made-in-Value : goal.returns-in_ok-made-in-Value
returns-in_ok-made-in-Value c =
    let made = c.in_ok-made-in-Value in
    let p = program_in c.args.around.now.program.now in
    let k = c.args.around.now.names in
    let g = scope k c.args.around.now.vars.now in
    let vs = a_values c.args.values.now in
    subst (λ (f : AForm). EntryOf (more_vars (a_decl f vs) k) (decl_ty p g (a_decl f vs)) made.made)
    (sym c.in-Value.is) (subst (λ v. EntryOf k (or_int (type_of p g v)) made.made) c.first.ensures made.ensures)

pub returns-in_ok-made-in-Proj : goal.returns-in_ok-made-in-Proj
returns-in_ok-made-in-Proj c =
    let made = c.in_ok-made-in-Proj in
    let p = program_in c.args.around.now.program.now in
    let k = c.args.around.now.names in
    let g = scope k c.args.around.now.vars.now in
    let vs = a_values c.args.values.now in
    subst (λ (f : AForm). EntryOf (more_vars (a_decl f vs) k) (decl_ty p g (a_decl f vs)) made.made)
    (sym c.in-Proj.is) (
    subst (λ v. EntryOf k (field_of c.in-Proj.i (type_of p g v)) made.made) c.first-in-Proj.ensures made.ensures
    )

pub returns-in_ok-made-in-Unpack : goal.returns-in_ok-made-in-Unpack
returns-in_ok-made-in-Unpack c =
    let made = c.in_ok-made-in-Unpack in
    let p = program_in c.args.around.now.program.now in
    let k = c.args.around.now.names in
    let g = scope k c.args.around.now.vars.now in
    let vs = a_values c.args.values.now in
    subst (λ (f : AForm). EntryOf (more_vars (a_decl f vs) k) (decl_ty p g (a_decl f vs)) made.made)
    (sym c.in-Unpack.is) (
    subst (λ v. EntryOf (suc k) (body_of (type_of p g v)) made.made) c.first-in-Unpack.ensures made.ensures
    )

pub returns-in-Malloc : goal.returns-in-Malloc
returns-in-Malloc c =
    let e = c.noted_as-in-Malloc.result in
    let p = program_in c.args.around.now.program.now in
    let k = c.args.around.now.names in
    let g = scope k c.args.around.now.vars.now in
    let vs = a_values c.args.values.now in
    subst (λ (f : AForm). EntryOf (more_vars (a_decl f vs) k) (decl_ty p g (a_decl f vs)) e) (sym c.in-Malloc.is) (
    own_stands k e _ (c.noted_as-in-Malloc.ensures.ty
    ∙ ap (λ (ts : List AType). a.ATuple (aunset (atrees ts))) c.deref.ensures.value) c.noted_as-in-Malloc.ensures.names
    )

pub returns-in_ok-made-in-Init : goal.returns-in_ok-made-in-Init
returns-in_ok-made-in-Init c =
    let made = c.in_ok-made-in-Init in
    let p = program_in c.args.around.now.program.now in
    let k = c.args.around.now.names in
    let g = scope k c.args.around.now.vars.now in
    let vs = a_values c.args.values.now in
    subst (λ (f : AForm). EntryOf (more_vars (a_decl f vs) k) (decl_ty p g (a_decl f vs)) made.made)
    (sym c.in-Init.is) (
    subst (λ v. EntryOf k (filled_of c.in-Init.i (type_of p g v)) made.made) c.first-in-Init.ensures made.ensures
    )
