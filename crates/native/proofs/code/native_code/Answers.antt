use Rattle.std.proofs.Common.{sym, ◌∙◌, subst}
use Rattle.std.proofs.Math.Logic.{∥∥₁_map}
use Rattle.std.proofs.lemmas.Result.{err_from_is_err_and}
use Rattle.t_terms.specs.ReadProgram.{program as program_tree}
use Rattle.t_terms.specs.declared.program.TProgram.{TProgram}
use Rattle.native.specs.Native.{IsInBounds}
use Rattle.t_check.specs.Checked.{checked_program}
use Rattle.native.proofs.Composing.{code_is_native, has_code, in_bounds}
use Rattle.native.proofs.code.native_code.Goals as goal

pub returns-clause-native : goal.returns-clause-native
returns-clause-native c =
    ∥∥₁_map c.program.ensures.accepted
    (λ accepted. code_is_native c.each_built_keeps_meaning.ensures c.few_tuples_are_enough.ensures
    c.compiled_code_behaves.ensures c.compiled_code_has_places.ensures (checked_program c.args.checked.now) _
    c.program.ensures.same accepted _ _ c.in_ok-file.ensures.made)

pub returns-clause-code : goal.returns-clause-code
returns-clause-code c =
    has_code (checked_program c.args.checked.now) _ c.program.ensures.same _ _ c.in_ok-file.ensures.made

pub returns-clause-fits : goal.returns-clause-fits
returns-clause-fits c =
    in_bounds (checked_program c.args.checked.now) _ c.program.ensures.same _ _ c.in_ok-file.ensures.made

pub returns-in_err-file-clause-large : goal.returns-in_err-file-clause-large
returns-in_err-file-clause-large c =
    let r = err_from_is_err_and c.from_residual.result c.from_residual.ensures.1 in
    rw r.1 (λ is. subst (λ (t : TProgram). IsInBounds c.args.heap (program_tree t) → ⊥) c.program.ensures.same
    (c.in_err-file.ensures.large (sym r.2 ∙ is)))
