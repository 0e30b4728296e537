use Rattle.std.proofs.Common.{◌≡◌, IfOk, sym, ap₂, subst}
use Rattle.t_types.proofs.Trees.{tree_is_tuple}
use Rattle.type_path.specs.Paths.{read}
use Rattle.type_path.specs.Assembly.{misfit}
use Rattle.type_path.proofs.assembly.assembly_misfit.Goals as goal

pub returns-in-Tuple-Tuple : goal.returns-in-Tuple-Tuple
returns-in-Tuple-Tuple c =
    let a = tree_is_tuple _ _ _ c.in-Tuple-Tuple.is-0 c.deref.ensures.value in
    let b = tree_is_tuple _ _ _ c.in-Tuple-Tuple.is-1 c.deref-in-Tuple-Tuple.ensures.value in
    subst (λ d. IfOk c.fields_difference.result (λ r. read r ≡ d)) (sym (ap₂ misfit a b)) c.fields_difference.ensures
