use Rattle.std.proofs.Common.{◌≡◌, ◌∙◌, ◌-◌, ℕ, ap, sym, arith}
use Rattle.c_terms.specs.C.{ccount}
use Rattle.calc_core.specs.Read.{all_trees}
use Rattle.calc_core.specs.Types.{CodeTy, VarTy}
use Rattle.calc_core.specs.Substitution.{all_substituted, under_binders, with_types}
use Rattle.calc_core.proofs.Trees.{count_length, tree_Code, tree_is_code}
use Rattle.let_types.specs.Parts.{applied_type}
use Rattle.let_types.proofs.Placing.{put_all_is}
use Rattle.let_types.proofs.walks.apply_type.Goals as goal

pub returns-in_ok-args-in-Code : goal.returns-in_ok-args-in-Code
returns-in_ok-args-in-Code c =
    let us = all_trees c.args.types.now in
    let left = c.saturating_sub-left.result in
    let is : left ≡ c.in-Code.owes - ccount us = let l = count_length c.args.types.now in omega (arith, l) in
    let args = all_trees c.deref.result.now in
    tree_Code left c.in_ok-args-in-Code.args
    ∙ ap (CodeTy left) (c.in_ok-args-in-Code.ensures ∙ sym (put_all_is us args left))
    ∙ ap (λ (k : ℕ). CodeTy k (all_substituted (under_binders k (with_types us VarTy)) args)) is
    ∙ ap (λ u. applied_type u us) (sym (tree_is_code _ _ _ _ c.in-Code.is c.deref.ensures.value))
