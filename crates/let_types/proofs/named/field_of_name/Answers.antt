use Rattle.std.proofs.Common.{◌≡◌, ◌∙◌, ◌-◌, ℕ, ap, arith}
use Rattle.k_terms.specs.Types.{kproj_type}
use Rattle.calc_core.specs.Read.{all_trees, tree}
use Rattle.calc_core.specs.Walks.{shift}
use Rattle.calc_core.proofs.Trees.{tree_is_tuple}
use Rattle.let_types.proofs.Naming.{proj_shift}
use Rattle.let_types.proofs.named.field_of_name.Goals as goal

pub returns-in_ok-made-in-Tuple : goal.returns-in_ok-made-in-Tuple
returns-in_ok-made-in-Tuple c =
    let by : c.saturating_sub-by.result ≡ c.args.types - c.args.name.now.types = omega arith in
    c.in_ok-made-in-Tuple.ensures
    ∙ proj_shift c.saturating_sub-by.result c.args.i (tree c.args.name.now.ty) (all_trees c.deref.result.now)
    (tree_is_tuple _ _ _ c.in-Tuple.is c.deref.ensures.value)
    ∙ ap (λ (b : ℕ). kproj_type c.args.i (shift b 0 (tree c.args.name.now.ty))) by
