use Rattle.std.proofs.Common.{◌≡◌, ap, ◌∙◌, Some, rules, to_z, of_z, w64}
use Rattle.a_terms.specs.Tree.{Num}
use Rattle.a_pass.proofs.scope.int_leaf.Goals as goal

pub returns-clause-value : goal.returns-clause-value
returns-clause-value c = λ d.
    let same : to_z w64 (of_z w64 c.args.n) ≡ c.args.n = search (rules, c.ranges.n) in
    c.plain-value.ensures.value d ∙ ap Num same

pub returns-clause-constant : goal.returns-clause-constant
returns-clause-constant c = λ ls.
    let same : to_z w64 (of_z w64 c.args.n) ≡ c.args.n = search (rules, c.ranges.n) in
    ap Some (c.plain.ensures.whole ∙ ap Num same)
