use Rattle.std.proofs.Common.{ap, sym, ◌∙◌, arith, ℕ, [], subst}
use Rattle.std.specs.Prelude.{nat_eq}
use Rattle.std.proofs.lemmas.List.Sorted.{IsNonDecreasingBy-from_sort, list_any-IsPermutation}
use Rattle.calc_core.specs.Levels.{level_of}
use Rattle.c_rules.specs.Climbs.{Climbs}
use Rattle.c_rules.specs.Sweep as W
use Rattle.c_rules.proofs.Counting.{climbs}
use Rattle.c_rules.proofs.Sets.{thin_is, ordered_from, rising_levels}
use Rattle.c_rules.proofs.levels.known.Goals as goal

pub returns : goal.returns
returns c =
    let xs = c.sort.new.self.items in
    let up = IsNonDecreasingBy-from_sort (λ (x : ℕ). x) xs c.in_ok-sort.ensures.sorted in
    c.in_ok-list.ensures
    ∙ ap (W.thin c.args.d) c.deref.ensures.value
    ∙ thin_is c.args.d xs c.args.levels.items
    (ordered_from 0 xs (λ i lt. omega arith) (λ i j le lt. up i j 0 le lt))
    (λ l. sym (list_any-IsPermutation (λ x. nat_eq l x) c.args.levels.items xs c.in_ok-sort.ensures.permutation))

pub invariant_of-result : goal.invariant_of-result
invariant_of-result c =
    let xs = c.sort.new.self.items in
    let up = IsNonDecreasingBy-from_sort (λ (x : ℕ). x) xs c.in_ok-sort.ensures.sorted in
    let is = c.in_ok-list.ensures
    ∙ ap (W.thin c.args.d) c.deref.ensures.value
    ∙ thin_is c.args.d xs c.args.levels.items
    (ordered_from 0 xs (λ i lt. omega arith) (λ i j le lt. up i j 0 le lt))
    (λ l. sym (list_any-IsPermutation (λ x. nat_eq l x) c.args.levels.items xs c.in_ok-sort.ensures.permutation)) in
    record {
      climbs = subst Climbs (sym is)
          (climbs 0 (W.known_below c.args.d c.args.levels.items)
          (rising_levels (λ i. W.has (level_of c.args.d i) c.args.levels.items) c.args.d [] tt));
    }
