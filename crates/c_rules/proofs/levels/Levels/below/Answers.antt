use Rattle.std.proofs.Common.{List, ℕ, Ok, Err, subst}
use Rattle.std.specs.List.Sorted.{IsBinarySearchResult}
use Rattle.std.specs.Ordering.{nat_cmp}
use Rattle.std.proofs.lemmas.List.Sorted.{searched}
use Rattle.c_rules.proofs.Counting.{weak, below_found, below_gap}
use Rattle.c_rules.proofs.levels.Levels.below.Goals as goal

pub returns-in-Ok : goal.returns-in-Ok
returns-in-Ok c =
    let v = c.args.self.now in
    let at = subst (λ (xs : List ℕ). IsBinarySearchResult (λ y. nat_cmp y c.args.l) xs (Ok c.in-Ok.at))
    c.deref.ensures.value c.in-Ok.ensures.position in
    below_found v.list.items v.climbs c.args.l c.in-Ok.at
    (searched v.list.items c.args.l (Ok c.in-Ok.at) at (weak v.list.items v.climbs))

pub returns-in-Err : goal.returns-in-Err
returns-in-Err c =
    let v = c.args.self.now in
    let at = subst (λ (xs : List ℕ). IsBinarySearchResult (λ y. nat_cmp y c.args.l) xs (Err c.in-Err.at))
    c.deref.ensures.value c.in-Err.ensures.position in
    below_gap v.list.items v.climbs c.args.l c.in-Err.at
    (searched v.list.items c.args.l (Err c.in-Err.at) at (weak v.list.items v.climbs))
