use Rattle.std.proofs.Common.{ℕ, List, length, subst, Ok, Err}
use Rattle.std.specs.List.Sorted.{IsBinarySearchResult}
use Rattle.std.specs.Ordering.{nat_cmp}
use Rattle.std.proofs.lemmas.List.Sorted.{searched}
use Rattle.t_machine.proofs.Found.{told_rise, found_old, found_new}
use Rattle.t_machine.proofs.heap.Heap.find.Goals as goal

pub returns-in-Ok : goal.returns-in-Ok
returns-in-Ok c =
    let x = c.args.self.now in
    let ks = x.kept.items in
    let n = c.args.number in
    let i = c.in-Ok.index in
    let count = length x.starts.items in
    let found = subst (λ (zs : List ℕ). IsBinarySearchResult (λ y. nat_cmp y n) zs (Ok i)) c.as_slice.ensures.value
    c.in-Ok.ensures.position in
    let is = searched ks n (Ok i) found (told_rise ks x.dropped count n x.older c.requires) in
    found_old ks x.dropped count n x.older i is.0 is.1

pub returns-in-Err : goal.returns-in-Err
returns-in-Err c =
    let x = c.args.self.now in
    let ks = x.kept.items in
    let n = c.args.number in
    let i = c.in-Err.field-0 in
    let count = length x.starts.items in
    let found = subst (λ (zs : List ℕ). IsBinarySearchResult (λ y. nat_cmp y n) zs (Err i)) c.as_slice.ensures.value
    c.in-Err.ensures.position in
    let is = searched ks n (Err i) found (told_rise ks x.dropped count n x.older c.requires) in
    found_new ks x.dropped count n x.older i c.find_new.result is.1 is.2 c.find_new.ensures
