-- The sums of all kinds together are what all places were executed.
use Rattle.std.proofs.Common.{◌≡◌, ℕ, ◌+◌, ◌==◌, List, [], ◌∷◌, refl, arith}
use Rattle.std.specs.Prelude.{sum_by, if◌then◌else◌}
use Rattle.std.proofs.lemmas.List.Sums.{sum_by-cons}
use Rattle.cost_page.specs.Places.{number}
use Rattle.cost_page.specs.Page.{weight}
use Rattle.cost_page.specs.Laws.{every_kind, KindsAddUp}
use Rattle.cost_page.specs.declared.places.Kind.{Kind}
use Rattle.cost_page.specs.declared.places.Kind.TheVariants.{Add, Sub, Mul, Bnz, Ld, Malloc, Mov, St, Unpack, Jmp, Halt}
use Rattle.cost_page.specs.declared.places.Place.{Place}
use Rattle.cost_page.specs.declared.totals.Measure.TheVariants.{Of}

-- one place more in each of some sums
one_more : (f : Kind → Place → ℕ) (p : Place) (ps : List Place) (ks : List Kind) →
    sum_by (λ k. sum_by (f k) (p ∷ ps)) ks ≡ sum_by (λ k. f k p) ks + sum_by (λ k. sum_by (f k) ps) ks
one_more f p ps [] = refl
one_more f p ps (k ∷ ks) =
    let all = sum_by-cons (λ k. sum_by (f k) (p ∷ ps)) k ks in
    let own = sum_by-cons (λ k. f k p) k ks in
    let others = sum_by-cons (λ k. sum_by (f k) ps) k ks in
    let here = sum_by-cons (f k) p ps in
    let rest = one_more f p ps ks in
    omega (arith, all, own, others, here, rest)

-- a place counts for one kind
one_kind : (k : Kind) (n : ℕ) → sum_by (λ j. if number k == number j then n else 0) every_kind ≡ n
one_kind Add n = omega arith
one_kind Sub n = omega arith
one_kind Mul n = omega arith
one_kind Bnz n = omega arith
one_kind Ld n = omega arith
one_kind Malloc n = omega arith
one_kind Mov n = omega arith
one_kind St n = omega arith
one_kind Unpack n = omega arith
one_kind Jmp n = omega arith
one_kind Halt n = omega arith

pub kinds_add_up : KindsAddUp
kinds_add_up [] = refl
kinds_add_up (p ∷ ps) =
    let more = one_more (λ k. weight (Of k)) p ps every_kind in
    let here = one_kind p.kind p.count in
    let all = sum_by-cons (λ (q : Place). q.count) p ps in
    let rest = kinds_add_up ps in
    omega (arith, more, here, all, rest)
