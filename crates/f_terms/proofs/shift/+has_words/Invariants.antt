use Rattle.std.proofs.Common.{ℕ, ◌≤◌, ◌^◌, take, All}
use Rattle.f_terms.specs.Ty.{Below}
use Rattle.f_terms.specs.Read.{tree}
use Rattle.f_terms.proofs.shift.+has_words.Given as goal

abbrev pub invariant-loop-part : goal.invariant-loop-part
invariant-loop-part l = (m : ℕ) → 2 ^ 64 ≤ m → All (λ t. Below m (tree t)) (take l.part-index l.part-items)
