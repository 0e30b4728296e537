use Rattle.std.proofs.Common.{◌≡◌, ℕ, sym, subst₂}
use Rattle.c_terms.specs.Meaning.{crun}
use Rattle.h_terms.specs.Meaning.{hrun}
use Rattle.h_terms.specs.Typing.{HProgramGood}
use Rattle.h_pass.proofs.laws.hoisted_means_the_same_law.Goals as goal

pub returns : goal.returns
returns c = λ ks t closed typed is.
    (let one = c.one_hoisting_law.ensures ks t closed typed is in
    subst₂ (λ bs m. HProgramGood bs m × ((n : ℕ) → hrun n bs m ≡ crun n closed)) (sym one.0) (sym one.1)
    (c.hoist_types_law.ensures.types closed typed, c.hoist_meaning_law.ensures closed))
