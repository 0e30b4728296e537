-- Laws of the calculus in continuation-passing style.
use Rattle.std.specs.Prelude.{◌≡◌, ◌≢◌, ◌↔◌, ◌+◌, ℕ, []}
use Rattle.calc_core.specs.Ends.{Stuck}
use Rattle.k_terms.specs.K.{KTm, kt_next}
use Rattle.k_terms.specs.Meaning.{krun}
use Rattle.k_terms.specs.Typing.{KTyped}
use Rattle.k_terms.specs.Each.{KTypedWith}
use Rattle.k_terms.specs.Reach.{KWithin}
use Rattle.k_terms.specs.Size.{codes_t}

-- a typed term is never stuck
abbrev pub NeverStuck : Type 0
NeverStuck = (t : KTm) → KTyped 0 [] t → (n : ℕ) → (krun n t).end ≢ Stuck

-- the numbers of the codes of a term are the first so many
abbrev pub NumbersAre : Type 0
NumbersAre = (t : KTm) (b : ℕ) → kt_next b t ≡ b + codes_t t

-- typing is typing with the property that every type has
abbrev pub TypedIsAny : Type 0
TypedIsAny = (t : KTm) → KTyped 0 [] t ↔ KTypedWith (λ n u. Unit {0}) 0 [] t

-- a term whose types are within bounds is typed
abbrev pub WithinIsTyped : Type 0
WithinIsTyped = (N R B : ℕ) (t : KTm) → KTypedWith (KWithin N R B) 0 [] t → KTyped 0 [] t
