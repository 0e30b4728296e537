-- What the conversion of a program is.
use Rattle.std.specs.Prelude.{◌≡◌, false, []}
use Rattle.f_terms.specs.Limits.{nodes}
use Rattle.f_terms.specs.Tm.{Term}
use Rattle.k_terms.specs.K.{KTm}
use Rattle.k_terms.specs.Typing.{KTyped}
use Rattle.k_terms.specs.Each.{KTypedWith}
use Rattle.k_terms.specs.Reach.{KWithin}
use Rattle.k_terms.specs.Bound.{KBound}
use Rattle.k_terms.specs.Size.{codes_t}
use Rattle.k_laws.specs.Annotate.{cps_term}
use Rattle.k_laws.specs.Correct.{Kept}
use Rattle.k_laws.specs.Sites.{sites}
use Rattle.k_laws.specs.Translates.{cps_program}

-- the one term that the rules give without administrative code: a translation, of the same meaning, typed, with types
-- of at most this reach, within the bound of programs; its codes are those of the source's `fix`, `gen`, and of its
-- applications, type applications and `if0`s that are not in tail place
pub record Converted (e : Term) (m : KTm) : Type 0 where
  pub tree : m ≡ cps_term e
  pub translation : cps_program e m
  pub meaning : Kept e m
  pub typed : KTyped 0 [] m
  pub reach : KTypedWith (KWithin (nodes e) 1600 598) 0 [] m
  pub bound : KBound m
  pub codes : codes_t m ≡ sites false e
