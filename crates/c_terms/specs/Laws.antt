-- Laws of the closed calculus.
use Rattle.std.specs.Prelude.{◌≡◌, ◌↔◌, ◌≤◌, ℕ, []}
use Rattle.c_terms.specs.C.{CTy, CTm}
use Rattle.c_terms.specs.Typing.{CTyped}
use Rattle.calc_core.specs.Walks.{put}
use Rattle.c_terms.specs.Each.{CTypedWith}
use Rattle.c_terms.specs.Reach.{CWithin}
use Rattle.c_terms.specs.Bound.{CFits}
use Rattle.c_terms.specs.Puts.{cput}
use Rattle.c_terms.specs.Scope.{CScoped}
use Rattle.c_terms.specs.Stream.{clin_t}
use Rattle.c_terms.specs.Decode.{cdecode}

-- typing is typing with the property that every type has
abbrev pub TypedIsAny : Type 0
TypedIsAny = (t : CTm) → CTyped 0 [] t ↔ CTypedWith (λ n u. Unit {0}) 0 [] t

-- a term whose types are within bounds is typed
abbrev pub WithinIsTyped : Type 0
WithinIsTyped = (N R B : ℕ) (t : CTm) → CTypedWith (CWithin N R B) 0 [] t → CTyped 0 [] t

-- who keeps to a bound keeps to any larger one
abbrev pub FitsMore : Type 0
FitsMore = (N M R S : ℕ) (t : CTm) → N ≤ M → R ≤ S → CFits N R t → CFits M S t

-- one type put for one variable, by a name, is put
abbrev pub CPutIsPut : Type 0
CPutIsPut = (n : ℕ) (s t : CTy) → cput n s t ≡ put n s t

-- the names of a typed term are in scope
abbrev pub TypedIsScoped : Type 0
TypedIsScoped = (t : CTm) → CTyped 0 [] t → CScoped 0 t

-- the nodes of a term in scope are read back
abbrev pub ReadsBack : Type 0
ReadsBack = (t : CTm) → CScoped 0 t → cdecode (clin_t 0 t []) ≡ t

abbrev pub OneTerm : Type 0
OneTerm = (t u : CTm) → CScoped 0 t → CScoped 0 u → clin_t 0 t [] ≡ clin_t 0 u [] → t ≡ u
