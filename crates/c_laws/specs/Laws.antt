-- What closure conversion keeps.
use Rattle.std.specs.Prelude.{◌≡◌, ◌+◌, ◌*◌, ℕ, []}
use Rattle.k_terms.specs.K.{KTm}
use Rattle.k_terms.specs.Meaning.{krun}
use Rattle.k_terms.specs.Typing.{KTyped}
use Rattle.k_terms.specs.Each.{KTypedWith}
use Rattle.k_terms.specs.Reach.{KWithin}
use Rattle.k_terms.specs.Bound.{KFits, KBound}
use Rattle.c_terms.specs.Meaning.{crun}
use Rattle.c_terms.specs.Typing.{CTyped}
use Rattle.c_terms.specs.Each.{CTypedWith}
use Rattle.c_terms.specs.Reach.{CWithin}
use Rattle.c_terms.specs.Bound.{CFits, CBound}
use Rattle.c_terms.specs.Scope.{CScoped}
use Rattle.c_rules.specs.Free.{IsClosed}
use Rattle.c_rules.specs.Close.{close_of}
use Rattle.c_laws.specs.Row.{IsTranslation}

-- within any number of calls the program after the conversion ends as the one before it, and enters the same codes
abbrev pub MeaningKept : Type 0
MeaningKept = (t : KTm) → KTyped 0 [] t → (n : ℕ) → crun n (close_of t) ≡ krun n t

-- a typed term becomes a typed one
abbrev pub TypesKept : Type 0
TypesKept = (t : KTm) → KTyped 0 [] t → CTyped 0 [] (close_of t)

-- four are added to the reach of types, and the names in scope to those of a type
abbrev pub ReachKept : Type 0
ReachKept =
    (N R B : ℕ) (t : KTm) → KTypedWith (KWithin N R B) 0 [] t →
    CTypedWith (CWithin (N + 1) (R + 4) (N + B + 1)) 0 [] (close_of t)

-- bodies grow in proportion, codes and choices stay as many
abbrev pub FitsKept : Type 0
FitsKept = (N R : ℕ) (t : KTm) → KFits N R t → CFits (10 * N + 1) (R + 4) (close_of t)

-- who keeps to the bound of programs before keeps to that after
abbrev pub BoundKept : Type 0
BoundKept = (t : KTm) → KBound t → CBound (close_of t)

-- whatever is converted, the names of the result are in scope
abbrev pub CloseIsScoped : Type 0
CloseIsScoped = (t : KTm) → CScoped 0 (close_of t)

-- nothing is free in a typed term, neither a variable nor a type variable
abbrev pub TypedIsClosed : Type 0
TypedIsClosed = (t : KTm) → KTyped 0 [] t → IsClosed t

-- the function gives a translation by the rules
abbrev pub CloseTranslates : Type 0
CloseTranslates = (t : KTm) → IsClosed t → IsTranslation t (close_of t)
