-- Terms and their nodes.
use Rattle.std.specs.Prelude.{◌≡◌, []}
use Rattle.k_terms.specs.K.{KTm}
use Rattle.k_terms.specs.Stream.{klin_t}
use Rattle.k_terms.specs.Typing.{KTyped}
use Rattle.k_terms.specs.Scope.{TermIn}
use Rattle.k_terms.specs.Decode.{decode}

-- a typed term has its names and its type variables in scope
abbrev pub TypedIsInScope : Type 0
TypedIsInScope = (t : KTm) → KTyped 0 [] t → TermIn 0 0 t

-- a term in scope is read back from its nodes
abbrev pub ReadsBack : Type 0
ReadsBack = (t : KTm) → TermIn 0 0 t → decode (klin_t 0 0 [] t []) ≡ t

-- terms in scope with the same nodes are the same
abbrev pub OneTerm : Type 0
OneTerm = (t u : KTm) → TermIn 0 0 t → TermIn 0 0 u → klin_t 0 0 [] t [] ≡ klin_t 0 0 [] u [] → t ≡ u
