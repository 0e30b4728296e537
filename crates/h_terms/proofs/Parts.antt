-- Parts of a body, one more.
use Rattle.std.proofs.Common.{◌≡◌, ◌++◌, ◌∷◌, List, [], refl, ap}
use Rattle.h_terms.specs.H.{HVal}
use Rattle.h_terms.specs.Nodes.{reads, more, at_last}
use Rattle.h_terms.specs.declared.node.HPart.{HPart}

pub reads_push : (vs : List HVal) (ps : List HPart) (p : HPart) → reads vs (ps ++ p ∷ []) ≡ more p (reads vs ps)
reads_push vs [] p = refl
reads_push vs (q ∷ ps) p = reads_push (more q vs) ps p

pub at_last_push : {X : Type 0} (f : X → X) (xs : List X) (x : X) → at_last f (xs ++ x ∷ []) ≡ xs ++ f x ∷ []
at_last_push f [] x = refl
at_last_push f (y ∷ []) x = refl
at_last_push f (y ∷ z ∷ xs) x = ap (λ ys. y ∷ ys) (at_last_push f (z ∷ xs) x)
