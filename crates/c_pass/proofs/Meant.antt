-- What holds of a program within the bound.
use Rattle.std.proofs.Common.{◌≡◌, ℕ}
use Rattle.std.proofs.Math.Logic.{∥∥₁_elim}
use Rattle.std.proofs.Props.{props}
use Rattle.calc_core.specs.Ends.{End, Result}
use Rattle.k_terms.specs.K.{KTm}
use Rattle.k_terms.specs.Bound.{KBound}
use Rattle.k_terms.specs.Laws.{WithinIsTyped}
use Rattle.k_terms.specs.Meaning.{krun}
use Rattle.c_terms.specs.Meaning.{crun}
use Rattle.c_rules.specs.Close.{close_of}
use Rattle.c_rules.specs.Free.{IsClosed}
use Rattle.c_laws.specs.Laws.{MeaningKept, TypedIsClosed}

end_set : IsSet End
end_set = hlevel props

result_set : IsSet Result
result_set = hlevel (props, end_set)

-- it does what it did
pub same_run : WithinIsTyped → MeaningKept → (t : KTm) → ∥ KBound t ∥₁ → (n : ℕ) → crun n (close_of t) ≡ krun n t
same_run typed meant t b n =
    ∥∥₁_elim b (result_set (crun n (close_of t)) (krun n t))
    (λ h. meant t (typed 1099511627776 1600 1099511627776 t h.0) n)

-- nothing is free in it
pub nothing_free : WithinIsTyped → TypedIsClosed → (t : KTm) → ∥ KBound t ∥₁ → IsClosed t
nothing_free typed free t b =
    ∥∥₁_elim b (hlevel props) (λ h. free t (typed 1099511627776 1600 1099511627776 t h.0))
