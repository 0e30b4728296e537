-- A walk goes on by one byte.
use Rattle.std.proofs.Common.{◌≡◌, ◌∙◌, ◌<◌, ℕ, suc, ◌+◌, List, length, drop, slice_index_or, sym, ap, subst}
use Rattle.std.proofs.Common.{add-one, drop-cons}
use Rattle.talc_faults.specs.declared.walk.Walk.{Walk}
use Rattle.talc_faults.specs.Walk.{step, steps}

pub goes_on : (text name : List ℕ) (w next r : Walk) (at : ℕ) → at < length text →
    next ≡ step text name w at (slice_index_or text at 0) → steps text name w at (drop at text) ≡ r →
    steps text name next (at + 1) (drop (at + 1) text) ≡ r
goes_on text name w next r at lt is same =
    subst (λ k. steps text name next k (drop k text) ≡ r) (sym (add-one at))
    (ap (λ (v : Walk). steps text name v (suc at) (drop (suc at) text)) is
    ∙ sym (ap (steps text name w at) (drop-cons text at 0 lt)) ∙ same)
