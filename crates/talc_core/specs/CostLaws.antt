-- What `cost` shows of a text: one answer, which ends as that of `run`.
use Rattle.std.specs.Prelude.{◌≡◌, ◌++◌, ℕ, List}
use Rattle.talc_core.specs.declared.status.Status.{Status}
use Rattle.talc_core.specs.Shown.{ShowsRun, ShowsCost}

-- the page and the status are told by the text and the fuel
abbrev pub OneCost : Type 0
OneCost =
    (fuel : ℕ) (s u : Status) (text a b : List ℕ) → ShowsCost fuel s text a → ShowsCost fuel u text b →
    (s ≡ u) × (a ≡ b)

-- the last line is the one that `run` shows of the text within as many instructions, with the same status
abbrev pub CostEndsAsRun : Type 0
CostEndsAsRun =
    (fuel : ℕ) (status : Status) (text lines : List ℕ) → ShowsCost fuel status text lines →
    (shown last : List ℕ) × ShowsRun fuel status text last × (lines ≡ shown ++ last)
