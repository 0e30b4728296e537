-- What `trace` shows of a text: one answer, which ends as that of `run`.
use Rattle.std.specs.Prelude.{◌≡◌, ◌++◌, ℕ, List}
use Rattle.talc_core.specs.declared.status.Status.{Status}
use Rattle.talc_core.specs.Shown.{ShowsRun, ShowsTrace}

-- the lines and the status are told by the text and the two numbers
abbrev pub OneTrace : Type 0
OneTrace =
    (from to : ℕ) (s u : Status) (text a b : List ℕ) → ShowsTrace from to s text a → ShowsTrace from to u text b →
    (s ≡ u) × (a ≡ b)

-- the last line is the one that `run` shows of the text within as many instructions, with the same status
abbrev pub TraceEndsAsRun : Type 0
TraceEndsAsRun =
    (from to : ℕ) (status : Status) (text lines : List ℕ) → ShowsTrace from to status text lines →
    (shown last : List ℕ) × ShowsRun to status text last × (lines ≡ shown ++ last)
