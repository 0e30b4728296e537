use Rattle.std.proofs.Common.{◌≡◌, ◌∙◌, ℕ, List, Bool, true, false, if◌then◌else◌, refl, sym, ap, subst, inl, inr}
use Rattle.io_core.specs.Outside.{SinkState}
use Rattle.talc_core.specs.declared.fault.Fault.{Fault}
use Rattle.talc_core.specs.declared.report.Failure.{Failure}
use Rattle.talc_core.specs.declared.report.Failure.TheVariants as failure
use Rattle.talc_core.specs.declared.status.Status.{Status}
use Rattle.talc_core.specs.declared.status.Status.TheVariants.{Refused, Limit}
use Rattle.talc_core.specs.Fault.{is_limit, status_of}
use Rattle.talc_core.specs.Headline.{TakesLine}
use Rattle.talc_core.specs.Lines.{fault_line}
use Rattle.talc_core.specs.Steps.{Reports, ShowsFor}
use Rattle.talc_core.proofs.report.report.Goals as goal

-- the line of a fault is shown, or memory was wanted
module _ (fault : Fault) (old new : SinkState) where
  shown_by : TakesLine old new (fault_line fault) → (b : Bool) → is_limit fault ≡ b →
      Reports (failure.Refused fault) old new (if b then Limit else Refused)
  shown_by shown true e = (ap (λ (x : Bool). if x then Limit else Refused) e, shown)
  shown_by shown false e = (ap (λ (x : Bool). if x then Limit else Refused) e, shown)

  reported : (answer : Status) → ShowsFor (fault_line fault) (status_of fault) old new answer →
      Reports (failure.Refused fault) old new answer
  reported answer (inl shown) =
      subst (Reports (failure.Refused fault) old new) (sym shown.0) (shown_by shown.1 (is_limit fault) refl)
  reported answer (inr wanted) = subst (Reports (failure.Refused fault) old new) (sym wanted.0) (inl wanted.1)

pub returns-in-Ok : goal.returns-in-Ok
returns-in-Ok g c =
    let old = g.E.Sink.state c.args.err.now in
    let new = g.E.Sink.state c.show.new.err in
    let line : c.deref.result.now ≡ fault_line c.in-Refused.fault = c.deref.ensures.value ∙ c.in-Ok.ensures in
    let told = subst (λ (s : Status). ShowsFor c.deref.result.now s old new c.show.result) c.status.ensures
    c.show.ensures in
    let shows = subst (λ (s : List ℕ). ShowsFor s (status_of c.in-Refused.fault) old new c.show.result) line told in
    subst (λ (f : Failure). Reports f old new c.show.result) (sym c.in-Refused.is)
    (reported c.in-Refused.fault old new c.show.result shows)
