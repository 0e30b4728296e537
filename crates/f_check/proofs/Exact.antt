-- A verdict is exact: by the laws of typing, no other type and no other first fault is there.
use Rattle.std.proofs.Common.{◌≡◌, ◌≢◌, ◌∙◌, ap, ap₂, refl, Option}
use Rattle.f_terms.specs.Ty.{Ty, NoTys}
use Rattle.f_terms.specs.Tm.{Spn, Tm, plain}
use Rattle.f_terms.specs.Mismatch.{Mismatch}
use Rattle.f_terms.specs.Faults.{Passes, FaultNoted, FaultWith, Fault}
use Rattle.f_terms.specs.Accepted.{IsAccepted}
use Rattle.f_terms.specs.Laws.{PassesWhereTyped, NoFaultBesideAPass, OneFault, OneMismatch}
use Rattle.f_terms.specs.Read.{place}
use Rattle.idx_core.specs.declared.span.Span.{Span}
use Rattle.f_terms.specs.declared.fault.Code.{Code}
use Rattle.f_terms.specs.declared.fault.FFault.{FFault}
use Rattle.f_terms.specs.declared.fault.FFault.TheVariants.{Memory, Refused}
use Rattle.f_check.specs.Verdict.{Says}
use Rattle.f_check.specs.Told.{read, fault_of, Mentions, Tells}
use Rattle.f_check.specs.declared.mismatch.Mismatch as M
use Rattle.f_check.specs.declared.failure.Failure.{Failure}
use Rattle.f_check.specs.declared.failure.Failure.TheVariants as F

pub accepted : PassesWhereTyped → (e : Tm) (t : Ty) → Passes e 0 NoTys t → IsAccepted (plain e) t
accepted law e t h = (law e 0 NoTys t tt).0 h

span_is : (s p : Span) → place s ≡ place p → s ≡ p
span_is s p e = ap (λ (q : Spn). let r : Span = record { start = q.0; end = q.1 } in r) e

module _ (typed : PassesWhereTyped) (clear : NoFaultBesideAPass) (one : OneFault) (e : Tm) where
  pub no_fault : (t : Ty) → IsAccepted (plain e) t → (f : FFault) → Says f (Fault e 0 NoTys) → f ≡ Memory
  no_fault t h Memory k = refl
  no_fault t h (Refused c s) k = absurd (clear e 0 NoTys t c (place s) ((typed e 0 NoTys t tt).1 h) k)

  pub same_fault : (c : Code) (s : Span) → Fault e 0 NoTys c (place s) → (f : FFault) → Says f (Fault e 0 NoTys) →
      f ≢ Memory → f ≡ Refused c s
  same_fault c s h Memory k ne = absurd (ne refl)
  same_fault c s h (Refused d p) k ne =
      let r = one e 0 NoTys d c (place p) (place s) k h in ap₂ Refused r.0 (span_is p s r.1)

-- the fault of a failure, without what is at odds in it
pub alone : (e : Tm) (x : Failure) → Tells x (FaultNoted e 0 NoTys) → Says (fault_of x) (Fault e 0 NoTys)
alone e F.Memory h = tt
alone e (F.Refused c s m) h = (read m, h)

-- what is at odds in a failure is what is at odds in the first fault
pub mentioned : OneMismatch → (e : Tm) (x : Failure) (r : Option M.Mismatch) → Tells x (FaultNoted e 0 NoTys) →
    Mentions x r → (c : Code) (p : Spn) (m : Option Mismatch) → FaultWith e 0 NoTys c p m → read r ≡ m
mentioned law e F.Memory r k h c p m i = absurd h
mentioned law e (F.Refused d s y) r k h c p m i = ap read h ∙ law e 0 NoTys d c (place s) p (read y) m k i
