-- A verdict is exact: by the laws of typing, an accepted program has no fault, and there is one first fault.
use Rattle.std.proofs.Common.{◌≡◌, ◌≢◌, ap₂, refl, sym, subst, List, length, Option, None, Result, IfOk, Ok, Err}
use Rattle.idx_core.specs.declared.memory.OutOfMemory.{OutOfMemory}
use Rattle.idx_core.specs.declared.span.Span.{Span}
use Rattle.t_types.specs.Tree.{Ty}
use Rattle.t_terms.specs.Spanned.{SProg, plain_program}
use Rattle.t_terms.specs.declared.fault.TCode.{TCode}
use Rattle.t_terms.specs.declared.fault.TFault.{TFault}
use Rattle.t_terms.specs.declared.fault.TFault.TheVariants as fault
use Rattle.t_rules.specs.Rules.{Accepted}
use Rattle.t_rules.specs.Mismatch.{told}
use Rattle.t_rules.specs.Faults.{ProgramNoted, ProgramFaultWith, ProgramFault}
use Rattle.t_rules.specs.LawsFaults.{NoFaultWhereAccepted, AtMostOneFault, AtMostOneMismatch}
use Rattle.t_rules.specs.Mismatch as plain
use Rattle.t_known.specs.ReadMismatch.{mismatch_or_none}
use Rattle.t_known.specs.Refusals.{SaysWith, IsBelow, IsMismatchOf, odds_at, fault_of}
use Rattle.t_check.specs.Verdict.{Says}
use Rattle.t_known.specs.declared.mismatch.Mismatch.{Mismatch}
use Rattle.t_known.specs.declared.refusal.Refusal.{Refusal}
use Rattle.t_known.specs.declared.refusal.Refusal.TheVariants.{Memory, Refused, AtOdds}

module _ (P : SProg) where
  pub no_fault : NoFaultWhereAccepted → Accepted (plain_program P) → (f : TFault) → Says f (ProgramFault P) →
      f ≡ fault.Memory
  no_fault clear h fault.Memory k = refl
  no_fault clear h (fault.Refused c s) k = absurd (clear P c s h k)

  pub same_fault : AtMostOneFault → (c : TCode) (s : Span) → ProgramFault P c s → (f : TFault) →
      Says f (ProgramFault P) → f ≢ fault.Memory → f ≡ fault.Refused c s
  same_fault one c s h fault.Memory k ne = absurd (ne refl)
  same_fault one c s h (fault.Refused d p) k ne = let r = one P d c p s k h in ap₂ fault.Refused r.0 r.1

module _ (P : SProg) (us : List Ty) where
  -- what callers see of a refusal
  pub said : (f : Refusal) → SaysWith us f (ProgramNoted P) → Says (fault_of f) (ProgramFault P)
  said Memory k = tt
  said (Refused c s) k = (None, k)
  said (AtOdds c s odds) k = (told (odds_at us odds), k.1)

  -- what is at odds in the first fault
  module _ (one : AtMostOneFault) (c : TCode) (s : Span) (h : ProgramFault P c s) where
    at_it : (d : TCode) (p : Span) (m : Option plain.Mismatch) → ProgramFaultWith P d p m → ProgramFaultWith P c s m
    at_it d p m k =
        let r = one P d c p s (m, k) h in
        subst (λ q. ProgramFaultWith P c q m) r.1 (subst (λ e. ProgramFaultWith P e p m) r.0 k)

    pub tells : (f : Refusal) → SaysWith us f (ProgramNoted P) → (r : Result (Option Mismatch) OutOfMemory) →
        IsMismatchOf us f r → IfOk r (λ m. ProgramFaultWith P c s (mismatch_or_none m))
    tells Memory k (Ok m) is = absurd is
    tells (Refused d p) k (Ok m) is = subst (λ (o : Option Mismatch). ProgramFaultWith P c s (mismatch_or_none o))
        (sym is) (at_it d p None k)
    tells (AtOdds d p odds) k (Ok m) is =
        subst (λ (o : Option plain.Mismatch). ProgramFaultWith P c s o) (sym is)
        (at_it d p (told (odds_at us odds)) k.1)
    tells f k (Err e) is = tt

  -- the numbers of what is at odds are of the table
  pub refusal_below : (f : Refusal) → SaysWith us f (ProgramNoted P) → IsBelow (length us) f
  refusal_below Memory k = tt
  refusal_below (Refused c s) k = tt
  refusal_below (AtOdds c s odds) k = k.0

  pub one_told : AtMostOneMismatch → (c : TCode) (s : Span) (m : Option plain.Mismatch) → ProgramFaultWith P c s m →
      (r : Result (Option Mismatch) OutOfMemory) →
      IfOk r (λ o. ProgramFaultWith P c s (mismatch_or_none o)) → IfOk r (λ o. mismatch_or_none o ≡ m)
  one_told only c s m h (Ok o) k = only P c c s s (mismatch_or_none o) m k h
  one_told only c s m h (Err e) k = tt
