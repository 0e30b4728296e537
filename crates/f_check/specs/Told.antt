-- What is at odds, as the code holds it.
use Rattle.std.specs.Prelude.{◌≡◌, ℕ, ◌≤◌, Option, Some, None, Result, Ok, Err}
use Rattle.f_terms.specs.Ty.{Ty, Tys, put}
use Rattle.f_terms.specs.Tm.{Spn, Tm}
use Rattle.f_terms.specs.Limits.{Within}
use Rattle.text_core.specs.Refusals.{Refusal, nothing, check}
use Rattle.f_terms.specs.Faults.{Note, bare, limits, FaultNoted}
use Rattle.f_terms.specs.Read.{tree, place}
use Rattle.f_terms.specs.declared.types.FType.{FType}
use Rattle.f_terms.specs.declared.fault.Code.TheVariants.{L4, L5}
use Rattle.f_terms.specs.declared.fault.FFault.{FFault}
use Rattle.f_terms.specs.declared.fault.FFault.TheVariants as R
use Rattle.f_terms.specs.Mismatch.{Wanted, WType, WFunction, WPolymorphic, WTuple, WField, WPackage, WReference}
use Rattle.f_terms.specs.Mismatch.{WOutside, Mismatch}
use Rattle.f_check.specs.Verdict.{IsTypeOf}
use Rattle.f_check.specs.declared.mismatch.Wanted as W
use Rattle.f_check.specs.declared.mismatch.Wanted.TheVariants as V
use Rattle.f_check.specs.declared.mismatch.Mismatch as M
use Rattle.f_check.specs.declared.failure.Failure.{Failure}
use Rattle.f_check.specs.declared.failure.Failure.TheVariants as F

-- what a type had to be
abbrev pub wish : W.Wanted → Wanted
wish (V.Exactly t) = WType (tree t)
wish V.Function = WFunction
wish V.Polymorphic = WPolymorphic
wish V.Tuple = WTuple
wish V.Field = WField
wish V.Package = WPackage
wish V.Reference = WReference
wish V.Outside = WOutside

abbrev pub told : M.Mismatch → Mismatch
told x = record { wanted = wish x.wanted; found = tree x.found; names = x.names }

-- what is at odds, where two types are
abbrev pub read : Option M.Mismatch → Option Mismatch
read None = None
read (Some x) = Some (told x)

-- the fault alone
abbrev pub fault_of : Failure → FFault
fault_of F.Memory = R.Memory
fault_of (F.Refused code span m) = R.Refused code span

-- a fault, with this at odds in it
abbrev pub Mentions : Failure → Option M.Mismatch → Type 0
Mentions F.Memory m = ⊥
Mentions (F.Refused code span k) m = m ≡ k

-- a failure is want of memory, or the fault that is described, with what is at odds in it
abbrev pub Tells : Failure → Refusal Note Spn → Type 0
Tells F.Memory fault = Unit {0}
Tells (F.Refused code span m) fault = fault (code, read m) (place span)

-- the type of the term under n type names, or its first fault
abbrev pub IsFound : Tm → ℕ → Tys → Result FType Failure → Type 0
IsFound e n g (Ok t) = IsTypeOf e n g (tree t)
IsFound e n g (Err f) = Tells f (FaultNoted e n g)

-- the limits of a type that has this depth and size
abbrev pub counted : ℕ → ℕ → Spn → Refusal Note Spn
counted deep wide s = check (deep ≤ 200) (bare L4 s) (check (wide ≤ 10000) (bare L5 s) nothing)

-- the type of a body t after a put of s, where it keeps the limits
abbrev pub IsPutOrNone : Ty → Ty → Option FType → Type 0
IsPutOrNone s t (Some r) = (tree r ≡ put 0 s t) × Within (put 0 s t)
IsPutOrNone s t None = Within (put 0 s t) → ⊥

-- the type of a body t after a put of s, where both s and it keep the limits; else the first limit that is passed
abbrev pub IsPut : Ty → Ty → Spn → Result FType Failure → Type 0
IsPut s t p (Ok r) = (tree r ≡ put 0 s t) × Within s × Within (put 0 s t)
IsPut s t p (Err f) = Tells f (limits s p (limits (put 0 s t) p nothing))
