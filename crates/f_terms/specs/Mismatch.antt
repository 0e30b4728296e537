-- What is at odds in a fault of typing: what a type had to be, and the type that is there.
use Rattle.std.specs.Prelude.{ℕ, Option, Some}
use Rattle.f_terms.specs.Ty.{Ty}

-- what a type had to be: this one, of this form, one with the field, or one without the innermost type name
pub data Wanted : Type 0 where
  WType : (t : Ty) → Wanted
  WFunction : Wanted
  WPolymorphic : Wanted
  WTuple : Wanted
  WField : Wanted
  WPackage : Wanted
  WReference : Wanted
  WOutside : Wanted

-- what was wanted of a type, and the type that is there, under so many type names
pub record Mismatch : Type 0 where
  pub wanted : Wanted
  pub found : Ty
  pub names : ℕ

-- under n type names such a type was wanted, and t is there
abbrev pub odds : ℕ → Wanted → Ty → Option Mismatch
odds n w t = Some (record { wanted = w; found = t; names = n })
