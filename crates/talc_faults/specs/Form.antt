-- The form of the type that is found at a fault of a source text.
use Rattle.std.specs.Prelude.{Option, Some, None}
use Rattle.f_terms.specs.Ty.{Ty, TInt, TVar, TArrow, TAll, TTuple, TSome, TRef}
use Rattle.f_terms.specs.Mismatch.{Mismatch}
use Rattle.talc_faults.specs.declared.type_form.Form.{Form}
use Rattle.talc_faults.specs.declared.type_form.Form.TheVariants.{Untold, Integer, Variable, Function, Polymorphic}
use Rattle.talc_faults.specs.declared.type_form.Form.TheVariants.{Tuple}
use Rattle.talc_faults.specs.declared.type_form.Form.TheVariants.{Package, Reference}

abbrev pub form_of : Ty → Form
form_of TInt = Integer
form_of (TVar i) = Variable
form_of (TArrow a b) = Function
form_of (TAll t) = Polymorphic
form_of (TTuple ts) = Tuple
form_of (TSome t) = Package
form_of (TRef t) = Reference

-- of the type that is found, where types are at odds
abbrev pub found_form : Option Mismatch → Form
found_form None = Untold
found_form (Some m) = form_of m.found
