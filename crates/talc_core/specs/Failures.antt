-- Which refusal of a text a fault is, and which failure of a command a refusal.
use Rattle.std.specs.Prelude.{List, ℕ, codes}
use Rattle.f_terms.specs.declared.fault.FFault.{FFault}
use Rattle.f_terms.specs.declared.fault.FFault.TheVariants as source
use Rattle.t_terms.specs.declared.fault.TFault.{TFault}
use Rattle.t_terms.specs.declared.fault.TFault.TheVariants as assembly
use Rattle.talc_core.specs.declared.fault.Fault.TheVariants.{Source, Tal}
use Rattle.talc_core.specs.declared.refusal.Refusal.{Refusal}
use Rattle.talc_core.specs.declared.refusal.Refusal.TheVariants as refusal
use Rattle.talc_core.specs.declared.report.Failure.{Failure}
use Rattle.talc_core.specs.declared.report.Failure.TheVariants as failed
use Rattle.talc_core.specs.Lines.{fault_text}

-- from a fault of the source
abbrev pub refusal_of : FFault → Refusal
refusal_of source.Memory = refusal.Memory
refusal_of (source.Refused code span) = refusal.Fault (Source code span)

-- from a fault of the assembly
abbrev pub refusal_of_assembly : TFault → Refusal
refusal_of_assembly assembly.Memory = refusal.Memory
refusal_of_assembly (assembly.Refused code span) = refusal.Fault (Tal code span)

-- the failure of a command whose text is refused
abbrev pub failure_of : Refusal → Failure
failure_of (refusal.Fault fault) = failed.Refused fault
failure_of refusal.Memory = failed.Memory

-- how a refusal is shown
abbrev pub refusal_text : Refusal → List ℕ
refusal_text (refusal.Fault fault) = fault_text fault
refusal_text refusal.Memory = codes "out of memory"
