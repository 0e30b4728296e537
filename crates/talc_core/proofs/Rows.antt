-- Examples of lines, and of the statuses of faults.
use Rattle.std.proofs.Common.{◌≡◌, refl}
use Rattle.std.specs.Prelude.{codes}
use Rattle.std.specs.Fmt.{digits}
use Rattle.f_terms.specs.Ty.{TInt, TVar, TArrow, TAll}
use Rattle.f_terms.specs.declared.fault.Code.TheVariants.{E02, E04, L3}
use Rattle.t_terms.specs.declared.fault.TCode.TheVariants.{T12, M1}
use Rattle.talc_core.specs.declared.status.Status.TheVariants.{Refused, Limit}
use Rattle.talc_core.specs.declared.fault.Fault.TheVariants.{Source, Tal}
use Rattle.talc_core.specs.Fault.{status_of}
use Rattle.talc_core.specs.Lines.{fault_line, type_line}

-- a number out of range, from the byte 0 up to the byte 19
out_of_range : fault_line (Source E02 (record { start = 0; end = 19 })) ≡ codes "E02 0..19 number out of range\n"
unfolding digits
out_of_range = refl

-- an empty text
no_text : fault_line (Source E04 (record { start = 0; end = 0 })) ≡ codes "E04 0..0 unexpected end of text\n"
unfolding digits
no_text = refl

not_filled : fault_line (Tal T12 (record { start = 69; end = 81 })) ≡ codes "T12 69..81 field not initialised\n"
unfolding digits
not_filled = refl

-- a limit that is passed is told apart from a fault
limits : status_of (Source L3 (record { start = 0; end = 2001 })) ≡ Limit
limits = refl

limits_of_assembly : status_of (Tal M1 (record { start = 0; end = 1 })) ≡ Limit
limits_of_assembly = refl

faults : status_of (Source E02 (record { start = 0; end = 19 })) ≡ Refused
faults = refl

-- the line of a type
line_of_type : type_line (TAll (TArrow (TVar 0) TInt)) ≡ codes "all t0. t0 -> int\n"
unfolding digits
line_of_type = refl
