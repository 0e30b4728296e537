-- Which status a fault leads to.
use Rattle.std.specs.Prelude.{Bool, true, false, if◌then◌else◌}
use Rattle.f_terms.specs.declared.fault.Code.{Code}
use Rattle.f_terms.specs.declared.fault.Code.TheVariants.{L1, L2, L3, L4, L5}
use Rattle.t_terms.specs.declared.fault.TCode.{TCode}
use Rattle.t_terms.specs.declared.fault.TCode.TheVariants.{M1}
use Rattle.talc_core.specs.declared.status.Status.{Status}
use Rattle.talc_core.specs.declared.status.Status.TheVariants.{Refused, Limit}
use Rattle.talc_core.specs.declared.fault.Fault.{Fault}
use Rattle.talc_core.specs.declared.fault.Fault.TheVariants.{Source, Tal}

-- L1 to L5 and M1 are limits
abbrev pub is_limit_code : Code → Bool
is_limit_code L1 = true
is_limit_code L2 = true
is_limit_code L3 = true
is_limit_code L4 = true
is_limit_code L5 = true
is_limit_code other = false

abbrev pub is_limit_tcode : TCode → Bool
is_limit_tcode M1 = true
is_limit_tcode other = false

abbrev pub is_limit : Fault → Bool
is_limit (Source code span) = is_limit_code code
is_limit (Tal code span) = is_limit_tcode code

-- a limit that is passed leads to the status 3, and every other fault to 1
abbrev pub status_of : Fault → Status
status_of fault = if is_limit fault then Limit else Refused
