-- What is told a host: numbers for the statuses and the codes.
use Rattle.std.specs.Prelude.{ℕ}
use Rattle.idx_core.specs.declared.span.Span.{Span}
use Rattle.f_terms.specs.declared.fault.Code.{Code}
use Rattle.f_terms.specs.declared.fault.Code.TheVariants.{E01, E02, E03, E04, E05, E06, E07, E08, E09, E10, E11, E12}
use Rattle.f_terms.specs.declared.fault.Code.TheVariants.{E13, E14, E15, E16, E17, E18, E19, E21, E22, L1, L2, L3}
use Rattle.f_terms.specs.declared.fault.Code.TheVariants.{L4, L5}
use Rattle.t_terms.specs.declared.fault.TCode.{TCode}
use Rattle.t_terms.specs.declared.fault.TCode.TheVariants.{T01, T02, T03, T04, T05, T06, T07, T08, T09, T10, T11, T12}
use Rattle.t_terms.specs.declared.fault.TCode.TheVariants.{T13, T14, T15, T16, T17, T18, T19, T20, M1}
use Rattle.talc_core.specs.declared.fault.Fault.{Fault}
use Rattle.talc_core.specs.declared.fault.Fault.TheVariants.{Source, Tal}
use Rattle.talc_core.specs.Fault.{status_of}
use Rattle.talc_core.specs.Status.{number_of}
use Rattle.talc_c.specs.declared.answer.Made.{Made}

-- the statuses that are not those of a reply or a fault: no such form or too few registers, want of memory, and
-- memory of the host that is too small
abbrev pub usage : ℕ
usage = 2

abbrev pub memory : ℕ
memory = 7

abbrev pub small : ℕ
small = 8

-- the number of a code of the source
abbrev pub source_number : Code → ℕ
source_number E01 = 301
source_number E02 = 302
source_number E03 = 303
source_number E04 = 304
source_number E05 = 305
source_number E06 = 306
source_number E07 = 307
source_number E08 = 308
source_number E09 = 309
source_number E10 = 310
source_number E11 = 311
source_number E12 = 312
source_number E13 = 313
source_number E14 = 314
source_number E15 = 315
source_number E16 = 316
source_number E17 = 317
source_number E18 = 318
source_number E19 = 319
source_number E21 = 321
source_number E22 = 322
source_number L1 = 401
source_number L2 = 402
source_number L3 = 403
source_number L4 = 404
source_number L5 = 405

-- the number of a code of the assembly language
abbrev pub tal_number : TCode → ℕ
tal_number T01 = 101
tal_number T02 = 102
tal_number T03 = 103
tal_number T04 = 104
tal_number T05 = 105
tal_number T06 = 106
tal_number T07 = 107
tal_number T08 = 108
tal_number T09 = 109
tal_number T10 = 110
tal_number T11 = 111
tal_number T12 = 112
tal_number T13 = 113
tal_number T14 = 114
tal_number T15 = 115
tal_number T16 = 116
tal_number T17 = 117
tal_number T18 = 118
tal_number T19 = 119
tal_number T20 = 120
tal_number M1 = 201

abbrev pub code_number : Fault → ℕ
code_number (Source code span) = source_number code
code_number (Tal code span) = tal_number code

abbrev pub fault_place : Fault → Span
fault_place (Source code span) = span
fault_place (Tal code span) = span

-- a status, and how many bytes what is made has
abbrev pub put : ℕ → ℕ → Made
put status length = record { status = status; code = 0; start = 0; end = 0; length = length }

-- a fault: the status that the program ends with, its code and its place
abbrev pub of_fault : Fault → Made
of_fault fault = record {
  status = number_of (status_of fault);
  code = code_number fault;
  start = (fault_place fault).start;
  end = (fault_place fault).end;
  length = 0;
}
