-- What is told a host: numbers for the codes and the statuses.
use Rattle.std.specs.Prelude.{ℕ, ℤ, pos, Option, Some, None, Result, Ok, Err}
use Rattle.idx_core.specs.declared.memory.OutOfMemory.{OutOfMemory}
use Rattle.t_terms.specs.declared.shown.Shown.{Shown}
use Rattle.t_terms.specs.declared.shown.Shown.TheVariants as shown
use Rattle.t_terms.specs.declared.fault.TCode.{TCode}
use Rattle.t_terms.specs.declared.fault.TCode.TheVariants.{T01, T02, T03, T04, T05, T06, T07, T08, T09, T10}
use Rattle.t_terms.specs.declared.fault.TCode.TheVariants.{T11, T12, T13, T14, T15, T16, T17, T18, T19, T20, M1}
use Rattle.t_terms.specs.declared.fault.TFault.{TFault}
use Rattle.t_terms.specs.declared.fault.TFault.TheVariants.{Memory, Refused}
use Rattle.t_machine.specs.declared.machine.Ran.{Ran}
use Rattle.t_machine.specs.declared.machine.Ran.TheVariants.{Halted, Spent, NoMemory}
use Rattle.tal_c.specs.declared.answer.Answer.{Answer}
use Rattle.tal_c.specs.declared.answer.HostWord.{HostWord}
use Rattle.tal_c.specs.declared.answer.Position.{Position}

-- the statuses of the program; `usage` is that of a call on an empty guest
abbrev pub done : ℕ
done = 0

abbrev pub refused : ℕ
refused = 1

abbrev pub usage : ℕ
usage = 2

abbrev pub limit : ℕ
limit = 3

abbrev pub budget : ℕ
budget = 4

abbrev pub memory : ℕ
memory = 7

-- the number of a code
abbrev pub code_number : TCode → ℕ
code_number T01 = 101
code_number T02 = 102
code_number T03 = 103
code_number T04 = 104
code_number T05 = 105
code_number T06 = 106
code_number T07 = 107
code_number T08 = 108
code_number T09 = 109
code_number T10 = 110
code_number T11 = 111
code_number T12 = 112
code_number T13 = 113
code_number T14 = 114
code_number T15 = 115
code_number T16 = 116
code_number T17 = 117
code_number T18 = 118
code_number T19 = 119
code_number T20 = 120
code_number M1 = 201

-- a limit that is passed has a status of its own
abbrev pub code_status : TCode → ℕ
code_status M1 = limit
code_status other = refused

-- a status, with nothing else to tell
abbrev pub bare : ℕ → Answer
bare status = record { status = status; code = 0; start = 0; end = 0; value = pos 0; made = 0 }

-- a fault: its code and its place
abbrev pub of_fault : TFault → Answer
of_fault Memory = bare memory
of_fault (Refused code span) = record {
  status = code_status code;
  code = code_number code;
  start = span.start;
  end = span.end;
  value = pos 0;
  made = 0;
}

-- a run: a status, the integer, and how many instructions were made
abbrev pub ran : ℕ → ℤ → ℕ → Answer
ran status value made = record { status = status; code = 0; start = 0; end = 0; value = value; made = made }

-- a run that was allowed so many instructions
abbrev pub of_run : ℕ → Ran → Answer
of_run fuel (Halted value made) = ran done value made
of_run fuel Spent = ran budget (pos 0) fuel
of_run fuel (NoMemory made) = ran memory (pos 0) made

-- memory that was to be taken: had, or wanted
abbrev pub of_taken : Result (Unit {0}) OutOfMemory → Answer
of_taken (Ok x) = bare done
of_taken (Err e) = bare memory

-- ---- words and places

abbrev pub told_word : ℕ → ℕ → ℤ → HostWord
told_word kind number value = record { kind = kind; number = number; value = value }

abbrev pub no_word : HostWord
no_word = told_word 0 0 (pos 0)

-- the word of a register or of a field: none, an integer, a tuple by its number, or a block by its number
abbrev pub word_of : Option Shown → HostWord
word_of None = no_word
word_of (Some (shown.Int i)) = told_word 1 0 i
word_of (Some (shown.Tuple a)) = told_word 2 a (pos 0)
word_of (Some (shown.Label l)) = told_word 3 l (pos 0)

-- the place of a guest: of none, and of one that has a program
abbrev pub no_place : Position
no_place = record { status = usage; block = 0; index = 0 }

abbrev pub place_at : ℕ → ℕ → Position
place_at block index = record { status = done; block = block; index = index }
