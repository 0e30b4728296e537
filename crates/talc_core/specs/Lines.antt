-- The lines that are put on the output and on the error output.
use Rattle.std.specs.Prelude.{ℕ, ℤ, List, ◌++◌, codes, decimal}
use Rattle.idx_core.specs.declared.span.Span.{Span}
use Rattle.f_terms.specs.Ty.{Ty}
use Rattle.f_terms.specs.Text.{type_text}
use Rattle.f_terms.specs.declared.fault.Code.{Code}
use Rattle.f_terms.specs.declared.fault.Code.TheVariants.{E01, E02, E03, E04, E05, E06, E07, E08, E09, E10}
use Rattle.f_terms.specs.declared.fault.Code.TheVariants.{E11, E12, E13, E14, E15, E16, E17, E18}
use Rattle.f_terms.specs.declared.fault.Code.TheVariants.{E19, E21, E22, L1, L2, L3, L4, L5}
use Rattle.t_terms.specs.declared.fault.TCode.{TCode}
use Rattle.t_terms.specs.declared.fault.TCode.TheVariants.{T01, T02, T03, T04, T05, T06, T07, T08, T09, T10}
use Rattle.t_terms.specs.declared.fault.TCode.TheVariants.{T11, T12, T13, T14, T15, T16, T17, T18, T19, T20, M1}
use Rattle.t_writer.specs.Lexeme.{number_text}
use Rattle.talc_core.specs.declared.fault.Fault.{Fault}
use Rattle.talc_core.specs.declared.fault.Fault.TheVariants.{Source, Tal}

-- a code of the source as it is shown
abbrev pub source_code : Code → List ℕ
source_code E01 = codes "E01"
source_code E02 = codes "E02"
source_code E03 = codes "E03"
source_code E04 = codes "E04"
source_code E05 = codes "E05"
source_code E06 = codes "E06"
source_code E07 = codes "E07"
source_code E08 = codes "E08"
source_code E09 = codes "E09"
source_code E10 = codes "E10"
source_code E11 = codes "E11"
source_code E12 = codes "E12"
source_code E13 = codes "E13"
source_code E14 = codes "E14"
source_code E15 = codes "E15"
source_code E16 = codes "E16"
source_code E17 = codes "E17"
source_code E18 = codes "E18"
source_code E19 = codes "E19"
source_code E21 = codes "E21"
source_code E22 = codes "E22"
source_code L1 = codes "L1"
source_code L2 = codes "L2"
source_code L3 = codes "L3"
source_code L4 = codes "L4"
source_code L5 = codes "L5"

-- what is wrong with a source
abbrev pub source_words : Code → List ℕ
source_words E01 = codes "byte begins no token"
source_words E02 = codes "number out of range"
source_words E03 = codes "unexpected token"
source_words E04 = codes "unexpected end of text"
source_words E05 = codes "unbound name"
source_words E06 = codes "unbound type name"
source_words E07 = codes "not a function"
source_words E08 = codes "argument of another type"
source_words E09 = codes "not polymorphic"
source_words E10 = codes "not a tuple"
source_words E11 = codes "no such field"
source_words E12 = codes "operand is not int"
source_words E13 = codes "branches of two types"
source_words E14 = codes "body not of the declared type"
source_words E15 = codes "program is not int"
source_words E16 = codes "not an existential"
source_words E17 = codes "pack does not fit"
source_words E18 = codes "hidden type escapes"
source_words E19 = codes "cells are not evaluated"
source_words E21 = codes "not a reference"
source_words E22 = codes "assigned value of another type"
source_words L1 = codes "more than 16777216 bytes"
source_words L2 = codes "more than 200 open constructs"
source_words L3 = codes "more than 100000 nodes"
source_words L4 = codes "type deeper than 200"
source_words L5 = codes "type of more than 10000 nodes"

-- a code of the assembly language as it is shown
abbrev pub tal_code : TCode → List ℕ
tal_code T01 = codes "T01"
tal_code T02 = codes "T02"
tal_code T03 = codes "T03"
tal_code T04 = codes "T04"
tal_code T05 = codes "T05"
tal_code T06 = codes "T06"
tal_code T07 = codes "T07"
tal_code T08 = codes "T08"
tal_code T09 = codes "T09"
tal_code T10 = codes "T10"
tal_code T11 = codes "T11"
tal_code T12 = codes "T12"
tal_code T13 = codes "T13"
tal_code T14 = codes "T14"
tal_code T15 = codes "T15"
tal_code T16 = codes "T16"
tal_code T17 = codes "T17"
tal_code T18 = codes "T18"
tal_code T19 = codes "T19"
tal_code T20 = codes "T20"
tal_code M1 = codes "M1"

-- what is wrong with an assembly text
abbrev pub tal_words : TCode → List ℕ
tal_words T01 = codes "byte begins no token"
tal_words T02 = codes "number out of range"
tal_words T03 = codes "unexpected token or end"
tal_words T04 = codes "duplicate label"
tal_words T05 = codes "unknown label"
tal_words T06 = codes "unbound type name"
tal_words T07 = codes "register twice in one file type"
tal_words T08 = codes "register without a type"
tal_words T09 = codes "not int"
tal_words T10 = codes "not a tuple"
tal_words T11 = codes "no such field"
tal_words T12 = codes "field not initialised"
tal_words T13 = codes "stored value of another type"
tal_words T14 = codes "not an existential"
tal_words T15 = codes "pack does not fit"
tal_words T16 = codes "target is not code without types owed"
tal_words T17 = codes "too many type arguments"
tal_words T18 = codes "registers do not fit"
tal_words T19 = codes "r1 is not int at halt"
tal_words T20 = codes "first block takes something"
tal_words M1 = codes "more than 2000 open constructs"

-- a place: its start, two dots and its end
abbrev pub span_text : Span → List ℕ
span_text span = decimal span.start ++ codes ".." ++ decimal span.end

-- a fault as it is shown: its code, its place and its words, with a space between
abbrev pub shown_text : List ℕ → Span → List ℕ → List ℕ
shown_text code span words = code ++ codes " " ++ span_text span ++ codes " " ++ words

abbrev pub fault_text : Fault → List ℕ
fault_text (Source code span) = shown_text (source_code code) span (source_words code)
fault_text (Tal code span) = shown_text (tal_code code) span (tal_words code)

-- the line that names a fault
abbrev pub fault_line : Fault → List ℕ
fault_line fault = fault_text fault ++ codes "\n"

-- the text of a type, and a line end
abbrev pub type_line : Ty → List ℕ
type_line type = type_text type ++ codes "\n"

-- an integer with the turns that were used
abbrev pub value_line : ℤ → ℕ → List ℕ
value_line i used = codes "int " ++ (number_text i ++ (codes " after " ++ (decimal used ++ codes " turns\n")))

-- it goes on after so many of something
abbrev pub more_line : ℕ → List ℕ → List ℕ
more_line count what = codes "running after " ++ (decimal count ++ what)

abbrev pub more_turns_line : ℕ → List ℕ
more_turns_line turns = more_line turns (codes " turns\n")

abbrev pub more_instructions_line : ℕ → List ℕ
more_instructions_line count = more_line count (codes " instructions\n")

-- the integer with which a program halts
abbrev pub integer_line : ℤ → List ℕ
integer_line i = codes "int " ++ (number_text i ++ codes "\n")

abbrev pub accepted_line : List ℕ
accepted_line = codes "accepted\n"

-- how many bytes a source has
abbrev pub bytes_line : ℕ → List ℕ
bytes_line count = codes "source " ++ (decimal count ++ codes " bytes\n")

-- what is shown of the source of a seed: how many bytes it has, the integer to which it evaluates with the turns that
-- were used, that what it is compiled to is accepted, and the integer with which that halts
abbrev pub seed_lines : ℕ → ℤ → ℕ → ℤ → List ℕ
seed_lines count evaluated used halted =
    bytes_line count ++ value_line evaluated used ++ accepted_line ++ integer_line halted

abbrev pub read_line : List ℕ
read_line = codes "read fault\n"

abbrev pub write_line : List ℕ
write_line = codes "write fault\n"

abbrev pub memory_line : List ℕ
memory_line = codes "out of memory\n"
