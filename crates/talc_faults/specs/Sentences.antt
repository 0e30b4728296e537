-- A sentence for each code of a fault: what is to be looked at or done. None is longer than 100 bytes.
use Rattle.std.specs.Prelude.{ℕ, List, codes}
use Rattle.f_terms.specs.declared.fault.Code.{Code}
use Rattle.f_terms.specs.declared.fault.Code.TheVariants.{E01, E02, E03, E04, E05, E06, E07, E08, E09, E10}
use Rattle.f_terms.specs.declared.fault.Code.TheVariants.{E11, E12, E13, E14, E15, E16, E17, E18}
use Rattle.f_terms.specs.declared.fault.Code.TheVariants.{E19, E21, E22, L1, L2, L3, L4, L5}
use Rattle.t_terms.specs.declared.fault.TCode.{TCode}
use Rattle.t_terms.specs.declared.fault.TCode.TheVariants.{T01, T02, T03, T04, T05, T06, T07, T08, T09, T10}
use Rattle.t_terms.specs.declared.fault.TCode.TheVariants.{T11, T12, T13, T14, T15, T16, T17, T18, T19, T20, M1}

-- of a source
abbrev pub source_sentence : Code → List ℕ
source_sentence E01 = codes "no token begins with it here; `--` begins a comment, and digits follow a `~`"
source_sentence E02 = codes "numbers go from ~9223372036854775808 to 9223372036854775807"
source_sentence E03 = codes "no program goes on with this token here: something before it is missing, or it is too much"
source_sentence E04 = codes "the text ends too early: an expression, a type or a closing sign is missing"
source_sentence E05 = codes "no `fix`, `let` or `open` around it binds this name"
source_sentence E06 = codes "no `gen`, `open`, `all` or `some` around it binds this type name"
source_sentence E07 = codes "what is called must be a function, of a type `T1 -> T2`"
source_sentence E08 = codes "the argument must have the type on the left of the function's `->`"
source_sentence E09 = codes "what takes a type in `[ ]` must have a type `all a. T`, as a `gen` has"
source_sentence E10 = codes "`#` takes a field of a tuple: this must have a type `<T1, .., Tn>`"
source_sentence E11 = codes "fields are counted from 1 on, and the tuple has none of this number"
source_sentence E12 = codes "`+`, `-`, `*` and the test of an `if0` take integers: this must have the type `int`"
source_sentence E13 = codes "both branches of an `if0` must have one type, and this one has another than the first"
source_sentence E14 = codes "the body of the `fix` must have the type that is declared before its dot"
source_sentence E15 = codes "the value of a program is an integer: the whole must have the type `int`"
source_sentence E16 = codes "the type after `as`, and that of what is opened, must be a `some a. T`"
source_sentence E17 = codes "this must have the type in the `some`, with the hidden type put for its name"
source_sentence E18 = codes "the hidden type has no name outside of the `open`: this part must have another type"
source_sentence E19 = codes "`eval` has no cells: `compile` the program, and `run` what is written"
source_sentence E21 = codes "what is read by `!` or assigned to by `:=` must be a cell, of a type `ref T`"
source_sentence E22 = codes "in a cell of a type `ref T` only values of the type T can be put"
source_sentence L1 = codes "a source has at most 16777216 bytes, comments and spaces counted"
source_sentence L2 = codes "at most 200 constructs can be open at a token: name parts by a `let`, which its `in` closes"
source_sentence L3 = codes "a program has at most 100000 nodes: a part that is needed twice can be named by a `let`"
source_sentence L4 = codes "types can be nested 200 deep, also those that are not written down"
source_sentence L5 = codes "types can have 10000 nodes, also those that are not written down"

-- of an assembly text
abbrev pub tal_sentence : TCode → List ℕ
tal_sentence T01 = codes "no token begins with it here; `--` begins a comment, and digits follow a `~`"
tal_sentence T02 = codes "numbers go from ~9223372036854775808 to 9223372036854775807, registers from r1 on"
tal_sentence T03 = codes "no program goes on so here: a token is missing or too much, or the version has it not"
tal_sentence T04 = codes "each block and each data tuple must have a label of its own"
tal_sentence T05 = codes "no block and no data tuple of the text has this label"
tal_sentence T06 = codes "no `code`, `all`, `some` or `unpack` binds this type name here"
tal_sentence T07 = codes "in one `{ }` each register can stand once"
tal_sentence T08 = codes "nothing is known of a register here: set it before, or name it in the header of the block"
tal_sentence T09 = codes "`add`, `sub`, `mul` and the test of a `bnz` take integers: the type must be `int`"
tal_sentence T10 = codes "`ld` and `st` take a field of a tuple: the register must hold one"
tal_sentence T11 = codes "fields are counted from 0 on, and the tuple has none of this number"
tal_sentence T12 = codes "the flag of the field is 0: first store a value into it, by this very register"
tal_sentence T13 = codes "what is stored must have a type that fits the type of the field"
tal_sentence T14 = codes "what is unpacked must be a package, of a type `some a. T`"
tal_sentence T15 = codes "what is packed must fit the type in the `some`, with the hidden type put for its name"
tal_sentence T16 = codes "what is entered must be code, with all types that it owes given in `[ ]`"
tal_sentence T17 = codes "in `[ ]` can stand no more types than the value before it owes"
tal_sentence T18 = codes "each register that the target asks for must be known here, with a type that fits"
tal_sentence T19 = codes "the result is what r1 holds at `halt[int]`: it must be known, and have the type `int`"
tal_sentence T20 = codes "the first block is entered with nothing, so its header must be `code[]{}`"
tal_sentence M1 = codes "at most 2000 brackets and `some` can be open at a token"
