-- What the words of the command line ask for: see the crate of the words, where it is a definition over `clap`'s rules.
use Rattle.std.specs.Prelude.{List, ℕ, Option, Some, None}
use Rattle.talc_core.specs.FirstFault.{Need, AnyText, AnyTerm, AProgram, CellFree, AnAssembly}
pub use Rattle.talc_words.specs.Command.{Asked, Compiles, CompilesWithin, Types, Evaluates, Checks, Runs, Generates}
pub use Rattle.talc_words.specs.Command.{Upgrades, Traces, Shows, Explains, Lists, Costs, TypesNames, Builds}
pub use Rattle.talc_words.specs.Command.{Disassembles}
pub use Rattle.talc_words.specs.Command.{command_of}

-- what the command needs of the text that it works on: of the one that it reads, or of the source that it makes
abbrev pub need_of : Asked → Need
need_of (Compiles input output) = AProgram
need_of (CompilesWithin input output k) = AProgram
need_of (Types input) = AnyTerm
need_of (Evaluates input turns) = CellFree
need_of (Checks input) = AnAssembly
need_of (Runs input fuel) = AnAssembly
need_of (Costs input fuel) = AnAssembly
need_of (Generates seed output) = AProgram
need_of (Upgrades input output) = AnAssembly
need_of (Builds input output heap) = AnAssembly
need_of (Disassembles input heap) = AnAssembly
need_of (Traces input from to) = AnAssembly
need_of (Shows input form) = AProgram
need_of (Explains input) = AnyText
need_of (Lists input) = AnAssembly
need_of (TypesNames input) = AnyTerm

-- the name of the file that it reads, if it reads one
abbrev pub input_of : Asked → Option (List ℕ)
input_of (Compiles input output) = Some input
input_of (CompilesWithin input output k) = Some input
input_of (Types input) = Some input
input_of (Evaluates input turns) = Some input
input_of (Checks input) = Some input
input_of (Runs input fuel) = Some input
input_of (Costs input fuel) = Some input
input_of (Generates seed output) = None
input_of (Upgrades input output) = Some input
input_of (Builds input output heap) = Some input
input_of (Disassembles input heap) = Some input
input_of (Traces input from to) = Some input
input_of (Shows input form) = Some input
input_of (Explains input) = Some input
input_of (Lists input) = Some input
input_of (TypesNames input) = Some input

-- the name of the file that it writes, if it writes one
abbrev pub output_of : Asked → Option (List ℕ)
output_of (Compiles input output) = Some output
output_of (CompilesWithin input output k) = Some output
output_of (Generates seed output) = Some output
output_of (Upgrades input output) = Some output
output_of (Builds input output heap) = Some output
output_of other = None

-- the number of turns or of instructions that it makes at most, if it has such a budget
abbrev pub budget_of : Asked → Option ℕ
budget_of (Evaluates input turns) = Some turns
budget_of (Runs input fuel) = Some fuel
budget_of (Costs input fuel) = Some fuel
budget_of (Traces input from to) = Some to
budget_of other = None
