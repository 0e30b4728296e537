-- What a reading of words answers.
use Rattle.std.specs.Prelude.{◌≡◌, List, Option, Some, None, Result, Ok, Err}
use Rattle.clap.specs.Words.{Text}
use Rattle.talc_words.specs.declared.command.Command.{Command}
use Rattle.talc_words.specs.declared.command.Command.TheVariants.{Compile, CompileWithin, Check, Run, Typeof, Eval, Gen}
use Rattle.talc_words.specs.declared.command.Command.TheVariants.{Upgrade, Trace, Show, Explain, Cost, Listing}
use Rattle.talc_words.specs.declared.command.Command.TheVariants.{Types as TypesPage, Native, Disassembly}
use Rattle.talc_words.specs.declared.command.NoCommand.{NoCommand}
use Rattle.talc_words.specs.declared.command.NoCommand.TheVariants.{Usage, Memory}
use Rattle.talc_words.specs.Command.{Asked, Compiles, CompilesWithin, Checks, Runs, Types, Evaluates, Generates}
use Rattle.talc_words.specs.Command.{Upgrades, Traces, Shows, Explains, Costs, Lists, TypesNames, Builds}
use Rattle.talc_words.specs.Command.{Disassembles, command_of}

-- what a command as the code has it asks for
abbrev pub asked_by : Command → Asked
asked_by (Compile input output) = Compiles input.now output.now
asked_by (CompileWithin input output registers) = CompilesWithin input.now output.now registers
asked_by (Check input) = Checks input.now
asked_by (Run input fuel) = Runs input.now fuel
asked_by (Typeof input) = Types input.now
asked_by (Eval input turns) = Evaluates input.now turns
asked_by (Gen seed output) = Generates seed output.now
asked_by (Upgrade input output) = Upgrades input.now output.now
asked_by (Trace input from to) = Traces input.now from to
asked_by (Show input form) = Shows input.now form
asked_by (Explain input) = Explains input.now
asked_by (Cost input fuel) = Costs input.now fuel
asked_by (Listing input) = Lists input.now
asked_by (TypesPage input) = TypesNames input.now
asked_by (Native input output heap) = Builds input.now output.now heap
asked_by (Disassembly input heap) = Disassembles input.now heap

-- a command where this is asked for, and a text where nothing is
abbrev pub AsksFor : Option Asked → Result Command NoCommand → Type 0
AsksFor asked (Ok command) = asked ≡ Some (asked_by command)
AsksFor asked (Err why) = asked ≡ None

-- a command only where the words are this one, and a text only where they are none
abbrev pub Reads : List Text → Result Command NoCommand → Type 0
Reads words (Ok command) = command_of words ≡ Some (asked_by command)
Reads words (Err (Usage text)) = command_of words ≡ None
Reads words (Err Memory) = Unit {0}
