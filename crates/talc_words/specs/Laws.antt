-- What the definition of a command says in all.
use Rattle.std.specs.Prelude.{◌≡◌, ◌↔◌, List, [], Some, IsSome}
use Rattle.clap.specs.Words.{Text, fault_of, subcommand_of}
use Rattle.talc_words.specs.Description.{talc_app}
use Rattle.talc_words.specs.Command.{Asked, HasOneResult, HasPages, NamesForm, NumbersAreInBounds, command_of}

-- the words are a command exactly where `clap`'s rules find no error in them by the description; where they are those
-- of `show`, the form has one of the six names, and with `--types` it can be shown with types; and where they are those
-- of `native`, the heap is a multiple of 4096 bytes, and there is either OUT or `--listing`
abbrev pub CommandWhereTaken : Type 0
CommandWhereTaken = (words : List Text) → IsSome (command_of words)
    ↔ ((fault_of talc_app words ≡ []) × NamesForm (subcommand_of talc_app words)
    × HasPages (subcommand_of talc_app words) × HasOneResult (subcommand_of talc_app words))

-- a number of registers that the words ask for is 8 at least, and a heap has a size that heaps have
abbrev pub CommandsAreInBounds : Type 0
CommandsAreInBounds = (words : List Text) (asked : Asked) → command_of words ≡ Some asked → NumbersAreInBounds asked
