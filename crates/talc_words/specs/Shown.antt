-- What the user is told where words are no command.
use Rattle.std.specs.Prelude.{ℕ, List, codes, string_bytes}
use Rattle.talc_words.specs.declared.command.NoCommand.{NoCommand}
use Rattle.talc_words.specs.declared.command.NoCommand.TheVariants.{Usage, Memory}

abbrev pub shown : NoCommand → List ℕ
shown (Usage text) = string_bytes text
shown Memory = codes "out of memory"
