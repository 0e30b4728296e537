use Rattle.std.proofs.Common.{◌≡◌, ◌∙◌, ap, sym, Some}
use Rattle.clap.specs.Words.{found_of, rows_of, subcommand_rows_of}
use Rattle.talc_words.specs.Command.{asked_of}
use Rattle.talc_words.proofs.WordsLemmas.{entry_is}
use Rattle.talc_words.proofs.reading.asked.Goals as goal

pub returns-in-Some : goal.returns-in-Some
returns-in-Some c =
    let entry : subcommand_rows_of c.args.matches.now
    ≡ Some (c.in-Some.name.now, rows_of (found_of c.in-Some.matches.now)) =
    entry_is _ _ _ _ _ c.in-Some.ensures.name c.in-Some.ensures.rows in
    c.entered.ensures ∙ ap asked_of (sym entry)
