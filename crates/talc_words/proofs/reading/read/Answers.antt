use Rattle.std.proofs.Common.{◌≡◌, ◌∙◌, ap, refl, map, string_bytes}
use Rattle.clap.specs.Words.{app_of, is_simple, is_simple_and_free, subcommand_rows_of}
use Rattle.talc_words.specs.Command.{asked_of}
use Rattle.talc_words.specs.Description.{talc_app}
use Rattle.talc_words.proofs.WordsLemmas.{talc_is_simple, talc_is_free, command_taken, asked_reads, refusal_reads}
use Rattle.talc_words.proofs.reading.read.Goals as goal

pub returns-in-Ok-try_get_matches_from : goal.returns-in-Ok-try_get_matches_from
returns-in-Ok-try_get_matches_from c =
    let app_is : app_of c.in-Ok.description ≡ talc_app = c.in-Ok.ensures in
    let words_are : map string_bytes c.as_slice.result.now ≡ map string_bytes c.args.words.now.items =
    ap (map string_bytes) c.as_slice.ensures.value in
    asked_reads _ _ c.asked_or_not.result
    (command_taken _ _ _ _ (asked_of (subcommand_rows_of c.in-Ok-try_get_matches_from.matches)) app_is words_are
    (c.in-Ok-try_get_matches_from.ensures.kinds (ap is_simple_and_free app_is ∙ talc_is_free))
    (c.in-Ok-try_get_matches_from.ensures.matches (ap is_simple app_is ∙ talc_is_simple)).1 refl)
    c.asked_or_not.ensures

pub returns-in-Err : goal.returns-in-Err
returns-in-Err c =
    let app_is : app_of c.in-Ok.description ≡ talc_app = c.in-Ok.ensures in
    let words_are : map string_bytes c.as_slice.result.now ≡ map string_bytes c.args.words.now.items =
    ap (map string_bytes) c.as_slice.ensures.value in
    refusal_reads _ _ _ _ c.not_taken.result app_is words_are
    (c.in-Err.ensures.kinds (ap is_simple_and_free app_is ∙ talc_is_free)) c.not_taken.ensures
