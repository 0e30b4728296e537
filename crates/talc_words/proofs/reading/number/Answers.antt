use Rattle.std.proofs.Common.{◌∙◌, ap, option_and_then}
use Rattle.std.specs.Str.Parse.{ParsesUnsigned, ExplainsUnsignedError, HasUnsignedDigitsIfOk}
use Rattle.clap.specs.Words.{found_of, one_text}
use Rattle.clap.proofs.WalkLemmas.{one_text-rows}
use Rattle.talc_words.specs.Command.{number_of}
use Rattle.talc_words.proofs.NumberLemmas.{number_read}
use Rattle.talc_words.proofs.reading.number.Goals as goal

pub returns : goal.returns
returns c =
    let found = found_of c.args.matches.now in
    number_read _ (λ bs r. ParsesUnsigned 64 10 bs r × ExplainsUnsignedError 10 bs r × HasUnsignedDigitsIfOk bs r)
    (λ t x g. g.0) (one_text found c.args.name.now) c.get_one.result c.get_one.ensures.none c.get_one.ensures.value
    ∙ ap (option_and_then number_of) (one_text-rows found c.args.name.now)
