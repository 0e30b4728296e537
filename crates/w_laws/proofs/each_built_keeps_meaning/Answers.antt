use Rattle.w_laws.proofs.Runtimes.{each_built}
use Rattle.w_laws.proofs.each_built_keeps_meaning.Goals as goal

pub returns : goal.returns
returns c = each_built c.meaning_is_kept.ensures c.blocks_print_integers.ensures c.words_say_texts.ensures
    c.rooms_end.ensures
