use Rattle.w_print.proofs.Gather.{words_say}
use Rattle.w_print.proofs.words_say_texts.Goals as goal

pub returns : goal.returns
returns c = words_say
