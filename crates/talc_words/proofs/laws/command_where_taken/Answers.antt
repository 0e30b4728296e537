use Rattle.talc_words.proofs.Commands.{command_where_taken}
use Rattle.talc_words.proofs.laws.command_where_taken.Goals as goal

pub returns : goal.returns
returns c = command_where_taken
