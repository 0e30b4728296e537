use Rattle.t_rules.proofs.Runs.{data_mean_their_words}
use Rattle.t_rules.proofs.soundness.data_mean_their_words.Goals as goal

pub returns : goal.returns
returns c = data_mean_their_words
