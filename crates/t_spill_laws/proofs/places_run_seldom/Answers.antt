use Rattle.t_spill_laws.proofs.Small.{within_entries}
use Rattle.t_spill_laws.proofs.places_run_seldom.Goals as goal

pub returns : goal.returns
returns c = within_entries
