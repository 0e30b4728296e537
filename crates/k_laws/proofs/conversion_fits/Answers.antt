use Rattle.k_laws.proofs.Whole.{fits}
use Rattle.k_laws.proofs.conversion_fits.Goals as goal

pub returns : goal.returns
returns c = fits
