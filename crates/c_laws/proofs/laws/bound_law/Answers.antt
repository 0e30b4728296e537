use Rattle.c_laws.proofs.Fits.{fits_kept, bound_kept}
use Rattle.c_laws.proofs.laws.bound_law.Goals as goal

pub returns-clause-fits : goal.returns-clause-fits
returns-clause-fits c = fits_kept

pub returns-clause-bound : goal.returns-clause-bound
returns-clause-bound c = bound_kept
