use Rattle.c_terms.proofs.Mono.{fits_more}
use Rattle.c_terms.proofs.laws.fits_more_law.Goals as goal

pub returns : goal.returns
returns c = fits_more
