use Rattle.h_terms.proofs.laws.h_fits_more_law.Goals as goal
use Rattle.h_terms.proofs.Mono.{fits_more}

pub returns : goal.returns
returns c = fits_more
