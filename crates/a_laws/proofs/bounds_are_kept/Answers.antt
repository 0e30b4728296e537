use Rattle.a_laws.proofs.CLaws.{CLaws}
use Rattle.a_laws.proofs.Fits.{alloc_fits}
use Rattle.a_laws.proofs.bounds_are_kept.Goals as goal

pub returns : goal.returns
returns c =
    let law : CLaws =
    record {
      lifts = c.words_law.ensures.lifts;
      puts = c.words_law.ensures.puts;
      one = c.put_law.ensures;
      scopes = c.words_law.ensures.scopes;
      by_one = c.one_by_one_law.ensures;
    } in
    alloc_fits law
