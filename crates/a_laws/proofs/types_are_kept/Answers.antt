use Rattle.a_laws.proofs.CLaws.{CLaws}
use Rattle.a_laws.proofs.Fits.{alloc_types}
use Rattle.a_laws.proofs.types_are_kept.Goals as goal

pub returns : goal.returns
returns c =
    let law : CLaws =
    record {
      lifts = c.words_law.ensures.lifts;
      puts = c.words_law.ensures.puts;
      one = c.put_law.ensures;
      scopes = c.words_law.ensures.scopes;
      by_one = c.one_by_one_law.ensures;
    } in
    alloc_types law c.h_typed_is_any_law.ensures
