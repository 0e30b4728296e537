-- The trees of the parts of a term.
use Rattle.std.specs.Prelude.{map}
use Rattle.f_terms.specs.Tm.{Term, Terms, plain, plain_all, tms}
use Rattle.f_terms.specs.ReadTerm.{node_at}
use Rattle.f_writer.specs.declared.part.Part.{Part}
use Rattle.f_writer.specs.declared.part.Parts.{Parts}

abbrev pub part_term : Part → Term
part_term p = plain (node_at p.term.now p.at)

abbrev pub part_terms : Parts → Terms
part_terms ps = plain_all (tms (map (node_at ps.term.now) ps.numbers.now))
