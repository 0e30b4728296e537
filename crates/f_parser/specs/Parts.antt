-- The trees of the parts of a term.
use Rattle.std.specs.Prelude.{map}
use Rattle.f_grammar.specs.Raw.{RawTm, RawTms, raw_tms}
use Rattle.f_grammar.specs.Term.{node_at}
use Rattle.f_parser.specs.declared.part.Part.{Part}
use Rattle.f_parser.specs.declared.part.Parts.{Parts}

abbrev pub part_tree : Part → RawTm
part_tree p = node_at p.term.now p.at

abbrev pub part_trees : Parts → RawTms
part_trees ps = raw_tms (map (node_at ps.term.now) ps.numbers.now)
