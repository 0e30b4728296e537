-- The tree of a program.
use Rattle.std.specs.Prelude.{map}
use Rattle.k_terms.specs.K.{KTm}
use Rattle.k_terms.specs.Read.{knode}
use Rattle.k_terms.specs.Decode.{decode}
use Rattle.k_terms.specs.declared.program.KProgram.{KProgram}

abbrev pub term_of : KProgram → KTm
term_of p = decode (map knode p.nodes.items)
