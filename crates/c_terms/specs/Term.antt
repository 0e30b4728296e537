-- The term of a program.
use Rattle.c_terms.specs.C.{CTm}
use Rattle.c_terms.specs.Program.{closed_of}
use Rattle.c_terms.specs.declared.program.CProgram.{CProgram}

abbrev pub term_of : CProgram → CTm
term_of p = closed_of p.nodes.items
