-- The program that the passes make of a term of the source.
use Rattle.std.specs.Prelude.{◌≡◌}
use Rattle.f_terms.specs.Tm.{Term}
use Rattle.k_laws.specs.Annotate.{cps_term}
use Rattle.c_terms.specs.C.{CTm}
use Rattle.c_rules.specs.Close.{close_of}
use Rattle.h_terms.specs.H.{HBlks, HTm}
use Rattle.h_pass.specs.Hoist.{blocks_of, main_of}
use Rattle.a_laws.specs.Allocate.{alloc_prog, alloc_main}
use Rattle.t_terms.specs.Tree.{TProg}
use Rattle.t_gen_rules.specs.Gen.{generated}

-- allocation and code generation of a hoisted program
abbrev pub assembled : HBlks → HTm → TProg
assembled ks t = generated (alloc_prog ks t) (alloc_main ks t)

-- hoisting of a closed term, and these
abbrev pub hoisted_and_assembled : CTm → TProg
hoisted_and_assembled c = assembled (blocks_of c) (main_of c)

-- the passes in turn, as functions on trees
abbrev pub compiled_program : Term → TProg
compiled_program e = hoisted_and_assembled (close_of (cps_term e))

-- the program is the one that they make: no name, no register, no order is left to choose, also where the rules of the
-- passes leave something open. What those say of a program is in `IsTranslation`; nobody has to read these functions
-- for that
pub record IsMade (e : Term) (P : TProg) : Type 0 where
  pub is : P ≡ compiled_program e
