use Rattle.std.proofs.Common.{[]}
use Rattle.std.specs.Vec.Iter.{into_iter_items}
use Rattle.h_pass.proofs.program.hoist.Given as goal
use Rattle.c_terms.specs.Read.{written}
use Rattle.c_terms.specs.Term.{term_of}
use Rattle.h_pass.specs.Hoist.{blocks_of, main_of}
use Rattle.h_pass.specs.Walk.{Walked}

-- what is made and what is left hold the hoisted program
abbrev pub invariant-loop-node : goal.invariant-loop-node
invariant-loop-node l =
    let t = term_of l.fn.program in
    Walked l.walk (written (into_iter_items l.node-iterator) []) (blocks_of t, main_of t)
