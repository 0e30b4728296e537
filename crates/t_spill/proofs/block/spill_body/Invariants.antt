use Rattle.t_terms.specs.ReadProgram.{program}
use Rattle.t_spill.specs.Moving.{Reaches}
use Rattle.t_spill.specs.Tails.{tail_of}
use Rattle.t_spill.proofs.block.spill_body.Given as goal

abbrev pub invariant-loop-k : goal.invariant-loop-k
invariant-loop-k l =
    Reaches (program l.program) l.fn.walk (tail_of l.body l.«end» 0) l.walk (tail_of l.body l.«end» l.k)
