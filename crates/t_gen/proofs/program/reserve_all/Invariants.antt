use Rattle.std.proofs.Common.{◌≡◌, ◌∷◌, take}
use Rattle.t_types.specs.Tree.{NoRegs}
use Rattle.t_terms.specs.Read.{blocks_of}
use Rattle.t_emit.specs.Code.{reserved}
use Rattle.t_gen.specs.Filling.{reserves}
use Rattle.a_terms.specs.NodeTrees.{a_blocks}
use Rattle.t_gen.proofs.program.reserve_all.Given as goal

abbrev pub invariant-loop-block : goal.invariant-loop-block
invariant-loop-block l = blocks_of l.out.items ≡ reserved 0 NoRegs ∷ reserves (a_blocks (take l.block-index l.blocks))
