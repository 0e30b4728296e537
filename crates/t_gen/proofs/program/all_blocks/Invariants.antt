use Rattle.std.proofs.Common.{◌≡◌, ◌≤◌, ◌+◌, suc, drop, length}
use Rattle.t_terms.specs.Read.{blocks_of}
use Rattle.t_gen.specs.Filling.{finish, jobs}
use Rattle.t_gen_rules.specs.Gen.{generated_blocks}
use Rattle.a_terms.specs.NodeTrees.{a_blocks, a_tree}
use Rattle.a_terms.specs.Program.{program_in}
use Rattle.t_gen.proofs.program.all_blocks.Given as goal

abbrev pub invariant-loop-i : goal.invariant-loop-i
invariant-loop-i l = record {
  long : suc (length l.blocks) ≤ length l.out.items;
  rest : finish (program_in l.program) (length (blocks_of l.out.items)) (blocks_of l.out.items)
      (jobs (l.i + 1) (a_blocks (drop l.i l.blocks))) ≡ generated_blocks (program_in l.program) (a_tree l.main);
}
