use Rattle.std.proofs.Common.{◌≡◌, take}
use Rattle.t_terms.specs.Read.{data_of as data_trees}
use Rattle.a_terms.specs.NodeTrees.{a_data}
use Rattle.t_gen_rules.specs.Gen.{generated_heap}
use Rattle.t_emit.proofs.constants.all_data.Given as goal

abbrev pub invariant-loop-tuple : goal.invariant-loop-tuple
invariant-loop-tuple l = data_trees l.made.items ≡ generated_heap (a_data (take l.tuple-index l.tuples))
