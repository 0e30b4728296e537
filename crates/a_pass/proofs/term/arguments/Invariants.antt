use Rattle.std.proofs.Common.{take}
use Rattle.a_pass.proofs.Walking.{Named}
use Rattle.a_pass.proofs.term.arguments.Given as goal

abbrev pub invariant-loop-level : goal.invariant-loop-level
invariant-loop-level l = Named (take l.level l.args) l.names.items
