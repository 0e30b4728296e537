use Rattle.std.proofs.Common.{take}
use Rattle.a_scope.specs.Scope.{homes}
use Rattle.t_gen.specs.Keeps.{among, each}
use Rattle.t_gen.specs.Registers.{Holds}
use Rattle.t_gen.proofs.choosing.registers_of.Given as goal

abbrev pub invariant-loop-i : goal.invariant-loop-i
invariant-loop-i l = Holds l.registers (among each (homes l.vars) (take l.i l.some))
