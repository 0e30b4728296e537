use Rattle.std.proofs.Common.{◌≡◌}
use Rattle.t_check.specs.Walks.{IsWalk, walked}
use Rattle.t_machine.specs.Runs.{Stands}
use Rattle.talc_core.specs.Traced.{AreLines}
use Rattle.talc_core.proofs.commands.trace.states_from.Given as goal

abbrev pub invariant-loop-m : goal.invariant-loop-m
invariant-loop-m l = record {
  stands : Stands (walked l.fn.walk) l.m l.machine;
  walk : IsWalk l.walk;
  same : l.walk.program ≡ l.fn.walk.program;
  lines : AreLines (walked l.fn.walk) l.window.from l.m l.lines.items;
}
