use Rattle.std.proofs.Common.{arith}
use Rattle.std.proofs.lemmas.Grind.{common_steps}
use Rattle.io_core.proofs.FileMapLemmas.{GainedPart-take}
use Rattle.io_core.proofs.mem_sink.MemSinkSink.put.Goals as goal

pub returns-in_ok-take-in-Some-clause-put : goal.returns-in_ok-take-in-Some-clause-put
returns-in_ok-take-in-Some-clause-put c = (
  grind (arith, common_steps),
  GainedPart-take c.args.self.now.taken c.args.bytes.now c.self-in-Some.inside.taken.items c.in-Some.most
      (grind (arith, common_steps)),
  grind (arith, common_steps),
  grind (arith, common_steps),
)
