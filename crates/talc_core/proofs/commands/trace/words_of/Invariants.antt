use Rattle.t_types.specs.Read.{file}
use Rattle.std.proofs.Common.{drop}
use Rattle.t_machine.specs.Runs.{words_in}
use Rattle.talc_core.specs.Tracing.{HaveAll}
use Rattle.talc_core.proofs.TraceLemmas.{Told}
use Rattle.talc_core.proofs.commands.trace.words_of.Given as goal

abbrev pub invariant-loop-reg : goal.invariant-loop-reg
invariant-loop-reg l = record {
  left : HaveAll (words_in l.machine) (file (drop l.reg-index l.regs));
  told : Told (words_in l.machine) l.regs l.words.items l.reg-index;
}
