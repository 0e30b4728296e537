use Rattle.std.proofs.Common.{drop}
use Rattle.t_terms.specs.ReadProgram.{program}
use Rattle.t_intern.specs.Grown.{Grown}
use Rattle.t_check.proofs.Bodies.{WordsLeft}
use Rattle.t_check.proofs.checker.Checker.check_data.Given as goal

abbrev pub invariant-loop-field : goal.invariant-loop-field
invariant-loop-field l = record {
  grown : Grown l.fn.types l.types;
  left : WordsLeft (program l.self.program.now) l.fields (drop l.field-index l.fields);
}
