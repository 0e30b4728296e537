use Rattle.std.proofs.Common.{◌≡◌, ◌++◌, length}
use Rattle.t_types.specs.Read.{file}
use Rattle.t_trace.specs.Line.{words_text}
use Rattle.t_trace.proofs.Rendered.{WordsLeft}
use Rattle.t_trace.proofs.lines.write_words.Given as goal

abbrev pub invariant-loop-i : goal.invariant-loop-i
invariant-loop-i l = record {
  many : length l.words ≡ length l.regs;
  written : WordsLeft l.vars l.text.items l.i l.regs l.words
      (l.initial.text.items ++ words_text l.vars 0 l.words (file l.regs));
}
