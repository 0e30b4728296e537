use Rattle.std.proofs.Common.{◌≡◌, ◌++◌, ◌+◌, length, drop}
use Rattle.x_laws.specs.Core.{bytes_all}
use Rattle.x_listing.specs.Lines.{page_text, step_lines}
use Rattle.x_listing.proofs.lines.write_steps.Given as goal

abbrev pub invariant-loop-instr : goal.invariant-loop-instr
invariant-loop-instr l = record {
  lines : l.page.items ++ page_text (step_lines l.next (drop l.instr-index l.instrs))
      ≡ l.initial.page.items ++ page_text (step_lines l.at l.instrs);
  next : l.next + length (bytes_all (drop l.instr-index l.instrs)) ≡ l.at + length (bytes_all l.instrs);
}
