use Rattle.std.proofs.Common.{◌≡◌, ◌++◌, drop}
use Rattle.x_laws.specs.Core.{bytes_all}
use Rattle.x_pass.proofs.blocks.encode_all.Given as goal

abbrev pub invariant-loop-instr : goal.invariant-loop-instr
invariant-loop-instr l =
    l.code.items ++ bytes_all (drop l.instr-index l.instrs) ≡ l.initial.code.items ++ bytes_all l.instrs
