use Rattle.std.proofs.Common.{◌≡◌, ◌+◌, drop}
use Rattle.x_laws.specs.Layout.{size}
use Rattle.w_terms.specs.Read.{seq}
use Rattle.x_pass.specs.Homes.{home}
use Rattle.x_pass.specs.Short.{AreShort}
use Rattle.x_pass.proofs.layout.block_size.Given as goal

abbrev pub invariant-loop-instr : goal.invariant-loop-instr
invariant-loop-instr l = record {
  sum : l.all + size home (seq (drop l.instr-index l.body) l.block.end) ≡ size home (seq l.body l.block.end);
  short : AreShort (drop l.instr-index l.body);
}
