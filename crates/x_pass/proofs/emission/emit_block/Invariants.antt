use Rattle.std.proofs.Common.{◌≡◌, ◌+◌, ◌++◌, drop, length}
use Rattle.x_laws.specs.Core.{bytes_all}
use Rattle.x_laws.specs.Code.{seq_code}
use Rattle.w_terms.specs.Read.{seq}
use Rattle.x_pass.specs.Homes.{home}
use Rattle.x_pass.specs.Layout.{place_of}
use Rattle.x_pass.specs.Short.{AreShort}
use Rattle.x_pass.proofs.emission.emit_block.Given as goal

abbrev pub invariant-loop-instr : goal.invariant-loop-instr
invariant-loop-instr l = record {
  bytes : l.code.items
      ++ bytes_all
      (seq_code home (place_of l.labels) (l.base + length l.code.items) (seq (drop l.instr-index l.body) l.block.end))
      ≡ l.initial.code.items
      ++ bytes_all
      (seq_code home (place_of l.labels) (l.base + length l.initial.code.items) (seq l.body l.block.end));
  short : AreShort (drop l.instr-index l.body);
}
