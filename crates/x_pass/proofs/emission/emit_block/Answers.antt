use Rattle.std.proofs.Common.{◌++◌, ◌+◌, length, ap, ◌∙◌}
use Rattle.x_laws.specs.Core.{bytes_all}
use Rattle.x_laws.specs.Code.{seq_code}
use Rattle.w_terms.specs.Read.{seq}
use Rattle.x_pass.specs.Homes.{home}
use Rattle.x_pass.specs.Layout.{place_of}
use Rattle.x_pass.proofs.Measures.{short_next}
use Rattle.x_pass.proofs.Turns.{one_more, within}
use Rattle.x_pass.proofs.emission.emit_block.Goals as goal

pub emit-requires-clause-here : goal.emit-requires-clause-here
emit-requires-clause-here c =
    let begun = c.args.code.now.items in
    within c.args.base c.loop-instr.code.items _ begun _
    (c.loop-instr.invariant.bytes
    ∙ ap (λ xs. begun
    ++ bytes_all
    (seq_code home (place_of c.args.labels.now) (c.args.base + length begun) (seq xs c.args.block.now.end)))
    c.as_slice-body.ensures.value)
    c.requires.room

pub loop-instr-preserved : goal.loop-instr-preserved
loop-instr-preserved c = record {
  bytes = one_more home (place_of c.args.labels.now) c.args.base c.loop-instr.instr-index c.as_slice-body.result.now
      c.args.block.now.end _ c.loop-instr.code.items c.emit.new.code.items _ c.loop-instr-test.true
      c.in_ok-emit.ensures c.loop-instr.invariant.bytes;
  short = short_next c.loop-instr.instr-index c.as_slice-body.result.now c.loop-instr.invariant.short;
}

pub emit_end-requires-clause-here : goal.emit_end-requires-clause-here
emit_end-requires-clause-here c =
    let begun = c.args.code.now.items in
    within c.args.base c.loop-instr.code.items _ begun _
    (c.loop-instr.invariant.bytes
    ∙ ap (λ xs. begun
    ++ bytes_all
    (seq_code home (place_of c.args.labels.now) (c.args.base + length begun) (seq xs c.args.block.now.end)))
    c.as_slice-body.ensures.value)
    c.requires.room
