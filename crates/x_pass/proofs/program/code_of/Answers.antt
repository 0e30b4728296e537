use Rattle.x_pass.specs.Layout.{place_of}
use Rattle.x_pass.proofs.Measures.{code_as, labels_near, room_of}
use Rattle.x_pass.proofs.program.code_of.Goals as goal

pub emit_blocks-requires : goal.emit_blocks-requires
emit_blocks-requires c = record {
  room = room_of (place_of c.args.labels.now) c.args.base c.args.blocks.now _ c.new-code.ensures.items c.requires.near;
  near = labels_near c.args.base c.args.blocks.now c.args.labels.now.places.items c.args.labels.now.end
      c.requires.laid.0 c.requires.laid.1 c.requires.near;
  short = c.requires.short;
}

pub returns : goal.returns
returns c =
    code_as c.args.base c.args.blocks.now c.args.labels.now.places.items c.args.labels.now.end _ _ c.requires.laid.0
    c.requires.laid.1 c.new-code.ensures.items c.in_ok-emit_blocks.ensures
