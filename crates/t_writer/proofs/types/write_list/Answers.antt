use Rattle.std.proofs.Common.{refl}
use Rattle.t_writer.proofs.Rendered.{types_fit, type_more, list_done}
use Rattle.t_writer.proofs.types.write_list.Goals as goal

pub loop-i-init : goal.loop-i-init
loop-i-init c = record { fits = types_fit c.args.depth c.args.list.now c.requires; written = refl }

pub loop-i-preserved : goal.loop-i-preserved
loop-i-preserved c = record {
  fits = c.loop-i.invariant.fits;
  written = type_more c.args.depth _ _ _ c.loop-i.i c.args.list.now _ _ c.index-list-i.is c.loop-i-test.true
      c.loop-i.invariant.written c.in_ok-write_separator.ensures c.in_ok-write_type.ensures;
}

pub returns : goal.returns
returns c = list_done c.args.depth c.args.list.now _ _ _ _ c.loop-i.i c.in_ok-push.ensures.items
    c.loop-i.invariant.written c.loop-i-test.false c.in_ok-push-2.ensures.items
