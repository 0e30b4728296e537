use Rattle.t_terms.specs.Read.{end_of}
use Rattle.t_writer.proofs.Coded.{instr_fits, end_fits, coding_more, coding_end}
use Rattle.t_writer.proofs.blocks.write_code.Goals as goal

pub write_instr-requires : goal.write_instr-requires
write_instr-requires c =
    instr_fits c.args.body.now (end_of c.args.end.now) c.loop-entry.entry-index c.loop-entry.names _ _
    c.loop-entry.invariant c.entry-item.result c.entry-item.is c.loop-entry-test.true

pub write_end-requires : goal.write_end-requires
write_end-requires c =
    end_fits c.args.body.now (end_of c.args.end.now) c.loop-entry.entry-index c.loop-entry.names _ _
    c.loop-entry.invariant c.loop-entry-test.false

pub loop-entry-preserved : goal.loop-entry-preserved
loop-entry-preserved c =
    coding_more c.args.body.now (end_of c.args.end.now) c.loop-entry.entry-index c.loop-entry.names _ _
    c.loop-entry.invariant c.entry-item.result c.entry-item.is c.loop-entry-test.true _ _ _
    c.in_ok-write_instr.ensures c.in_ok-push.ensures.items c.names_after-names.ensures

pub returns : goal.returns
returns c =
    coding_end c.args.body.now (end_of c.args.end.now) c.loop-entry.entry-index c.loop-entry.names _ _
    c.loop-entry.invariant c.loop-entry-test.false _ _ c.in_ok-write_end.ensures
    c.in_ok-push-2.ensures.items
