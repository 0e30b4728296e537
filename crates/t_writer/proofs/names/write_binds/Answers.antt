use Rattle.std.proofs.Common.{◌++◌, ap₂, arith}
use Rattle.t_writer.specs.Lexeme.{render}
use Rattle.t_writer.specs.Written.{names_written}
use Rattle.t_writer.proofs.Rendered.{names_more, names_none, binds_done}
use Rattle.t_writer.proofs.names.write_binds.Goals as goal

pub loop-i-init : goal.loop-i-init
loop-i-init c = ap₂ (λ d n. c.push.new.self.items ++ render (names_written 0 d n)) (omega arith) (omega arith)

pub loop-i-preserved : goal.loop-i-preserved
loop-i-preserved c =
    names_more _ _ _ c.loop-i.i c.args.depth c.args.count _ c.loop-i-test.true c.loop-i.invariant
    c.in_ok-write_separator.ensures c.in_ok-write_name.ensures

pub returns : goal.returns
returns c =
    binds_done _ _ _ _ c.args.depth c.args.count c.in_ok-push.ensures.items
    (names_none _ c.loop-i.i c.args.depth c.args.count _ c.loop-i-test.false c.loop-i.invariant)
    c.in_ok-push-2.ensures.items
