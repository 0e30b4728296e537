use Rattle.std.proofs.Common.{◌≤◌, ◌++◌, ◌+◌, length, ap₂, arith, codes, decimal}
use Rattle.t_trace.specs.Line.{names_text}
use Rattle.t_trace.proofs.Rendered.{grown, grown_by, names_more}
use Rattle.t_trace.proofs.types.write_names.Goals as goal

pub loop-i-init : goal.loop-i-init
loop-i-init c =
    let le = c.requires in
    record {
      room = omega arith;
      written = ap₂ (λ d n. c.args.text.now.items ++ names_text 0 d n) (omega arith) (omega arith);
    }

pub loop-i-preserved : goal.loop-i-preserved
loop-i-preserved c =
    let i = c.loop-i.i in
    let d = c.args.depth in
    let mid = grown (d + i) _ _ _ c.loop-i.invariant.room c.in_ok-write_separator.ensures in
    let some : 1 ≤ length (codes "t" ++ decimal (d + i)) = omega arith in
    let end = grown_by (d + i) 1 _ _ _ mid some c.in_ok-write_name.ensures in
    record {
      room = omega (arith, end);
      written = names_more _ _ _ i d c.args.count _ c.loop-i-test.true c.loop-i.invariant.written
          c.in_ok-write_separator.ensures c.in_ok-write_name.ensures;
    }
