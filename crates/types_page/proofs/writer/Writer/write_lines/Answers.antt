use Rattle.std.proofs.Common.{◌∙◌}
use Rattle.types_page.specs.Writing.{text_of, tokens_of}
use Rattle.types_page.proofs.Lines.{lines_last, lines_more}
use Rattle.types_page.proofs.writer.Writer.write_lines.Goals as goal

pub loop-found-preserved : goal.loop-found-preserved
loop-found-preserved c =
    let l = c.loop-found in
    record {
      writer = c.write_line.ensures.writer;
      same = (
        c.write_line.ensures.same.0 ∙ l.invariant.same.0,
        c.write_line.ensures.same.1 ∙ l.invariant.same.1,
      );
      left = lines_more (text_of c.args.self.now) (tokens_of c.args.self.now) c.args.list.now l.found-index
          c.found-item.result _ _ l.page.items c.write_line.new.page.items _ c.loop-found-test.true c.found-item.is
          l.invariant.same.0 l.invariant.same.1 c.in_ok-write_line.ensures.line l.invariant.left;
    }

pub returns-clause-lines : goal.returns-clause-lines
returns-clause-lines c =
    lines_last (text_of c.args.self.now) (tokens_of c.args.self.now) c.args.list.now c.loop-found.found-index
    c.loop-found.page.items _ c.loop-found-test.false c.loop-found.invariant.left
