use Rattle.std.proofs.Common.{◌≡◌, ◌++◌, drop, map}
use Rattle.types_page.specs.Page.{lines}
use Rattle.types_page.specs.Walk.{binder_of}
use Rattle.types_page.specs.Writing.{IsWriter, OfTheSame, text_of, tokens_of}
use Rattle.types_page.proofs.writer.Writer.write_lines.Given as goal

abbrev pub invariant-loop-found : goal.invariant-loop-found
invariant-loop-found l = record {
  writer : IsWriter l.self;
  same : OfTheSame l.initial.self l.self;
  left : l.page.items
      ++ lines (text_of l.initial.self) (tokens_of l.initial.self) (map binder_of (drop l.found-index l.list))
      ≡ l.initial.page.items ++ lines (text_of l.initial.self) (tokens_of l.initial.self) (map binder_of l.list);
}
