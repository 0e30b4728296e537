use Rattle.std.proofs.Common.{◌≡◌, ◌++◌, List, ℕ, subst}
use Rattle.t_types.specs.declared.types.TType.{TType}
use Rattle.t_types.specs.Read.{file}
use Rattle.t_trace.specs.Line.{words_text}
use Rattle.t_trace.proofs.Rendered.{line_done}
use Rattle.t_trace.proofs.lines.write_line.Goals as goal

pub returns : goal.returns
returns c =
    let words = subst
    (λ (xs : List (ℕ × TType)). c.write_words.new.text.items ≡ c.extend_from_slice-3.new.self.items
    ++ words_text c.args.place.vars 0 c.args.words.now (file xs)) c.deref.ensures.value c.in_ok-write_words.ensures in
    line_done c.args.m c.args.place.block c.args.place.index c.args.place.vars c.args.words.now
    (file c.args.place.types.now.regs.items) _ _ _ _ _ _ _ _ _
    c.in_ok-write_natural.ensures.written c.in_ok-extend_from_slice.ensures.items
    c.in_ok-write_natural-2.ensures.written c.in_ok-extend_from_slice-2.ensures.items
    c.in_ok-write_natural-3.ensures.written c.in_ok-extend_from_slice-3.ensures.items words
    c.in_ok-extend_from_slice-4.ensures.items
