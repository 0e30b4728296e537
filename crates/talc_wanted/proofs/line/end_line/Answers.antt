use Rattle.std.proofs.Common.{◌∙◌, ap, sym, ◌++◌, []}
use Rattle.talc_wanted.specs.Owing.{from_top, may_finish}
use Rattle.talc_wanted.specs.Wanted.{found_end, same_place, end_of}
use Rattle.talc_wanted.proofs.Lines.{end_is, not_the_end, all_may_end}
use Rattle.talc_wanted.proofs.line.end_line.Goals as goal

pub returns-then-not-is_end : goal.returns-then-not-is_end
returns-then-not-is_end g c =
    c.new.ensures.items
    ∙ sym (not_the_end (same_place c.args.at (end_of c.args.text.now))
    (may_finish g.G.Language.owes (from_top c.args.owed.now)) _ [] (sym c.if-not-is_end.ensures))

pub returns-then-ends : goal.returns-then-ends
returns-then-ends g c =
    c.new-then-ends.ensures.items
    ∙ sym (all_may_end (same_place c.args.at (end_of c.args.text.now))
    (may_finish g.G.Language.owes (from_top c.args.owed.now)) _ [] (sym c.if-ends.ensures))

pub returns : goal.returns
returns g c =
    c.in_ok-made.ensures
    ∙ (ap (λ x. x ++ found_end) c.in_ok-line.ensures
    ∙ sym (end_is (same_place c.args.at (end_of c.args.text.now))
    (may_finish g.G.Language.owes (from_top c.args.owed.now)) _ [] (sym c.if-not-is_end.ensures)
    (sym c.if-ends.ensures)))
