use Rattle.std.proofs.Common.{rules, ◌≡◌, ◌++◌, ◌∙◌, ap, List, ℕ, to_z, of_z, w64}
use Rattle.talc_core.specs.Lines.{integer_line}
use Rattle.talc_core.proofs.CostLemmas.{halted_shown}
use Rattle.talc_core.proofs.commands.cost.halted_cost.Goals as goal

pub returns : goal.returns
returns c =
    let same : to_z w64 (of_z w64 c.args.value) ≡ c.args.value = search (rules, c.ranges.value) in
    λ text P fuel steps within halted made.
    halted_shown text P fuel steps c.args.value c.args.lines.items c.in_ok-last.last.items
    c.extend_from_slice.new.self.items within halted made (c.in_ok-last.ensures ∙ ap integer_line same)
    (c.in_ok-extend_from_slice.ensures.items ∙ ap (λ (s : List ℕ). c.args.lines.items ++ s) c.deref.ensures.value)
