use Rattle.std.proofs.Common.{◌++◌, ◌∙◌, ap, List, ℕ}
use Rattle.talc_core.proofs.CostLemmas.{running_shown}
use Rattle.talc_core.proofs.commands.cost.running_cost.Goals as goal

pub returns : goal.returns
returns c = λ text P goes_on made.
    running_shown text P c.args.fuel c.args.lines.items c.in_ok-last.last.items c.extend_from_slice.new.self.items
    goes_on made c.in_ok-last.ensures
    (c.in_ok-extend_from_slice.ensures.items ∙ ap (λ (s : List ℕ). c.args.lines.items ++ s) c.deref.ensures.value)
