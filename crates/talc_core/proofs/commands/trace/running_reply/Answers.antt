use Rattle.std.proofs.Common.{◌++◌, ◌∙◌, ap, List, ℕ}
use Rattle.talc_core.proofs.TraceLemmas.{running_shown}
use Rattle.talc_core.proofs.commands.trace.running_reply.Goals as goal

pub returns : goal.returns
returns c = λ P from goes_on states.
    running_shown P from c.args.to c.args.lines.items c.in_ok-last.last.items c.extend_from_slice.new.self.items
    goes_on states c.in_ok-last.ensures
    (c.in_ok-extend_from_slice.ensures.items ∙ ap (λ (s : List ℕ). c.args.lines.items ++ s) c.deref.ensures.value)
