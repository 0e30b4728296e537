use Rattle.std.specs.Prelude.{MatchOption, option_to_list}
use Rattle.std.proofs.Common.{◌≡◌, ◌∙◌, ◌+◌, ◌++◌, ◌∷◌, ℕ, List, [], length, Option, Some, None, ap, arith}
use Rattle.types_page.specs.Walk.{todo, todos}
use Rattle.types_page.specs.declared.task.Task.{Task}
use Rattle.types_page.proofs.Stacking.{back_none, back_push}
use Rattle.types_page.proofs.tasks.pop.Goals as goal

popped : (r : Option Task) (old new : List Task) (n m : ℕ) → n ≡ length old → old ≡ new ++ option_to_list r →
    MatchOption r ((n ≡ 0) × (m ≡ 0)) (λ t. m + 1 ≡ n) →
    MatchOption r (todos old ≡ []) (λ t. todos old ≡ todo t ∷ todos new)
popped None old new n m count items cases = back_none todo old (omega (arith, count, cases.0))
popped (Some t) old new n m count items cases = ap todos items ∙ back_push todo [] new t

pub returns : goal.returns
returns c =
    popped c.pop.result c.args.tasks.now.items c.pop.new.self.items c.args.tasks.now.len c.pop.new.self.len
    (omega (arith, c.args.tasks.now.ok.0)) c.pop.ensures.items c.pop.ensures.cases
