use Rattle.std.proofs.Common.{ap, sym, ◌∙◌}
use Rattle.std.specs.Prelude.{nat_lt, unwrap_or}
use Rattle.t_spill.proofs.Lasts.{told_at, told_none}
use Rattle.t_spill.proofs.ahead.Ahead.wants.Goals as goal

pub returns-in-Some : goal.returns-in-Some
returns-in-Some c = λ ws told. ap (λ o. nat_lt c.args.self.now.passed (unwrap_or o 0)) c.in-Some.ensures.value
    ∙ told_at c.args.self.now ws c.args.r told

pub returns-in-None : goal.returns-in-None
returns-in-None c = λ ws told. told_none c.args.self.now ws c.args.r (ap (λ o. unwrap_or o 0)
    (sym c.in-None.ensures.value)) told
