use Rattle.calc_core.proofs.Bridge.{ren_lift, sub_put, in_below, below_in}
use Rattle.calc_core.proofs.laws.words_law.Goals as goal

pub returns-clause-lifts : goal.returns-clause-lifts
returns-clause-lifts c = ren_lift

pub returns-clause-puts : goal.returns-clause-puts
returns-clause-puts c = sub_put

pub returns-clause-scopes : goal.returns-clause-scopes
returns-clause-scopes c = λ n t. (in_below t n, below_in t n)
