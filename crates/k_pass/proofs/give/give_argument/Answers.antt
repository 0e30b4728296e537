use Rattle.std.proofs.Common.{ap}
use Rattle.std.proofs.lemmas.Result.{IfOk-weaker}
use Rattle.k_terms.specs.Read.{ktys}
use Rattle.k_pass.proofs.Gives.{takes_arg}
use Rattle.k_pass.proofs.give.give_argument.Goals as goal

pub returns-clause-steps : goal.returns-clause-steps
returns-clause-steps c =
    IfOk-weaker c.hand_over.result _ _
    (λ next h t. takes_arg t c.args.work.now c.put_call.new.out c.args.f c.args.ty c.args.given.atom
    c.args.given.depth _ c.hand_over.new.work next c.in_ok-put_call.ensures (ap ktys c.new.ensures.items) (h t))
    c.hand_over.ensures.steps
