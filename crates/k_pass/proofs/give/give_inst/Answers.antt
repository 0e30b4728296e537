use Rattle.std.proofs.lemmas.Result.{IfOk-weaker}
use Rattle.k_pass.proofs.Gives.{takes_inst}
use Rattle.k_pass.proofs.give.give_inst.Goals as goal

pub returns-clause-steps : goal.returns-clause-steps
returns-clause-steps c =
    IfOk-weaker c.hand_over.result _ _
    (λ next h t. takes_inst t c.args.work.now c.put_one.new.out c.args.arg c.args.ty c.args.given.atom
    c.args.given.depth _ c.hand_over.new.work next c.in_ok-put_one.ensures c.in_ok-types.ensures (h t))
    c.hand_over.ensures.steps
