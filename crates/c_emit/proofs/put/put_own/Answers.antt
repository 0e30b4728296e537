use Rattle.std.proofs.Common.{ap, ◌∙◌, sym}
use Rattle.c_terms.specs.Read.{written}
use Rattle.c_rules.specs.Emit as E
use Rattle.c_emit.proofs.Writes.{after_true, after_false, own_is}
use Rattle.c_emit.proofs.put.put_own.Goals as goal

pub returns-in_ok-start-clause-start : goal.returns-in_ok-start-clause-start
returns-in_ok-start-clause-start c =
    after_true c.args.own c.args.level c.in_ok-start.start c.if-own.true c.in_ok-start.ensures

pub returns-in_ok-start-clause-nodes : goal.returns-in_ok-start-clause-nodes
returns-in_ok-start-clause-nodes c = λ i rest e1 e2 e3.
    c.in_ok-put-6.ensures rest ∙ c.in_ok-put-5.ensures _ ∙ c.in_ok-put-4.ensures _ ∙ c.in_ok-put-3.ensures _
    ∙ c.in_ok-put-2.ensures _ ∙ c.in_ok-put.ensures _
    ∙ ap (written c.args.out.now.items) (own_is i c.args.own _ _ _ c.args.level rest c.if-own.true e1 e2 e3)

pub returns-else-own-clause-start : goal.returns-else-own-clause-start
returns-else-own-clause-start c = after_false c.args.own c.args.level c.if-own.false

pub returns-else-own-clause-nodes : goal.returns-else-own-clause-nodes
returns-else-own-clause-nodes c = λ i rest e1 e2 e3.
    sym (ap (λ b. written c.args.out.now.items (E.own_closure b c.args.level i rest)) c.if-own.false)
