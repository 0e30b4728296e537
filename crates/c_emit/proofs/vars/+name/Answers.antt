use Rattle.std.proofs.Common.{◌≡◌, ◌∙◌, ◌+◌, suc, ap, sym, arith}
use Rattle.c_rules.specs.Know as W
use Rattle.c_emit.specs.Names.{side, renaming}
use Rattle.c_emit.proofs.Places.{under_in, under_out}
use Rattle.c_emit.proofs.vars.+name.Goals as goal
use Rattle.calc_core.proofs.Lifts.{lift_add}

pub returns-in_ok-at-in-Here : goal.returns-in_ok-at-in-Here
returns-in_ok-at-in-Here t c =
    c.in_ok-at-in-Here.ensures
    ∙ ap (W.side_var (side c.in-Here.side.now)) (c.in_ok-j-in-Here.ensures ∙ sym (lift_add c.in-Here.raise c.args.i))
    ∙ ap (λ n. renaming n c.args.i) (sym c.in-Here.is)

pub returns-in_ok-at-in-Outside : goal.returns-in_ok-at-in-Outside
returns-in_ok-at-in-Outside t c =
    c.in_ok-at-in-Outside.ensures
    ∙ ap (W.outer_var (side c.in-Outside.side.now))
    (c.in_ok-j-in-Outside.ensures ∙ sym (lift_add c.in-Outside.raise c.args.i))
    ∙ ap (λ n. renaming n c.args.i) (sym c.in-Outside.is)

pub returns-then-i-owes : goal.returns-then-i-owes
returns-then-i-owes t c =
    under_in c.in-Under.owes (λ j. suc (renaming c.in-Under.around.now j)) c.args.i c.if-i-owes.true
    ∙ ap (λ n. renaming n c.args.i) (sym c.in-Under.is)

pub returns-in_ok-at-in-Under-3 : goal.returns-in_ok-at-in-Under-3
returns-in_ok-at-in-Under-3 t c =
    c.in_ok-at-in-Under-3.ensures
    ∙ ap (λ n. c.in-Under.owes + n)
    (let q : c.in_ok-at-in-Under-2.at ≡ suc c.in_ok-at-in-Under.at =
    omega (arith, c.in_ok-at-in-Under-2.ensures) in q ∙ ap suc c.in_ok-at-in-Under.ensures)
    ∙ under_out c.in-Under.owes (λ j. suc (renaming c.in-Under.around.now j)) c.args.i c.if-i-owes.false
    ∙ ap (λ n. renaming n c.args.i) (sym c.in-Under.is)
