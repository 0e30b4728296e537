use Rattle.std.proofs.Common.{sym, ◌∙◌, arith}
use Rattle.f_grammar.proofs.reader.kept.Goals as goal

pub returns-then-forest : goal.returns-then-forest
returns-then-forest c = λ q h n. (sym h.place, (let l = n.many c.if-forest.true in omega (arith, l)))

pub returns : goal.returns
returns c = λ q h n.
    let x = h.node c.if-forest.false in
    let l = n.all c.if-forest.false in
    (c.new.ensures ∙ x.1, omega (arith, l, c.args.forest.few))
