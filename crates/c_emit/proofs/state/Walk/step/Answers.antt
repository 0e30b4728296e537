use Rattle.std.proofs.Common.{rules, ◌≡◌, ◌∷◌, ◌∙◌, ap, sym, length}
use Rattle.k_terms.specs.Read.{knode, ktree, ktys}
use Rattle.c_emit.specs.Walked.{walked}
use Rattle.c_emit.proofs.state.Walk.step.Goals as goal
use Rattle.calc_core.proofs.Trees.{count_length as count_ktys}

pub returns-in_ok-open-in-Code : goal.returns-in_ok-open-in-Code
returns-in_ok-open-in-Code c = λ rest.
    let n : c.len.result ≡ length c.in-Code.args.items = search rules in
    c.in_ok-open-in-Code.ensures rest c.in-Code.depth c.in-Code.owes (ktys c.in-Code.args.items)
    (count_ktys c.in-Code.args.items ∙ sym n)
    ∙ ap (λ n. walked c.args.self.now (knode n ∷ rest)) (sym c.in-Code.is)

pub returns-in_ok-pack-in-Pack : goal.returns-in_ok-pack-in-Pack
returns-in_ok-pack-in-Pack c = λ rest.
    c.in_ok-pack-in-Pack.ensures rest c.in-Pack.depth (ktree c.in-Pack.hidden) (ktree c.in-Pack.shape)
    ∙ ap (λ n. walked c.args.self.now (knode n ∷ rest)) (sym c.in-Pack.is)

pub returns-in_ok-call-in-Call : goal.returns-in_ok-call-in-Call
returns-in_ok-call-in-Call c = λ rest.
    c.in_ok-call-in-Call.ensures rest c.in-Call.depth (ktys c.in-Call.types.items)
    ∙ ap (λ n. walked c.args.self.now (knode n ∷ rest)) (sym c.in-Call.is)

pub returns-in_ok-project-in-Proj : goal.returns-in_ok-project-in-Proj
returns-in_ok-project-in-Proj c = λ rest.
    c.in_ok-project-in-Proj.ensures rest (ktree c.in-Proj.ty)
    ∙ ap (λ n. walked c.args.self.now (knode n ∷ rest)) (sym c.in-Proj.is)

pub returns-in_ok-operate-in-Arith : goal.returns-in_ok-operate-in-Arith
returns-in_ok-operate-in-Arith c = λ rest.
    c.in_ok-operate-in-Arith.ensures rest
    ∙ ap (λ n. walked c.args.self.now (knode n ∷ rest)) (sym c.in-Arith.is)
