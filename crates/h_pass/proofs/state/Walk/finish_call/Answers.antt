use Rattle.std.proofs.Common.{◌≡◌, Some, None, rules, ap, ◌∙◌, sym, subst}
use Rattle.h_pass.specs.declared.state.Open.{Open}
use Rattle.calc_core.specs.Row.{others}
use Rattle.h_pass.proofs.state.Walk.finish_call.Goals as goal
use Rattle.h_pass.proofs.Stepping.{calls}
use Rattle.h_pass.specs.Walk.{Walked}

pub returns-in_ok-emit-in-Some-clause-goes : goal.returns-in_ok-emit-in-Some-clause-goes
returns-in_ok-emit-in-Some-clause-goes c = λ rest ends p st.
    let same = c.in_ok-emit-in-Some.ensures.same in
    let was : c.args.self.now.current.call ≡ Some c.in-Some.types = search rules in
    let now : c.replace.new.dest ≡ None = search rules in
    let deep = c.shorten.ensures ∙ ap (λ (x : Open). others x.depths.items) same in
    subst (λ (x : Open). Walked (record c.args.self.now { current = record x { depths = c.shorten.new.depths } }) rest
    p) (sym same)
    (calls c.in-Some.types c.args.self.now.current.parts rest _ _ _ _ _ _ _ _ _ _ _ _ _ _ ends was now
    c.in_ok-emit-in-Some.ensures.nodes c.in_ok-emit-in-Some.ensures.parts deep st)

pub returns-in_ok-emit-in-Some-clause-none : goal.returns-in_ok-emit-in-Some-clause-none
returns-in_ok-emit-in-Some-clause-none c =
    let now : c.replace.new.dest ≡ None = search rules in
    ap (λ (x : Open). x.call) c.in_ok-emit-in-Some.ensures.same ∙ now
