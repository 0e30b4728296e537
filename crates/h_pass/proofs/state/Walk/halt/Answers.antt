use Rattle.std.proofs.Common.{refl, ap, ◌∙◌, sym, subst}
use Rattle.h_terms.specs.declared.node.HForm.TheVariants as F
use Rattle.c_terms.specs.Stream as S
use Rattle.h_pass.specs.declared.state.Open.{Open}
use Rattle.h_pass.proofs.state.Walk.halt.Goals as goal
use Rattle.calc_core.specs.Row.{others}
use Rattle.h_pass.proofs.Stepping.{due, emits}
use Rattle.h_pass.specs.Stream.{is_some}
use Rattle.h_pass.specs.Walk.{Walked}

pub returns : goal.returns
returns c = λ rest p st.
    let same = c.in_ok-emit.ensures.same in
    let deep = c.shorten.ensures ∙ ap (λ (x : Open). others x.depths.items) same in
    subst (λ (x : Open). Walked (record c.args.self.now { current = record x { depths = c.shorten.new.depths } }) rest
    p) (sym same)
    (emits F.Halt is_some c.args.self.now.current.parts S.MHalt others rest _ _ _ _ _ _ _ _ _ _ _ _ p
    c.in_ok-emit.ensures.nodes c.in_ok-emit.ensures.parts deep due (λ s. refl) (λ ns b own xs vs w fs. refl) st)
