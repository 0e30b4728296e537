use Rattle.std.proofs.Common.{◌∙◌, ap, refl, ◌∷◌, suc, sym, subst}
use Rattle.h_terms.specs.declared.node.HForm.TheVariants as F
use Rattle.c_terms.specs.Stream as S
use Rattle.h_pass.specs.declared.state.Open.{Open}
use Rattle.h_pass.proofs.state.Walk.choose.Goals as goal
use Rattle.calc_core.specs.Row.{top}
use Rattle.h_pass.proofs.Stepping.{due, emits, some_long}
use Rattle.h_pass.specs.Stream.{is_some}
use Rattle.h_pass.specs.Walk.{Walked}

pub returns : goal.returns
returns c = λ rest p st.
    let ds = c.args.self.now.current.depths.items in
    let same = c.in_ok-emit.ensures.same in
    let deep =
    c.in_ok-push_front.ensures.items ∙ ap (λ n. n ∷ c.emit.new.self.depths.items) c.depth-here.ensures
    ∙ ap (λ (x : Open). top 0 x.depths.items ∷ x.depths.items) same in
    subst (λ (x : Open). Walked (record c.args.self.now { current = record x { depths = c.push_front.new.self } }) rest
    p) (sym same)
    (emits F.If0 is_some c.args.self.now.current.parts S.MIf (λ xs. top 0 xs ∷ xs) rest _ _ ds _ _ _ _ _ _ _ _ _ p
    c.in_ok-emit.ensures.nodes c.in_ok-emit.ensures.parts deep due (λ s. ap suc (some_long ds s))
    (λ ns b own xs vs w fs. refl) st)
