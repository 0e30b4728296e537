use Rattle.std.proofs.Common.{◌∷◌}
use Rattle.c_terms.specs.Stream as S
use Rattle.h_pass.proofs.state.Walk.turn.Goals as goal
use Rattle.h_pass.proofs.Stepping.{else_goes}

pub returns : goal.returns
returns c = λ rest p st.
    else_goes rest _ _ _ _ c.finish_call.new.self.current.call _ _ _ _ _ p c.in_ok-finish_call.ensures.none
    (c.in_ok-finish_call.ensures.goes (S.MElse ∷ rest) tt p st)
