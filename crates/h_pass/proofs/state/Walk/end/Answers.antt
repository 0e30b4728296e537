use Rattle.std.proofs.Common.{◌∷◌}
use Rattle.c_terms.specs.Stream as S
use Rattle.h_pass.proofs.state.Walk.end.Goals as goal

pub returns : goal.returns
returns c = λ rest p st. c.close.ensures c.in_ok-finish_call.ensures.none rest p
    (c.in_ok-finish_call.ensures.goes (S.MEnd ∷ rest) tt p st)
