-- What the closed calculus shows of its types, as the laws of its crate say it.
use Rattle.calc_core.specs.Laws.{LiftIsShift, FirstIsPut, InIsBelow}
use Rattle.c_terms.specs.Laws.{CPutIsPut}
use Rattle.c_terms.specs.Puts.{OneByOne}

pub record CLaws : Type 0 where
  pub lifts : LiftIsShift
  pub puts : FirstIsPut
  pub one : CPutIsPut
  pub scopes : InIsBelow
  pub by_one : OneByOne
