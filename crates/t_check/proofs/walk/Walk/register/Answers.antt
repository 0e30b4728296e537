use Rattle.std.proofs.Common.{refl}
use Rattle.t_check.proofs.Walking.{still_walks, stands_again, stand_grown}
use Rattle.t_check.proofs.walk.Walk.register.Goals as goal

pub returns-in_err-found-clause-walk : goal.returns-in_err-found-clause-walk
returns-in_err-found-clause-walk c =
    still_walks c.go.new.self _ c.go.ensures.walk refl refl c.in_err-found.ensures.grown c.go.ensures.stand

pub returns-clause-walk : goal.returns-clause-walk
returns-clause-walk c =
    stands_again c.go.new.self _ _ c.go.ensures.walk refl refl c.in_ok-found.ensures.grown refl
    (stand_grown _ _ _ _ c.in_ok-found.ensures.grown c.in_ok-stand.ensures.stands.0)
