-- A place is the place of a state at most as often as its block is entered, the last state of a run included.
use Rattle.std.proofs.Common.{ℕ, ◌≤◌, ◌∷◌, arith}
use Rattle.std.specs.Prelude.{count_by}
use Rattle.t_terms.specs.Tree.{TProg}
use Rattle.t_rules.specs.Machine.{State, Place, After}
use Rattle.t_rules.specs.Times.{places, is_spot, Entries}
use Rattle.t_rules.proofs.Counts.{count_more, times_and_ahead, here_ahead}

-- one step more
pub standing_within_entries : (P : TProg) (m : ℕ) (s : State) (p : Place) (run : After P m s p) (block index : ℕ) →
    count_by (is_spot block index) (p ∷ places P m s p run) ≤ Entries P m s p run block
standing_within_entries P m s p run block index =
    let x = times_and_ahead P m s p run block index in
    let y = here_ahead p block index in
    let z = count_more (is_spot block index) p (places P m s p run) in
    omega (arith, x, y, z)
