-- What a bound on registers keeps.
use Rattle.std.specs.Prelude.{ℕ, ◌+◌, ◌≤◌}
use Rattle.t_terms.specs.Tree.{TProg}
use Rattle.t_terms.specs.Whole.{WellFormedProgram}
use Rattle.t_rules.specs.Rules.{Accepted}
use Rattle.t_rules.specs.Machine.{Place}
use Rattle.t_terms.specs.Nesting.{nesting}
use Rattle.t_spill_laws.specs.Bound.{RegistersUpTo}
use Rattle.t_spill_laws.specs.Correct.{HaltsAlike, CountsKept}
use Rattle.t_terms.specs.Flat.{Flat}
use Rattle.t_spill_laws.specs.Reach.{reach}

-- what holds of a program and one whose places come from its places: accepted and well formed, no register above k, the
-- same meaning, no place executed too often, and a text that is hardly deeper than the types of the program
pub record Spills (k : ℕ) (P Q : TProg) (from : Place → Place) : Type 0 where
  pub accepted : Accepted Q
  pub whole : WellFormedProgram Q
  pub few : RegistersUpTo k Q
  pub alike : HaltsAlike P Q
  pub counts : CountsKept P Q from
  pub shallow : Flat P → nesting Q ≤ reach P + 20
