-- What becomes of a word, by the value that tells it, and by whether the next instruction stores into its tuple.
use Rattle.std.specs.Prelude.{ℕ, nat_lt, cond, Bool}
use Rattle.t_terms.specs.Tree.{TInstr, Bnz, Unpack}
use Rattle.t_spill_rules.specs.Spill.{Way as TheWay, Stays as ToStay, Holds as ToHold, Fills as ToFill}
use Rattle.t_spill_rules.specs.Spill.{Gathers as ToGather, most_slots, defines}
use Rattle.t_spill.specs.declared.way.Way.{Way}
use Rattle.t_spill.specs.declared.way.Way.TheVariants.{Stays, Holds, Fills, Gathers}

abbrev pub way_tree : Way → TheWay
way_tree Stays = ToStay
way_tree Holds = ToHold
way_tree Fills = ToFill
way_tree Gathers = ToGather

abbrev pub way_by : ℕ → ℕ → ℕ → Bool → TheWay
way_by m used rd stored =
    cond (nat_lt m rd) (cond (nat_lt used most_slots) (cond stored ToHold ToFill) ToGather) ToStay

abbrev pub way_when : ℕ → ℕ → TInstr → Bool → TheWay
way_when m used (Bnz r v) stored = ToStay
way_when m used (Unpack rd v) stored = ToGather
way_when m used i stored = way_by m used (defines i) stored
