-- The plain states of the walks.
use Rattle.std.specs.Prelude.{ℕ, List, [], ◌∷◌}
use Rattle.c_rules.specs.declared.levels.Levels.{Levels}
use Rattle.c_rules.specs.Sweep as W
use Rattle.c_rules.specs.TSweep as T
use Rattle.c_emit.specs.declared.free_state.TSweep.{TSweep}
use Rattle.c_emit.specs.declared.free_state.Found.{Found}
use Rattle.c_emit.specs.declared.free_state.Sweep.{Sweep}
use Rattle.std.proofs.Common.{Vec, Global}

abbrev pub founds : List Found → List W.Found
founds [] = []
founds (f ∷ fs) = (let g : W.Found = record { kept = f.kept.list.items; own = f.own } in g) ∷ founds fs

abbrev pub met : List (Vec ℕ Global) → List (List ℕ)
met [] = []
met (v ∷ vs) = v.items ∷ met vs

abbrev pub lists : List Levels → List (List ℕ)
lists [] = []
lists (v ∷ vs) = v.list.items ∷ lists vs

abbrev pub state : Sweep → W.Swept
state s = record { current = s.current.items; outer = met s.outer.items; found = founds s.found.items }

abbrev pub tstate : TSweep → T.TSwept
tstate s = record { current = s.current.items; outer = met s.outer.items; found = lists s.found.items }
