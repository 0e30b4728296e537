-- Where type variables stand.
use Rattle.std.specs.Prelude.{ℕ, suc}
use Rattle.calc_core.specs.Ends.{lift, under}
use Rattle.calc_core.specs.Levels.{level_of}
use Rattle.c_rules.specs.Know as W
use Rattle.c_emit.specs.declared.names.Side.{Side}
use Rattle.c_emit.specs.declared.names.Renaming.{Renaming}
use Rattle.c_emit.specs.declared.names.Renaming.TheVariants as R

abbrev pub side : Side → W.Side
side f = record { depth = f.depth; owes = f.owes; kept = f.kept.list.items; calling = f.calling }

abbrev pub plain : W.Side → ℕ → ℕ
plain f i = under f.owes (λ j. W.above (level_of f.depth j) f.kept) i

-- where each type variable stands
abbrev pub renaming : Renaming → ℕ → ℕ
renaming (R.Here s m) i = W.side_var (side s.now) (lift m i)
renaming (R.Outside s m) i = W.outer_var (side s.now) (lift m i)
renaming (R.Under' n p rest) i = under n (λ j. suc (renaming rest j)) i
renaming (R.Within' p rest) i = under 1 (renaming rest) i
