use Rattle.std.proofs.Common.{◌≡◌, ℕ, List, [], ◌∷◌, drop, refl, ◌∙◌}
use Rattle.calc_core.specs.Row.{others}
use Rattle.h_pass.proofs.parts.shorten.Goals as goal

dropped : (xs : List ℕ) → drop 1 xs ≡ others xs
dropped [] = refl
dropped (x ∷ xs) = refl

pub returns : goal.returns
returns c = c.pop_front.ensures.rest ∙ dropped c.args.depths.now.items
