-- The type names in scope, one after the other.
use Rattle.std.proofs.Common.{◌≡◌, ℕ, suc, List, [], ◌∷◌, ◌++◌, map, sym, ap}
use Rattle.t_types.specs.Read.{tree}
use Rattle.t_types.specs.declared.types.TType.{TType}
use Rattle.t_types.specs.declared.types.TType.TheVariants.{Var}
use Rattle.t_gen_rules.specs.Gen.{tvars}

pub names_step : (xs : List TType) (n m : ℕ) → n ≡ suc m → map tree (xs ++ Var m ∷ []) ++ tvars m ≡ map tree xs
    ++ tvars n
names_step [] n m e = ap tvars (sym e)
names_step (x ∷ xs) n m e = ap (λ ts. tree x ∷ ts) (names_step xs n m e)
