-- The blocks and the data of a program: how many they are.
use Rattle.std.proofs.Common.{◌≡◌, suc, List, [], ◌∷◌, length, refl, ap}
use Rattle.t_terms.specs.Read.{blocks_of, data_of}
use Rattle.t_terms.specs.declared.block.Block.{Block}
use Rattle.t_terms.specs.declared.data.Data.{Data}

pub blocks_count : (bs : List Block) → length (blocks_of bs) ≡ length bs
blocks_count [] = refl
blocks_count (b ∷ bs) = ap suc (blocks_count bs)

pub data_count : (xs : List Data) → length (data_of xs) ≡ length xs
data_count [] = refl
data_count (x ∷ xs) = ap suc (data_count xs)
