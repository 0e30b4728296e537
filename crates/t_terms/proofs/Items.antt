-- Blocks and data by their places.
use Rattle.std.proofs.Common.{◌≡◌, ◌++◌, ◌∷◌, ◌<◌, ℕ, zero, suc, List, [], length, get_or, slice_get, Some, refl, sym}
use Rattle.std.proofs.Common.{ap, arith}
use Rattle.t_terms.specs.Tree.{TBlock}
use Rattle.t_terms.specs.Spanned.{plain_fields}
use Rattle.t_terms.specs.Read.{block, blocks_of, data_of, spanned_data}
use Rattle.t_terms.specs.declared.block.Block.{Block}
use Rattle.t_terms.specs.declared.data.Data.{Data}

pub block_at : (bs : List Block) (l : ℕ) (x : Block) → l < length bs → x ≡ get_or bs l x →
    slice_get (blocks_of bs) l ≡ Some (block x)
block_at [] l x lt is = absurd (omega arith)
block_at (b ∷ bs) zero x lt is = ap (λ (y : Block). Some (block y)) (sym is)
block_at (b ∷ bs) (suc l) x lt is = block_at bs l x (omega arith) is

pub blocks_more : (bs : List Block) (b : Block) → blocks_of (bs ++ b ∷ []) ≡ blocks_of bs ++ block b ∷ []
blocks_more [] b = refl
blocks_more (x ∷ bs) b = ap (λ (ys : List TBlock). block x ∷ ys) (blocks_more bs b)

pub data_at : (xs : List Data) (d : ℕ) (x : Data) → d < length xs → x ≡ get_or xs d x →
    slice_get (data_of xs) d ≡ Some (plain_fields (spanned_data x).fields)
data_at [] d x lt is = absurd (omega arith)
data_at (y ∷ xs) zero x lt is = ap (λ (z : Data). Some (plain_fields (spanned_data z).fields)) (sym is)
data_at (y ∷ xs) (suc d) x lt is = data_at xs d x (omega arith) is
