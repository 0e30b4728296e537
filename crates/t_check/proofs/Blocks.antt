-- The blocks and the data of a program, by place.
use Rattle.std.proofs.Common.{◌≡◌, ℕ, zero, suc, ◌<◌, List, [], ◌∷◌, length, sym, get_or, arith, subst}
use Rattle.t_types.specs.Read.{tree, types}
use Rattle.t_types.specs.WellFormed.{WellFormedTypes}
use Rattle.t_types.specs.Tree.{BelowTypes}
use Rattle.t_types.proofs.Scope.{well_formed_below}
use Rattle.t_types.specs.declared.types.TType.{TType}
use Rattle.t_terms.specs.Read.{block, blocks_of, data_of, spanned_data}
use Rattle.t_terms.specs.Spanned.{plain_fields}
use Rattle.t_terms.specs.Whole.{WellFormedBlock, WellFormedBlocks, WellFormedData, WellFormedHeap, WellFormedProgram}
use Rattle.t_terms.specs.declared.block.Block.{Block}
use Rattle.t_terms.specs.declared.data.Data.{Data}
use Rattle.t_terms.specs.declared.program.TProgram.{TProgram}
use Rattle.t_terms.specs.ReadProgram.{program}
use Rattle.t_terms.proofs.Blocks.{blocks_count, data_count}
use Rattle.t_check.specs.Verdict.{FormedBlock, FormedData}

well_formed_at : (p q : ℕ) (bs : List Block) (l : ℕ) (x : Block) → l < length bs → x ≡ get_or bs l x →
    WellFormedBlocks p q (blocks_of bs) → WellFormedBlock p q (block x)
well_formed_at p q [] l x lt is h = absurd (omega arith)
well_formed_at p q (b ∷ bs) zero x lt is h = subst (λ (y : Block). WellFormedBlock p q (block y)) (sym is) h.0
well_formed_at p q (b ∷ bs) (suc l) x lt is h = well_formed_at p q bs l x (omega arith) is h.1

pub formed_at : (p : TProgram) (l : ℕ) (x : Block) → l < length p.blocks.items → x ≡ get_or p.blocks.items l x →
    WellFormedProgram (program p) → FormedBlock p (block x)
formed_at p l x lt is h =
    subst (λ n. WellFormedBlock n (length p.heap.items) (block x)) (blocks_count p.blocks.items)
    (subst (λ n. WellFormedBlock (length (blocks_of p.blocks.items)) n (block x)) (data_count p.heap.items)
    (well_formed_at (length (blocks_of p.blocks.items)) (length (data_of p.heap.items)) p.blocks.items l x lt is h.1))

-- a data tuple of a program
well_data_at : (p q : ℕ) (xs : List Data) (d : ℕ) (x : Data) → d < length xs → x ≡ get_or xs d x →
    WellFormedHeap p q (data_of xs) → WellFormedData p q (plain_fields (spanned_data x).fields)
well_data_at p q [] d x lt is h = absurd (omega arith)
well_data_at p q (y ∷ xs) zero x lt is h =
    subst (λ (z : Data). WellFormedData p q (plain_fields (spanned_data z).fields)) (sym is) h.0
well_data_at p q (y ∷ xs) (suc d) x lt is h = well_data_at p q xs d x (omega arith) is h.1

pub formed_data_at : (p : TProgram) (d : ℕ) (x : Data) → d < length p.heap.items → x ≡ get_or p.heap.items d x →
    WellFormedProgram (program p) → FormedData p (spanned_data x).fields
formed_data_at p d x lt is h =
    subst (λ n. WellFormedData n (length p.heap.items) (plain_fields (spanned_data x).fields))
    (blocks_count p.blocks.items)
    (subst (λ n. WellFormedData (length (blocks_of p.blocks.items)) n (plain_fields (spanned_data x).fields))
    (data_count p.heap.items)
    (well_data_at (length (blocks_of p.blocks.items)) (length (data_of p.heap.items)) p.heap.items d x lt is h.2))

pub types_below : (n : ℕ) (ts : List TType) → WellFormedTypes n (types ts) → BelowTypes n (types ts)
types_below n [] h = tt
types_below n (t ∷ ts) h = (well_formed_below n (tree t) h.0, types_below n ts h.1)
