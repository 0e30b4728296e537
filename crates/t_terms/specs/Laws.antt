-- Statements on put in values, instructions, sequences and blocks, beside those that every tree with numbered
-- variables has.
use Rattle.std.specs.Prelude.{◌≡◌, ℕ, ◌+◌}
use Rattle.idx_core.specs.Over.{At}
use Rattle.t_types.specs.Tree.{Ty, shift, put_file}
use Rattle.t_terms.specs.Tree.{TValue, Unpack, TSeq, Then, TBlock, over_block, put_value, put_seq, put_block}
use Rattle.t_terms.specs.Spanned.{SBlock, over_spanned, plain}

-- under the variable that an unpack binds the index grows by 1, and what is put is shifted by 1
abbrev pub PutUnderUnpack : Type 0
PutUnderUnpack =
    (at rd : ℕ) (s : Ty) (v : TValue) (rest : TSeq) →
    put_seq at s (Then (Unpack rd v) rest) ≡ Then (Unpack rd (put_value at s v))
    (put_seq (at + 1) (shift 1 0 s) rest)

-- under the types that a block owes, both by their number
abbrev pub PutUnderBlock : Type 0
PutUnderBlock =
    (at : ℕ) (s : Ty) (b : TBlock) → put_block at s b
    ≡ record {
      owes = b.owes;
      file = put_file (at + b.owes) (shift b.owes 0 s) b.file;
      code = put_seq (at + b.owes) (shift b.owes 0 s) b.code;
    }

-- a walk over a block with its places is the walk over the block without
abbrev pub PlacesAside : Type 0
PlacesAside = (f : At Ty) (d : ℕ) (b : SBlock) → plain (over_spanned f d b) ≡ over_block f d (plain b)
