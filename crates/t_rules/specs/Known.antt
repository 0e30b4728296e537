-- What typing knows at a place of a program: how many type variables are in scope, and the types of the registers.
use Rattle.std.specs.Prelude.{◌≡◌, ℕ, zero, suc, Option, Some, None, option_and_then, slice_get}
use Rattle.t_types.specs.Fits.{RegTypes, lookup}
use Rattle.t_terms.specs.Tree.{TSeq, Then, Ends, TBlock, TProg, names_after}
use Rattle.t_rules.specs.Rules.{Typed}

-- The sequence begins under n type variables, where g is known of the registers; after its first k instructions there
-- are m type variables, and h is known.
abbrev pub KnownFrom : TProg → ℕ → RegTypes → TSeq → ℕ → ℕ → RegTypes → Type 0
KnownFrom P n g c zero m h = (m ≡ n) × (h ≡ g)
KnownFrom P n g (Then i rest) (suc k) m h =
    (f : RegTypes) × Typed P n g i f × KnownFrom P (names_after i n) f rest k m h
KnownFrom P n g (Ends e) (suc k) m h = ⊥

-- before instruction i of block b (its end, behind the last one) there are n type variables, and g is known
abbrev pub KnownAt : TProg → ℕ → ℕ → ℕ → RegTypes → Type 0
KnownAt P b i n g = (x : TBlock) × (slice_get P.blocks b ≡ Some x) × KnownFrom P x.owes (lookup x.file) x.code i n g

-- the sequence from its instruction k on
abbrev pub seq_from : ℕ → TSeq → Option TSeq
seq_from zero c = Some c
seq_from (suc k) (Then i rest) = seq_from k rest
seq_from (suc k) (Ends e) = None

-- the instructions of a program from a place on
abbrev pub code_at : TProg → ℕ → ℕ → Option TSeq
code_at P b i = option_and_then (λ x. seq_from i x.code) (slice_get P.blocks b)
