-- Trees in a list of nodes: a node names its children by their places, which are before its own.
use Rattle.std.specs.Prelude.{ℕ, ◌+◌, ◌<◌, ◌==◌, if◌then◌else◌, List, [], ◌∷◌, length, slice_index_or}
use Rattle.std.specs.List.{All}

-- f, with t at i
abbrev pub with_one : {T : Type 0} → (ℕ → T) → ℕ → T → ℕ → T
with_one f i t k = if k == i then t else f k

-- the tree of each node, where f has those of the k nodes before
abbrev pub grow : {N T : Type 0} → ((ℕ → T) → N → T) → (ℕ → T) → ℕ → List N → ℕ → T
grow build f k [] = f
grow build f k (n ∷ ns) = grow build (with_one f k (build f n)) (k + 1) ns

-- the tree of each node: build makes a node's tree from those of its children
abbrev pub parts : {N T : Type 0} → T → ((ℕ → T) → N → T) → List N → ℕ → T
parts blank build ns = grow build (λ i. blank) 0 ns

-- children stand before their parents
abbrev pub InOrder : {N : Type 0} → (N → List ℕ) → List N → Type 0
InOrder {N} kids ns = (i : ℕ) (d : N) → i < length ns → All (λ k. k < i) (kids (slice_index_or ns i d))
