-- What the nodes that are kept stand for.
use Rattle.std.specs.Prelude.{◌≡◌, ℕ, ◌+◌, ◌<◌, ◌≤◌, ◌⊎◌, List, [], ◌∷◌, ◌++◌, map, length, Bool, true, false}
use Rattle.std.specs.List.{All}
use Rattle.idx_core.specs.declared.span.Span.{Span}
use Rattle.f_grammar.specs.Raw.{RawTm, Piece, raw_span, nodes, nodes_all, raw_tms}
use Rattle.f_grammar.specs.Machine.{Val, OfToken, OfTerm, OfTerms, OfType, OfTypes}
use Rattle.f_grammar.specs.Nodes.{tree_at}
use Rattle.f_grammar.specs.declared.raw.RawNode.{RawNode}
use Rattle.f_grammar.specs.declared.raw.RawShape.{RawShape}
use Rattle.f_grammar.specs.declared.forest.Forest.{Forest}
use Rattle.f_grammar.specs.declared.part.Part.{Part}

abbrev pub span_from : ℕ → ℕ → Span
span_from s e = record { start = s; end = e }

-- the number of nodes that are kept, and their trees
abbrev pub size : Forest → ℕ
size b = length b.nodes.items

abbrev pub tree_in : Forest → ℕ → RawTm
tree_in b = tree_at b.nodes.items

-- the node is kept as the last one; or there are more nodes than can be kept
abbrev pub AddsBy : Bool → Forest → Forest → RawNode → Type 0
AddsBy false old new n = (old.full ≡ false) × (new.nodes.items ≡ old.nodes.items ++ n ∷ [])
AddsBy true old new n = (old.full ≡ true) ⊎ (100000 ≤ size old)

abbrev pub Adds : Forest → Forest → RawNode → Type 0
Adds old new n = AddsBy new.full old new n

-- p is the term of a new node
pub record Puts (old new : Forest) (shape : RawShape) (s : Span) (p : Part) : Type 0 where
  pub adds : Adds old new (record { span = s; shape = shape })
  pub node : p.node ≡ size old
  pub place : p.place ≡ s
  pub starts : p.start ≡ s.start
  pub ends : p.end ≡ s.end

-- the forest stores the piece q, whose root is the part p
pub record Stores (b : Forest) (p : Part) (q : Piece) : Type 0 where
  pub node : b.full ≡ false → (p.node < size b) × (tree_in b p.node ≡ q.tree)
  pub place : p.place ≡ raw_span q.tree
  pub starts : p.start ≡ q.start
  pub ends : p.end ≡ q.end

-- nodes with these trees
abbrev pub AreTrees : Forest → List ℕ → List RawTm → Type 0
AreTrees b ks ts = b.full ≡ false → All (λ k. k < size b) ks × (map (tree_in b) ks ≡ ts)

-- the nodes of all terms that were read
abbrev pub nodes_in : List Val → ℕ
nodes_in [] = 0
nodes_in (OfToken c ∷ vs) = nodes_in vs
nodes_in (OfTerm p ∷ vs) = nodes p.tree + nodes_in vs
nodes_in (OfTerms ts ∷ vs) = nodes_all (raw_tms ts) + nodes_in vs
nodes_in (OfType t ∷ vs) = nodes_in vs
nodes_in (OfTypes ts ∷ vs) = nodes_in vs

-- all of them are kept, or they are more than 100000
pub record Counted (b : Forest) (vs : List Val) : Type 0 where
  pub all : b.full ≡ false → size b ≡ nodes_in vs
  pub many : b.full ≡ true → 100000 < nodes_in vs
