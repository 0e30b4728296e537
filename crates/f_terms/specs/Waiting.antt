-- Parts of a term that are still to be looked at, and when the names in them are bound.
use Rattle.std.specs.Prelude.{ℕ, ◌+◌, ◌*◌, ◌<◌, ◌≤◌, ◌↔◌, List, [], ◌∷◌, ◌++◌}
use Rattle.f_terms.specs.Ty.{Below}
use Rattle.f_terms.specs.Tm.{Tm, plain}
use Rattle.f_terms.specs.Limits.{nodes}
use Rattle.f_terms.specs.Scope.{InScope, IsClosed}
use Rattle.f_terms.specs.Read.{tree}
use Rattle.f_terms.specs.ReadTerm.{count, node_at, term_of}
use Rattle.f_terms.specs.Shape.{children}
use Rattle.f_terms.specs.declared.node.FTerm.{FTerm}
use Rattle.f_terms.specs.declared.node.FShape.{FShape}
use Rattle.f_terms.specs.declared.node.FShape.TheVariants.{Var, Fix, Gen, Inst, Let, Pack, Open}
use Rattle.f_terms.specs.declared.admission.Waiting.{Waiting}

-- the names of a form itself, its parts aside, are among n type names and m value names
abbrev pub IsBound : FShape → ℕ → ℕ → Type 0
IsBound (Var i) n m = i < m
IsBound (Fix a r b) n m = Below n (tree a) × Below n (tree r)
IsBound (Inst e t) n m = Below n (tree t)
IsBound (Pack h e t) n m = Below n (tree h) × Below n (tree t)
IsBound _ n m = Unit {0}

-- these nodes wait, with so many names around them
abbrev pub waits : List ℕ → ℕ → ℕ → List Waiting
waits [] n m = []
waits (k ∷ ks) n m = record { at = k; types = n; values = m } ∷ waits ks n m

-- the parts of a form wait, under n type names and m value names and those that it binds
abbrev pub parts_wait : FShape → ℕ → ℕ → List Waiting
parts_wait (Fix a r b) n m = waits (b ∷ []) n (m + 2)
parts_wait (Gen b) n m = waits (b ∷ []) (n + 1) m
parts_wait (Let a b) n m = waits (a ∷ []) n m ++ waits (b ∷ []) n (m + 1)
parts_wait (Open a b) n m = waits (a ∷ []) n m ++ waits (b ∷ []) (n + 1) (m + 1)
parts_wait shape n m = waits (children shape) n m

-- a part's names are bound, where at has the trees of the nodes; and there is room for numbers
abbrev pub PartBound : (ℕ → Tm) → Waiting → Type 0
PartBound at w = InScope (plain (at w.at)) w.types w.values

abbrev pub AllBound : (ℕ → Tm) → List Waiting → Type 0
AllBound at [] = Unit {0}
AllBound at (w ∷ ws) = PartBound at w × AllBound at ws

abbrev pub HasRoom : ℕ → (ℕ → Tm) → Waiting → Type 0
HasRoom size at w = (w.at < size) × (w.types + nodes (plain (at w.at)) ≤ 4294967295)
    × (w.values + 2 * nodes (plain (at w.at)) ≤ 8589934590)

abbrev pub AllRoom : ℕ → (ℕ → Tm) → List Waiting → Type 0
AllRoom size at [] = Unit {0}
AllRoom size at (w ∷ ws) = HasRoom size at w × AllRoom size at ws

-- the nodes that are still to be looked at
abbrev pub waiting_nodes : (ℕ → Tm) → List Waiting → ℕ
waiting_nodes at [] = 0
waiting_nodes at (w ∷ ws) = nodes (plain (at w.at)) + waiting_nodes at ws

-- the parts that wait are bound exactly where the whole term is closed
abbrev pub Holds : FTerm → List Waiting → Type 0
Holds f ws = (AllBound (node_at f) ws ↔ IsClosed (term_of f)) × AllRoom (count f) (node_at f) ws
