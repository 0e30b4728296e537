-- The terms that are still to be written, each with what is around it.
use Rattle.std.specs.Prelude.{◌≡◌, ◌≤◌, ℕ, ◌+◌, ◌-◌, Bool, true, false, List, [], ◌∷◌, ◌++◌, codes, length, take}
use Rattle.std.specs.Prelude.{reverse}
use Rattle.c_terms.specs.C.{CTy}
use Rattle.c_terms.specs.Read.{ctys}
use Rattle.h_terms.specs.H.{HBlks, HDecl, HLet, HTm, HVal}
use Rattle.h_terms.specs.Nodes.{no_term, no_value, tied}
use Rattle.calc_core.specs.Row.{others, top}
use Rattle.h_terms.specs.declared.node.HForm.{HForm}
use Rattle.h_terms.specs.declared.node.HForm.TheVariants as H
use Rattle.let_types.specs.Hoisted.{decl_of}
use Rattle.let_types.specs.Names.{scope, Under}
use Rattle.let_types.specs.declared.named.Named.{Named}
use Rattle.h_notation.specs.Notation.{call_text, decl_text, if_text, line, term_text, value_text}
use Rattle.h_notation.specs.declared.scope.Scope.{Scope}

-- the line before the second branch of an `if0`, whose level is k
abbrev pub else_text : Bool → ℕ → List ℕ
else_text true k = line (k - 1) (codes "else")
else_text false k = []

abbrev pub opening : Scope → List ℕ
opening s = else_text s.second s.level

-- the types of the names that are in scope there
abbrev pub types_at : List Named → Scope → List CTy
types_at es s = scope s.types (take s.names es)

-- terms in turn, each in its scope
abbrev pub terms_text : Bool → HBlks → List Named → List Scope → List HTm → List ℕ
terms_text b ks es [] ts = []
terms_text b ks es (s ∷ ss) ts =
    opening s
    ++ (term_text b ks (types_at es s) s.types s.names s.level (top no_term ts)
    ++ terms_text b ks es ss (others ts))

-- each scope sees a front of the names, the first one the longest
abbrev pub Fit : List Named → ℕ → List Scope → Type 0
Fit es m [] = Unit {0}
Fit es m (s ∷ ss) = (s.names ≤ m) × Under s.types (take s.names es) × Fit es s.names ss

-- what a node says on its line, inside n type names and m value names, and behind the name that it gives
abbrev pub form_text : ℕ → ℕ → List ℕ → HForm → List HVal → List ℕ
form_text n m note (H.Call us) vs = call_text n m (top no_value vs) (ctys us.items) (tied (others vs))
form_text n m note H.If0 vs = if_text n m (top no_value vs)
form_text n m note H.Halt vs = codes "halt " ++ value_text n m (top no_value vs)
form_text n m note f vs = decl_text n m note (decl_of f vs)

-- all that is written at a node
abbrev pub node_text : Scope → List ℕ → HForm → List HVal → List ℕ
node_text s note f vs = opening s ++ line s.level (form_text s.types s.names note f vs)

-- the scope behind a declaration, with so many type names
abbrev pub behind : ℕ → Scope → Scope
behind types s = record { types = types; names = s.names + 1; level = s.level; second = false }

-- the scope of a branch
abbrev pub branch : Bool → Scope → Scope
branch second s = record { types = s.types; names = s.names; level = s.level + 1; second = second }

-- the scopes of the terms below a node that declares nothing
abbrev pub below : HForm → Scope → List Scope
below H.If0 s = branch false s ∷ (branch true s ∷ [])
below _ s = []

-- a declaration before terms
abbrev pub h_let : HDecl → List HTm → List HTm
h_let x ts = HLet x (top no_term ts) ∷ others ts

-- what one node does in a scope, above others, where `build` makes its term and the terms behind it of those behind it
pub record Stepped (b : Bool) (ks : HBlks) (s : Scope) (build : List HTm → List HTm) (kids : ℕ) (es fs : List Named)
    (old new : List Scope) (before after : List ℕ) : Type 0 where
  pub written : (ts : List HTm) →
      after ++ terms_text b ks fs (reverse new) ts ≡ before ++ terms_text b ks es (s ∷ reverse old) (build ts)
  pub fit : Fit fs (length fs) (reverse new)
  pub count : length new ≡ kids + length old

-- the names are those of the scope, and of the scopes below it
pub record Ready (es : List Named) (s : Scope) (old : List Scope) : Type 0 where
  pub all : length es ≡ s.names
  pub fit : Fit es (length es) (s ∷ reverse old)

-- how many values a node has at least
abbrev pub least : HForm → ℕ
least (H.Arith o) = 2
least H.Set = 2
least _ = 1
