-- The terms that are still to be written, each with what is around it.
use Rattle.std.specs.Prelude.{◌≡◌, ◌≤◌, ℕ, ◌+◌, ◌-◌, Bool, true, false, List, [], ◌∷◌, ◌++◌, codes, length, take}
use Rattle.std.specs.Prelude.{reverse}
use Rattle.a_terms.specs.Tree.{AVal, AProg, ATm, ATy}
use Rattle.a_terms.specs.Read.{atrees}
use Rattle.calc_core.specs.Row.{others, top}
use Rattle.a_terms.specs.NodeTrees.{a_decl, no_term, no_value}
use Rattle.a_terms.specs.declared.nodes.AForm.{AForm}
use Rattle.a_terms.specs.declared.nodes.AForm.TheVariants.{Value, Proj, Arith, Unpack, Malloc, Init, Call, If0, Halt}
use Rattle.a_scope.specs.Scope.{scope, Under}
use Rattle.a_scope.specs.declared.scope.Entry.{Entry}
use Rattle.a_notation.specs.Notation.{call_text, decl_text, if_text, line, term_text, value_text}
use Rattle.a_notation.specs.declared.scope.Scope.{Scope}

-- the line before the second branch of an `if0`, whose level is k
abbrev pub else_text : Bool → ℕ → List ℕ
else_text true k = line (k - 1) (codes "else")
else_text false k = []

abbrev pub opening : Scope → List ℕ
opening s = else_text s.second s.level

-- the types of the variables that are in scope there
abbrev pub types_at : List Entry → Scope → List ATy
types_at es s = scope s.types (take s.names es)

-- terms in turn, each in its scope
abbrev pub terms_text : Bool → AProg → List Entry → List Scope → List ATm → List ℕ
terms_text b p es [] ts = []
terms_text b p es (s ∷ ss) ts =
    opening s
    ++ (term_text b p (types_at es s) s.types s.names s.level (top no_term ts) ++ terms_text b p es ss (others ts))

-- each scope sees a front of the variables, the first one the longest
abbrev pub Fit : List Entry → ℕ → List Scope → Type 0
Fit es m [] = Unit {0}
Fit es m (s ∷ ss) = (s.names ≤ m) × Under s.types (take s.names es) × Fit es s.names ss

-- what a node says on its line, inside n type names and m value names, and behind the name that it gives
abbrev pub form_text : ℕ → ℕ → List ℕ → AForm → List AVal → List ℕ
form_text n m note Value vs = decl_text n m note (a_decl Value vs)
form_text n m note (Proj i) vs = decl_text n m note (a_decl (Proj i) vs)
form_text n m note (Arith o) vs = decl_text n m note (a_decl (Arith o) vs)
form_text n m note Unpack vs = decl_text n m note (a_decl Unpack vs)
form_text n m note (Malloc us) vs = decl_text n m note (a_decl (Malloc us) vs)
form_text n m note (Init i) vs = decl_text n m note (a_decl (Init i) vs)
form_text n m note (Call us) vs = call_text n m (top no_value vs) (atrees us.items) (others vs)
form_text n m note If0 vs = if_text n m (top no_value vs)
form_text n m note Halt vs = codes "halt " ++ value_text n m (top no_value vs)

-- all that is written at a node
abbrev pub node_text : Scope → List ℕ → AForm → List AVal → List ℕ
node_text s note f vs = opening s ++ line s.level (form_text s.types s.names note f vs)

-- the scope behind a declaration, with so many type names
abbrev pub behind : ℕ → Scope → Scope
behind types s = record { types = types; names = s.names + 1; level = s.level; second = false }

-- the scope of a branch
abbrev pub branch : Bool → Scope → Scope
branch second s = record { types = s.types; names = s.names; level = s.level + 1; second = second }

-- the scopes of the terms below a node that declares nothing
abbrev pub below : AForm → Scope → List Scope
below If0 s = branch false s ∷ (branch true s ∷ [])
below _ s = []

-- what one node does in a scope, above others, where `build` makes its term and the terms behind it of those behind it
pub record Stepped (b : Bool) (p : AProg) (s : Scope) (build : List ATm → List ATm) (kids : ℕ) (es fs : List Entry)
    (old new : List Scope) (before after : List ℕ) : Type 0 where
  pub written : (ts : List ATm) →
      after ++ terms_text b p fs (reverse new) ts ≡ before ++ terms_text b p es (s ∷ reverse old) (build ts)
  pub fit : Fit fs (length fs) (reverse new)
  pub count : length new ≡ kids + length old

-- the variables are those of the scope, and of the scopes below it
pub record Ready (es : List Entry) (s : Scope) (old : List Scope) : Type 0 where
  pub all : length es ≡ s.names
  pub fit : Fit es (length es) (s ∷ reverse old)

-- how many values a node has at least
abbrev pub least : AForm → ℕ
least Value = 1
least (Proj i) = 1
least (Arith o) = 2
least Unpack = 1
least (Malloc us) = 0
least (Init i) = 2
least (Call us) = 1
least If0 = 1
least Halt = 1
