-- What code generation asks of the terms that are still to come.
use Rattle.std.specs.Prelude.{◌≡◌, ℕ, suc, ◌+◌, ◌&&◌, ◌||◌, ◌==◌, not, ◌++◌, List, [], ◌∷◌, Bool, false}
use Rattle.std.specs.Prelude.{Option, Some, None}
use Rattle.std.specs.BTreeSet.{contains}
use Rattle.std.specs.BTreeMap.{get}
use Rattle.std.specs.Ordering.{nat_cmp}
use Rattle.a_terms.specs.Tree as a
use Rattle.a_terms.specs.NodeTrees.{a_values, a_decl, a_onto, no_term, no_value}
use Rattle.calc_core.specs.Row.{top, others}
use Rattle.a_terms.specs.declared.nodes.AForm.{AForm}
use Rattle.a_terms.specs.declared.nodes.AForm.TheVariants.{Value, Proj, Arith, Unpack, Malloc, Init, Call, If0, Halt}
use Rattle.a_terms.specs.declared.nodes.ANode.{ANode}
use Rattle.t_gen_rules.specs.Gen.{used, uses, uses_decl, wanted, arguments}
pub use Rattle.t_emit.specs.Code.{Listed, both_used, both_names}
use Rattle.t_gen.specs.declared.used.Used.{Used}
use Rattle.t_gen.specs.declared.told.Wants.{Wants}
use Rattle.t_gen.specs.declared.told.Ahead.{Ahead}
use Rattle.t_gen.specs.declared.ahead.Rest.{Rest}

-- whether n is in the set
abbrev pub has : Used → ℕ → Bool
has s n = contains nat_cmp s.keys (n + s.offset)

-- the set has the variables that a term uses
abbrev pub Holds : Used → a.ATm → Type 0
Holds s e = (n : ℕ) → has s n ≡ used e n

-- the number, or else 0
abbrev pub or_zero : Option ℕ → ℕ
or_zero None = 0
or_zero (Some r) = r

-- the register in which variable n is wanted, or 0
abbrev pub wanted_place : Wants → ℕ → ℕ
wanted_place w n = or_zero (get nat_cmp w.registers (n + w.offset))

-- it is where the end of a term wants its variables
abbrev pub Leads : Wants → a.ATm → Type 0
Leads w e = (w.arguments ≡ arguments e) × ((n : ℕ) → wanted_place w n ≡ wanted e n)

-- the newest first
abbrev pub newest : List Rest → List Rest
newest [] = []
newest (s ∷ ss) = newest ss ++ s ∷ []

abbrev pub back : List Ahead → List Ahead
back [] = []
back (w ∷ ws) = back ws ++ w ∷ []

-- whether a number is in a list
abbrev pub mem : List ℕ → ℕ → Bool
mem [] i = false
mem (x ∷ xs) i = (x == i) || mem xs i

-- what is told of a declaration and the rest: whether both names are used, whether the new one is, which variables the
-- declaration uses and the rest does not, and in which register the end wants the new one, with how many arguments
abbrev pub Ending : a.ADecl → a.ATm → Ahead → Type 0
Ending d e w = (w.both ≡ both_names d e) × (w.new ≡ used e 0)
    × ((i : ℕ) → mem w.gone.items i ≡ (uses_decl d i && not (used e (suc i))))
    × (w.wanted ≡ wanted e 0) × (w.arguments ≡ arguments e)

-- one for each term, the first term's last
abbrev pub AllHold : List Rest → List a.ATm → Type 0
AllHold [] ts = Unit {0}
AllHold (s ∷ ss) ts =
    (Holds s.used (top no_term ts) × Leads s.wants (top no_term ts)) × AllHold ss (others ts)

-- what is told of a node whose terms these are: of a declaration, whether both names are used; of a choice, which
-- variables its third part uses
abbrev pub Tells : AForm → List a.AVal → List a.ATm → Ahead → Type 0
Tells Value vs ts w = Ending (a_decl Value vs) (top no_term ts) w
Tells (Proj i) vs ts w = Ending (a_decl (Proj i) vs) (top no_term ts) w
Tells (Arith o) vs ts w = Ending (a_decl (Arith o) vs) (top no_term ts) w
Tells Unpack vs ts w = Ending (a_decl Unpack vs) (top no_term ts) w
Tells (Malloc us) vs ts w = Ending (a_decl (Malloc us) vs) (top no_term ts) w
Tells (Init i) vs ts w = Ending (a_decl (Init i) vs) (top no_term ts) w
Tells (Call us) vs ts w = Unit {0}
Tells If0 vs ts w = Listed (used (top no_term (others ts))) 0 w.third.items
    × ((i : ℕ) →
    mem w.gone.items i
    ≡ ((uses (top no_value vs) i || used (top no_term (others ts)) i) && not (used (top no_term ts) i)))
Tells Halt vs ts w = Unit {0}

-- so of each node
abbrev pub Told : List ANode → List Ahead → Type 0
Told [] [] = Unit {0}
Told [] (w ∷ ws) = ⊥
Told (n ∷ ns) [] = ⊥
Told (n ∷ ns) (w ∷ ws) = Tells n.form (a_values n.values.items) (a_onto ns []) w × Told ns ws
