-- What a walk adds to the nodes.
use Rattle.std.specs.Prelude.{◌≡◌, ◌≤◌, ℕ, suc, List, [], ◌∷◌, ◌++◌, map, option_map, length, Option}
use Rattle.calc_core.specs.Ends.{lift}
use Rattle.h_terms.specs.H.{HBlks, HVal, HTm}
use Rattle.h_terms.specs.Nodes.{tied, h_build, h_kids, HArity}
use Rattle.h_terms.specs.declared.node.HForm.{HForm}
use Rattle.a_terms.specs.Tree as a
use Rattle.a_terms.specs.NodeTrees.{a_consts, a_data, a_onto, a_value}
use Rattle.a_terms.specs.Arity.{ARow}
use Rattle.a_terms.specs.declared.nodes.AForm.{AForm}
use Rattle.a_terms.specs.declared.nodes.AValue.{AValue}
use Rattle.a_terms.specs.declared.nodes.AData.{AData}
use Rattle.a_terms.specs.declared.nodes.ANode.{ANode}
use Rattle.a_laws.specs.Allocate.{Known, data_vs, n_vs, v_type, vals, vs_next, pre_vs}
use Rattle.a_pass.specs.declared.state.Name.{Name}
use Rattle.a_pass.specs.declared.state.Place.{Place}
use Rattle.a_pass.specs.declared.state.Progress.{Progress}
use Rattle.a_pass.specs.declared.state.Run.{Run}
use Rattle.a_pass.specs.declared.state.Seen.{Seen}
use Rattle.a_pass.specs.Scope.{value_at, type_in, constant_in, constants, field_at, onto, knowns, scope, pending}
use Rattle.a_pass.specs.Scope.{pending_data, typed, Fit}

-- declarations that stand for what `pre` puts before a term
pub record Emits (old new : List ANode) (pre : a.ATm → a.ATm) : Type 0 where
  pub nodes : List ANode
  pub is : new ≡ old ++ nodes
  pub terms : (r : a.ATm) (rs : List a.ATm) → a_onto nodes (r ∷ rs) ≡ pre r ∷ rs
  pub row : (rest : List ANode) (n : ℕ) → ARow rest (suc n) → ARow (nodes ++ rest) (suc n)

-- the initialisations of a tuple from field i on, where the tuple has level l
abbrev pub inits : ℕ → ℕ → List AValue → a.ATm → a.ATm
inits l i [] rest = rest
inits l i (v ∷ vs) rest = a.Let (a.Init (a.Var 0) i (value_at (suc l) v)) (inits (suc l) (suc i) vs rest)

-- one more data tuple, of these values
pub record Keeps (g : List a.ATy) (ls : List Known) (fields : List Seen) (old new : List AData) : Type 0 where
  pub tuple : AData
  pub is : new ≡ old ++ tuple ∷ []
  pub values : a_consts tuple.fields.items ≡ map (field_at g ls) fields

-- values that were read from depth d on, and what was put before; their data are numbered from b on
pub record Made (ks : HBlks) (g : List a.ATy) (ls : List Known) (b d : ℕ) (us : List HVal) (begin : List ANode)
    (kept : List AData) (vs : List AValue) (ts : List Seen) (m : ℕ) (now : List ANode) (tuples : List AData) : Type 0
  where
    pub values : (e : ℕ) → map (value_at e) vs ≡ vals ls b d e (tied us)
    pub types : map (type_in g) ts ≡ map (v_type ks g) us
    pub consts : map (constant_in ls) ts ≡ constants ls b us
    pub depth : m ≡ vs_next ls d (tied us)
    pub number : length tuples ≡ n_vs ls b (tied us)
    pub emits : Emits begin now (pre_vs ks g ls b d (tied us))
    pub keeps : a_data tuples ≡ a_data kept ++ data_vs ks g ls b (tied us)

-- a step of the reading: f is what it does to the values that were read
abbrev pub Reads : HBlks → List a.ATy → List Known → (List HVal → List HVal) → List AValue → List Seen → ℕ →
    List ANode → List AData → List AValue → List Seen → ℕ → List ANode → List AData → Type 0
Reads ks g ls f vs ts m now tuples ws us k new more =
    (b d : ℕ) (xs : List HVal) (begin : List ANode) (kept : List AData) →
    Made ks g ls b d xs begin kept vs ts m now tuples → Made ks g ls b d (f xs) begin kept ws us k new more

-- the last place first
abbrev pub tops : List Place → List Place
tops ps = onto (λ p. p) [] ps

-- one more node, which names something
pub record Declares (form : AForm) (vs : List AValue) (ty : a.ATy) (value : Option a.AVal) (depth binders : ℕ)
    (ns : List Name) (ps : List Place) (mid : List ANode) (new : Progress) : Type 0 where
  pub name : Name
  pub place : Place
  pub node : ANode
  pub names : new.names.items ≡ ns ++ name ∷ []
  pub places : new.places.items ≡ ps ++ place ∷ []
  pub nodes : new.nodes.items ≡ mid ++ node ∷ []
  pub level : name.level ≡ depth
  pub type : typed binders name ≡ ty
  pub under : name.under ≤ binders
  pub constant : option_map a_value name.constant ≡ value
  pub deep : place.depth ≡ suc depth
  pub many : place.names ≡ suc (length ns)
  pub bound : place.binders ≡ binders
  pub shape : node.form ≡ form
  pub values : node.values.items ≡ vs

-- one more node
pub record Ends (form : AForm) (vs : List AValue) (old new : List ANode) : Type 0 where
  pub node : ANode
  pub nodes : new ≡ old ++ node ∷ []
  pub shape : node.form ≡ form
  pub values : node.values.items ≡ vs

-- what one node of a term does
pub record Stepped (ks : HBlks) (place : Place) (form : HForm) (us : List HVal) (ns : List Name) (ps : List Place)
    (old : List ANode) (new : Progress) (kept tuples : List AData) : Type 0 where
  pub terms : Fit ns place.names (tops ps) → (ts : List HTm) →
      a_onto new.nodes.items (pending ks new.names.items (tops new.places.items) (length tuples) ts)
      ≡ a_onto old (pending ks ns (place ∷ tops ps) (length kept) (h_build form us ts))
  pub keeps : Fit ns place.names (tops ps) → (ts : List HTm) →
      a_data tuples ++ pending_data ks new.names.items (tops new.places.items) (length tuples) ts
      ≡ a_data kept ++ pending_data ks ns (place ∷ tops ps) (length kept) (h_build form us ts)
  pub fit : Fit ns place.names (tops ps) → Fit new.names.items (length new.names.items) (tops new.places.items)
  pub rows : (m : ℕ) → ((rest : List ANode) → ARow rest (suc (length ps)) → ARow (old ++ rest) m) →
      (rest : List ANode) → ARow rest (length new.places.items) → ARow (new.nodes.items ++ rest) m
  pub count : length new.places.items ≡ lift (h_kids form) (length ps)

-- what a node of this form does to what stands after its values were read, whatever they stand for
abbrev pub Steps : Place → HForm → Run → Progress → Progress → Type 0
Steps place form run old new =
    (ks : HBlks) (us : List HVal) (begin : List ANode) (kept tuples : List AData) →
    Made ks (scope place.binders old.names.items) (knowns old.names.items) (length kept) place.depth us begin kept
    run.values.items run.types.items run.depth old.nodes.items tuples →
    HArity form us → Stepped ks place form us old.names.items old.places.items begin new kept tuples
