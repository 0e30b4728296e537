-- What the walk's state stands for.
use Rattle.std.specs.Prelude.{◌≡◌, ℕ, suc, ◌-◌, ◌≤◌, List, [], ◌∷◌, slice_get, take, option_map}
use Rattle.std.specs.Prelude.{Option, Some, None, Bool, true, false, not, ◌&&◌, ◌++◌}
use Rattle.h_terms.specs.H.{HTm, HBlks, HVal}
use Rattle.calc_core.specs.Row.{top, others}
use Rattle.h_terms.specs.Nodes.{h_block, no_term}
use Rattle.c_terms.specs.Read.{ctree}
use Rattle.a_terms.specs.Tree as a
use Rattle.a_terms.specs.Tree.{ashift}
use Rattle.a_terms.specs.Typing.{aset, or_int}
use Rattle.a_terms.specs.Read.{atree}
use Rattle.a_terms.specs.NodeTrees.{a_value, wrapped}
use Rattle.a_terms.specs.declared.nodes.ABase.{ABase}
use Rattle.a_terms.specs.declared.nodes.ABase.TheVariants.{Var, Int, Label, Data}
use Rattle.a_terms.specs.declared.nodes.AValue.{AValue}
use Rattle.a_laws.specs.Allocate.{Known, all_closed, alloc_t, atype, closed, const_of, h_code, is_pack, data_t}
use Rattle.a_laws.specs.Allocate.{is_const}
use Rattle.a_laws.specs.Allocate.{is_some, n_t}
use Rattle.a_laws.specs.Allocate.{n_v, named, or_zero}
use Rattle.a_pass.specs.declared.state.Kept.{Kept}
use Rattle.a_pass.specs.declared.state.Kept.TheVariants as K
use Rattle.a_pass.specs.declared.state.Name.{Name}
use Rattle.a_pass.specs.declared.state.Noted.{Noted}
use Rattle.a_pass.specs.declared.state.Place.{Place}
use Rattle.a_pass.specs.declared.state.TypeOf.{TypeOf, Row_of-TypeOf, end_of-TypeOf, more_of-TypeOf}
use Rattle.a_pass.specs.declared.state.TypeOf.TheVariants as T
use Rattle.a_pass.specs.declared.state.ConstantOf.{ConstantOf}
use Rattle.a_pass.specs.declared.state.ConstantOf.TheVariants as C
use Rattle.a_pass.specs.declared.state.Seen.{Seen}
use Rattle.a_terms.specs.Meaning.{pick}

-- a value whose variable is given by its level, under d variables
abbrev pub base_at : ℕ → ABase → a.AVal
base_at d (Var l) = a.Var (d - suc l)
base_at d (Int n) = a.Num n
base_at d (Label l) = a.Lab l
base_at d (Data n) = a.Data n

abbrev pub value_at : ℕ → AValue → a.AVal
value_at d v = wrapped (base_at d v.base) v.wraps.items

-- the last one comes first, before others
abbrev pub onto : {X Y : Type 0} → (X → Y) → List Y → List X → List Y
onto f ys [] = ys
onto f ys (x ∷ xs) = onto f (f x ∷ ys) xs

abbrev pub known_name : Name → Known
known_name n = record { level = n.level; constant = option_map a_value n.constant }

-- what is known of the names, innermost first
abbrev pub knowns : List Name → List Known
knowns ns = onto known_name [] ns

-- the type of a name where it was read
abbrev pub kept : Kept → a.ATy
kept (K.Made t) = atree t
kept (K.Lent t) = atype (ctree t.now)

-- a name's type under b type names
abbrev pub typed : ℕ → Name → a.ATy
typed b n = ashift (b - n.under) 0 (kept n.ty)

-- a type that was noted is this one, under b type names
abbrev pub NotesType : ℕ → a.ATy → Noted → Type 0
NotesType b t n = (ashift (b - n.under) 0 (kept n.ty) ≡ t) × (n.under ≤ b)

-- the types of the names, innermost first
abbrev pub scope : ℕ → List Name → List a.ATy
scope b ns = onto (typed b) [] ns

-- the type of a value, where g are those of the names
abbrev mutual
  pub type_of : List a.ATy → TypeOf → a.ATy
  type_of g (T.Own t) = atree t
  type_of g (T.Name i) = or_int (slice_get g i)
  type_of g (T.Lent t) = atype (ctree t.now)
  type_of g (T.Code k) = h_code (Some (h_block k.now))
  type_of g (T.Tuple' n row) = a.ATuple (aset (row_types g row))

  pub row_types : {n : _} → List a.ATy → Row_of-TypeOf n → a.ATys
  row_types g end_of-TypeOf = a.NoATys
  row_types g (more_of-TypeOf t rest) = a.MoreATys (type_of g t) (row_types g rest)

-- types of values
abbrev pub all_of : List a.ATy → List TypeOf → a.ATys
all_of g [] = a.NoATys
all_of g (t ∷ ts) = a.MoreATys (type_of g t) (all_of g ts)

abbrev pub type_in : List a.ATy → Seen → a.ATy
type_in g s = type_of g s.ty

abbrev pub types_in : List a.ATy → List Seen → a.ATys
types_in g [] = a.NoATys
types_in g (s ∷ ss) = a.MoreATys (type_in g s) (types_in g ss)

-- the constant that a value is, where ls are known of the names
abbrev pub constant_of : List Known → ConstantOf → Option a.AVal
constant_of ls C.Open = None
constant_of ls (C.Own v) = Some (a_value v)
constant_of ls (C.Name i) = named (slice_get ls i)

abbrev pub constant_in : List Known → Seen → Option a.AVal
constant_in ls s = constant_of ls s.constant

-- whether all are constants
abbrev pub all_constants : List Known → List Seen → Bool
all_constants ls [] = true
all_constants ls (s ∷ ss) = is_some (constant_in ls s) && all_constants ls ss

-- a label alone
abbrev pub is_bare : a.AVal → Bool
is_bare (a.Lab l) = true
is_bare _ = false

-- what is applied to types, if it is a constant then
abbrev pub of_apply : a.ATys → a.AVal → Option a.AVal
of_apply ts v = pick (is_bare v && all_closed 0 ts) (Some (a.Apply v ts)) None

-- a package of a constant, if it is one
abbrev pub of_pack : a.ATy → a.ATy → Option a.AVal → Option a.AVal
of_pack h s None = None
of_pack h s (Some c) = pick (not (is_pack c) && (closed 0 h && closed 0 s)) (Some (a.Pack h c s)) None

-- a field of a data tuple
abbrev pub field_at : List a.ATy → List Known → Seen → a.AConst
field_at g ls s = record { value = or_zero (constant_in ls s); kind = type_in g s }

-- the constant of a hoisted value, if it is one
abbrev pub constant : List Known → ℕ → HVal → Option a.AVal
constant ls b v = pick (is_const ls v) (Some (const_of ls b v)) None

-- and of values whose data are numbered from b on
abbrev pub constants : List Known → ℕ → List HVal → List (Option a.AVal)
constants ls b [] = []
constants ls b (u ∷ us) = constant ls b u ∷ constants ls (n_v ls b u) us

-- no name has a type from under more type names than there are
abbrev pub Under : ℕ → List Name → Type 0
Under b [] = Unit {0}
Under b (n ∷ ns) = (n.under ≤ b) × Under b ns

-- the terms at these places, of which the first comes next; their data are numbered from b on
abbrev pub pending : HBlks → List Name → List Place → ℕ → List HTm → List a.ATm
pending ks ns [] b ts = []
pending ks ns (p ∷ ps) b ts =
    let g = scope p.binders (take p.names ns) in
    let ls = knowns (take p.names ns) in
    alloc_t ks g ls b p.depth (top no_term ts) ∷ pending ks ns ps (n_t ls b p.depth (top no_term ts)) (others ts)

-- the data of these terms
abbrev pub pending_data : HBlks → List Name → List Place → ℕ → List HTm → List a.AConsts
pending_data ks ns [] b ts = []
pending_data ks ns (p ∷ ps) b ts =
    let g = scope p.binders (take p.names ns) in
    let ls = knowns (take p.names ns) in
    data_t ks g ls b p.depth (top no_term ts)
    ++ pending_data ks ns ps (n_t ls b p.depth (top no_term ts)) (others ts)

-- each place sees a front of the names, the first place the longest
abbrev pub Fit : List Name → ℕ → List Place → Type 0
Fit ns m [] = Unit {0}
Fit ns m (p ∷ ps) = (p.names ≤ m) × Under p.binders (take p.names ns) × Fit ns p.names ps
