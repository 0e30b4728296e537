-- Labels in a map: each with what the first item that has it is.
use Rattle.std.specs.Prelude.{◌≡◌, ℕ, Bool, false, nat_eq, List, map, bytes_eq, Option, Some, None, option_map}
use Rattle.std.specs.Borrow.{Bor}
use Rattle.idx_core.specs.Names.{Name}
use Rattle.indexmap.specs.IndexMap.{IndexMap, get_by}
use Rattle.t_terms.specs.Tree.{TBase, Label, Data}
use Rattle.t_text.specs.Names.{Labels, named_by}
use Rattle.t_reader.specs.declared.target.Target.{Target}
use Rattle.t_reader.specs.declared.target.Target.TheVariants as T

-- what a label names as a base of values
abbrev pub target_base : Target → TBase
target_base (T.Block k) = Label k
target_base (T.Data d) = Data d

abbrev pub named_base : Option Target → Option TBase
named_base o = option_map target_base o

-- the labels of a map, each with what it names
abbrev pub labels_in_map : {S : Type 0} → IndexMap (Bor (List ℕ)) Target S → Labels
labels_in_map targets = map (λ e. (e.0.now, target_base e.1)) targets.entries

-- this is what a label names, or it names nothing
abbrev pub IsTargetOf : Name → Labels → Option Target → Type 0
IsTargetOf x ls o = named_by x ls ≡ named_base o

-- by both lists each label names the same
abbrev pub NameTheSame : Labels → Labels → Type 0
NameTheSame ls ms = (x : Name) → named_by x ls ≡ named_by x ms

-- in the map each label has what it names by the list, and no other label is in it
abbrev pub HasFirsts : {S : Type 0} → IndexMap (Bor (List ℕ)) Target S → Labels → Type 0
HasFirsts targets ls = (x : Name) → named_base (get_by (λ k. bytes_eq x k.now) targets) ≡ named_by x ls

-- two bases are the same block, or the same data tuple
abbrev pub same_base : TBase → TBase → Bool
same_base (Label i) (Label k) = nat_eq i k
same_base (Data i) (Data k) = nat_eq i k
same_base a b = false

-- what is named is this block, or this data tuple
abbrev pub is_target : TBase → Option TBase → Bool
is_target t None = false
is_target t (Some s) = same_base s t
