-- Where values are wanted.
use Rattle.std.proofs.Common.{◌≡◌, ℕ, List, [], ◌∷◌, length, drop, refl}
use Rattle.std.specs.Prelude.{false, None}
use Rattle.std.specs.Ordering.{nat_cmp}
use Rattle.std.specs.BTreeMap.{BTreeMap, get}
use Rattle.a_terms.specs.Tree as a
use Rattle.a_terms.specs.NodeTrees.{a_values}
use Rattle.a_terms.specs.declared.nodes.AValue.{AValue}
use Rattle.t_gen_rules.specs.Gen.{names, argument}
use Rattle.t_emit.specs.Code.{bare_var}
use Rattle.t_gen.specs.Uses.{or_zero}

pub names_none : (v : a.AVal) (i : ℕ) → None ≡ bare_var v → names v i ≡ false
names_none (a.Var j) i e = cc
names_none (a.Num j) i e = refl
names_none (a.Lab j) i e = refl
names_none (a.Data j) i e = refl
names_none (a.Apply v ts) i e = refl
names_none (a.Pack h v s) i e = refl

-- the arguments from the last one to the first
abbrev pub Wished : BTreeMap ℕ ℕ → ℕ → List AValue → Type 0
Wished g left vs = (n : ℕ) → or_zero (get nat_cmp g n) ≡ argument left (a_values (drop left vs)) n

drop_none : (vs : List AValue) (k n : ℕ) → argument k (a_values (drop (length vs) vs)) n ≡ 0
drop_none [] k n = refl
drop_none (v ∷ vs) k n = drop_none vs k n
