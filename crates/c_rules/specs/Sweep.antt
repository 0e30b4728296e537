-- The free variables of each code, by a walk from the last node to the first.
use Rattle.std.specs.Prelude.{ℕ, suc, Bool, true, not, nat_eq, nat_lt, ◌&&◌, List, [], ◌∷◌, ◌++◌}
use Rattle.std.specs.List.{list_any}
use Rattle.calc_core.specs.Ends.{lift}
use Rattle.k_terms.specs.K.{KTys, KVal, KVar, KInt, KTuple, KCode, KVals, NoKVals, MoreKVals, KDecl, KName, KProj}
use Rattle.k_terms.specs.K.{KArith, KPack, KUnpack, KCell, KGet, KSet, KTm, KLet, KCall, KIf, KHalt, kcount}
use Rattle.c_rules.specs.Close.{uses, keeps}
use Rattle.k_terms.specs.Stream.{KNd, NVar, NInt, NTuple, NCode, NEnd, NName, NProj, NArith, NPack, NUnpack, NCell}
use Rattle.k_terms.specs.Stream.{NGet, NSet, NCall, NIf, NElse, NHalt}
use Rattle.calc_core.specs.Levels.{level_of}
use Rattle.c_rules.specs.Emit.{levels, pick_level}

abbrev pub has : ℕ → List ℕ → Bool
has l xs = list_any (λ x. nat_eq l x) xs

-- the levels below d, each once, ascending
abbrev pub known_below : ℕ → List ℕ → List ℕ
known_below d xs = levels (λ i. has (level_of d i) xs) d []

pub record Found : Type 0 where
  pub kept : List ℕ
  pub own : Bool

-- the levels met in the code that is being read, in those around it, and what was found of the codes that were read
pub record Swept : Type 0 where
  pub current : List ℕ
  pub outer : List (List ℕ)
  pub found : List Found

abbrev pub opened_in : ℕ → List ℕ → List (List ℕ) → List Found → Swept
opened_in d xs [] found = record { current = xs; outer = []; found = found }
opened_in d xs (o ∷ os) found =
    record {
      current = o ++ known_below d xs;
      outer = os;
      found = (let f : Found = record { kept = known_below d xs; own = has d xs } in f) ∷ found;
    }

abbrev pub swept : KNd → Swept → Swept
swept (NVar l) s = record { current = s.current ++ l ∷ []; outer = s.outer; found = s.found }
swept (NInt n) s = s
swept (NTuple n) s = s
swept (NCode d td owes args) s = opened_in d s.current s.outer s.found
swept NEnd s = record { current = []; outer = s.current ∷ s.outer; found = s.found }
swept (NName d t) s = s
swept (NProj d i t) s = s
swept (NArith d op) s = s
swept (NCall d td ts n) s = s
swept NIf s = s
swept (NPack d td x y) s = s
swept (NUnpack d td t) s = s
swept (NCell d t) s = s
swept (NGet d t) s = s
swept (NSet d) s = s
swept (NElse td) s = s
swept NHalt s = s

abbrev pub sweep : List KNd → Swept
sweep [] = record { current = []; outer = []; found = [] }
sweep (n ∷ ns) = swept n (sweep ns)

abbrev pub found_of : ℕ → KTys → KTm → Found
found_of d args body = record { kept = levels (keeps args body) d []; own = uses args body 0 }

-- what is to be found
abbrev mutual
  pub found_v : ℕ → KVal → List Found → List Found
  found_v d (KVar i) rest = rest
  found_v d (KInt n) rest = rest
  found_v d (KTuple vs) rest = found_vs d vs rest
  found_v d (KCode owes args body) rest = found_of d args body ∷ found_t (lift (kcount args) (suc d)) body rest

  pub found_vs : ℕ → KVals → List Found → List Found
  found_vs d NoKVals rest = rest
  found_vs d (MoreKVals v vs) rest = found_v d v (found_vs d vs rest)

  pub found_d : ℕ → KDecl → List Found → List Found
  found_d d (KName v) rest = found_v d v rest
  found_d d (KProj i v) rest = found_v d v rest
  found_d d (KArith op v w) rest = found_v d v (found_v d w rest)
  found_d d (KPack h v t) rest = found_v d v rest
  found_d d (KUnpack v) rest = found_v d v rest
  found_d d (KCell v) rest = found_v d v rest
  found_d d (KGet v) rest = found_v d v rest
  found_d d (KSet v w) rest = found_v d v (found_v d w rest)

  pub found_t : ℕ → KTm → List Found → List Found
  found_t d (KLet x t) rest = found_d d x (found_t (suc d) t rest)
  found_t d (KCall f ts vs) rest = found_v d f (found_vs d vs rest)
  found_t d (KIf v t u) rest = found_v d v (found_t d t (found_t d u rest))
  found_t d (KHalt v) rest = found_v d v rest

-- of a list in order: each once, and those below d alone
abbrev pub differs : ℕ → List ℕ → Bool
differs x [] = true
differs x (y ∷ ys) = not (nat_eq x y)

abbrev pub thin : ℕ → List ℕ → List ℕ
thin d [] = []
thin d (x ∷ xs) = pick_level (nat_lt x d && differs x xs) x (thin d xs)
