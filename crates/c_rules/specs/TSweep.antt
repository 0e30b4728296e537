-- The type variables that occur in each code, by a walk from the last node to the first.
use Rattle.std.specs.Prelude.{ℕ, List, [], ◌∷◌, ◌++◌}
use Rattle.calc_core.specs.Ends.{lift, after_one}
use Rattle.k_terms.specs.K.{KVal, KVar, KInt, KTuple, KCode, KVals, NoKVals, MoreKVals, KDecl, KName, KProj, KArith}
use Rattle.k_terms.specs.K.{KPack, KUnpack, KCell, KGet, KSet, KTm, KLet, KCall, KIf, KHalt, opens}
use Rattle.k_terms.specs.Stream.{KNd, NVar, NInt, NTuple, NCode, NEnd, NName, NProj, NArith, NPack, NUnpack, NCell}
use Rattle.k_terms.specs.Stream.{NGet, NSet, NCall, NIf, NElse, NHalt}
use Rattle.c_rules.specs.Emit.{levels}
use Rattle.c_rules.specs.Sweep.{Found, known_below}
use Rattle.c_rules.specs.Know.{Clue, type_levels, types_levels, written_in}

pub record TSwept : Type 0 where
  pub current : List ℕ
  pub outer : List (List ℕ)
  pub found : List (List ℕ)

abbrev pub topened : ℕ → List ℕ → List (List ℕ) → List (List ℕ) → TSwept
topened td xs [] found = record { current = xs; outer = []; found = found }
topened td xs (o ∷ os) found =
    record { current = o ++ known_below td xs; outer = os; found = known_below td xs ∷ found }

abbrev pub tswept : KNd → TSwept → TSwept
tswept (NVar l) s = s
tswept (NInt n) s = s
tswept (NTuple n) s = s
tswept (NCode d td owes args) s = topened td (s.current ++ types_levels td owes args) s.outer s.found
tswept NEnd s = record { current = []; outer = s.current ∷ s.outer; found = s.found }
tswept (NName d t) s = s
tswept (NProj d i t) s = s
tswept (NArith d op) s = s
tswept (NCall d td ts n) s = record { current = s.current ++ types_levels td 0 ts; outer = s.outer; found = s.found }
tswept NIf s = s
tswept (NPack d td h t) s =
    record { current = s.current ++ (type_levels td 0 h ++ type_levels td 0 t); outer = s.outer; found = s.found }
tswept (NUnpack d td t) s = s
tswept (NCell d t) s = s
tswept (NGet d t) s = s
tswept (NSet d) s = s
tswept (NElse td) s = s
tswept NHalt s = s

abbrev pub tsweep : List KNd → TSwept
tsweep [] = record { current = []; outer = []; found = [] }
tsweep (n ∷ ns) = tswept n (tsweep ns)

-- what is to be found
abbrev mutual
  pub tfound_v : ℕ → KVal → List (List ℕ) → List (List ℕ)
  tfound_v td (KVar i) rest = rest
  tfound_v td (KInt n) rest = rest
  tfound_v td (KTuple vs) rest = tfound_vs td vs rest
  tfound_v td (KCode owes args body) rest = levels (written_in owes args body) td [] ∷ tfound_t (lift owes td) body rest

  pub tfound_vs : ℕ → KVals → List (List ℕ) → List (List ℕ)
  tfound_vs td NoKVals rest = rest
  tfound_vs td (MoreKVals v vs) rest = tfound_v td v (tfound_vs td vs rest)

  pub tfound_d : ℕ → KDecl → List (List ℕ) → List (List ℕ)
  tfound_d td (KName v) rest = tfound_v td v rest
  tfound_d td (KProj i v) rest = tfound_v td v rest
  tfound_d td (KArith op v w) rest = tfound_v td v (tfound_v td w rest)
  tfound_d td (KPack h v t) rest = tfound_v td v rest
  tfound_d td (KUnpack v) rest = tfound_v td v rest
  tfound_d td (KCell v) rest = tfound_v td v rest
  tfound_d td (KGet v) rest = tfound_v td v rest
  tfound_d td (KSet v w) rest = tfound_v td v (tfound_v td w rest)

  pub tfound_t : ℕ → KTm → List (List ℕ) → List (List ℕ)
  tfound_t td (KLet x t) rest = tfound_d td x (tfound_t (after_one (opens x) td) t rest)
  tfound_t td (KCall f ts vs) rest = tfound_v td f (tfound_vs td vs rest)
  tfound_t td (KIf v t u) rest = tfound_v td v (tfound_t td t (tfound_t td u rest))
  tfound_t td (KHalt v) rest = tfound_v td v rest

-- both together
abbrev pub zipped : List Found → List (List ℕ) → List Clue
zipped [] ts = []
zipped (f ∷ fs) [] = []
zipped (f ∷ fs) (t ∷ ts) = (let c : Clue = record { kept = f.kept; own = f.own; types = t } in c) ∷ zipped fs ts
