-- What is to be known of the codes and calls, by a walk along the nodes.
use Rattle.std.specs.Prelude.{ℕ, zero, suc, ◌-◌, Bool, true, false, ◌||◌, nat_lt, length, take, slice_index_or, List}
use Rattle.std.specs.Prelude.{[], ◌∷◌, ◌++◌}
use Rattle.calc_core.specs.Ends.{lift, under, after_one}
use Rattle.k_terms.specs.K.{KTy, KTys, TKInt, TKVar, TKTuple, TKCode, TKExists, TKRef, NoKTys, MoreKTys, KVal, KVar}
use Rattle.k_terms.specs.K.{KInt}
use Rattle.k_terms.specs.K.{KTuple, KCode, KVals, NoKVals, MoreKVals, KDecl, KName, KProj, KArith, KPack, KUnpack}
use Rattle.k_terms.specs.K.{KCell, KGet, KSet, KTm, KLet, KCall, KIf, KHalt, kcount, opens}
use Rattle.c_rules.specs.Free.{tfrees, tfree_t}
use Rattle.c_terms.specs.C.{CTy, CTys, TCVar, TCTuple, NoCTys, MoreCTys}
use Rattle.c_rules.specs.Close.{uses, keeps, ctype, ctypes}
use Rattle.k_terms.specs.Stream.{KNd, NVar, NInt, NTuple, NCode, NEnd, NName, NProj, NArith, NPack, NUnpack, NCell}
use Rattle.k_terms.specs.Stream.{NGet, NSet, NCall, NIf, NElse, NHalt}
use Rattle.calc_core.specs.Levels.{level_of}
use Rattle.c_rules.specs.Emit.{Info, Note, Calls, Packs, levels}
use Rattle.c_rules.specs.Sweep.{known_below}

-- what the walks from the last node have found of a code: its free variables, whether its own name is used, and the
-- type variables that occur in it
pub record Clue : Type 0 where
  pub kept : List ℕ
  pub own : Bool
  pub types : List ℕ

-- the type of a variable, with the number of type variables where it was bound
pub record Bound : Type 0 where
  pub type : KTy
  pub depth : ℕ

-- a code's type variables: those outside it by number, how many are in scope in it, which of those outside it has,
-- and whether a call has been opened
pub record Side : Type 0 where
  pub depth : ℕ
  pub owes : ℕ
  pub kept : List ℕ
  pub calling : Bool

pub record Known : Type 0 where
  pub infos : List Info
  pub notes : List Note

-- how many are above l
abbrev pub above : ℕ → List ℕ → ℕ
above l [] = 0
above l (x ∷ xs) = after_one (nat_lt l x) (above l xs)

-- where a type variable stands
abbrev pub side_var : Side → ℕ → ℕ
side_var f i = after_one f.calling (under f.owes (λ j. above (level_of f.depth j) f.kept) i)

-- the same of one outside the code
abbrev pub outer_var : Side → ℕ → ℕ
outer_var f j = lift f.owes (above (level_of f.depth j) f.kept)

-- index i under b more names, if it is none of them
abbrev pub level_list : ℕ → ℕ → ℕ → List ℕ
level_list td zero i = level_of td i ∷ []
level_list td (suc b) zero = []
level_list td (suc b) (suc i) = level_list td b i

-- the levels of the free type variables of a type under b names, itself under td
abbrev mutual
  pub type_levels : ℕ → ℕ → KTy → List ℕ
  type_levels td b TKInt = []
  type_levels td b (TKVar i) = level_list td b i
  type_levels td b (TKTuple ts) = types_levels td b ts
  type_levels td b (TKExists t) = type_levels td (suc b) t
  type_levels td b (TKRef t) = type_levels td b t
  type_levels td b (TKCode n ts) = types_levels td (lift n b) ts

  pub types_levels : ℕ → ℕ → KTys → List ℕ
  types_levels td b NoKTys = []
  types_levels td b (MoreKTys t ts) = type_levels td b t ++ types_levels td b ts

abbrev pub no_bound : Bound
no_bound = record { type = TKInt; depth = 0 }

abbrev pub bound_at : List Bound → ℕ → Bound
bound_at xs l = slice_index_or xs l no_bound

-- a variable's type, at a place with td type variables that stand where r says
abbrev pub bound_type : (ℕ → ℕ) → ℕ → Bound → CTy
bound_type r td x = ctype (λ i. r (lift (td - x.depth) i)) x.type

abbrev pub bound_types : (ℕ → ℕ) → ℕ → List Bound → List ℕ → CTys
bound_types r td xs [] = NoCTys
bound_types r td xs (l ∷ ls) = MoreCTys (bound_type r td (bound_at xs l)) (bound_types r td xs ls)

abbrev pub bound_levels : List Bound → List ℕ → List ℕ
bound_levels xs [] = []
bound_levels xs (l ∷ ls) = type_levels (bound_at xs l).depth 0 (bound_at xs l).type ++ bound_levels xs ls

-- type variables by their levels, under td
abbrev pub variables : (ℕ → ℕ) → ℕ → List ℕ → CTys
variables r td [] = NoCTys
variables r td (l ∷ ls) = MoreCTys (TCVar (r (level_of td l))) (variables r td ls)

abbrev pub side_of : ℕ → ℕ → Clue → List Bound → Side
side_of td owes c xs =
    record { depth = td; owes = owes; kept = known_below td (c.types ++ bound_levels xs c.kept); calling = false }

abbrev pub info_from : ℕ → ℕ → KTys → Clue → List Bound → Side → Side → Info
info_from td owes args c xs f g = record {
  kept = c.kept;
  own = c.own;
  owes = lift owes (length g.kept);
  args = MoreCTys (TCTuple (bound_types (outer_var g) td xs c.kept)) (ctypes (side_var g) args);
  apply = variables (side_var f) td g.kept;
  hidden = TCTuple (bound_types (side_var f) td xs c.kept);
  shape = ctype (side_var f) (TKCode owes args);
  apply_in = variables (outer_var g) td g.kept;
  hidden_in = TCTuple (bound_types (outer_var g) td xs c.kept);
  shape_in = ctype (outer_var g) (TKCode owes args);
}

-- a variable of level d is bound
abbrev pub bind : List Bound → ℕ → KTy → ℕ → List Bound
bind xs d t td = take d xs ++ (let x : Bound = record { type = t; depth = td } in x) ∷ []

abbrev pub bind_all : List Bound → ℕ → KTys → ℕ → List Bound
bind_all xs d NoKTys td = xs
bind_all xs d (MoreKTys t ts) td = bind_all (bind xs d t td) (suc d) ts td

abbrev pub side_depth : Side → ℕ
side_depth f = lift f.owes f.depth

abbrev pub with_info : Info → Known → Known
with_info i k = record { infos = i ∷ k.infos; notes = k.notes }

abbrev pub with_note : Note → Known → Known
with_note n k = record { infos = k.infos; notes = n ∷ k.notes }

-- where n type variables of the code are in scope, and a call has been opened or not
abbrev pub side_with : ℕ → Bool → Side → Side
side_with n b f = record { depth = f.depth; owes = n; kept = f.kept; calling = b }

abbrev pub know : List KNd → List Bound → Side → List Side → List Clue → Known
know [] xs f fs cs = record { infos = []; notes = [] }
know (NVar l ∷ ns) xs f fs cs = know ns xs f fs cs
know (NInt n ∷ ns) xs f fs cs = know ns xs f fs cs
know (NTuple n ∷ ns) xs f fs cs = know ns xs f fs cs
know (NCode d td owes args ∷ ns) xs f fs [] = know ns xs f fs []
know (NCode d td owes args ∷ ns) xs f fs (c ∷ cs) =
    with_info (info_from td owes args c xs f (side_of td owes c xs))
    (know ns (bind_all (bind xs d (TKCode owes args) td) (suc d) args (lift owes td)) (side_of td owes c xs)
    (f ∷ fs) cs)
know (NEnd ∷ ns) xs f [] cs = know ns xs f [] cs
know (NEnd ∷ ns) xs f (g ∷ fs) cs = know ns xs g fs cs
know (NName d t ∷ ns) xs f fs cs = know ns (bind xs d t (side_depth f)) f fs cs
know (NProj d i t ∷ ns) xs f fs cs = know ns (bind xs d t (side_depth f)) f fs cs
know (NArith d op ∷ ns) xs f fs cs = know ns (bind xs d TKInt (side_depth f)) f fs cs
know (NPack d td h s ∷ ns) xs f fs cs =
    with_note (Packs (ctype (side_var f) h) (ctype (side_var f) s)) (know ns (bind xs d s (side_depth f)) f fs cs)
know (NUnpack d td t ∷ ns) xs f fs cs =
    know ns (bind xs d t (suc (side_depth f))) (side_with (suc f.owes) f.calling f) fs cs
know (NCell d t ∷ ns) xs f fs cs = know ns (bind xs d t (side_depth f)) f fs cs
know (NGet d t ∷ ns) xs f fs cs = know ns (bind xs d t (side_depth f)) f fs cs
know (NSet d ∷ ns) xs f fs cs = know ns (bind xs d (TKTuple NoKTys) (side_depth f)) f fs cs
know (NCall d td ts n ∷ ns) xs f fs cs =
    with_note (Calls (ctypes (side_var (side_with f.owes true f)) ts)) (know ns xs (side_with f.owes true f) fs cs)
know (NIf ∷ ns) xs f fs cs = know ns xs f fs cs
know (NElse td ∷ ns) xs f fs cs = know ns xs (side_with (td - f.depth) false f) fs cs
know (NHalt ∷ ns) xs f fs cs = know ns xs f fs cs

-- what the walks from the last node are to find
abbrev pub written_in : ℕ → KTys → KTm → ℕ → Bool
written_in owes args body j = tfrees (lift owes j) args || tfree_t (lift owes j) body

abbrev pub clue_of : ℕ → ℕ → ℕ → KTys → KTm → Clue
clue_of d td owes args body = record {
  kept = levels (keeps args body) d [];
  own = uses args body 0;
  types = levels (written_in owes args body) td [];
}

abbrev mutual
  pub clues_v : ℕ → ℕ → KVal → List Clue → List Clue
  clues_v d td (KVar i) rest = rest
  clues_v d td (KInt n) rest = rest
  clues_v d td (KTuple vs) rest = clues_vs d td vs rest
  clues_v d td (KCode owes args body) rest =
      clue_of d td owes args body ∷ clues_t (lift (kcount args) (suc d)) (lift owes td) body rest

  pub clues_vs : ℕ → ℕ → KVals → List Clue → List Clue
  clues_vs d td NoKVals rest = rest
  clues_vs d td (MoreKVals v vs) rest = clues_v d td v (clues_vs d td vs rest)

  pub clues_d : ℕ → ℕ → KDecl → List Clue → List Clue
  clues_d d td (KName v) rest = clues_v d td v rest
  clues_d d td (KProj i v) rest = clues_v d td v rest
  clues_d d td (KArith op v w) rest = clues_v d td v (clues_v d td w rest)
  clues_d d td (KPack h v t) rest = clues_v d td v rest
  clues_d d td (KUnpack v) rest = clues_v d td v rest
  clues_d d td (KCell v) rest = clues_v d td v rest
  clues_d d td (KGet v) rest = clues_v d td v rest
  clues_d d td (KSet v w) rest = clues_v d td v (clues_v d td w rest)

  pub clues_t : ℕ → ℕ → KTm → List Clue → List Clue
  clues_t d td (KLet x t) rest = clues_d d td x (clues_t (suc d) (after_one (opens x) td) t rest)
  clues_t d td (KCall f ts vs) rest = clues_v d td f (clues_vs d td vs rest)
  clues_t d td (KIf v t u) rest = clues_v d td v (clues_t d td t (clues_t d td u rest))
  clues_t d td (KHalt v) rest = clues_v d td v rest
