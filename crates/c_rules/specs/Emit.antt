-- Closure conversion along the nodes.
use Rattle.std.specs.Prelude.{ℕ, zero, suc, ◌+◌, ◌-◌, Bool, true, false, cond, nat_lt, nat_le, length, List, [], ◌∷◌}
use Rattle.calc_core.specs.Ends.{lift, after_one}
use Rattle.k_terms.specs.K.{KTys, KVal, KVar, KInt, KTuple, KCode, TKCode, KVals, NoKVals, MoreKVals, KDecl, KName}
use Rattle.k_terms.specs.K.{KProj, KArith, KPack, KUnpack, KCell, KGet, KSet, KTm, KLet, KCall, KIf, KHalt, kcount}
use Rattle.c_terms.specs.C.{CTy, CTys, NoCTys}
use Rattle.c_rules.specs.Close.{Scope, uses, keeps, tkeeps, rank, picked_tvars, env_type, outside, closed_args, ctype}
use Rattle.c_rules.specs.Close.{ctypes, inner, with_decl, in_call}
use Rattle.k_terms.specs.Stream.{KNd, NVar, NInt, NTuple, NCode, NEnd, NName, NProj, NArith, NPack, NUnpack, NCell}
use Rattle.k_terms.specs.Stream.{NGet, NSet, NCall, NIf, NElse, NHalt}
use Rattle.c_terms.specs.Stream.{CNd, MVar, MInt, MTuple, MCode, MEnd, MApply, MPack, MName, MProj, MArith, MUnpack}
use Rattle.c_terms.specs.Stream.{MCell, MGet, MSet, MCall, MIf, MElse, MHalt}

-- what is known of a code before it is met
pub record Info : Type 0 where
  pub kept : List ℕ
  pub own : Bool
  pub owes : ℕ
  pub args : CTys
  pub apply : CTys
  pub hidden : CTy
  pub shape : CTy
  pub apply_in : CTys
  pub hidden_in : CTy
  pub shape_in : CTy

-- what is known of a call, and of a package, before it is met: the types
pub data Note : Type 0 where
  Calls : (types : CTys) → Note
  Packs : (hidden shape : CTy) → Note

-- the code that is being converted: its own name's level, the first level of its body, and what stands for them
pub record Frame : Type 0 where
  pub level : ℕ
  pub split : ℕ
  pub first : ℕ
  pub start : ℕ
  pub kept : List ℕ
  pub apply : CTys
  pub hidden : CTy
  pub shape : CTy

-- the kept ones of the levels below d, ascending, before others
abbrev pub pick_level : Bool → ℕ → List ℕ → List ℕ
pick_level true l ls = l ∷ ls
pick_level false l ls = ls

abbrev pub levels : (ℕ → Bool) → ℕ → List ℕ → List ℕ
levels keep zero ls = ls
levels keep (suc d) ls = levels (λ i. keep (suc i)) d (pick_level (keep 0) d ls)

-- how many are below l
abbrev pub below : ℕ → List ℕ → ℕ
below l [] = 0
below l (x ∷ xs) = after_one (nat_lt x l) (below l xs)

-- where a level of the source stands
abbrev pub spot : Frame → ℕ → ℕ
spot f l =
    cond (nat_le f.split l) ((l - f.split) + f.start)
    (cond (nat_lt f.level l) ((l - f.level) + 1)
    (cond (nat_lt l f.level) (f.first + below l f.kept) (f.first + length f.kept)))

abbrev pub spots : Frame → List ℕ → List CNd → List CNd
spots f [] rest = rest
spots f (l ∷ ls) rest = MVar (spot f l) ∷ spots f ls rest

-- k fields of the environment, named from level l on
abbrev pub fields : ℕ → ℕ → ℕ → List CNd → List CNd
fields zero l i rest = rest
fields (suc k) l i rest = MVar 1 ∷ MProj l i ∷ fields k (suc l) (suc i) rest

-- the code's own closure, where it is used
abbrev pub own_closure : Bool → ℕ → Info → List CNd → List CNd
own_closure true l i rest =
    MVar 0 ∷ MApply i.apply_in ∷ MVar 1 ∷ MTuple 2 ∷ MPack i.hidden_in i.shape_in ∷ MName l ∷ rest
own_closure false l i rest = rest

abbrev pub frame_of : Info → ℕ → ℕ → Frame
frame_of i d n = record {
  level = d;
  split = lift n (suc d);
  first = lift n 2;
  start = after_one i.own (lift n 2 + length i.kept);
  kept = i.kept;
  apply = i.apply;
  hidden = i.hidden;
  shape = i.shape;
}

abbrev pub opened : Info → ℕ → List CNd → List CNd
opened i n rest =
    MCode i.owes i.args ∷ fields (length i.kept) (lift n 2) 1 (own_closure i.own (lift n 2 + length i.kept) i rest)

abbrev pub closed : Frame → Frame → List CNd → List CNd
closed f g rest =
    MEnd ∷ MApply f.apply ∷ spots g f.kept (MTuple (length f.kept) ∷ MTuple 2 ∷ MPack f.hidden f.shape ∷ rest)

abbrev pub called : ℕ → CTys → ℕ → List CNd → List CNd
called e ts n rest =
    MUnpack e ∷ MVar e ∷ MProj (suc e) 1 ∷ MVar e ∷ MProj (suc (suc e)) 2 ∷ MVar (suc e) ∷ MCall ts (suc n)
    ∷ MVar (suc (suc e)) ∷ rest

-- the nodes of the converted term: inside f, which is inside fs, with what is known of the codes, and of the calls
-- and packages, to come
abbrev pub emit : List KNd → Frame → List Frame → List Info → List Note → List CNd
emit [] f fs is cs = []
emit (NVar l ∷ ns) f fs is cs = MVar (spot f l) ∷ emit ns f fs is cs
emit (NInt n ∷ ns) f fs is cs = MInt n ∷ emit ns f fs is cs
emit (NTuple n ∷ ns) f fs is cs = MTuple n ∷ emit ns f fs is cs
emit (NCode d td owes args ∷ ns) f fs [] cs = emit ns f fs [] cs
emit (NCode d td owes args ∷ ns) f fs (i ∷ is) cs =
    opened i (kcount args) (emit ns (frame_of i d (kcount args)) (f ∷ fs) is cs)
emit (NEnd ∷ ns) f [] is cs = emit ns f [] is cs
emit (NEnd ∷ ns) f (g ∷ fs) is cs = closed f g (emit ns g fs is cs)
emit (NName d t ∷ ns) f fs is cs = MName (spot f d) ∷ emit ns f fs is cs
emit (NProj d i t ∷ ns) f fs is cs = MProj (spot f d) i ∷ emit ns f fs is cs
emit (NArith d op ∷ ns) f fs is cs = MArith (spot f d) op ∷ emit ns f fs is cs
emit (NCall d td ts n ∷ ns) f fs is [] = emit ns f fs is []
emit (NCall d td ts n ∷ ns) f fs is (Calls us ∷ cs) = called (spot f d) us n (emit ns f fs is cs)
emit (NCall d td ts n ∷ ns) f fs is (Packs h s ∷ cs) = emit ns f fs is cs
emit (NPack d td x y ∷ ns) f fs is [] = emit ns f fs is []
emit (NPack d td x y ∷ ns) f fs is (Calls us ∷ cs) = emit ns f fs is cs
emit (NPack d td x y ∷ ns) f fs is (Packs h s ∷ cs) = MPack h s ∷ MName (spot f d) ∷ emit ns f fs is cs
emit (NUnpack d td t ∷ ns) f fs is cs = MUnpack (spot f d) ∷ emit ns f fs is cs
emit (NCell d t ∷ ns) f fs is cs = MCell (spot f d) ∷ emit ns f fs is cs
emit (NGet d t ∷ ns) f fs is cs = MGet (spot f d) ∷ emit ns f fs is cs
emit (NSet d ∷ ns) f fs is cs = MSet (spot f d) ∷ emit ns f fs is cs
emit (NIf ∷ ns) f fs is cs = MIf ∷ emit ns f fs is cs
emit (NElse td ∷ ns) f fs is cs = MElse ∷ emit ns f fs is cs
emit (NHalt ∷ ns) f fs is cs = MHalt ∷ emit ns f fs is cs

-- what is to be known of a code in a scope of d names
abbrev pub info_of : ℕ → Scope → ℕ → KTys → KTm → Info
info_of d s owes args body = record {
  kept = levels (keeps args body) d [];
  own = uses args body 0;
  owes = lift owes (rank (tkeeps s.types owes args body) s.tcount);
  args = closed_args s owes args body;
  apply = picked_tvars (tkeeps s.types owes args body) s.tvar s.tcount NoCTys;
  hidden = env_type s.tvar args body s.types;
  shape = ctype s.tvar (TKCode owes args);
  apply_in = picked_tvars (tkeeps s.types owes args body) (outside s owes args body) s.tcount NoCTys;
  hidden_in = env_type (outside s owes args body) args body s.types;
  shape_in = ctype (outside s owes args body) (TKCode owes args);
}

abbrev mutual
  pub infos_v : ℕ → Scope → KVal → List Info → List Info
  infos_v d s (KVar i) rest = rest
  infos_v d s (KInt n) rest = rest
  infos_v d s (KTuple vs) rest = infos_vs d s vs rest
  infos_v d s (KCode owes args body) rest =
      info_of d s owes args body ∷ infos_t (lift (kcount args) (suc d)) (inner s owes args body) body rest

  pub infos_vs : ℕ → Scope → KVals → List Info → List Info
  infos_vs d s NoKVals rest = rest
  infos_vs d s (MoreKVals v vs) rest = infos_v d s v (infos_vs d s vs rest)

  pub infos_d : ℕ → Scope → KDecl → List Info → List Info
  infos_d d s (KName v) rest = infos_v d s v rest
  infos_d d s (KProj i v) rest = infos_v d s v rest
  infos_d d s (KArith op v w) rest = infos_v d s v (infos_v d s w rest)
  infos_d d s (KPack h v t) rest = infos_v d s v rest
  infos_d d s (KUnpack v) rest = infos_v d s v rest
  infos_d d s (KCell v) rest = infos_v d s v rest
  infos_d d s (KGet v) rest = infos_v d s v rest
  infos_d d s (KSet v w) rest = infos_v d s v (infos_v d s w rest)

  pub infos_t : ℕ → Scope → KTm → List Info → List Info
  infos_t d s (KLet x t) rest = infos_d d s x (infos_t (suc d) (with_decl x s) t rest)
  infos_t d s (KCall f ts vs) rest = infos_v d s f (infos_vs d (in_call s) vs rest)
  infos_t d s (KIf v t u) rest = infos_v d s v (infos_t d s t (infos_t d s u rest))
  infos_t d s (KHalt v) rest = infos_v d s v rest

-- the types of the calls and packages
abbrev mutual
  pub notes_v : Scope → KVal → List Note → List Note
  notes_v s (KVar i) rest = rest
  notes_v s (KInt n) rest = rest
  notes_v s (KTuple vs) rest = notes_vs s vs rest
  notes_v s (KCode owes args body) rest = notes_t (inner s owes args body) body rest

  pub notes_vs : Scope → KVals → List Note → List Note
  notes_vs s NoKVals rest = rest
  notes_vs s (MoreKVals v vs) rest = notes_v s v (notes_vs s vs rest)

  pub notes_d : Scope → KDecl → List Note → List Note
  notes_d s (KName v) rest = notes_v s v rest
  notes_d s (KProj i v) rest = notes_v s v rest
  notes_d s (KArith op v w) rest = notes_v s v (notes_v s w rest)
  notes_d s (KPack h v t) rest = notes_v s v (Packs (ctype s.tvar h) (ctype s.tvar t) ∷ rest)
  notes_d s (KUnpack v) rest = notes_v s v rest
  notes_d s (KCell v) rest = notes_v s v rest
  notes_d s (KGet v) rest = notes_v s v rest
  notes_d s (KSet v w) rest = notes_v s v (notes_v s w rest)

  pub notes_t : Scope → KTm → List Note → List Note
  notes_t s (KLet x t) rest = notes_d s x (notes_t (with_decl x s) t rest)
  notes_t s (KCall f ts vs) rest = notes_v s f (Calls (ctypes (in_call s).tvar ts) ∷ notes_vs (in_call s) vs rest)
  notes_t s (KIf v t u) rest = notes_v s v (notes_t s t (notes_t s u rest))
  notes_t s (KHalt v) rest = notes_v s v rest
