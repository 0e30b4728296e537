-- Closure conversion.
use Rattle.std.specs.Prelude.{pos, ℕ, zero, suc, Bool, true, false, ◌||◌, ◌&&◌, List, [], ◌∷◌, Option, Some, None}
use Rattle.c_rules.specs.Places.{Places, further, place, from_on, kept_places, kept_count}
use Rattle.calc_core.specs.Ends.{after_one, lift, under}
use Rattle.k_terms.specs.K.{KTy, KTys, TKInt, TKVar, TKTuple, TKCode, TKExists, TKRef, NoKTys, MoreKTys, KVal, KVar}
use Rattle.k_terms.specs.K.{KInt}
use Rattle.k_terms.specs.K.{KTuple, KCode, KVals, NoKVals, MoreKVals, KDecl, KName, KProj, KArith, KPack, KUnpack}
use Rattle.k_terms.specs.K.{KCell, KGet, KSet, KTm, KLet, KCall, KIf, KHalt, kcount, kbody_scope, krens_scope, opens}
use Rattle.c_rules.specs.Free.{occurs_t, tfree, tfrees, tfree_t}
use Rattle.k_terms.specs.Types.{kd_type}
use Rattle.c_terms.specs.C.{CTy, CTys, TCInt, TCVar, TCTuple, TCCode, TCExists, TCRef, NoCTys, MoreCTys, CVal, CVar}
use Rattle.c_terms.specs.C.{CInt}
use Rattle.c_terms.specs.C.{CTuple, CCode, CApply, CPack, CVals, NoCVals, MoreCVals, CDecl, CName, CProj, CArith}
use Rattle.c_terms.specs.C.{CUnpack, CCell, CGet, CSet, CTm, CLet, CCall, CIf, CHalt}

-- the type C t, with its free variables renamed
abbrev mutual
  pub ctype : (ℕ → ℕ) → KTy → CTy
  ctype r TKInt = TCInt
  ctype r (TKVar i) = TCVar (r i)
  ctype r (TKTuple ts) = TCTuple (ctypes r ts)
  ctype r (TKExists t) = TCExists (ctype (under 1 r) t)
  ctype r (TKRef t) = TCRef (ctype r t)
  ctype r (TKCode n ts) =
      TCExists (TCTuple (MoreCTys (TCCode n (MoreCTys (TCVar (lift n 0)) (ctypes (under n (λ i. suc (r i))) ts)))
      (MoreCTys (TCVar 0) NoCTys)))

  pub ctypes : (ℕ → ℕ) → KTys → CTys
  ctypes r NoKTys = NoCTys
  ctypes r (MoreKTys t ts) = MoreCTys (ctype r t) (ctypes r ts)

-- what is in scope: how many type variables and where each stands, where each variable stands, and its type
pub record Scope : Type 0 where
  pub tcount : ℕ
  pub tvar : ℕ → ℕ
  pub vars : Places
  pub types : List KTy

abbrev pub var_value : Option ℕ → CVal
var_value None = CInt (pos 0)
var_value (Some j) = CVar j

-- the names around a code that its body uses, its own name first
abbrev pub uses : KTys → KTm → ℕ → Bool
uses args body i = occurs_t (lift (kcount args) i) body

-- the free variables of a code, its own name aside
abbrev pub keeps : KTys → KTm → ℕ → Bool
keeps args body i = uses args body (suc i)

-- type variable j is free in a kept variable's type
abbrev pub tfree_kept : ℕ → (ℕ → Bool) → List KTy → Bool
tfree_kept j keep [] = false
tfree_kept j keep (t ∷ ts) = (keep 0 && tfree j t) || tfree_kept j (λ i. keep (suc i)) ts

-- the free type variables of a code and of the types of its free variables
abbrev pub tkeeps : List KTy → ℕ → KTys → KTm → ℕ → Bool
tkeeps types owes args body j =
    (tfrees (lift owes j) args || tfree_t (lift owes j) body) || tfree_kept j (keeps args body) types

abbrev pub pick_one : Bool → Option ℕ → CVals → CVals
pick_one true p vs = MoreCVals (var_value p) vs
pick_one false p vs = vs

-- the kept variables, outermost first
abbrev pub picked : (ℕ → Bool) → Places → CVals → CVals
picked keep [] vs = vs
picked keep (p ∷ ps) vs = picked (λ i. keep (suc i)) ps (pick_one (keep 0) p vs)

abbrev pub pick_type : Bool → CTy → CTys → CTys
pick_type true t ts = MoreCTys t ts
pick_type false t ts = ts

-- how many of the first n are kept, which is also where the next one stands among the kept ones
abbrev pub rank : (ℕ → Bool) → ℕ → ℕ
rank keep zero = 0
rank keep (suc n) = after_one (keep 0) (rank (λ i. keep (suc i)) n)

-- the kept ones of n type variables, outermost first
abbrev pub picked_tvars : (ℕ → Bool) → (ℕ → ℕ) → ℕ → CTys → CTys
picked_tvars keep r zero ts = ts
picked_tvars keep r (suc n) ts =
    picked_tvars (λ i. keep (suc i)) (λ i. r (suc i)) n (pick_type (keep 0) (TCVar (r 0)) ts)

-- the types of the kept variables, outermost first
abbrev pub picked_types : (ℕ → Bool) → (KTy → CTy) → List KTy → CTys → CTys
picked_types keep f [] ts = ts
picked_types keep f (t ∷ g) ts = picked_types (λ i. keep (suc i)) f g (pick_type (keep 0) (f t) ts)

-- the scope of a closed code's body: the rebuilt closure, the free variables, the arguments, the environment, the code
abbrev pub inner : Scope → ℕ → KTys → KTm → Scope
inner s owes args body = record {
  tcount = lift owes s.tcount;
  tvar = under owes (rank (tkeeps s.types owes args body));
  vars =
      from_on (kept_count (uses args body) (None ∷ s.vars)) (kcount args)
      (kept_places 0 (uses args body) (None ∷ s.vars));
  types = kbody_scope owes args s.types;
}

-- names k fields from field i on of the tuple that is variable e
abbrev pub projections : ℕ → ℕ → ℕ → CTm → CTm
projections zero i e t = t
projections (suc k) i e t = CLet (CProj i (CVar e)) (projections k (suc i) (suc e) t)

-- the type of the environment, with type variables renamed
abbrev pub env_type : (ℕ → ℕ) → KTys → KTm → List KTy → CTy
env_type r args body types = TCTuple (picked_types (keeps args body) (ctype r) types NoCTys)

-- the pair of a code and its environment, packed, where r says where the type variables around the code stand
abbrev pub closure : Scope → ℕ → KTys → KTm → (ℕ → ℕ) → CVal → CVal → CVal
closure s owes args body r code env =
    CPack (env_type r args body s.types)
    (CTuple (MoreCVals (CApply code (picked_tvars (tkeeps s.types owes args body) r s.tcount NoCTys))
    (MoreCVals env NoCVals)))
    (ctype r (TKCode owes args))

-- where the type variables around a code stand inside it
abbrev pub outside : Scope → ℕ → KTys → KTm → ℕ → ℕ
outside s owes args body j = lift owes (rank (tkeeps s.types owes args body) j)

-- the code's own closure, made again inside its body
abbrev pub rebuilt : Scope → ℕ → KTys → KTm → CVal
rebuilt s owes args body =
    let k = kept_count (keeps args body) s.vars in
    let n = kcount args in
    closure s owes args body (outside s owes args body) (CVar (lift k (suc n))) (CVar (lift k n))

-- names a value where it is used
abbrev pub named : Bool → CVal → CTm → CTm
named true v t = CLet (CName v) t
named false v t = t

-- the body of the closed code
abbrev pub closed_body : Scope → ℕ → KTys → KTm → CTm → CTm
closed_body s owes args body t =
    projections (kept_count (keeps args body) s.vars) 1 (kcount args)
    (named (uses args body 0) (rebuilt s owes args body) t)

-- the types of the closed code's arguments, the environment first
abbrev pub closed_args : Scope → ℕ → KTys → KTm → CTys
closed_args s owes args body =
    MoreCTys (env_type (outside s owes args body) args body s.types) (ctypes (inner s owes args body).tvar args)

abbrev pub closed_code : Scope → ℕ → KTys → KTm → CTm → CVal
closed_code s owes args body t =
    CCode (lift owes (rank (tkeeps s.types owes args body) s.tcount)) (closed_args s owes args body)
    (closed_body s owes args body t)

abbrev pub close_code : Scope → ℕ → KTys → KTm → CTm → CVal
close_code s owes args body t =
    closure s owes args body s.tvar (closed_code s owes args body t) (CTuple (picked (keeps args body) s.vars NoCVals))

-- the scope under one more variable
abbrev pub with_var : KTy → Scope → Scope
with_var t s = record { tcount = s.tcount; tvar = s.tvar; vars = Some 0 ∷ further s.vars; types = t ∷ s.types }

-- the scope under one more type variable
abbrev pub opened : Scope → Scope
opened s = record { tcount = suc s.tcount; tvar = under 1 s.tvar; vars = s.vars; types = krens_scope suc s.types }

abbrev pub open_if : Bool → Scope → Scope
open_if true s = opened s
open_if false s = s

-- the scope under a declaration
abbrev pub with_decl : KDecl → Scope → Scope
with_decl d s = with_var (kd_type s.types d) (open_if (opens d) s)

-- the scope under the three names that a call makes, the first with a type variable
abbrev pub in_call : Scope → Scope
in_call s =
    record {
      tcount = s.tcount;
      tvar = λ i. suc (s.tvar i);
      vars = further (further (further s.vars));
      types = s.types;
    }

abbrev mutual
  pub close_v : Scope → KVal → CVal
  close_v s (KVar i) = var_value (place s.vars i)
  close_v s (KInt n) = CInt n
  close_v s (KTuple vs) = CTuple (close_vs s vs)
  close_v s (KCode owes args body) = close_code s owes args body (close_t (inner s owes args body) body)

  pub close_vs : Scope → KVals → CVals
  close_vs s NoKVals = NoCVals
  close_vs s (MoreKVals v vs) = MoreCVals (close_v s v) (close_vs s vs)

  pub close_d : Scope → KDecl → CDecl
  close_d s (KName v) = CName (close_v s v)
  close_d s (KProj i v) = CProj i (close_v s v)
  close_d s (KArith op v w) = CArith op (close_v s v) (close_v s w)
  close_d s (KPack h v t) = CName (CPack (ctype s.tvar h) (close_v s v) (ctype s.tvar t))
  close_d s (KUnpack v) = CUnpack (close_v s v)
  close_d s (KCell v) = CCell (close_v s v)
  close_d s (KGet v) = CGet (close_v s v)
  close_d s (KSet v w) = CSet (close_v s v) (close_v s w)

  pub close_t : Scope → KTm → CTm
  close_t s (KLet d t) = CLet (close_d s d) (close_t (with_decl d s) t)
  close_t s (KCall f ts vs) =
      CLet (CUnpack (close_v s f))
      (CLet (CProj 1 (CVar 0))
      (CLet (CProj 2 (CVar 1))
      (CCall (CVar 1) (ctypes (in_call s).tvar ts) (MoreCVals (CVar 0) (close_vs (in_call s) vs)))))
  close_t s (KIf v t u) = CIf (close_v s v) (close_t s t) (close_t s u)
  close_t s (KHalt v) = CHalt (close_v s v)

-- a whole program
abbrev pub no_scope : Scope
no_scope = record { tcount = 0; tvar = λ i. i; vars = []; types = [] }

abbrev pub close_of : KTm → CTm
close_of t = close_t no_scope t
