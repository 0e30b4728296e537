-- The translation as a relation between a term and a closed one, rule by rule.
use Rattle.std.specs.Prelude.{◌≡◌, ◌≢◌, if◌then◌else◌, ℕ, zero, suc, ◌+◌, Bool, true, false, Option, Some, None}
use Rattle.std.specs.Prelude.{option_map, List, [], ◌∷◌, ◌++◌, length, map, filter, reverse}
use Rattle.std.specs.List.{range_with_len}
use Rattle.calc_core.specs.Ends.{lift, under}
use Rattle.k_terms.specs.K.{KTy, KTys, TKCode, KVal, KVar, KInt, KTuple, KCode, KVals, NoKVals, MoreKVals, KDecl, KName}
use Rattle.k_terms.specs.K.{KProj, KArith, KPack, KUnpack, KCell, KGet, KSet, KTm, KLet, KCall, KIf, KHalt, kcount}
use Rattle.k_terms.specs.K.{kbody_scope, krens_scope, opens}
use Rattle.k_terms.specs.Types.{ktype_at, kd_type}
use Rattle.c_terms.specs.C.{CTys, TCVar, TCTuple, NoCTys, MoreCTys, CVal, CVar, CInt, CTuple, CCode, CApply, CPack}
use Rattle.c_terms.specs.C.{CVals, NoCVals, MoreCVals, CDecl, CName, CProj, CArith, CUnpack, CCell, CGet, CSet, CTm}
use Rattle.c_terms.specs.C.{CLet, CCall, CIf, CHalt}
use Rattle.c_rules.specs.Close.{ctype, ctypes, uses, keeps, tkeeps, rank, projections, named}

-- the names of the closed term that are in scope, innermost first, each with the variable that it stands for, or none
abbrev pub Names : Type 0
Names = List (Option ℕ)

-- name j is the first that stands for variable i
abbrev pub IsPlace : ℕ → Names → ℕ → Type 0
IsPlace i [] j = ⊥
IsPlace i (x ∷ xs) zero = x ≡ Some i
IsPlace i (x ∷ xs) (suc j) = (x ≢ Some i) × IsPlace i xs j

-- what is in scope: before, the types of the variables and how many type variables there are;
-- after, the names, and where each type variable stands
pub record Where : Type 0 where
  pub types : List KTy
  pub tcount : ℕ
  pub names : Names
  pub tvar : ℕ → ℕ

-- the numbers below n that are kept, outermost first
abbrev pub outermost_first : (ℕ → Bool) → ℕ → List ℕ
outermost_first keep n = reverse (filter keep (range_with_len 0 n))

-- the name that stands for variable i
abbrev pub Stands : Where → ℕ → CVal → Type 0
Stands w i v = (j : ℕ) × (v ≡ CVar j) × IsPlace i w.names j

abbrev pub AllStand : Where → List ℕ → CVals → Type 0
AllStand w [] vs = vs ≡ NoCVals
AllStand w (y ∷ ys) vs = (v : CVal) × (us : CVals) × (vs ≡ MoreCVals v us) × Stands w y v × AllStand w ys us

-- the types of the variables ys
abbrev pub types_of : (ℕ → ℕ) → List KTy → List ℕ → CTys
types_of r g [] = NoCTys
types_of r g (y ∷ ys) = MoreCTys (ctype r (ktype_at g y)) (types_of r g ys)

-- the type variables bs
abbrev pub tvars_of : (ℕ → ℕ) → List ℕ → CTys
tvars_of r [] = NoCTys
tvars_of r (b ∷ bs) = MoreCTys (TCVar (r b)) (tvars_of r bs)

-- the free variables of a code, its own name aside, and the type variables that are free in it or in the types of these
abbrev pub frees : Where → KTys → KTm → List ℕ
frees w args body = outermost_first (keeps args body) (length w.types)

abbrev pub tfrees_of : Where → ℕ → KTys → KTm → List ℕ
tfrees_of w owes args body = outermost_first (tkeeps w.types owes args body) w.tcount

-- pack[E, <c[bs], env>], at a place where the type variables around the code stand where r says
abbrev pub packed : (ℕ → ℕ) → Where → ℕ → KTys → KTm → (code env : CVal) → CVal
packed r w owes args body code env =
    CPack (TCTuple (types_of r w.types (frees w args body)))
    (CTuple (MoreCVals (CApply code (tvars_of r (tfrees_of w owes args body))) (MoreCVals env NoCVals)))
    (ctype r (TKCode owes args))

-- in the body of a code the arguments are the first variables; then come its own name, and the variables around it
abbrev pub arguments : KTys → Names
arguments args = map Some (range_with_len 0 (kcount args))

abbrev pub own : KTys → KTm → Names
own args body = if uses args body 0 then Some (kcount args) ∷ [] else []

abbrev pub variables : Where → KTys → KTm → Names
variables w args body = map (λ y. Some (lift (kcount args) (suc y))) (reverse (frees w args body))

-- inside a closed code: its own closure where it is used, its free variables, its arguments, and then its environment
-- and itself, which stand for no variable
abbrev pub inside : Where → ℕ → KTys → KTm → Where
inside w owes args body =
    let environment : Option ℕ = None in
    let code : Option ℕ = None in
    record {
      types = kbody_scope owes args w.types;
      tcount = lift owes w.tcount;
      names = own args body ++ variables w args body ++ arguments args ++ environment ∷ code ∷ [];
      tvar = under owes (rank (tkeeps w.types owes args body));
    }

-- where a type variable around a code stands inside it
abbrev pub from_inside : Where → ℕ → KTys → KTm → ℕ → ℕ
from_inside w owes args body j = lift owes (rank (tkeeps w.types owes args body) j)

-- c: the code [bs, as](env, xs), which projects the ys from env, names its own closure where it is used, and goes on;
-- env stands behind the xs, then behind the ys and the xs, and the code behind env
abbrev pub closed_over : Where → ℕ → KTys → KTm → CTm → CVal
closed_over w owes args body rest =
    let r = from_inside w owes args body in
    let env = length (variables w args body ++ arguments args) in
    CCode (owes + length (tfrees_of w owes args body))
    (MoreCTys (TCTuple (types_of r w.types (frees w args body))) (ctypes (inside w owes args body).tvar args))
    (projections (length (frees w args body)) 1 (length (arguments args))
    (named (uses args body 0) (packed r w owes args body (CVar (suc env)) (CVar env)) rest))

-- under one more name, and one more type variable where there is one
abbrev pub with_name : KTy → Where → Where
with_name t w =
    record {
      types = t ∷ w.types;
      tcount = w.tcount;
      names = Some 0 ∷ map (option_map suc) w.names;
      tvar = w.tvar;
    }

abbrev pub with_tvar : Bool → Where → Where
with_tvar true w =
    record {
      types = krens_scope suc w.types;
      tcount = suc w.tcount;
      names = w.names;
      tvar = under 1 w.tvar;
    }
with_tvar false w = w

-- under the package that a call opens, its code and its environment, which stand for no variable
abbrev pub in_call : Where → Where
in_call w =
    record {
      types = w.types;
      tcount = w.tcount;
      names = None ∷ None ∷ None ∷ w.names;
      tvar = λ i. suc (w.tvar i);
    }

abbrev mutual
  pub ClosesValue : Where → KVal → CVal → Type 0
  ClosesValue w (KVar i) u = Stands w i u
  ClosesValue w (KInt n) u = u ≡ CInt n
  ClosesValue w (KTuple vs) u = (us : CVals) × (u ≡ CTuple us) × CloseValues w vs us
  ClosesValue w (KCode owes args body) u =
      (ys : CVals) × (rest : CTm) × (u ≡ packed w.tvar w owes args body (closed_over w owes args body rest) (CTuple ys))
      × AllStand w (frees w args body) ys × ClosesTerm (inside w owes args body) body rest

  pub CloseValues : Where → KVals → CVals → Type 0
  CloseValues w NoKVals us = us ≡ NoCVals
  CloseValues w (MoreKVals v vs) us = (u : CVal) × (rest : CVals) × (us ≡ MoreCVals u rest) × ClosesValue w v u ×
      CloseValues w vs rest

  pub ClosesDecl : Where → KDecl → CDecl → Type 0
  ClosesDecl w (KName v) d = (u : CVal) × (d ≡ CName u) × ClosesValue w v u
  ClosesDecl w (KProj i v) d = (u : CVal) × (d ≡ CProj i u) × ClosesValue w v u
  ClosesDecl w (KArith op v x) d = (u z : CVal) × (d ≡ CArith op u z) × ClosesValue w v u × ClosesValue w x z
  ClosesDecl w (KPack h v s) d = (u : CVal) × (d ≡ CName (CPack (ctype w.tvar h) u (ctype w.tvar s))) × ClosesValue w v
      u
  ClosesDecl w (KUnpack v) d = (u : CVal) × (d ≡ CUnpack u) × ClosesValue w v u
  ClosesDecl w (KCell v) d = (u : CVal) × (d ≡ CCell u) × ClosesValue w v u
  ClosesDecl w (KGet v) d = (u : CVal) × (d ≡ CGet u) × ClosesValue w v u
  ClosesDecl w (KSet v x) d = (u z : CVal) × (d ≡ CSet u z) × ClosesValue w v u × ClosesValue w x z

  pub ClosesTerm : Where → KTm → CTm → Type 0
  ClosesTerm w (KLet x t) u =
      (d : CDecl) × (rest : CTm) × (u ≡ CLet d rest) × ClosesDecl w x d
      × ClosesTerm (with_name (kd_type w.types x) (with_tvar (opens x) w)) t rest
  ClosesTerm w (KCall f ts vs) u =
      (c : CVal) × (us : CVals)
      × (u ≡ CLet (CUnpack c)
      (CLet (CProj 1 (CVar 0))
      (CLet (CProj 2 (CVar 1)) (CCall (CVar 1) (ctypes (in_call w).tvar ts) (MoreCVals (CVar 0) us)))))
      × ClosesValue w f c × CloseValues (in_call w) vs us
  ClosesTerm w (KIf v s t) u = (c : CVal) × (a b : CTm) × (u ≡ CIf c a b) × ClosesValue w v c × ClosesTerm w s a ×
      ClosesTerm w t b
  ClosesTerm w (KHalt v) u = (c : CVal) × (u ≡ CHalt c) × ClosesValue w v c

-- a whole program
abbrev pub nowhere : Where
nowhere = record { types = []; tcount = 0; names = []; tvar = λ i. i }

abbrev pub IsTranslation : KTm → CTm → Type 0
IsTranslation t u = ClosesTerm nowhere t u
