-- The nodes that conversion to continuation-passing style writes: as the terms of Cps, with the types of what is
-- named taken from those beside the source.
use Rattle.std.specs.Prelude.{ℕ, suc, List, [], ◌∷◌, ◌++◌, length}
use Rattle.idx_core.specs.declared.arith.Op.{Op}
use Rattle.calc_core.specs.Ends.{under}
use Rattle.f_terms.specs.Ty.{Ty}
use Rattle.k_terms.specs.K.{KTy, TKCode, KTys, NoKTys, MoreKTys}
use Rattle.k_terms.specs.Stream.{KNd, NVar, NInt, NTuple, NCode, NEnd, NName, NProj, NArith, NPack, NUnpack, NCell}
use Rattle.k_terms.specs.Stream.{NGet, NSet, NCall, NIf, NElse, NHalt}
use Rattle.f_terms.specs.Noted.{Noted, EVar, ENum, EFix, EApp, EGen, EInst, ETuple, EProj, EArith, EIf, ELet, EPack}
use Rattle.f_terms.specs.Noted.{EOpen, ERef, EDeref, EAssign, Noteds, NoNoteds, MoreNoteds}
use Rattle.k_laws.specs.Cps.{Atom, Level, Literal, kty, taking, spot, kat, kcat, atom_at}

abbrev pub atom_node : Atom → KNd
atom_node (Level l) = NVar l
atom_node (Literal n) = NInt n

abbrev pub atom_nodes : List Atom → List KNd → List KNd
atom_nodes [] ns = ns
atom_nodes (a ∷ as') ns = atom_node a ∷ atom_nodes as' ns

-- k: a rest `x. M`, which gives the nodes of M before others, at a place with so many type variables and so many names
-- around it and for what stands for x; or the name of a level
pub data Rest : Type 0 where
  Bind : (form : ℕ → ℕ → Atom → List KNd → List KNd) → Rest
  Pass : (level : ℕ) → Rest

abbrev pub deliver : Rest → ℕ → ℕ → Atom → List KNd → List KNd
deliver (Bind form) tv d a ns = form tv d a ns
deliver (Pass l) tv d a ns = NVar l ∷ NCall d tv NoKTys 1 ∷ atom_node a ∷ ns

-- what was named at a place with d names around it has ended: its name is delivered
abbrev pub named : KTy → Rest → ℕ → ℕ → List KNd → List KNd
named t k tv d ns = NName d t ∷ deliver k tv (suc d) (Level d) ns

abbrev pub rest_args : KTy → KTys
rest_args t = MoreKTys t NoKTys

abbrev pub as_value : KTy → Rest → ℕ → ℕ → List KNd → List KNd
as_value t (Pass l) tv d ns = NVar l ∷ ns
as_value t (Bind form) tv d ns = NCode d tv 0 (rest_args t) ∷ form tv (suc (suc d)) (Level (suc d)) (NEnd ∷ ns)

abbrev pub bound_once : KTy → Rest → ℕ → ℕ → (ℕ → ℕ → List KNd → List KNd) → List KNd → List KNd
bound_once t (Pass l) tv d body ns = body d l ns
bound_once t (Bind form) tv d body ns =
    NCode d tv 0 (rest_args t)
    ∷ form tv (suc (suc d)) (Level (suc d)) (NEnd ∷ NName d (taking t) ∷ body (suc d) d ns)

abbrev pub to_call : List ℕ → Atom → Ty → Rest → Rest
to_call tl f t k = Bind
    (λ tv d x ns. atom_node f ∷ NCall d tv NoKTys 2 ∷ atom_node x ∷ as_value (kat tv tl t) k tv d ns)

abbrev pub to_inst : List ℕ → Ty → Ty → Rest → Rest
to_inst tl s t k = Bind
    (λ tv d f ns. atom_node f ∷ NCall d tv (rest_args (kat tv tl s)) 1 ∷ as_value (kat tv tl t) k tv d ns)

-- what is done with one part, or with two: a node, whose name is delivered
abbrev pub to_one : (ℕ → ℕ → KNd) → Rest → Rest
to_one node k = Bind (λ tv d e ns. atom_node e ∷ node tv d ∷ deliver k tv (suc d) (Level d) ns)

abbrev pub to_two : (ℕ → KNd) → Atom → Rest → Rest
to_two node a k = Bind (λ tv d b ns. atom_node a ∷ atom_node b ∷ node d ∷ deliver k tv (suc d) (Level d) ns)

abbrev pub proj_node : ℕ → List ℕ → Ty → ℕ → ℕ → KNd
proj_node i tl t tv d = NProj d i (kat tv tl t)

abbrev pub pack_node : List ℕ → Ty → Ty → ℕ → ℕ → KNd
pack_node tl h s tv d = NPack d tv (kat tv tl h) (kat tv tl s)

-- what a package holds has its type under the hidden type's name
abbrev pub unpack_node : List ℕ → Ty → ℕ → ℕ → KNd
unpack_node tl t tv d = NUnpack d tv (kty (under 1 (spot tv tl)) t)

abbrev pub cell_node : List ℕ → Ty → ℕ → ℕ → KNd
cell_node tl t tv d = NCell d (kat tv tl t)

abbrev pub get_node : List ℕ → Ty → ℕ → ℕ → KNd
get_node tl t tv d = NGet d (kat tv tl t)

abbrev pub arith_node : Op → ℕ → KNd
arith_node op d = NArith d op

abbrev pub set_node : ℕ → KNd
set_node d = NSet d

abbrev pub to_tuple : List ℕ → Ty → Rest → ℕ → ℕ → List Atom → List KNd → List KNd
to_tuple tl t k tv d as' ns = atom_nodes as' (NTuple (length as') ∷ named (kat tv tl t) k tv d ns)

-- the levels of the source's type names, and what stands for its names
abbrev pub Scope : Type 0
Scope = List ℕ × List Atom

abbrev pub fix_args : ℕ → List ℕ → Ty → Ty → KTys
fix_args tv tl arg res = MoreKTys (kat tv tl arg) (MoreKTys (kcat tv tl res) NoKTys)

abbrev pub gen_args : ℕ → List ℕ → Ty → KTys
gen_args tv tl t = MoreKTys (kcat tv tl t) NoKTys

abbrev pub in_function : ℕ → Scope → Scope
in_function d q = (q.0, Level (suc d) ∷ Level d ∷ q.1)

abbrev pub under_type : ℕ → Scope → Scope
under_type tv q = (tv ∷ q.0, q.1)

abbrev pub under_name : Atom → Scope → Scope
under_name a q = (q.0, a ∷ q.1)

abbrev mutual
  pub emit : Noted → ℕ → ℕ → Scope → Rest → List KNd → List KNd
  emit (EVar i) tv d q k ns = deliver k tv d (atom_at q.1 i) ns
  emit (ENum n) tv d q k ns = deliver k tv d (Literal n) ns
  emit (EFix arg res e) tv d q k ns =
      NCode d tv 0 (fix_args tv q.0 arg res)
      ∷ emit e tv (suc (suc (suc d))) (in_function d q) (Pass (suc (suc d))) (NEnd
      ∷ named (TKCode 0 (fix_args tv q.0 arg res)) k tv d ns)
  emit (EGen e t) tv d q k ns =
      NCode d tv 1 (gen_args (suc tv) (tv ∷ q.0) t)
      ∷ emit e (suc tv) (suc (suc d)) (under_type tv q) (Pass (suc d)) (NEnd
      ∷ named (TKCode 1 (gen_args (suc tv) (tv ∷ q.0) t)) k tv d ns)
  emit (EApp f x t) tv d q k ns = emit f tv d q (Bind (λ tv1 d1 fa. emit x tv1 d1 q (to_call q.0 fa t k))) ns
  emit (EInst e s t) tv d q k ns = emit e tv d q (to_inst q.0 s t k) ns
  emit (ETuple es t) tv d q k ns = emit_all es tv d q [] (to_tuple q.0 t k) ns
  emit (EProj i e t) tv d q k ns = emit e tv d q (to_one (proj_node i q.0 t) k) ns
  emit (EArith op a b) tv d q k ns =
      emit a tv d q (Bind (λ tv1 d1 aa. emit b tv1 d1 q (to_two (arith_node op) aa k))) ns
  emit (EIf c a b t) tv d q k ns =
      bound_once (kat tv q.0 t) k tv d
      (λ d1 l. emit c tv d1 q (Bind
      (λ tv2 d2 ca ms. atom_node ca ∷ NIf ∷ emit a tv2 d2 q (Pass l) (NElse tv2 ∷ emit b tv2 d2 q (Pass l) ms)))) ns
  emit (ELet a b) tv d q k ns = emit a tv d q (Bind (λ tv1 d1 x. emit b tv1 d1 (under_name x q) k)) ns
  emit (EPack h e s) tv d q k ns = emit e tv d q (to_one (pack_node q.0 h s) k) ns
  emit (EOpen a b t) tv d q k ns =
      emit a tv d q (Bind
      (λ tv1 d1 x ms. atom_node x ∷ unpack_node q.0 t tv1 d1
      ∷ emit b (suc tv1) (suc d1) (under_name (Level d1) (under_type tv1 q)) k ms)) ns
  emit (ERef e t) tv d q k ns = emit e tv d q (to_one (cell_node q.0 t) k) ns
  emit (EDeref e t) tv d q k ns = emit e tv d q (to_one (get_node q.0 t) k) ns
  emit (EAssign a b) tv d q k ns =
      emit a tv d q (Bind (λ tv1 d1 aa. emit b tv1 d1 q (to_two set_node aa k))) ns

  -- the fields of a tuple, after those that are done
  pub emit_all : Noteds → ℕ → ℕ → Scope → List Atom → (ℕ → ℕ → List Atom → List KNd → List KNd) → List KNd → List KNd
  emit_all NoNoteds tv d q done form ns = form tv d done ns
  emit_all (MoreNoteds e es) tv d q done form ns =
      emit e tv d q (Bind (λ tv1 d1 a. emit_all es tv1 d1 q (done ++ a ∷ []) form)) ns

-- the rest of a program: x. halt x
abbrev pub halting : Rest
halting = Bind (λ tv d x ns. atom_node x ∷ NHalt ∷ ns)

abbrev pub emit_of : Noted → List KNd
emit_of e = emit e 0 0 ([], []) halting []
