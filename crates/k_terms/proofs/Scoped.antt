-- A typed term has its names and its type variables in scope.
use Rattle.std.proofs.Common.{ℕ, suc, List, ◌∷◌, length, subst}
use Rattle.calc_core.specs.Ends.{lift, after_one}
use Rattle.k_terms.specs.K.{KTy, KTys, TKInt, KVal, KVar, KInt, KTuple, KCode, KVals}
use Rattle.k_terms.specs.K.{NoKVals, MoreKVals, KDecl, KName, KProj, KArith, KPack, KUnpack, KCell, KGet, KSet, KTm}
use Rattle.k_terms.specs.K.{KLet, KCall, KIf, KHalt, kbody_scope, opens}
use Rattle.k_terms.specs.K.{scope_more}
use Rattle.k_terms.specs.Typing.{KHas, KHave, KGives, KTyped}
use Rattle.k_terms.specs.Scope.{ValueIn, ValuesIn, DeclIn, TermIn}
use Rattle.calc_core.specs.Calculus.{Open}
use Rattle.calc_core.proofs.NamesIn.{more_length, body_length}
use Rattle.calc_core.proofs.Scopes.{named_below as at_in}

mutual
  has_in : (v : KVal) (n : ℕ) (g : List KTy) (t : KTy) → KHas n g v t → ValueIn (length g) n v
  has_in (KVar i) n g t h = at_in g i t h
  has_in (KInt m) n g t h = tt
  has_in (KTuple vs) n g t h = have_in vs n g h.0 h.2
  has_in (KCode owes args body) n g t h = (
    h.1,
    subst (λ k. TermIn k (lift owes n) body) (body_length Open owes args g)
        (good_in body (lift owes n) (kbody_scope owes args g) h.2),
  )

  have_in : (vs : KVals) (n : ℕ) (g : List KTy) (ts : KTys) → KHave n g vs ts → ValuesIn (length g) n vs
  have_in NoKVals n g ts h = tt
  have_in (MoreKVals v vs) n g ts h = (has_in v n g h.0 h.3, have_in vs n g h.1 h.4)

  gives_in : (x : KDecl) (n : ℕ) (g : List KTy) (t : KTy) → KGives n g x t → DeclIn (length g) n x
  gives_in (KName v) n g t h = has_in v n g t h
  gives_in (KProj i v) n g t h = has_in v n g _ h.1
  gives_in (KArith op v w) n g t h = (has_in v n g TKInt h.1, has_in w n g TKInt h.2)
  gives_in (KPack x v s) n g t h = (h.3, h.4, has_in v n g _ h.5)
  gives_in (KUnpack v) n g t h = has_in v n g _ h
  gives_in (KCell v) n g t h = has_in v n g h.0 h.2
  gives_in (KGet v) n g t h = has_in v n g _ h
  gives_in (KSet v w) n g t h = (has_in v n g _ h.2, has_in w n g h.0 h.3)

  pub good_in : (t : KTm) (n : ℕ) (g : List KTy) → KTyped n g t → TermIn (length g) n t
  good_in (KLet x t) n g h =
      let m = after_one (opens x) n in (
        gives_in x n g h.0 h.1,
        subst (λ k. TermIn (suc k) m t) (more_length (opens x) g) (good_in t m (h.0 ∷ scope_more (opens x) g) h.2),
      )
  good_in (KCall f ts vs) n g h = (has_in f n g _ h.1, h.2, have_in vs n g _ h.3)
  good_in (KIf v t u) n g h = (has_in v n g TKInt h.0, good_in t n g h.1, good_in u n g h.2)
  good_in (KHalt v) n g h = has_in v n g TKInt h
