-- The nodes of a term in scope are read back.
use Rattle.std.proofs.Common.{◌≡◌, ℕ, suc, ◌+◌, List, [], ◌∷◌, refl, sym, ap, ap₂, ◌∙◌, arith}
use Rattle.calc_core.specs.Ends.{lift, after_one}
use Rattle.calc_core.proofs.Levels.{level_below}
use Rattle.k_terms.specs.K.{KTy, KVal, KVar, KInt, KTuple, KCode, KVals, NoKVals, MoreKVals, KDecl, KName, KProj}
use Rattle.k_terms.specs.K.{KArith, KPack, KUnpack, KCell, KGet, KSet, KTm, KLet, KCall, KIf, KHalt, kcount}
use Rattle.k_terms.specs.K.{kbody_scope, opens, scope_more}
use Rattle.k_terms.specs.Types.{kd_type}
use Rattle.k_terms.specs.Stream.{KNd, NTuple, NEnd, NName, NProj, NArith, NPack, NUnpack, NCell, NGet, NSet, NCall}
use Rattle.k_terms.specs.Stream.{NIf, NElse, NHalt, klin_v, klin_vs, klin_d, klin_t, kwidth}
use Rattle.k_terms.specs.Scope.{ValueIn, ValuesIn, DeclIn, TermIn}
use Rattle.k_terms.specs.Decode.{Body, Open, InCode, InThen, taken, past, all, fresh, push, bind, calls, halts, other}
use Rattle.k_terms.specs.Decode.{run, decode}

abbrev onto : KVals → List KVal → List KVal
onto NoKVals ws = ws
onto (MoreKVals v vs) ws = onto vs (v ∷ ws)

abbrev before : KVals → KVals → KVals
before NoKVals more = more
before (MoreKVals v vs) more = MoreKVals v (before vs more)

before_none : (vs : KVals) → before vs NoKVals ≡ vs
before_none NoKVals = refl
before_none (MoreKVals v vs) = ap (MoreKVals v) (before_none vs)

taken_more : (vs : KVals) (m : ℕ) (ws : List KVal) (more : KVals) →
    taken (kwidth vs + m) (onto vs ws) more ≡ taken m ws (before vs more)
taken_more NoKVals m ws more = ap (λ k. taken k ws more) (let e : 0 + m ≡ m = omega arith in e)
taken_more (MoreKVals v vs) m ws more =
    ap (λ k. taken k (onto vs (v ∷ ws)) more) (let e : suc (kwidth vs) + m ≡ kwidth vs + suc m = omega arith in e)
    ∙ taken_more vs (suc m) (v ∷ ws) more

past_more : (vs : KVals) (m : ℕ) (ws : List KVal) → past (kwidth vs + m) (onto vs ws) ≡ past m ws
past_more NoKVals m ws = ap (λ k. past k ws) (let e : 0 + m ≡ m = omega arith in e)
past_more (MoreKVals v vs) m ws =
    ap (λ k. past k (onto vs (v ∷ ws))) (let e : suc (kwidth vs) + m ≡ kwidth vs + suc m = omega arith in e)
    ∙ past_more vs (suc m) (v ∷ ws)

all_more : (vs : KVals) (ws : List KVal) (more : KVals) → all (onto vs ws) more ≡ all ws (before vs more)
all_more NoKVals ws more = refl
all_more (MoreKVals v vs) ws more = all_more vs (v ∷ ws) more

taken_all : (vs : KVals) (ws : List KVal) → taken (kwidth vs) (onto vs ws) NoKVals ≡ vs
taken_all vs ws =
    ap (λ k. taken k (onto vs ws) NoKVals) (let e : kwidth vs ≡ kwidth vs + 0 = omega arith in e)
    ∙ taken_more vs 0 ws NoKVals ∙ before_none vs

past_all : (vs : KVals) (ws : List KVal) → past (kwidth vs) (onto vs ws) ≡ ws
past_all vs ws =
    ap (λ k. past k (onto vs ws)) (let e : kwidth vs ≡ kwidth vs + 0 = omega arith in e) ∙ past_more vs 0 ws

abbrev pushes : Body → KVals → Body
pushes b vs = record { depth = b.depth; around = b.around; ending = b.ending; waiting = onto vs b.waiting }

mutual
  run_v : (v : KVal) (n td : ℕ) (g : List KTy) (ns : List KNd) (b : Body) (os : List Open) → ValueIn b.depth n v →
      run (klin_v b.depth td g v ns) b os ≡ run ns (push b v) os
  run_v (KVar i) n td g ns b os h = ap (λ j. run ns (push b (KVar j)) os) (omega (arith, h, level_below b.depth i h))
  run_v (KInt m) n td g ns b os h = refl
  run_v (KTuple vs) n td g ns b os h =
      run_vs vs n td g (NTuple (kwidth vs) ∷ ns) b os h
      ∙ ap₂ (λ (us : KVals) (ws : List KVal).
      run ns (record { depth = b.depth; around = b.around; ending = b.ending; waiting = KTuple us ∷ ws }) os)
      (taken_all vs b.waiting) (past_all vs b.waiting)
  run_v (KCode owes args body) n td g ns b os h =
      run_t body (lift owes n) (lift owes td) (kbody_scope owes args g) (NEnd ∷ ns)
      (fresh (lift (kcount args) (suc b.depth)))
      (InCode b owes args ∷ os) (run ns (push b (KCode owes args body)) os) h.1
      (λ c e. ap (λ (t : KTm). run ns (push b (KCode owes args t)) os) e)

  run_vs : (vs : KVals) (n td : ℕ) (g : List KTy) (ns : List KNd) (b : Body) (os : List Open) → ValuesIn b.depth n vs →
      run (klin_vs b.depth td g vs ns) b os ≡ run ns (pushes b vs) os
  run_vs NoKVals n td g ns b os h = refl
  run_vs (MoreKVals v vs) n td g ns b os h =
      run_v v n td g (klin_vs b.depth td g vs ns) b os h.0 ∙ run_vs vs n td g ns (push b v) os h.1

  run_d : (x : KDecl) (n td : ℕ) (g : List KTy) (ns : List KNd) (b : Body) (os : List Open) → DeclIn b.depth n x →
      run (klin_d b.depth td g x ns) b os ≡ run ns (bind b x b.waiting) os
  run_d (KName v) n td g ns b os h = run_v v n td g (NName b.depth (kd_type g (KName v)) ∷ ns) b os h
  run_d (KProj i v) n td g ns b os h = run_v v n td g (NProj b.depth i (kd_type g (KProj i v)) ∷ ns) b os h
  run_d (KArith op v w) n td g ns b os h =
      run_v v n td g (klin_v b.depth td g w (NArith b.depth op ∷ ns)) b os h.0
      ∙ run_v w n td g (NArith b.depth op ∷ ns) (push b v) os h.1
  run_d (KPack x v s) n td g ns b os h = run_v v n td g (NPack b.depth td x s ∷ ns) b os h.2
  run_d (KUnpack v) n td g ns b os h = run_v v n td g (NUnpack b.depth td (kd_type g (KUnpack v)) ∷ ns) b os h
  run_d (KCell v) n td g ns b os h = run_v v n td g (NCell b.depth (kd_type g (KCell v)) ∷ ns) b os h
  run_d (KGet v) n td g ns b os h = run_v v n td g (NGet b.depth (kd_type g (KGet v)) ∷ ns) b os h
  run_d (KSet v w) n td g ns b os h =
      run_v v n td g (klin_v b.depth td g w (NSet b.depth ∷ ns)) b os h.0
      ∙ run_v w n td g (NSet b.depth ∷ ns) (push b v) os h.1

  run_t : (t : KTm) (n td : ℕ) (g : List KTy) (ns : List KNd) (b : Body) (os : List Open) (r : KTm) →
      TermIn b.depth n t →
      ((c : Body) → c.ending c.waiting ≡ b.around t → run ns c os ≡ r) → run (klin_t b.depth td g t ns) b os ≡ r
  run_t (KLet x t) n td g ns b os r h k =
      let m = after_one (opens x) td in
      let f : List KTy = kd_type g x ∷ scope_more (opens x) g in
      run_d x n td g (klin_t (suc b.depth) m f t ns) b os h.0
      ∙ run_t t (after_one (opens x) n) m f ns (bind b x b.waiting) os r h.1 k
  run_t (KCall f ts vs) n td g ns b os r h k =
      run_v f n td g (NCall b.depth td ts (kwidth vs) ∷ klin_vs b.depth td g vs ns) b os h.0
      ∙ run_vs vs n td g ns (calls (push b f) ts) os h.2
      ∙ k (pushes (calls (push b f) ts) vs)
      (ap (λ (us : KVals). b.around (KCall f ts us)) (all_more vs [] NoKVals ∙ before_none vs))
  run_t (KIf v t u) n td g ns b os r h k =
      run_v v n td g (NIf ∷ klin_t b.depth td g t (NElse td ∷ klin_t b.depth td g u ns)) b os h.0
      ∙ run_t t n td g (NElse td ∷ klin_t b.depth td g u ns) (fresh b.depth) (InThen (push b v) v ∷ os) r h.1
      (λ c e. run_t u n td g ns (other (push b v) v (c.ending c.waiting)) os r h.2
      (λ c2 e2. k c2 (e2 ∙ ap (λ (x : KTm). b.around (KIf v x u)) e)))
  run_t (KHalt v) n td g ns b os r h k = run_v v n td g (NHalt ∷ ns) b os h ∙ k (halts (push b v)) refl

pub reads_back : (t : KTm) → TermIn 0 0 t → decode (klin_t 0 0 [] t []) ≡ t
reads_back t h = run_t t 0 0 [] [] (fresh 0) [] t h (λ c e. e)

pub one_term : (t u : KTm) → TermIn 0 0 t → TermIn 0 0 u → klin_t 0 0 [] t [] ≡ klin_t 0 0 [] u [] → t ≡ u
one_term t u h k e = sym (reads_back t h) ∙ ap decode e ∙ reads_back u k
