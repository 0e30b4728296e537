-- The nodes of a term in scope are read back.
use Rattle.std.proofs.Common.{◌≡◌, ℕ, suc, ◌+◌, List, [], ◌∷◌, refl, sym, ap, ap₂, ◌∙◌, arith}
use Rattle.calc_core.specs.Ends.{lift}
use Rattle.c_terms.specs.C.{CVal, CVar, CInt, CTuple, CCode, CApply, CPack, CVals, NoCVals, MoreCVals, CName, CProj}
use Rattle.c_terms.specs.C.{CArith, CUnpack, CCell, CGet, CSet, CTm, CLet, CCall, CIf, CHalt, ccount}
use Rattle.c_terms.specs.Stream.{CNd, MTuple, MEnd, MApply, MPack, MName, MProj, MArith, MUnpack, MCell, MGet, MSet}
use Rattle.c_terms.specs.Stream.{MCall, MIf, MElse, MHalt, clin_v, clin_vs, clin_t, cwidth}
use Rattle.c_terms.specs.Scope.{CScoped_v, CScoped_vs, CScoped}
use Rattle.c_terms.specs.Decode.{Body, Open, InCode, InThen, taken, past, all, fresh, push, bind, calls, halts, other}
use Rattle.c_terms.specs.Decode.{read_on, cdecode}
use Rattle.calc_core.proofs.Levels.{level_below}

abbrev onto : CVals → List CVal → List CVal
onto NoCVals ws = ws
onto (MoreCVals v vs) ws = onto vs (v ∷ ws)

abbrev before : CVals → CVals → CVals
before NoCVals more = more
before (MoreCVals v vs) more = MoreCVals v (before vs more)

before_none : (vs : CVals) → before vs NoCVals ≡ vs
before_none NoCVals = refl
before_none (MoreCVals v vs) = ap (MoreCVals v) (before_none vs)

taken_more : (vs : CVals) (m : ℕ) (ws : List CVal) (more : CVals) →
    taken (cwidth vs + m) (onto vs ws) more ≡ taken m ws (before vs more)
taken_more NoCVals m ws more = ap (λ k. taken k ws more) (let e : 0 + m ≡ m = omega arith in e)
taken_more (MoreCVals v vs) m ws more =
    ap (λ k. taken k (onto vs (v ∷ ws)) more) (let e : suc (cwidth vs) + m ≡ cwidth vs + suc m = omega arith in e)
    ∙ taken_more vs (suc m) (v ∷ ws) more

past_more : (vs : CVals) (m : ℕ) (ws : List CVal) → past (cwidth vs + m) (onto vs ws) ≡ past m ws
past_more NoCVals m ws = ap (λ k. past k ws) (let e : 0 + m ≡ m = omega arith in e)
past_more (MoreCVals v vs) m ws =
    ap (λ k. past k (onto vs (v ∷ ws))) (let e : suc (cwidth vs) + m ≡ cwidth vs + suc m = omega arith in e)
    ∙ past_more vs (suc m) (v ∷ ws)

all_more : (vs : CVals) (ws : List CVal) (more : CVals) → all (onto vs ws) more ≡ all ws (before vs more)
all_more NoCVals ws more = refl
all_more (MoreCVals v vs) ws more = all_more vs (v ∷ ws) more

taken_all : (vs : CVals) (ws : List CVal) → taken (cwidth vs) (onto vs ws) NoCVals ≡ vs
taken_all vs ws = ap (λ k. taken k (onto vs ws) NoCVals) (let e : cwidth vs ≡ cwidth vs + 0 = omega arith in e)
    ∙ taken_more vs 0 ws NoCVals ∙ before_none vs

past_all : (vs : CVals) (ws : List CVal) → past (cwidth vs) (onto vs ws) ≡ ws
past_all vs ws =
    ap (λ k. past k (onto vs ws)) (let e : cwidth vs ≡ cwidth vs + 0 = omega arith in e) ∙ past_more vs 0 ws

abbrev pushes : Body → CVals → Body
pushes b vs = record { depth = b.depth; around = b.around; ending = b.ending; waiting = onto vs b.waiting }

mutual
  run_v : (v : CVal) (ns : List CNd) (b : Body) (os : List Open) → CScoped_v b.depth v →
      read_on (clin_v b.depth v ns) b os ≡ read_on ns (push b v) os
  run_v (CVar i) ns b os h = ap (λ j. read_on ns (push b (CVar j)) os) (omega (arith, h, level_below b.depth i h))
  run_v (CInt m) ns b os h = refl
  run_v (CTuple vs) ns b os h =
      run_vs vs (MTuple (cwidth vs) ∷ ns) b os h
      ∙ ap₂ (λ (us : CVals) (ws : List CVal).
      read_on ns (record { depth = b.depth; around = b.around; ending = b.ending; waiting = CTuple us ∷ ws }) os)
      (taken_all vs b.waiting) (past_all vs b.waiting)
  run_v (CCode owes args body) ns b os h =
      run_t body (MEnd ∷ ns) (fresh (lift (ccount args) 1)) (InCode b owes args ∷ os)
      (read_on ns (push b (CCode owes args body)) os) h
      (λ c e. ap (λ (t : CTm). read_on ns (push b (CCode owes args t)) os) e)
  run_v (CApply v ts) ns b os h = run_v v (MApply ts ∷ ns) b os h
  run_v (CPack x v s) ns b os h = run_v v (MPack x s ∷ ns) b os h

  run_vs : (vs : CVals) (ns : List CNd) (b : Body) (os : List Open) → CScoped_vs b.depth vs →
      read_on (clin_vs b.depth vs ns) b os ≡ read_on ns (pushes b vs) os
  run_vs NoCVals ns b os h = refl
  run_vs (MoreCVals v vs) ns b os h = run_v v (clin_vs b.depth vs ns) b os h.0 ∙ run_vs vs ns (push b v) os h.1

  run_t : (t : CTm) (ns : List CNd) (b : Body) (os : List Open) (r : CTm) → CScoped b.depth t →
      ((c : Body) → c.ending c.waiting ≡ b.around t → read_on ns c os ≡ r) → read_on (clin_t b.depth t ns) b os ≡ r
  run_t (CLet (CName v) t) ns b os r h k = run_v v (MName b.depth ∷ clin_t (suc b.depth) t ns) b os h.0
      ∙ run_t t ns (bind (push b v) (CName v) b.waiting) os r h.1 k
  run_t (CLet (CCell v) t) ns b os r h k = run_v v (MCell b.depth ∷ clin_t (suc b.depth) t ns) b os h.0
      ∙ run_t t ns (bind (push b v) (CCell v) b.waiting) os r h.1 k
  run_t (CLet (CGet v) t) ns b os r h k = run_v v (MGet b.depth ∷ clin_t (suc b.depth) t ns) b os h.0
      ∙ run_t t ns (bind (push b v) (CGet v) b.waiting) os r h.1 k
  run_t (CLet (CSet v w) t) ns b os r h k =
      let more : List CNd = MSet b.depth ∷ clin_t (suc b.depth) t ns in
      run_v v (clin_v b.depth w more) b os h.0.0 ∙ run_v w more (push b v) os h.0.1
      ∙ run_t t ns (bind (push (push b v) w) (CSet v w) b.waiting) os r h.1 k
  run_t (CLet (CProj i v) t) ns b os r h k = run_v v (MProj b.depth i ∷ clin_t (suc b.depth) t ns) b os h.0
      ∙ run_t t ns (bind (push b v) (CProj i v) b.waiting) os r h.1 k
  run_t (CLet (CArith op v w) t) ns b os r h k =
      let more : List CNd = MArith b.depth op ∷ clin_t (suc b.depth) t ns in
      run_v v (clin_v b.depth w more) b os h.0.0 ∙ run_v w more (push b v) os h.0.1
      ∙ run_t t ns (bind (push (push b v) w) (CArith op v w) b.waiting) os r h.1 k
  run_t (CLet (CUnpack v) t) ns b os r h k = run_v v (MUnpack b.depth ∷ clin_t (suc b.depth) t ns) b os h.0
      ∙ run_t t ns (bind (push b v) (CUnpack v) b.waiting) os r h.1 k
  run_t (CCall f ts vs) ns b os r h k =
      run_v f (MCall ts (cwidth vs) ∷ clin_vs b.depth vs ns) b os h.0
      ∙ run_vs vs ns (calls (push b f) ts) os h.1
      ∙ k (pushes (calls (push b f) ts) vs)
      (ap (λ (us : CVals). b.around (CCall f ts us)) (all_more vs [] NoCVals ∙ before_none vs))
  run_t (CIf v t u) ns b os r h k =
      run_v v (MIf ∷ clin_t b.depth t (MElse ∷ clin_t b.depth u ns)) b os h.0
      ∙ run_t t (MElse ∷ clin_t b.depth u ns) (fresh b.depth) (InThen (push b v) v ∷ os) r h.1
      (λ c e. run_t u ns (other (push b v) v (c.ending c.waiting)) os r h.2
      (λ c2 e2. k c2 (e2 ∙ ap (λ (x : CTm). b.around (CIf v x u)) e)))
  run_t (CHalt v) ns b os r h k = run_v v (MHalt ∷ ns) b os h ∙ k (halts (push b v)) refl

pub reads_back : (t : CTm) → CScoped 0 t → cdecode (clin_t 0 t []) ≡ t
reads_back t h = run_t t [] (fresh 0) [] t h (λ c e. e)

pub one_term : (t u : CTm) → CScoped 0 t → CScoped 0 u → clin_t 0 t [] ≡ clin_t 0 u [] → t ≡ u
one_term t u h k e = sym (reads_back t h) ∙ ap cdecode e ∙ reads_back u k
