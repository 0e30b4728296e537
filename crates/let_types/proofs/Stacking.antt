-- Types of the values that wait.
use Rattle.std.proofs.Common.{◌≡◌, ◌≤◌, ◌<◌, ◌∙◌, ◌-◌, ℕ, zero, suc, List, [], ◌∷◌, ◌++◌, length, drop, take, get_or}
use Rattle.std.proofs.Common.{refl, sym, ap, ap₂, subst, arith}
use Rattle.c_terms.specs.C.{CTy, CTys, MoreCTys, TCCode, TCInt}
use Rattle.c_terms.specs.Read.{ctree, ctys}
use Rattle.h_terms.specs.H.{HBlks, HTuple, HVal, block_at}
use Rattle.h_terms.specs.Nodes.{at_last, h_blocks, tied, tupled}
use Rattle.h_terms.specs.declared.node.HBlock.{HBlock}
use Rattle.calc_core.specs.declared.types.CoreType.{CoreType as CType}
use Rattle.let_types.specs.Hoisted.{code_type, value_type, value_types, AreOf}

module _ (ks : HBlks) (g : List CTy) where
  pub of_snoc : (ts : List CType) (vs : List HVal) (t : CType) (v : HVal) → AreOf ks g ts vs →
      ctree t ≡ value_type ks g v → AreOf ks g (ts ++ t ∷ []) (vs ++ v ∷ [])
  of_snoc [] [] t v h e = (e, tt)
  of_snoc [] (w ∷ vs) t v h e = absurd h
  of_snoc (u ∷ ts) [] t v h e = absurd h
  of_snoc (u ∷ ts) (w ∷ vs) t v h e = (h.0, of_snoc ts vs t v h.1 e)

  of_length : (ts : List CType) (vs : List HVal) → AreOf ks g ts vs → length ts ≡ length vs
  of_length [] [] h = refl
  of_length [] (v ∷ vs) h = absurd h
  of_length (t ∷ ts) [] h = absurd h
  of_length (t ∷ ts) (v ∷ vs) h = ap suc (of_length ts vs h.1)

  of_take : (k : ℕ) (ts : List CType) (vs : List HVal) → AreOf ks g ts vs → AreOf ks g (take k ts) (take k vs)
  of_take zero ts vs h = tt
  of_take (suc k) [] [] h = tt
  of_take (suc k) [] (v ∷ vs) h = absurd h
  of_take (suc k) (t ∷ ts) [] h = absurd h
  of_take (suc k) (t ∷ ts) (v ∷ vs) h = (h.0, of_take k ts vs h.1)

  of_drop : (k : ℕ) (ts : List CType) (vs : List HVal) → AreOf ks g ts vs → AreOf ks g (drop k ts) (drop k vs)
  of_drop zero ts vs h = h
  of_drop (suc k) [] [] h = tt
  of_drop (suc k) [] (v ∷ vs) h = absurd h
  of_drop (suc k) (t ∷ ts) [] h = absurd h
  of_drop (suc k) (t ∷ ts) (v ∷ vs) h = of_drop k ts vs h.1

  of_tied : (ts : List CType) (vs : List HVal) → AreOf ks g ts vs → ctys ts ≡ value_types ks g (tied vs)
  of_tied [] [] h = refl
  of_tied [] (v ∷ vs) h = absurd h
  of_tied (t ∷ ts) [] h = absurd h
  of_tied (t ∷ ts) (v ∷ vs) h = ap₂ MoreCTys h.0 (of_tied ts vs h.1)

  pub of_more : (ts more : List CType) (vs : List HVal) (t : CType) (v : HVal) → more ≡ ts ++ t ∷ [] →
      ctree t ≡ value_type ks g v → AreOf ks g ts vs → AreOf ks g more (vs ++ v ∷ [])
  of_more ts more vs t v is e h =
      subst (λ (us : List CType). AreOf ks g us (vs ++ v ∷ [])) (sym is) (of_snoc ts vs t v h e)

  -- the last value is changed
  at_last_snoc : (f : HVal → HVal) (us : List HVal) (v : HVal) → at_last f (us ++ v ∷ []) ≡ us ++ f v ∷ []
  at_last_snoc f [] v = refl
  at_last_snoc f (u ∷ []) v = refl
  at_last_snoc f (u ∷ w ∷ us) v = ap (λ vs. u ∷ vs) (at_last_snoc f (w ∷ us) v)

  of_last : (ts : List CType) (t : CType) (vs : List HVal) → AreOf ks g (ts ++ t ∷ []) vs →
      (us : List HVal) × (v : HVal) × (vs ≡ us ++ v ∷ []) × AreOf ks g ts us × (ctree t ≡ value_type ks g v)
  of_last [] t [] h = absurd h
  of_last [] t (v ∷ []) h = ([], v, refl, tt, h.0)
  of_last [] t (v ∷ w ∷ vs) h = absurd h.1
  of_last (u ∷ ts) t [] h = absurd h
  of_last (u ∷ ts) t (v ∷ vs) h =
      let r = of_last ts t vs h.1 in (v ∷ r.0, r.1, ap (λ us. v ∷ us) r.2, (h.0, r.3), r.4)

  pub of_changed : (old mid new : List CType) (x y : CType) (vs : List HVal) (f : HVal → HVal) → old ≡ mid ++ x ∷ [] →
      new ≡ mid ++ y ∷ [] → ((v : HVal) → ctree x ≡ value_type ks g v → ctree y ≡ value_type ks g (f v)) →
      AreOf ks g old vs → AreOf ks g new (at_last f vs)
  of_changed old mid new x y vs f e1 e2 made h =
      let r = of_last mid x vs (subst (λ (us : List CType). AreOf ks g us vs) e1 h) in
      let same : at_last f vs ≡ r.0 ++ f r.1 ∷ [] = ap (at_last f) r.2 ∙ at_last_snoc f r.0 r.1 in
      subst (λ us. AreOf ks g new us) (sym same) (of_more mid new r.0 y (f r.1) e2 (made r.1 r.4) r.3)

  pub of_none : (old new : List CType) (vs : List HVal) (f : HVal → HVal) → old ≡ [] → new ≡ [] →
      AreOf ks g old vs → AreOf ks g new (at_last f vs)
  of_none [] [] [] f e i h = tt
  of_none [] [] (v ∷ vs) f e i h = absurd h
  of_none [] (t ∷ ts) vs f e i h = cc
  of_none (t ∷ ts) new vs f e i h = cc

  -- the last values become a tuple
  pub of_tuple : (from k : ℕ) (old cut new fields : List CType) (t : CType) (vs : List HVal) → from ≡ length old - k →
      ctys fields ≡ ctys (drop from old) → cut ≡ take from old → new ≡ cut ++ t ∷ [] →
      ((us : CTys) → ctys fields ≡ us → ctree t ≡ value_type ks g (HTuple (tied (drop from vs)))) →
      AreOf ks g old vs → AreOf ks g new (tupled k vs)
  of_tuple from k old cut new fields t vs is copied e1 e2 made h =
      let many : from ≡ length vs - k = is ∙ ap (λ l. l - k) (of_length old vs h) in
      let last = made (ctys fields) refl in
      subst (λ j. AreOf ks g new (take j vs ++ HTuple (tied (drop j vs)) ∷ [])) many
      (of_more cut new (take from vs) t (HTuple (tied (drop from vs))) e2 last
      (subst (λ (us : List CType). AreOf ks g us (take from vs)) (sym e1) (of_take from old vs h)))

  pub of_fields : (from : ℕ) (old : List CType) (vs : List HVal) → AreOf ks g old vs →
      ctys (drop from old) ≡ value_types ks g (tied (drop from vs))
  of_fields from old vs h = of_tied (drop from old) (drop from vs) (of_drop from old vs h)

-- labels
pub code_in : (bs : List HBlock) (l : ℕ) (b : HBlock) → l < length bs → b ≡ get_or bs l b →
    TCCode b.owes (ctys b.args.items) ≡ code_type (block_at (h_blocks bs) l)
code_in [] l b lt is = absurd (omega arith)
code_in (x ∷ bs) zero b lt is = ap (λ (y : HBlock). TCCode y.owes (ctys y.args.items)) is
code_in (x ∷ bs) (suc l) b lt is = code_in bs l b (omega arith) is

pub code_out : (bs : List HBlock) (l : ℕ) → length bs ≤ l → TCInt ≡ code_type (block_at (h_blocks bs) l)
code_out [] l le = refl
code_out (x ∷ bs) zero le = absurd (omega arith)
code_out (x ∷ bs) (suc l) le = code_out bs l (omega arith)
