-- The verdict on each form, from those on its parts.
use Rattle.std.proofs.Common.{◌≡◌, ◌≢◌, ◌∙◌, ◌+◌, ◌≤◌, ℕ, Result, Ok, Err, min, ap, sym, refl, subst, arith, inl, inr}
use Rattle.std.proofs.Common.{None}
use Rattle.f_terms.specs.TyLaws.{put_bound, unshift}
use Rattle.f_terms.specs.Ty.{Ty, TInt, TArrow, TAll, TSome, TRef, Tys, shift, put, Below, size, depth}
use Rattle.f_terms.specs.Tm.{Spn, Tm, SFix, SApp, SGen, SInst, SIf0, SPack, SOpen, SRef, SDeref, SAssign}
use Rattle.f_terms.specs.Tm.{span_of}
use Rattle.f_terms.specs.Limits.{Within}
use Rattle.f_terms.specs.Typing.{raised, in_fix, in_open}
use Rattle.f_terms.specs.Noted.{outside}
use Rattle.text_core.specs.Refusals.{Refusal, nothing, check, part}
use Rattle.f_terms.specs.Mismatch.{WType, WFunction, WPolymorphic, WPackage, WReference, WOutside, odds}
use Rattle.f_terms.specs.Faults.{Passes, Note, at_odds, limits, if_arrow, if_all, if_some, if_ref, fitting}
use Rattle.f_terms.specs.Faults.{FaultNoted, FaultWith}
use Rattle.f_terms.specs.Read.{tree, place}
use Rattle.f_terms.specs.declared.types.FType.{FType}
use Rattle.f_terms.specs.declared.fault.Code.TheVariants.{E07, E08, E09, E13, E14, E16, E17, E18, E21, E22}
use Rattle.f_terms.proofs.Limited.{unshift_within, ref_within}
use Rattle.f_check.specs.Verdict.{IsTypeOf}
use Rattle.f_check.specs.Told.{read, Tells, counted, IsFound, IsPut}
use Rattle.f_check.specs.declared.failure.Failure.{Failure}
use Rattle.f_check.specs.declared.failure.Failure.TheVariants.{Memory, Refused}

-- a fault of a part is one of the whole
pub tells_map : (f : Failure) (F G : Refusal Note Spn) → ((c : Note) (p : Spn) → F c p → G c p) → Tells f F → Tells f G
tells_map Memory F G go h = tt
tells_map (Refused c s m) F G go h = go (c, read m) (place s) h

-- a type of another form
module _ (o : Refusal Note Spn) (c : Note) (q : Spn) where
  other_arrow : (go : Ty → Ty → Refusal Note Spn) (t : Ty) → ((a b : Ty) → t ≢ TArrow a b) → o c q →
      if_arrow t o go c q
  other_arrow go (TArrow a b) h k = absurd (h a b refl)
  other_arrow go _ h k = k

  other_all : (go : Ty → Refusal Note Spn) (t : Ty) → ((b : Ty) → t ≢ TAll b) → o c q → if_all t o go c q
  other_all go (TAll b) h k = absurd (h b refl)
  other_all go _ h k = k

  other_some : (go : Ty → Refusal Note Spn) (t : Ty) → ((b : Ty) → t ≢ TSome b) → o c q → if_some t o go c q
  other_some go (TSome b) h k = absurd (h b refl)
  other_some go _ h k = k

  other_ref : (go : Ty → Refusal Note Spn) (t : Ty) → ((b : Ty) → t ≢ TRef b) → o c q → if_ref t o go c q
  other_ref go (TRef b) h k = absurd (h b refl)
  other_ref go _ h k = k

-- limits that were checked on counts
pub within : (t : Ty) (d w : ℕ) → d ≡ min (depth t) 18446744073709551615 → w ≡ min (size t) 18446744073709551615 →
    (d ≤ 200) × (w ≤ 10000) → Within t
within t d w ed ew h = (omega (arith, ed, h.0), omega (arith, ew, h.1))

pub limits_of : (t : Ty) (d w : ℕ) (s : Spn) → d ≡ min (depth t) 18446744073709551615 →
    w ≡ min (size t) 18446744073709551615 →
    (c : Note) (p : Spn) → counted d w s c p → limits t s nothing c p
limits_of t d w s ed ew c p (inl h) = inl ((λ x. h.0 (omega (arith, ed, x))), h.1)
limits_of t d w s ed ew c p (inr (e, inl k)) =
    inr (omega (arith, ed, e), inl ((λ x. k.0 (omega (arith, ew, x))), k.1))
limits_of t d w s ed ew c p (inr (e, inr k)) = absurd k.1

-- a limit that is passed, whatever is checked after it
pub limits_then : (t : Ty) (s : Spn) (rest : Refusal Note Spn) (c : Note) (p : Spn) →
    limits t s nothing c p → limits t s rest c p
limits_then t s rest c p (inl h) = inl h
limits_then t s rest c p (inr (e, inl k)) = inr (e, inl k)
limits_then t s rest c p (inr (e, inr k)) = absurd k.1

module _ (n : ℕ) (g : Tys) (s : Spn) where
  pub fix_limit : (a r : Ty) (b : Tm) (c : Note) (p : Spn) →
      limits (TArrow a r) s nothing c p → FaultNoted (SFix s a r b) n g c p
  fix_limit a r b c p h = limits_then (TArrow a r) s (part (FaultNoted b n (in_fix a r g)) (Passes b n (in_fix a r g))
      (λ t. check (t ≡ r) (at_odds E14 n (WType r) t (span_of b)) nothing)) c p h

  pub fix_res : (a r t : Ty) (b : Tm) (h : Tys) (q : Spn) → h ≡ in_fix a r g → Within (TArrow a r) → Passes b n h t →
      t ≢ r → span_of b ≡ q → FaultWith (SFix s a r b) n g E14 q (odds n (WType r) t)
  fix_res a r t b h q e w ok ne at =
      inr (w.0, inr (w.1, inr (t, subst (λ y. Passes b n y t) e ok, inl (ne, (refl, sym at)))))

  pub fix_ok : (a r t f : Ty) (b : Tm) (h : Tys) → h ≡ in_fix a r g → Within (TArrow a r) → Below n a → Below n r →
      Passes b n h t → t ≡ r → f ≡ TArrow a r → IsTypeOf (SFix s a r b) n g f
  fix_ok a r t f b h e w ba br ok et ef = (
    (ef, ba, br, w, subst (Passes b n (in_fix a r g)) et (subst (λ y. Passes b n y t) e ok)),
    subst (Below n) (sym ef) (ba, br),
    subst Within (sym ef) w,
  )

  pub app_fun : (f x : Tm) (t : Ty) (q : Spn) → Passes f n g t → ((a b : Ty) → t ≢ TArrow a b) → span_of f ≡ q →
      FaultWith (SApp s f x) n g E07 q (odds n WFunction t)
  app_fun f x t q pf ne at = inr (t, pf, other_arrow _ _ _ _ t ne (refl, sym at))

  pub app_arg : (f x : Tm) (t a b u : Ty) (q : Spn) → Passes f n g t → t ≡ TArrow a b → Passes x n g u → u ≢ a →
      span_of x ≡ q → FaultWith (SApp s f x) n g E08 q (odds n (WType a) u)
  app_arg f x t a b u q pf et px ne at =
      inr (TArrow a b, subst (Passes f n g) et pf, inr (u, px, inl (ne, (refl, sym at))))

  pub app_ok : (f x : Tm) (t a b u : Ty) → IsTypeOf f n g t → t ≡ TArrow a b → Passes x n g u → u ≡ a →
      IsTypeOf (SApp s f x) n g b
  app_ok f x t a b u hf et px eu =
      let h = subst (IsTypeOf f n g) et hf in
      ((a, h.0, subst (Passes x n g) eu px), h.1.1, (omega (arith, h.2.0), omega (arith, h.2.1)))

  pub gen_limit : (b : Tm) (h : Tys) (t : Ty) → raised g ≡ h → Passes b (n + 1) h t →
      (c : Note) (p : Spn) → limits (TAll t) s nothing c p → FaultNoted (SGen s b) n g c p
  gen_limit b h t up ok c p k = inr (t, subst (λ y. Passes b (n + 1) y t) (sym up) ok, k)

  pub gen_ok : (b : Tm) (h : Tys) (t u : Ty) → raised g ≡ h → IsTypeOf b (n + 1) h t → Within (TAll t) → u ≡ TAll t →
      IsTypeOf (SGen s b) n g u
  gen_ok b h t u up ok w eu = (
    (t, eu, subst (λ y. Passes b (n + 1) y t) (sym up) ok.0, w),
    subst (Below n) (sym eu) (tt, ok.1),
    subst Within (sym eu) w,
  )

  pub inst_all : (f : Tm) (a t : Ty) (q : Spn) → Passes f n g t → ((b : Ty) → t ≢ TAll b) → span_of f ≡ q →
      FaultWith (SInst s f a) n g E09 q (odds n WPolymorphic t)
  inst_all f a t q pf ne at = inr (t, pf, other_all _ _ _ _ t ne (refl, sym at))

  pub inst_limit : (f : Tm) (a t b : Ty) → Passes f n g t → t ≡ TAll b → (c : Note) (p : Spn) →
      limits a s (limits (put 0 a b) s nothing) c p → FaultNoted (SInst s f a) n g c p
  inst_limit f a t b pf et c p k = inr (TAll b, subst (Passes f n g) et pf, k)

  pub inst_ok : (f : Tm) (a t b u : Ty) → IsTypeOf f n g t → t ≡ TAll b → Below n a → (u ≡ put 0 a b) × Within a
      × Within (put 0 a b) → IsTypeOf (SInst s f a) n g u
  inst_ok f a t b u hf et ba hu =
      let h = subst (IsTypeOf f n g) et hf in (
        (b, hu.0, ba, h.0, hu.1, hu.2),
        subst (Below n) (sym hu.0) (put_bound n a b ba h.1.1),
        subst Within (sym hu.0) hu.2,
      )

  pub inst_put : (f : Tm) (a t b : Ty) → IsTypeOf f n g t → t ≡ TAll b → Below n a → (r : Result FType Failure) →
      IsPut a b s r → IsFound (SInst s f a) n g r
  inst_put f a t b hf et ba (Ok u) h = inst_ok f a t b (tree u) hf et ba h
  inst_put f a t b hf et ba (Err e) h =
      tells_map e (limits a s (limits (put 0 a b) s nothing)) (FaultNoted (SInst s f a) n g)
      (inst_limit f a t b hf.0 et) h

  pub if_branches : (x a b : Tm) (t u : Ty) (q : Spn) → Passes x n g TInt → Passes a n g t → Passes b n g u → u ≢ t →
      span_of b ≡ q → FaultWith (SIf0 s x a b) n g E13 q (odds n (WType t) u)
  if_branches x a b t u q px pa pb ne at =
      inr (TInt, px, inr (refl, inr (t, pa, inr (u, pb, inl (ne, (refl, sym at))))))

  -- a package: its shape, its limits, its part
  pub pack_shape : (h r : Ty) (e : Tm) → ((b : Ty) → r ≢ TSome b) →
      FaultWith (SPack s h e r) n g E16 s (odds n WPackage r)
  pack_shape h r e ne = other_some _ _ _ _ r ne (refl, refl)

  -- what comes after the two types of a package
  abbrev pack_rest : Ty → Ty → Tm → Refusal Note Spn
  pack_rest h b e = part (FaultNoted e n g) (Passes e n g)
      (λ t. check (t ≡ put 0 h b) (fitting n (put 0 h b) t (span_of e)) nothing)

  pack_is : (h r b : Ty) (e : Tm) → r ≡ TSome b → (c : Note) (p : Spn) →
      limits h s (limits r s (pack_rest h b e)) c p → FaultNoted (SPack s h e r) n g c p
  pack_is h r b e is c p k =
      subst (λ x. if_some x (at_odds E16 n WPackage r s)
      (λ u. limits h s (limits r s (pack_rest h u e))) c p) (sym is) k

  pub pack_hidden : (h r b : Ty) (e : Tm) → r ≡ TSome b → (c : Note) (p : Spn) →
      limits h s nothing c p → FaultNoted (SPack s h e r) n g c p
  pack_hidden h r b e is c p k =
      pack_is h r b e is c p (limits_then h s (limits r s (pack_rest h b e)) c p k)

  pub pack_limit : (h r b : Ty) (e : Tm) → r ≡ TSome b → Within h → (c : Note) (p : Spn) →
      limits r s nothing c p → FaultNoted (SPack s h e r) n g c p
  pack_limit h r b e is w c p k =
      pack_is h r b e is c p (inr (w.0, inr (w.1, limits_then r s (pack_rest h b e) c p k)))

  pub pack_part : (h r b : Ty) (e : Tm) → r ≡ TSome b → Within h → Within r →
      (c : Note) (p : Spn) →
      FaultNoted e n g c p → FaultNoted (SPack s h e r) n g c p
  pack_part h r b e is w v c p k = pack_is h r b e is c p (inr (w.0, inr (w.1, inr (v.0, inr (v.1, inl k)))))

  pub pack_other : (h r b t : Ty) (e : Tm) (q : Spn) → r ≡ TSome b → Within h → Within r → Passes e n g t →
      t ≢ put 0 h b → Within (put 0 h b) → span_of e ≡ q →
      FaultWith (SPack s h e r) n g E17 q (odds n (WType (put 0 h b)) t)
  pack_other h r b t e q is w v ok ne wi at = pack_is h r b e is (E17, odds n (WType (put 0 h b)) t) q
      (inr (w.0, inr (w.1, inr (v.0, inr (v.1, inr (t, ok, inl (ne, inr (wi, (refl, sym at)))))))))

  pub pack_large : (h r b t : Ty) (e : Tm) (q : Spn) → r ≡ TSome b → Within h → Within r → Passes e n g t →
      t ≢ put 0 h b → (Within (put 0 h b) → ⊥) → span_of e ≡ q → FaultWith (SPack s h e r) n g E17 q None
  pack_large h r b t e q is w v ok ne large at = pack_is h r b e is (E17, None) q
      (inr (w.0, inr (w.1, inr (v.0, inr (v.1, inr (t, ok, inl (ne, inl (large, (refl, sym at)))))))))

  pub pack_ok : (h r b t u : Ty) (e : Tm) → r ≡ TSome b → Within h → Within r → Below n h → Below n r →
      Passes e n g t → t ≡ put 0 h b → u ≡ r → IsTypeOf (SPack s h e r) n g u
  pack_ok h r b t u e is w v bh br ok et eu =
      ((b, is, eu, bh, br, subst (Passes e n g) et ok, w, v), subst (Below n) (sym eu) br, subst Within (sym eu) v)

  -- an open
  pub open_first : (a b : Tm) (t : Ty) (q : Spn) → Passes a n g t → ((u : Ty) → t ≢ TSome u) → span_of a ≡ q →
      FaultWith (SOpen s a b) n g E16 q (odds n WPackage t)
  open_first a b t q ok ne at = inr (t, ok, other_some _ _ _ _ t ne (refl, sym at))

  pub open_second : (a b : Tm) (u : Ty) → Passes a n g (TSome u) → (c : Note) (p : Spn) →
      FaultNoted b (n + 1) (in_open u g) c p → FaultNoted (SOpen s a b) n g c p
  open_second a b u ok c p k = inr (TSome u, ok, inl k)

  pub open_escapes : (a b : Tm) (u v : Ty) (q : Spn) → Passes a n g (TSome u) → Passes b (n + 1) (in_open u g) v →
      v ≢ shift 1 0 (outside v) → span_of b ≡ q → FaultWith (SOpen s a b) n g E18 q (odds (n + 1) WOutside v)
  open_escapes a b u v q ok ok' ne at = inr (
    TSome u,
    ok,
    inr (
      v,
      ok',
      inl
          ((λ x. ne (x.1.0 ∙ ap (shift 1 0) (sym (ap (put 0 TInt) x.1.0 ∙ unshift x.0)))), (refl, sym at)),
    ),
  )

  pub open_ok : (a b : Tm) (u v t : Ty) → Passes a n g (TSome u) → IsTypeOf b (n + 1) (in_open u g) v →
      v ≡ shift 1 0 t → t ≡ outside v → IsTypeOf (SOpen s a b) n g t
  open_ok a b u v t ok h e o =
      let low : Below n t = subst (Below n) (sym o) (put_bound n TInt v tt h.1) in
      ((u, low, ok, subst (Passes b (n + 1) (in_open u g)) e h.0), low, unshift_within 1 t (subst Within e h.2))

  -- references
  pub ref_limit : (e : Tm) (t : Ty) → Passes e n g t → (c : Note) (p : Spn) →
      limits (TRef t) s nothing c p → FaultNoted (SRef s e) n g c p
  ref_limit e t ok c p k = inr (t, ok, k)

  pub ref_ok : (e : Tm) (t u : Ty) → IsTypeOf e n g t → Within (TRef t) → u ≡ TRef t → IsTypeOf (SRef s e) n g u
  ref_ok e t u ok w eu = ((t, eu, ok.0, w), subst (Below n) (sym eu) ok.1, subst Within (sym eu) w)

  pub deref_other : (e : Tm) (t : Ty) (q : Spn) → Passes e n g t → ((u : Ty) → t ≢ TRef u) → span_of e ≡ q →
      FaultWith (SDeref s e) n g E21 q (odds n WReference t)
  deref_other e t q ok ne at = inr (t, ok, other_ref _ _ _ _ t ne (refl, sym at))

  pub deref_ok : (e : Tm) (t u : Ty) → IsTypeOf e n g t → t ≡ TRef u → IsTypeOf (SDeref s e) n g u
  deref_ok e t u ok et = let h = subst (IsTypeOf e n g) et ok in (h.0, h.1, ref_within u h.2)

  pub assign_first : (a b : Tm) (t : Ty) (q : Spn) → Passes a n g t → ((u : Ty) → t ≢ TRef u) → span_of a ≡ q →
      FaultWith (SAssign s a b) n g E21 q (odds n WReference t)
  assign_first a b t q ok ne at = inr (t, ok, other_ref _ _ _ _ t ne (refl, sym at))

  pub assign_other : (a b : Tm) (u t : Ty) (q : Spn) → Passes a n g (TRef u) → Passes b n g t → t ≢ u → span_of b ≡ q →
      FaultWith (SAssign s a b) n g E22 q (odds n (WType u) t)
  assign_other a b u t q ok ok' ne at = inr (TRef u, ok, inr (t, ok', inl (ne, (refl, sym at))))
