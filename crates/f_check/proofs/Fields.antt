-- The field of a tuple.
use Rattle.std.proofs.Common.{◌≡◌, ◌≢◌, ◌-◌, ◌<◌, ◌≤◌, ℕ, zero, suc, List, [], ◌∷◌, map, refl, ap, ◌∙◌, sym, subst}
use Rattle.std.proofs.Common.{length, get_or, arith, inr, Some, None}
use Rattle.std.proofs.lemmas.Option.{same_Some}
use Rattle.idx_core.specs.Over.{BelowAt, AnyDepth}
use Rattle.f_terms.specs.Ty.{Ty, TTuple, Tys, NoTys, MoreTys, tys, Below}
use Rattle.f_terms.specs.Ty.{each_all, size, sizes, depth, depths}
use Rattle.f_terms.specs.Read.{tree}
use Rattle.f_terms.specs.declared.types.FType.{FType}
use Rattle.f_terms.specs.Tm.{Spn, Tm, SProj, span_of}
use Rattle.f_terms.specs.Typing.{ty_at, field_ty}
use Rattle.f_terms.specs.Limits.{Within}
use Rattle.text_core.specs.Refusals.{Refusal}
use Rattle.f_terms.specs.Mismatch.{WTuple, WField, odds}
use Rattle.f_terms.specs.Faults.{Passes, Note, at_odds, if_tuple, if_none, FaultWith}
use Rattle.f_terms.specs.declared.fault.Code.TheVariants.{E10, E11}
use Rattle.f_check.specs.Verdict.{IsTypeOf}

at_there : (xs : List FType) (k : ℕ) (d : FType) → k < length xs →
    ty_at (tys (map tree xs)) k ≡ Some (tree (get_or xs k d))
at_there [] k d lt = absurd (omega (arith, lt))
at_there (x ∷ xs) zero d lt = refl
at_there (x ∷ xs) (suc k) d lt = at_there xs k d (omega (arith, lt))

at_none : (xs : List FType) (k : ℕ) → length xs ≤ k → ty_at (tys (map tree xs)) k ≡ None
at_none [] k le = refl
at_none (x ∷ xs) zero le = absurd (omega (arith, le))
at_none (x ∷ xs) (suc k) le = at_none xs k (omega (arith, le))

pub field_there : (xs : List FType) (i : ℕ) (r : FType) → 1 ≤ i → i ≤ length xs → r ≡ get_or xs (i - 1) r →
    field_ty (tys (map tree xs)) i ≡ Some (tree r)
field_there xs zero r ge le e = absurd (omega (arith, ge))
field_there xs (suc i) r ge le e =
    let n : suc i - 1 ≡ i = omega arith in
    at_there xs i r (omega (arith, le)) ∙ ap (λ k. Some (tree (get_or xs k r))) (sym n)
    ∙ ap (λ z. Some (tree z)) (sym e)

pub field_zero : (xs : List FType) (i : ℕ) → i ≡ 0 → field_ty (tys (map tree xs)) i ≡ None
field_zero xs zero e = refl
field_zero xs (suc i) e = absurd (omega (arith, e))

pub field_past : (xs : List FType) (i : ℕ) → length xs < i → field_ty (tys (map tree xs)) i ≡ None
field_past xs zero lt = absurd (omega (arith, lt))
field_past xs (suc i) lt = at_none xs i (omega (arith, lt))

-- what a field comes to, whatever its number
pub ruleset field_facts = (field_there, field_zero, field_past)

at_ok : (n : ℕ) (ts : Tys) (k : ℕ) (t : Ty) → ty_at ts k ≡ Some t → each_all BelowAt AnyDepth n ts →
    Below n t × (depth t ≤ depths ts) × (size t ≤ sizes ts)
at_ok n NoTys k t e h = let x : None ≡ Some t = e in absurd (cc)
at_ok n (MoreTys u us) zero t e h =
    let x : u ≡ t = same_Some _ _ e in (subst (Below n) x h.0, omega (arith, ap depth x), omega (arith, ap size x))
at_ok n (MoreTys u us) (suc k) t e h = let r = at_ok n us k t e h.1 in (r.0, omega (arith, r.1), omega (arith, r.2))

field_ok : (n : ℕ) (ts : Tys) (i : ℕ) (t : Ty) → field_ty ts i ≡ Some t → each_all BelowAt AnyDepth n ts →
    Within (TTuple ts) → Below n t × Within t
field_ok n ts zero t e h w = let x : None ≡ Some t = e in absurd (cc)
field_ok n ts (suc k) t e h w = let r = at_ok n ts k t e h in (r.0, (omega (arith, r.1, w.0), omega (arith, r.2, w.1)))

module _ (n : ℕ) (g : Tys) (s : Spn) where
  pub proj_ok : (i : ℕ) (f : Tm) (t u : Ty) (ts : Tys) → IsTypeOf f n g t → t ≡ TTuple ts → field_ty ts i ≡ Some u →
      IsTypeOf (SProj s i f) n g u
  proj_ok i f t u ts hf et ef =
      let h = subst (IsTypeOf f n g) et hf in
      let r = field_ok n ts i u ef h.1 h.2 in
      ((ts, ef, h.0), r.0, r.1)

  pub proj_tuple : (i : ℕ) (f : Tm) (t : Ty) (q : Spn) → Passes f n g t → ((ts : Tys) → t ≢ TTuple ts) → span_of f ≡ q →
      FaultWith (SProj s i f) n g E10 q (odds n WTuple t)
  proj_tuple i f t q pf ne at = inr (t, pf, pick _ _ _ t ne (refl, sym at))
    where
      pick : (o : Refusal Note Spn) (go : Tys → Refusal Note Spn) (c : Note) (t : Ty) → ((ts : Tys) → t ≢ TTuple ts) →
          o c q → if_tuple t o go c q
      pick o go c (TTuple ts) h k = absurd (h ts refl)
      pick o go c _ h k = k

  pub proj_field : (i : ℕ) (f : Tm) (t : Ty) (ts : Tys) → Passes f n g t → t ≡ TTuple ts → field_ty ts i ≡ None →
      FaultWith (SProj s i f) n g E11 s (odds n WField t)
  proj_field i f t ts pf et ef =
      inr (
        TTuple ts,
        subst (Passes f n g) et pf,
        subst (λ o. if_none o (at_odds E11 n WField (TTuple ts) s) (E11, odds n WField t) s)
            (sym ef) (ap (λ u. let x : Note = (E11, odds n WField u) in x) et, refl),
      )
