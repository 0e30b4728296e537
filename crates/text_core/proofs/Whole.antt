-- What a reading of all tokens says, by the shapes alone.
use Rattle.std.proofs.Common.{◌≡◌, ℕ, List, [], ◌∷◌, ◌++◌, drop, refl, ◌∙◌, ap, subst}
use Rattle.std.proofs.lemmas.List.{append-nil}
use Rattle.text_core.specs.Table.{Table, Nt, Verdict, Fine, Unexpected, Passed}
use Rattle.text_core.specs.Shapes.{IsUnexpected, IsCutShort, IsPassed}
use Rattle.text_core.specs.Verdicts.{grammar_of, IsFine, Says}
use Rattle.text_core.proofs.Claims.{Claims}
use Rattle.text_core.specs.Going.{verdict, Goes, Stops}
use Rattle.text_core.proofs.Assembly.{exact}
use Rattle.text_core.proofs.Unique.{one_verdict}

module _ (g : Table) (k : Claims g) (limit : ℕ) (ts : List g.Tok) where
  says : (v : Verdict g) → verdict g limit ts (Nt g.first ∷ []) [] ≡ v → Says g limit ts v
  says v e = subst (λ (x : Verdict g). Says g limit ts x) e (exact g k limit ts)

  pub whole_fine : (j : ℕ) (vs : List g.Val) → Goes g limit ts 0 0 (Nt g.first ∷ []) [] j [] vs → drop j ts ≡ [] →
      IsFine g limit ts vs
  whole_fine j vs r e =
      let q : verdict g limit (drop j ts) [] (vs ++ []) ≡ Fine vs = rw (e, append-nil vs) refl in
      says (Fine vs) (r.leads [] [] refl ∙ q)

  pub whole_more : (j : ℕ) (vs : List g.Val) (c : g.Tok) (z : List g.Tok) →
      Goes g limit ts 0 0 (Nt g.first ∷ []) [] j [] vs → drop j ts ≡ c ∷ z →
      (u : List g.Tok) × IsUnexpected (grammar_of g) limit ts u c z
  whole_more j vs c z r e =
      let q : verdict g limit (drop j ts) [] (vs ++ []) ≡ Unexpected (c ∷ z) = rw e refl in
      says (Unexpected (c ∷ z)) (r.leads [] [] refl ∙ q)

  pub whole_unexpected : (i : ℕ) (c : g.Tok) (z : List g.Tok) →
      Stops g limit ts 0 0 (Nt g.first ∷ []) [] (Unexpected (drop i ts)) → drop i ts ≡ c ∷ z →
      (u : List g.Tok) × IsUnexpected (grammar_of g) limit ts u c z
  whole_unexpected i c z f e = says (Unexpected (c ∷ z)) (f.leads [] [] refl ∙ ap (λ (x : List g.Tok). Unexpected x) e)

  pub whole_cut : (i : ℕ) → Stops g limit ts 0 0 (Nt g.first ∷ []) [] (Unexpected (drop i ts)) → drop i ts ≡ [] →
      IsCutShort (grammar_of g) limit ts
  whole_cut i f e = says (Unexpected []) (f.leads [] [] refl ∙ ap (λ (x : List g.Tok). Unexpected x) e)

  pub whole_deep : (i : ℕ) (c : g.Tok) (z : List g.Tok) →
      Stops g limit ts 0 0 (Nt g.first ∷ []) [] (Passed (drop i ts)) → drop i ts ≡ c ∷ z →
      (u : List g.Tok) × IsPassed (grammar_of g) limit ts u c z
  whole_deep i c z f e = says (Passed (c ∷ z)) (f.leads [] [] refl ∙ ap (λ (x : List g.Tok). Passed x) e)

  pub never_deep : (i : ℕ) → Stops g limit ts 0 0 (Nt g.first ∷ []) [] (Passed (drop i ts)) → drop i ts ≡ [] → ⊥
  never_deep i f e = says (Passed []) (f.leads [] [] refl ∙ ap (λ (x : List g.Tok). Passed x) e)

  pub not_cut : (vs : List g.Val) → IsFine g limit ts vs → IsCutShort (grammar_of g) limit ts → ⊥
  not_cut vs h f = let q = one_verdict g k limit ts (Fine vs) (Unexpected []) h f in cc

  pub one_fine : (vs us : List g.Val) → IsFine g limit ts vs → IsFine g limit ts us → vs ≡ us
  one_fine vs us h f = let q = one_verdict g k limit ts (Fine vs) (Fine us) h f in cc
