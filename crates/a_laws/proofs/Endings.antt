-- What a term that stands for a hoisted one begins with: the first declaration of that, or its end; or one more tuple.
use Rattle.std.proofs.Common.{◌≡◌, ◌⊎◌, ℕ, suc, List, [], ◌∷◌, ◌++◌, None, inl, inr, refl, sym, ap, ap₂, ◌∙◌, subst}
use Rattle.h_terms.specs.H.{HVal, HName, HProj, HArith, HUnpack, HCell, HGet, HSet, HTm, HLet, HCall, HIf, HHalt}
use Rattle.a_terms.specs.Tree.{ATys, NoATys, AVal, Var, ATm, Let, Call, If0, Halt, Value, Proj, Arith, Unpack, Malloc}
use Rattle.a_terms.specs.Tree.{Init, arity}
use Rattle.a_laws.specs.Allocate.{atypes}
use Rattle.a_laws.specs.Constants.{Constants, constant}
use Rattle.a_laws.specs.Stands.{scope, Thing, Is, Gone, takes, all_take, Stands_v, Stands_vs, Any, Filling, Content}
use Rattle.a_laws.specs.Stands.{Unit_named}
use Rattle.a_laws.specs.Stands.{Stands_t}
use Rattle.a_laws.proofs.Posts.{things_posts, first_posts, more_things, of_value, of_values, of_one, of_two}

module _ (ds : List HVal) where
  abbrev pub Ends : Constants → List Thing → List Thing → ℕ → HTm → ATm → Type 0
  Ends os made env k (HLet (HName w) t) a =
      (v : AVal) × (e : ATm) × (a ≡ Let (Value v) e) × Stands_v (scope ds os env k) v w × (takes env v ≡ made)
      × Stands_t (scope ds (constant os w ∷ os) (Is k ∷ env) (suc k)) [] e Any t
  Ends os made env k (HLet (HProj i w) t) a =
      (v : AVal) × (e : ATm) × (a ≡ Let (Proj i v) e) × Stands_v (scope ds os env k) v w × (takes env v ≡ made)
      × Stands_t (scope ds (None ∷ os) (Is k ∷ env) (suc k)) [] e Any t
  Ends os made env k (HLet (HArith op x y) t) a =
      (v : AVal) × (u : AVal) × (e : ATm) × (a ≡ Let (Arith op v u) e) × Stands_v (scope ds os env k) v x
      × Stands_v (scope ds os env k) u y × (takes env v ++ takes env u ≡ made)
      × Stands_t (scope ds (None ∷ os) (Is k ∷ env) (suc k)) [] e Any t
  Ends os made env k (HLet (HUnpack w) t) a =
      (v : AVal) × (e : ATm) × (a ≡ Let (Unpack v) e) × Stands_v (scope ds os env k) v w × (takes env v ≡ made)
      × Stands_t (scope ds (None ∷ os) (Is k ∷ env) (suc k)) [] e Any t
  Ends os made env k (HLet (HCell w) t) a =
      (ts : ATys) × (v : AVal) × (e : ATm) × (a ≡ Let (Malloc ts) (Let (Init (Var 0) 1 v) e)) × (arity ts ≡ 1)
      × Stands_v (scope ds os (Gone ∷ env) k) v w × (takes (Gone ∷ env) v ≡ made)
      × Stands_t (scope ds (None ∷ os) (Is k ∷ Gone ∷ env) (suc k)) [] e Any t
  Ends os made env k (HLet (HGet w) t) a =
      (v : AVal) × (e : ATm) × (a ≡ Let (Proj 1 v) e) × Stands_v (scope ds os env k) v w × (takes env v ≡ made)
      × Stands_t (scope ds (None ∷ os) (Is k ∷ env) (suc k)) [] e Any t
  Ends os made env k (HLet (HSet x y) t) a =
      (v : AVal) × (u : AVal) × (e : ATm) × (a ≡ Let (Init v 1 u) (Let (Malloc NoATys) e)) × Stands_v
      (scope ds os env k) v x
      × Stands_v (scope ds os env k) u y × (takes env v ++ takes env u ≡ made)
      × Stands_t (scope ds (None ∷ os) (Is k ∷ Gone ∷ env) (suc k)) [] e Any t
  Ends os made env k (HCall x us xs) a =
      (v : AVal) × (vs : List AVal) × (a ≡ Call v (atypes us) vs) × Stands_v (scope ds os env k) v x
      × Stands_vs (scope ds os env k) vs xs × (takes env v ++ all_take env vs ≡ made)
  Ends os made env k (HIf x t u) a =
      (v : AVal) × (b : ATm) × (c : ATm) × (a ≡ If0 v b c) × Stands_v (scope ds os env k) v x × (takes env v ≡ made)
      × Stands_t (scope ds os env k) [] b Any t × Stands_t (scope ds os env k) [] c Any u
  Ends os made env k (HHalt x) a = (v : AVal) × (a ≡ Halt v) × Stands_v (scope ds os env k) v x × (takes env v ≡ made)

  abbrev pub Makes : Constants → List Thing → List Thing → ℕ → HTm → ATm → Type 0
  Makes os made env k h a =
      (ts : ATys) × (n : ℕ) × (e : ATm) × (a ≡ Let (Malloc ts) e) × (arity ts ≡ suc n)
      × Stands_t (scope ds os (Gone ∷ env) k) made e (Filling [] n []) h

  in_cell : (ts : ATys) (a : ATm) (h : HTm) (os : Constants) (made env : List Thing) (k : ℕ) → arity ts ≡ 1 →
      Stands_t (scope ds os (Gone ∷ env) k) made a Content h → Ends os made env k h (Let (Malloc ts) a)
  in_cell ts (Let (Init v i w) e) h os made env k one (x, t, ev, ei, is, sw, at, st) =
      subst (λ z. Ends os made env k z (Let (Malloc ts) (Let (Init v i w) e))) (sym is)
      (ts, w, e, ap₂ (λ p q. Let (Malloc ts) (Let (Init p q w) e)) ev ei, one, sw, at, st)
  in_cell ts (Let (Value v) e) h os made env k one s = absurd s
  in_cell ts (Let (Proj i v) e) h os made env k one s = absurd s
  in_cell ts (Let (Arith op v w) e) h os made env k one s = absurd s
  in_cell ts (Let (Unpack v) e) h os made env k one s = absurd s
  in_cell ts (Let (Malloc us) e) h os made env k one s = absurd s
  in_cell ts (Call v us vs) h os made env k one s = absurd s
  in_cell ts (If0 v a b) h os made env k one s = absurd s
  in_cell ts (Halt v) h os made env k one s = absurd s

  assigned : (a : ATm) (v w : AVal) (i : ℕ) (x y : HVal) (t : HTm) (os : Constants) (made env : List Thing) (k : ℕ) →
      i ≡ 1 → Stands_v (scope ds os env k) v x → Stands_v (scope ds os env k) w y → takes env v ++ takes env w ≡ made →
      Stands_t (scope ds (None ∷ os) (Gone ∷ env) k) [] a Unit_named t →
      Ends os made env k (HLet (HSet x y) t) (Let (Init v i w) a)
  assigned (Let (Malloc ts) e) v w i x y t os made env k one sv sw at (none, st) =
      (v, w, e, ap₂ (λ p q. Let (Init v p w) (Let (Malloc q) e)) one none, sv, sw, at, st)
  assigned (Let (Init u j z) e) v w i x y t os made env k one sv sw at s = absurd s
  assigned (Let (Value u) e) v w i x y t os made env k one sv sw at s = absurd s
  assigned (Let (Proj j u) e) v w i x y t os made env k one sv sw at s = absurd s
  assigned (Let (Arith op u z) e) v w i x y t os made env k one sv sw at s = absurd s
  assigned (Let (Unpack u) e) v w i x y t os made env k one sv sw at s = absurd s
  assigned (Call u us vs) v w i x y t os made env k one sv sw at s = absurd s
  assigned (If0 u a b) v w i x y t os made env k one sv sw at s = absurd s
  assigned (Halt u) v w i x y t os made env k one sv sw at s = absurd s

  pub begins : (a : ATm) (h : HTm) (os : Constants) (made env : List Thing) (k : ℕ) →
      Stands_t (scope ds os env k) made a Any h → Ends os made env k h a ⊎ Makes os made env k h a
  begins (Let (Value v) e) h os made env k (w, t, is, sv, at, st) =
      inl (subst (λ z. Ends os made env k z (Let (Value v) e)) (sym is) (v, e, refl, sv, at, st))
  begins (Let (Proj i v) e) h os made env k (w, t, inl is, sv, at, st) =
      inl (subst (λ z. Ends os made env k z (Let (Proj i v) e)) (sym is) (v, e, refl, sv, at, st))
  begins (Let (Proj i v) e) h os made env k (w, t, inr get, sv, at, st) =
      inl (subst (λ z. Ends os made env k z (Let (Proj i v) e)) (sym get.1)
      (v, e, ap (λ j. Let (Proj j v) e) get.0, sv, at, st))
  begins (Let (Arith op v u) e) h os made env k (x, y, t, is, sv, su, at, st) =
      inl (subst (λ z. Ends os made env k z (Let (Arith op v u) e)) (sym is) (v, u, e, refl, sv, su, at, st))
  begins (Let (Unpack v) e) h os made env k (w, t, is, sv, at, st) =
      inl (subst (λ z. Ends os made env k z (Let (Unpack v) e)) (sym is) (v, e, refl, sv, at, st))
  begins (Let (Malloc ts) e) h os made env k (inl (n, many, st)) = inr (ts, n, e, refl, many, st)
  begins (Let (Malloc ts) e) h os made env k (inr (one, st)) = inl (in_cell ts e h os made env k one st)
  begins (Let (Init v i u) e) h os made env k (x, y, t, one, is, sv, su, at, st) =
      inl (subst (λ z. Ends os made env k z (Let (Init v i u) e)) (sym is)
      (assigned e v u i x y t os made env k one sv su at st))
  begins (Call v ts vs) h os made env k (x, us, xs, is, types, sv, svs, at) =
      inl (subst (λ z. Ends os made env k z (Call v ts vs)) (sym is)
      (v, vs, ap (λ q. Call v q vs) (sym types), sv, svs, at))
  begins (If0 v a b) h os made env k (x, t, u, is, sv, at, st, su) =
      inl (subst (λ z. Ends os made env k z (If0 v a b)) (sym is) (v, a, b, refl, sv, at, st, su))
  begins (Halt v) h os made env k (x, is, sv, at) =
      inl (subst (λ z. Ends os made env k z (Halt v)) (sym is) (v, refl, sv, at))

  -- at an end all tuples are made
  pub all_there : (h : HTm) (a : ATm) (os : Constants) (made env : List Thing) (k : ℕ) → Ends os made env k h a →
      things_posts os made ≡ first_posts os h
  all_there (HLet (HName w) t) a os made env k (v, e, is, sv, at, st) = of_one ds v w os made env k sv at
  all_there (HLet (HProj i w) t) a os made env k (v, e, is, sv, at, st) = of_one ds v w os made env k sv at
  all_there (HLet (HArith op x y) t) a os made env k (v, u, e, is, sv, su, at, st) =
      of_two ds v u x y os made env k sv su at
  all_there (HLet (HUnpack w) t) a os made env k (v, e, is, sv, at, st) = of_one ds v w os made env k sv at
  all_there (HLet (HCell w) t) a os made env k (ts, v, e, is, one, sv, at, st) =
      of_one ds v w os made (Gone ∷ env) k sv at
  all_there (HLet (HGet w) t) a os made env k (v, e, is, sv, at, st) = of_one ds v w os made env k sv at
  all_there (HLet (HSet x y) t) a os made env k (v, u, e, is, sv, su, at, st) =
      of_two ds v u x y os made env k sv su at
  all_there (HCall x us xs) a os made env k (v, vs, is, sv, svs, at) =
      let all = ap₂ ◌++◌ (of_value ds v x os env k sv) (of_values ds vs xs os env k svs) in
      sym (all ∙ sym (more_things os (takes env v) (all_take env vs)) ∙ ap (things_posts os) at)
  all_there (HIf x t u) a os made env k (v, b, c, is, sv, at, st, su) = of_one ds v x os made env k sv at
  all_there (HHalt x) a os made env k (v, is, sv, at) = of_one ds v x os made env k sv at
