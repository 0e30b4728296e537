-- Which values of the closed calculus stand for which values of the CPS calculus.
use Rattle.std.specs.Prelude.{pos, ◌≡◌, ℕ, suc, Bool, true, false, [], ◌∷◌, Option, Some, None}
use Rattle.c_rules.specs.Places.{Places}
use Rattle.calc_core.specs.Words.{WInt, WTuple, WCode, WCell, NoWords, MoreWords, at, onto}
use Rattle.k_terms.specs.Meaning.{KCodeAt, KWord, KWords}
use Rattle.c_terms.specs.Meaning.{CWord, CWords, cv_value}
use Rattle.c_rules.specs.Close.{Scope, keeps, inner, closed_code, close_t}

-- as many places as values
abbrev pub Spans : Places → KWords → Type 0
Spans [] NoWords = Unit {0}
Spans [] (MoreWords v env) = ⊥
Spans (p ∷ ps) NoWords = ⊥
Spans (p ∷ ps) (MoreWords v env) = Spans ps env

abbrev pub KeptHead : Bool → (CWord → Type 0) → (CWords → Type 0) → CWords → Type 0
KeptHead true P Q xs = (y : CWord) × (ys : CWords) × (xs ≡ MoreWords y ys) × P y × Q ys
KeptHead false P Q xs = Q xs

abbrev mutual
  pub Rel : KWord → CWord → Type 0
  Rel (WInt n) c = c ≡ WInt n
  Rel (WTuple vs) c = (cs : CWords) × (c ≡ WTuple cs) × Rels vs cs
  Rel (WCell p) c = c ≡ WCell p
  Rel (WCode (KCodeAt b owes args body) env) c =
      (s : Scope) × (xs : CWords)
      × (c ≡ (WTuple
      (MoreWords (cv_value b (closed_code s owes args body (close_t (inner s owes args body) body)) NoWords)
      (MoreWords (WTuple (onto xs NoWords)) NoWords)))) × Spans s.vars env
      × RelKept env (keeps args body) xs

  pub Rels : KWords → CWords → Type 0
  Rels NoWords cs = cs ≡ NoWords
  Rels (MoreWords v vs) cs = (x : CWord) × (xs : CWords) × (cs ≡ MoreWords x xs) × Rel v x × Rels vs xs

  -- the kept values of an environment, innermost first
  pub RelKept : KWords → (ℕ → Bool) → CWords → Type 0
  RelKept NoWords keep xs = xs ≡ NoWords
  RelKept (MoreWords v env) keep xs = KeptHead (keep 0) (λ y. Rel v y) (λ ys. RelKept env (λ i. keep (suc i)) ys) xs

abbrev pub at_place : Option ℕ → CWords → CWord
at_place None cenv = WInt (pos 0)
at_place (Some j) cenv = at cenv j

-- each live variable's place holds what stands for its value
abbrev pub Agree : (ℕ → Bool) → Places → KWords → CWords → Type 0
Agree live [] NoWords cenv = Unit {0}
Agree live [] (MoreWords v env) cenv = ⊥
Agree live (p ∷ ps) NoWords cenv = ⊥
Agree live (p ∷ ps) (MoreWords v env) cenv =
    (live 0 ≡ true → Rel v (at_place p cenv)) × Agree (λ i. live (suc i)) ps env cenv
