-- Paths as the code holds them, the last step first.
use Rattle.std.proofs.Common.{◌≡◌, ℕ, suc, ◌<◌, List, [], ◌∷◌, ◌++◌, length, get_or, take, Option, Some, None, Vec}
use Rattle.std.proofs.Common.{Global, refl}
use Rattle.std.proofs.Common.{sym, ap, ◌∙◌}
use Rattle.std.proofs.Math.Seq.{take-suc}
use Rattle.type_path.specs.Paths.{Path, and_then, follow, inside, onto, path_of, read}
use Rattle.type_path.specs.declared.step.Step.{Step}

onto_last : (xs : List Step) (s : Step) (p : Path) → onto (xs ++ s ∷ []) p ≡ s ∷ onto xs p
onto_last [] s p = refl
onto_last (x ∷ xs) s p = onto_last xs s (x ∷ p)

-- the last step is the first of the path
pub path_last : (xs : List Step) (s : Step) → path_of (xs ++ s ∷ []) ≡ s ∷ path_of xs
path_last xs s = onto_last xs s []

-- of a path that is held up to a step, that step is the first
pub path_from : (xs : List Step) (i : ℕ) (d : Step) → i < length xs →
    path_of (take (suc i) xs) ≡ get_or xs i d ∷ path_of (take i xs)
path_from xs i d lt = ap path_of (take-suc xs i d lt) ∙ path_last (take i xs) (get_or xs i d)

-- a step is put in front of what is found
pub read_pushed : (found : Option (Vec Step Global)) (path : Vec Step Global) (more : List Step) (s : Step) →
    found ≡ Some path → more ≡ path.items ++ s ∷ [] → Some (path_of more) ≡ inside s (read found)
read_pushed found path more s is e =
    ap (λ xs. Some (path_of xs)) e ∙ ap Some (path_last path.items s) ∙ ap (λ x. inside s (read x)) (sym is)

-- the part behind the last of n steps, of which i are left then
module _ {A : Type 0} (into : Step → A → Option A) (path : List Step) (n i : ℕ) (d : Step) (a : A) (same : n ≡ suc i)
    (there : i < length path) where
  behind_last : follow into (path_of (take n path)) a
      ≡ and_then (into (get_or path i d) a) (follow into (path_of (take i path)))
  behind_last =
      ap (λ m. follow into (path_of (take m path)) a) same ∙ ap (λ p. follow into p a) (path_from path i d there)

  pub goes_on : (b : A) → into (get_or path i d) a ≡ Some b →
      follow into (path_of (take n path)) a ≡ follow into (path_of (take i path)) b
  goes_on b e = behind_last ∙ ap (λ x. and_then x (follow into (path_of (take i path)))) e

  pub leads_nowhere : into (get_or path i d) a ≡ None → follow into (path_of (take n path)) a ≡ None
  leads_nowhere e = behind_last ∙ ap (λ x. and_then x (follow into (path_of (take i path)))) e
