-- How many type names an assembly type binds at a path, step by step.
use Rattle.std.proofs.Common.{◌≡◌, ℕ, suc, ◌+◌, ◌<◌, List, length, get_or, take, Some, None, ap, ◌∙◌, arith}
use Rattle.type_path.specs.Paths.{path_of}
use Rattle.type_path.specs.Assembly.{Part, into, binds, behind, bound}
use Rattle.type_path.specs.declared.step.Step.{Step}
use Rattle.type_path.proofs.Steps.{path_from}

-- of the last of n steps, of which i are left then
module _ (path : List Step) (n i : ℕ) (d : Step) (a : Part) (count now whole : ℕ) (same : n ≡ suc i)
    (there : i < length path) (more : now ≡ count + binds a)
    (h : whole ≡ count + bound (path_of (take n path)) a) where
  last_bound : bound (path_of (take n path)) a
      ≡ binds a + behind (bound (path_of (take i path))) (into (get_or path i d) a)
  last_bound = ap (λ m. bound (path_of (take m path)) a) same ∙ ap (λ p. bound p a) (path_from path i d there)

  pub bound_on : (b : Part) → into (get_or path i d) a ≡ Some b → whole ≡ now + bound (path_of (take i path)) b
  bound_on b e =
      let on = last_bound ∙ ap (λ x. binds a + behind (bound (path_of (take i path))) x) e in
      omega (arith, on, h, more)

  pub bound_ends : into (get_or path i d) a ≡ None → now ≡ whole
  bound_ends e =
      let on = last_bound ∙ ap (λ x. binds a + behind (bound (path_of (take i path))) x) e in
      omega (arith, on, h, more)
