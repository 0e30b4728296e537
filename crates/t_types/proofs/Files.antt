-- Looking up registers in a list, and files that fit register by register.
use Rattle.std.proofs.Common.{◌≡◌, ℕ, ◌≤◌, List, [], ◌∷◌, length, Some, None, subst, take, All}
use Rattle.std.proofs.lemmas.List.{take_all}
use Rattle.std.proofs.lemmas.List.Elements.{All-nil, All-cons, All-head, All-tail}
use Rattle.t_types.specs.declared.types.TType.{TType}
use Rattle.t_types.specs.Tree.{Ty}
use Rattle.t_types.specs.Fits.{Fits, FitsFile, RegTypes}
use Rattle.t_types.specs.Read.{tree, file}

-- the register of an entry is known, by a type that fits
abbrev pub RegFits : RegTypes → ℕ × TType → Type 0
RegFits g x = (u : Ty) × (g x.0 ≡ Some u) × Fits u (tree x.1)

module _ (g : RegTypes) where
  pub regs_fit : (xs : List (ℕ × TType)) → FitsFile g (file xs) → All (RegFits g) xs
  regs_fit [] h = All-nil (RegFits g)
  regs_fit (x ∷ xs) h = All-cons (RegFits g) x xs h.0 (regs_fit xs h.1)

  file_fits : (xs : List (ℕ × TType)) → All (RegFits g) xs → FitsFile g (file xs)
  file_fits [] h = tt
  file_fits (x ∷ xs) h = (All-head (RegFits g) x xs h, file_fits xs (All-tail (RegFits g) x xs h))

  pub file_fits_all : (xs : List (ℕ × TType)) (n : ℕ) → All (RegFits g) (take n xs) → length xs ≤ n →
      FitsFile g (file xs)
  file_fits_all xs n h all = file_fits xs (subst (λ (ys : List (ℕ × TType)). All (RegFits g) ys) (take_all n xs all) h)

-- an entry that fits, by the type that is known of its register
pub entry_fits : (g : RegTypes) (x : ℕ × TType) (t : Ty) → g x.0 ≡ Some t → RegFits g x → Fits t (tree x.1)
entry_fits g x t e h = let k = h.1 in let same : h.0 ≡ t = cc in subst (λ u. Fits u (tree x.1)) same h.2

pub entry_absent : (g : RegTypes) (x : ℕ × TType) → g x.0 ≡ None → RegFits g x → ⊥
entry_absent g x e h = let k = h.1 in cc
