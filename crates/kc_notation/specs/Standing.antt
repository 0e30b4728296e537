-- What a page of pieces stands for.
use Rattle.std.specs.Prelude.{◌≡◌, ℕ, List, [], ◌∷◌, Option, Some, None}
use Rattle.page_core.specs.Pieces.{HasText}
use Rattle.page_core.specs.declared.pieces.Pieces.{Pieces}
use Rattle.kc_notation.specs.declared.page.Body.{Body}
use Rattle.kc_notation.specs.declared.page.Page.{Page}
use Rattle.kc_notation.specs.ClosedWalk.{Lines, Sheet, with_values, shut}

-- pieces and their texts, one by one
abbrev pub HaveTexts : Pieces → List ℕ → List (List ℕ) → Type 0
HaveTexts ps [] [] = Unit {0}
HaveTexts ps [] (s ∷ ss) = ⊥
HaveTexts ps (i ∷ is) [] = ⊥
HaveTexts ps (i ∷ is) (s ∷ ss) = HasText ps i s × HaveTexts ps is ss

pub record IsBody (ps : Pieces) (b : Body) (l : Lines) : Type 0 where
  pub text : HasText ps b.text l.text
  pub values : HaveTexts ps b.values.items l.values
  pub called : b.called ≡ l.called
  pub scope : b.scope ≡ l.scope
  pub branches : b.branches.items ≡ l.branches

abbrev pub AreBodies : Pieces → List Body → List Lines → Type 0
AreBodies ps [] [] = Unit {0}
AreBodies ps [] (l ∷ ls) = ⊥
AreBodies ps (b ∷ bs) [] = ⊥
AreBodies ps (b ∷ bs) (l ∷ ls) = IsBody ps b l × AreBodies ps bs ls

pub record IsPage (g : Page) (p : Sheet) : Type 0 where
  pub empty : HasText g.pieces g.empty []
  pub body : IsBody g.pieces g.body p.body
  pub around : AreBodies g.pieces g.around.items p.around

-- what is taken of the values that wait: nothing where none does, and else the last
abbrev pub Taken : Page → Sheet → Option ℕ → Type 0
Taken g p None = (p.body.values ≡ []) × IsPage g p
Taken g p (Some v) =
    (s : List ℕ) × (ss : List (List ℕ)) × (p.body.values ≡ s ∷ ss) × HasText g.pieces v s × IsPage g (with_values p ss)

-- the text where the body ends, of whose values no more is known
pub record IsShut (g : Page) (p : Sheet) (piece : ℕ) : Type 0 where
  pub text : HasText g.pieces piece (shut p.body)
  pub values : List (List ℕ)
  pub page : IsPage g (with_values p values)
