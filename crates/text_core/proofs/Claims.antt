-- What the machine over a table has to do, so that its verdicts are exact.
use Rattle.std.proofs.Common.{◌≡◌, ℕ, List, [], ◌∷◌, Some}
use Rattle.text_core.specs.Table.{Table, Stack, State, step, Nt, Done, seen, exec, whole}

-- what is owed can be completed
pub record Filled (g : Table) (s : Stack g) (vs : List g.Val) : Type 0 where
  pub rest : List g.Tok
  pub counts : List ℕ
  pub made : List g.Val
  pub done : exec g rest s vs ≡ seen g counts (Done made)

pub record Sound (g : Table) (w : List g.Tok) (vs : List g.Val) : Type 0 where
  pub value : g.Tree
  pub shape : g.Shape w value
  pub is : vs ≡ g.tree value ∷ []

pub record Claims (g : Table) : Type 1 where
  -- each shape is read whole, with the counts of its open constructs
  pub complete : (w : List g.Tok) (t : g.Tree) (e : g.Shape w t) →
      whole g w ≡ seen g (g.opens w t e) (Done (g.tree t ∷ []))
  pub same_tree : (t r : g.Tree) → g.tree t ≡ g.tree r → t ≡ r
  -- what is read whole is a shape
  pub sound : (w : List g.Tok) (vs : List g.Val) (ns : List ℕ) → whole g w ≡ seen g ns (Done vs) → Sound g w vs
  -- what was begun can be completed
  pub Good : Stack g → Type 0
  pub good_start : Good (Nt g.first ∷ [])
  pub good_step : (s : Stack g) (vs : List g.Val) (c : g.Tok) (b : State g) → step g s vs c ≡ Some b → Good s →
      Good b.owed
  pub filled : (s : Stack g) (vs : List g.Val) → Good s → Filled g s vs
