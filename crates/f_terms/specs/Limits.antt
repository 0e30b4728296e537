-- The limits of terms and types, as counts.
use Rattle.std.specs.Prelude.{ℕ, ◌+◌, ◌≤◌}
use Rattle.f_terms.specs.Ty.{Ty, size, depth}
use Rattle.f_terms.specs.Tm.{Term, MVar, MNum, MFix, MApp, MGen, MInst, MTuple, MProj, MArith, MIf0, MLet, MPack, MOpen}
use Rattle.f_terms.specs.Tm.{MRef, MDeref, MAssign, Terms, NoTerms}
use Rattle.f_terms.specs.Tm.{MoreTerms}

-- the number of nodes of a term: types written in it don't count
abbrev mutual
  pub nodes : Term → ℕ
  nodes (MVar i) = 1
  nodes (MNum n) = 1
  nodes (MFix arg res body) = 1 + nodes body
  nodes (MApp f x) = 1 + nodes f + nodes x
  nodes (MGen body) = 1 + nodes body
  nodes (MInst e t) = 1 + nodes e
  nodes (MTuple es) = 1 + nodes_all es
  nodes (MProj i e) = 1 + nodes e
  nodes (MArith op a b) = 1 + nodes a + nodes b
  nodes (MIf0 c a b) = 1 + nodes c + nodes a + nodes b
  nodes (MLet a b) = 1 + nodes a + nodes b
  nodes (MPack h e t) = 1 + nodes e
  nodes (MOpen a b) = 1 + nodes a + nodes b
  nodes (MRef e) = 1 + nodes e
  nodes (MDeref e) = 1 + nodes e
  nodes (MAssign a b) = 1 + nodes a + nodes b

  pub nodes_all : Terms → ℕ
  nodes_all NoTerms = 0
  nodes_all (MoreTerms e es) = nodes e + nodes_all es

-- L3: the nodes of a program
abbrev pub FewNodes : Term → Type 0
FewNodes e = nodes e ≤ 100000

-- L4 and L5: the depth and the size of a type
abbrev pub Shallow : Ty → Type 0
Shallow t = depth t ≤ 200

abbrev pub Small : Ty → Type 0
Small t = size t ≤ 10000

abbrev pub Within : Ty → Type 0
Within t = Shallow t × Small t
