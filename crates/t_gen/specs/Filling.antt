-- Blocks that are reserved with their headers are filled in the order of the terms.
use Rattle.std.specs.Prelude.{ℕ, suc, ◌+◌, ◌++◌, List, [], ◌∷◌}
use Rattle.t_terms.specs.Tree.{TSeq, TBlock}
use Rattle.a_terms.specs.Tree.{ATy, ATm, ABlk, AProg, arity}
use Rattle.a_terms.specs.Typing.{types_of}
use Rattle.t_gen_rules.specs.Gen.{ty_args, code, extras, rows}
use Rattle.a_terms.specs.Bound.{thirds}
use Rattle.t_emit.specs.Code.{reserved, fill}

-- a term that is still to be emitted: into which block, under which names and variables, and where these live
pub record Job : Type 0 where
  pub block : ℕ
  pub names : ℕ
  pub places : List ℕ
  pub vars : List ATy
  pub term : ATm

-- the blocks in the end, where the next third part is block at
abbrev pub finish : AProg → ℕ → List TBlock → List Job → List TBlock
finish p at out [] = out
finish p at out (j ∷ js) =
    finish p (at + thirds j.term)
    (fill j.block (code j.names j.places at j.term) out ++ extras p j.names
    j.places j.vars at j.term) js

-- the same, where the first term's code stands behind pre
abbrev pub finish_from : AProg → ℕ → List TBlock → (TSeq → TSeq) → Job → List Job → List TBlock
finish_from p at out pre j js =
    finish p (at + thirds j.term)
    (fill j.block (pre (code j.names j.places at j.term)) out ++ extras p j.names
    j.places j.vars at j.term) js

-- the reserved blocks of the program's blocks
abbrev pub reserves : List ABlk → List TBlock
reserves [] = []
reserves (b ∷ bs) = reserved b.owes (ty_args b.args 1) ∷ reserves bs

-- one job for each of the program's blocks
abbrev pub jobs : ℕ → List ABlk → List Job
jobs n [] = []
jobs n (b ∷ bs) =
    record { block = n; names = b.owes; places = rows (arity b.args); vars = types_of b.args []; term = b.body }
    ∷ jobs (suc n) bs
