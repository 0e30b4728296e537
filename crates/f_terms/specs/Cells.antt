-- Whether a term has one of the forms that make, read or assign cells.
use Rattle.std.specs.Prelude.{Bool, true, false, ◌||◌}
use Rattle.f_terms.specs.Tm.{Term, MVar, MNum, MFix, MApp, MGen, MInst, MTuple, MProj, MArith, MIf0, MLet, MPack, MOpen}
use Rattle.f_terms.specs.Tm.{MRef, MDeref, MAssign, Terms, NoTerms, MoreTerms}
use Rattle.f_terms.specs.declared.node.FShape.{FShape}
use Rattle.f_terms.specs.declared.node.FShape.TheVariants.{Ref, Deref, Assign}

abbrev mutual
  pub has_cells : Term → Bool
  has_cells (MVar i) = false
  has_cells (MNum n) = false
  has_cells (MFix arg res e) = has_cells e
  has_cells (MApp f x) = has_cells f || has_cells x
  has_cells (MGen e) = has_cells e
  has_cells (MInst e t) = has_cells e
  has_cells (MTuple es) = any_has_cells es
  has_cells (MProj i e) = has_cells e
  has_cells (MArith op a b) = has_cells a || has_cells b
  has_cells (MIf0 c a b) = has_cells c || has_cells a || has_cells b
  has_cells (MLet a b) = has_cells a || has_cells b
  has_cells (MPack h e s) = has_cells e
  has_cells (MOpen a b) = has_cells a || has_cells b
  has_cells (MRef e) = true
  has_cells (MDeref e) = true
  has_cells (MAssign a b) = true

  pub any_has_cells : Terms → Bool
  any_has_cells NoTerms = false
  any_has_cells (MoreTerms e es) = has_cells e || any_has_cells es

-- whether a form is one of them itself
abbrev pub is_of_cells : FShape → Bool
is_of_cells (Ref e) = true
is_of_cells (Deref e) = true
is_of_cells (Assign a b) = true
is_of_cells _ = false
