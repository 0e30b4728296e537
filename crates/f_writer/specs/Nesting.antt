-- How many constructs are open at most at a token of the canonical text of a term, those around the term aside.
use Rattle.std.specs.Prelude.{ℕ, suc, max, Bool, true, false}
use Rattle.f_terms.specs.Ty.{Ty, TInt, TVar, TArrow, TAll, TTuple, TSome, TRef, Tys, NoTys, MoreTys}
use Rattle.f_terms.specs.Text.{is_grouped}
use Rattle.f_terms.specs.Tm.{Term, MVar, MNum, MFix, MApp, MGen, MInst, MTuple, MProj, MArith, MIf0, MLet, MPack}
use Rattle.f_terms.specs.Tm.{MOpen}
use Rattle.f_terms.specs.Tm.{MRef, MDeref, MAssign, Terms, NoTerms, MoreTerms}
use Rattle.f_writer.specs.declared.line.Line.TheVariants.{Sum, Call, Primary}
use Rattle.f_writer.specs.Lines.{is_loose, op_line, right_line, line_of}

-- the most that a source may have
abbrev pub most_open : ℕ
most_open = 200

-- one more in parentheses
abbrev pub nest_if : Bool → ℕ → ℕ
nest_if true n = suc n
nest_if false n = n

abbrev mutual
  pub type_nesting : Ty → ℕ
  type_nesting TInt = 0
  type_nesting (TVar i) = 0
  type_nesting (TArrow a b) = max (nest_if (is_grouped a) (type_nesting a)) (suc (type_nesting b))
  type_nesting (TAll t) = suc (type_nesting t)
  type_nesting (TTuple ts) = suc (types_nesting ts)
  type_nesting (TSome t) = suc (type_nesting t)
  type_nesting (TRef t) = suc (nest_if (is_grouped t) (type_nesting t))

  pub types_nesting : Tys → ℕ
  types_nesting NoTys = 0
  types_nesting (MoreTys t ts) = max (type_nesting t) (types_nesting ts)

abbrev mutual
  pub nesting : Term → ℕ
  nesting (MVar i) = 0
  nesting (MNum z) = 0
  nesting (MFix arg res e) = max (suc (suc (type_nesting arg))) (max (suc (type_nesting res)) (suc (nesting e)))
  nesting (MApp f x) =
      max (nest_if (is_loose (line_of f) Call) (nesting f)) (nest_if (is_loose (line_of x) Primary) (nesting x))
  nesting (MGen e) = suc (nesting e)
  nesting (MInst e t) = max (nest_if (is_loose (line_of e) Call) (nesting e)) (suc (type_nesting t))
  nesting (MTuple es) = suc (all_nesting es)
  nesting (MProj i e) = suc (nest_if (is_loose (line_of e) Primary) (nesting e))
  nesting (MArith op a b) =
      max (nest_if (is_loose (line_of a) (op_line op)) (nesting a))
      (nest_if (is_loose (line_of b) (right_line op)) (nesting b))
  nesting (MIf0 c a b) = suc (max (nesting c) (max (nesting a) (nesting b)))
  nesting (MLet a b) = max (suc (nesting a)) (nesting b)
  nesting (MPack h e t) = max (suc (type_nesting h)) (max (suc (nesting e)) (type_nesting t))
  nesting (MOpen a b) = max 2 (max (suc (nesting a)) (nesting b))
  nesting (MRef e) = suc (nest_if (is_loose (line_of e) Primary) (nesting e))
  nesting (MDeref e) = suc (nest_if (is_loose (line_of e) Primary) (nesting e))
  nesting (MAssign a b) =
      max (nest_if (is_loose (line_of a) Sum) (nesting a)) (nest_if (is_loose (line_of b) Sum) (nesting b))

  pub all_nesting : Terms → ℕ
  all_nesting NoTerms = 0
  all_nesting (MoreTerms e es) = max (nesting e) (all_nesting es)
