-- The parts of a tuple.
use Rattle.std.proofs.Common.{◌≡◌, ◌≤◌, ◌++◌, ℕ, List, [], ◌∷◌, map, refl, ap, ◌∙◌, sym, subst, arith, inl, inr}
use Rattle.idx_core.specs.Over.{BelowAt, AnyDepth}
use Rattle.f_terms.specs.Ty.{Ty, TTuple, Tys, tys, Below, each_all}
use Rattle.f_terms.specs.Tm.{Spn, Tm, STuple, tms, plain, plain_all}
use Rattle.f_terms.specs.Limits.{Within, nodes, nodes_all}
use Rattle.f_terms.specs.Scope.{InScope, AllInScope}
use Rattle.text_core.specs.Refusals.{nothing}
use Rattle.f_terms.specs.Faults.{Passes, PassAll, Note, limits, FaultNoted, FaultAllNoted}
use Rattle.f_terms.specs.Read.{tree}
use Rattle.f_terms.specs.declared.types.FType.{FType}
use Rattle.f_check.specs.Verdict.{IsTypeOf}
use Rattle.f_check.specs.Walk.{AllPass}

-- one part
pub part_known : (n m : ℕ) (es : List Tm) (e : Tm) (rest : List Tm) →
    AllInScope (plain_all (tms (es ++ e ∷ rest))) n m → InScope (plain e) n m
part_known n m [] e rest h = h.0
part_known n m (x ∷ es) e rest h = part_known n m es e rest h.1

pub part_nodes : (es : List Tm) (e : Tm) (rest : List Tm) →
    nodes (plain e) ≤ nodes_all (plain_all (tms (es ++ e ∷ rest)))
part_nodes [] e rest = omega arith
part_nodes (x ∷ es) e rest = omega (arith, part_nodes es e rest)

pub one_more : (es : List Tm) (e f : Tm) (rest : List Tm) → es ++ e ∷ f ∷ rest ≡ (es ++ e ∷ []) ++ f ∷ rest
one_more [] e f rest = refl
one_more (x ∷ es) e f rest = ap (λ (ys : List Tm). x ∷ ys) (one_more es e f rest)

module _ (n : ℕ) (g : Tys) where
  pub all_more : (es : List Tm) (ts : List Ty) (e : Tm) (t : Ty) → AllPass n g es ts → Passes e n g t → Below n t →
      AllPass n g (es ++ e ∷ []) (ts ++ t ∷ [])
  all_more [] [] e t h p b = (p, b, tt)
  all_more [] (u ∷ ts) e t h p b = absurd h
  all_more (x ∷ es) [] e t h p b = absurd h
  all_more (x ∷ es) (u ∷ ts) e t h p b = (h.0, h.1, all_more es ts e t h.2 p b)

  pass_all : (es : List Tm) (ts : List Ty) → AllPass n g es ts → PassAll (tms es) n g (tys ts)
  pass_all [] [] h = refl
  pass_all [] (u ∷ ts) h = absurd h
  pass_all (x ∷ es) [] h = absurd h
  pass_all (x ∷ es) (u ∷ ts) h = (u, tys ts, refl, h.0, pass_all es ts h.2)

  below_all : (es : List Tm) (ts : List Ty) → AllPass n g es ts → each_all BelowAt AnyDepth n (tys ts)
  below_all [] [] h = tt
  below_all [] (u ∷ ts) h = absurd h
  below_all (x ∷ es) [] h = absurd h
  below_all (x ∷ es) (u ∷ ts) h = (h.1, below_all es ts h.2)

  pub fault_part : (es : List Tm) (ts : List Ty) (e : Tm) (rest : List Tm) → AllPass n g es ts →
      (c : Note) (p : Spn) → FaultNoted e n g c p → FaultAllNoted (tms (es ++ e ∷ rest)) n g c p
  fault_part [] ts e rest h c p k = inl k
  fault_part (x ∷ es) [] e rest h c p k = absurd h
  fault_part (x ∷ es) (t ∷ ts) e rest h c p k = inr (t, h.0, fault_part es ts e rest h.2 c p k)

  pub tuple_ok : (s : Spn) (es : List Tm) (ts : List Ty) (u : Ty) → AllPass n g es ts → u ≡ TTuple (tys ts) →
      Within (TTuple (tys ts)) → IsTypeOf (STuple s (tms es)) n g u
  tuple_ok s es ts u all eu w = (
    (tys ts, eu, pass_all es ts all, w),
    subst (Below n) (sym eu) (below_all es ts all),
    subst Within (sym eu) w,
  )

  pub tuple_limit : (s : Spn) (es : List Tm) (ts : List Ty) → AllPass n g es ts →
      (c : Note) (p : Spn) → limits (TTuple (tys ts)) s nothing c p →
      FaultNoted (STuple s (tms es)) n g c p
  tuple_limit s es ts all c p k = inr (tys ts, pass_all es ts all, k)

-- one more type
pub map_push : (old new : List FType) (t : FType) → new ≡ old ++ t ∷ [] → map tree new ≡ map tree old ++ tree t ∷ []
map_push old new t e = ap (map tree) e ∙ go old
  where
    go : (old : List FType) → map tree (old ++ t ∷ []) ≡ map tree old ++ tree t ∷ []
    go [] = refl
    go (x ∷ xs) = ap (λ us. tree x ∷ us) (go xs)
