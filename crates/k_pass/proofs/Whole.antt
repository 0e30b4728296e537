-- The nodes of a conversion are those of a program.
use Rattle.std.proofs.Common.{◌≡◌, ◌≤◌, List, [], map, false, sym, ap, ◌∙◌, subst}
use Rattle.f_terms.specs.Accepted.{IsAccepted}
use Rattle.f_terms.specs.Limits.{nodes}
use Rattle.f_terms.specs.Noted.{Noted, bare, Beside}
use Rattle.f_terms.specs.Tm.{Term}
use Rattle.f_terms.specs.Ty.{TInt, NoTys}
use Rattle.k_terms.specs.Back.{TypedIsInScope, ReadsBack}
use Rattle.k_terms.specs.Bound.{KBound}
use Rattle.k_terms.specs.Decode.{decode}
use Rattle.k_terms.specs.K.{KTm}
use Rattle.k_terms.specs.Read.{knode}
use Rattle.k_terms.specs.Stream.{klin_t}
use Rattle.k_terms.specs.declared.node.KNode.{KNode}
use Rattle.k_laws.specs.Annotate.{cps_term}
use Rattle.k_laws.specs.Annotated.{Annotated}
use Rattle.k_laws.specs.Cps.{cps_of}
use Rattle.k_laws.specs.Correct.{IsTranslated, CpsKeepsMeaning, CpsKeepsTypes, CpsKeepsReach, CpsKeepsBound}
use Rattle.k_laws.specs.Correct.{OneConversion}
use Rattle.k_laws.specs.Sites.{CodesAreSites}
use Rattle.k_pass.specs.Converted.{Converted}
use Rattle.k_pass.specs.Emit.{emit_of}
use Rattle.k_pass.proofs.Holds.{holds_program}

module _ (one : OneConversion) (types : CpsKeepsTypes) (scope : TypedIsInScope) (back : ReadsBack)
    (e : Noted) (t : Term) (is : bare e ≡ t) (accepted : IsAccepted t TInt) (beside : Beside e NoTys) (xs : List KNode)
    (made : map knode xs ≡ emit_of e) where
  same_tree : cps_term (bare e) ≡ cps_term t
  same_tree = ap cps_term is

  own : Annotated false e 0 NoTys TInt × (cps_of e ≡ cps_term (bare e))
  own = one e (subst (λ u. IsAccepted u TInt) (sym is) accepted).0 beside

  nodes_are : map knode xs ≡ klin_t 0 0 [] (cps_term t) []
  nodes_are = made ∙ holds_program e own.0 ∙ ap (λ (m : KTm). klin_t 0 0 [] m []) (own.1 ∙ same_tree)

  pub tree_is : decode (map knode xs) ≡ cps_term t
  tree_is = ap decode nodes_are ∙ back (cps_term t) (scope (cps_term t) (types t accepted.0))

  pub whole_is : klin_t 0 0 [] (decode (map knode xs)) [] ≡ map knode xs
  whole_is = ap (λ (m : KTm). klin_t 0 0 [] m []) tree_is ∙ sym nodes_are

  pub fits : CpsKeepsBound → nodes t ≤ 4294967295 → KBound (decode (map knode xs))
  fits law few = subst KBound (sym tree_is) (law t accepted few)

pub converted : IsTranslated → CpsKeepsMeaning → CpsKeepsTypes → CpsKeepsReach → CpsKeepsBound → CodesAreSites →
    (t : Term) → IsAccepted t TInt → nodes t ≤ 4294967295 → (m : KTm) → m ≡ cps_term t → Converted t m
converted related meaning types reach bound codes t accepted few m is =
    subst (Converted t) (sym is) (record {
      tree = λ i. cps_term t;
      translation = related t accepted.0;
      meaning = meaning t accepted.0;
      typed = types t accepted.0;
      reach = reach t accepted;
      bound = bound t accepted few;
      codes = codes t;
    })
