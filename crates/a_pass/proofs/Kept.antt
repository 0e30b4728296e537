-- What allocation keeps, of a program that is known to be the allocation of another.
use Rattle.std.proofs.Common.{◌≡◌, ◌≤◌, ◌*◌, ℕ, [], sym, subst}
use Rattle.h_terms.specs.Bound.{HBound, HFits}
use Rattle.h_terms.specs.H.{HTm, HBlks}
use Rattle.h_terms.specs.Laws.{HWithinIsTyped}
use Rattle.h_terms.specs.Meaning.{hrun}
use Rattle.h_terms.specs.Typing.{HProgramGood}
use Rattle.a_terms.specs.Bound.{AFits}
use Rattle.a_terms.specs.Meaning as A
use Rattle.a_terms.specs.Tree.{ATm, AProg}
use Rattle.a_laws.specs.Allocate.{alloc_prog, alloc_main}
use Rattle.a_laws.specs.Stands.{Stands, AllocStands}
use Rattle.a_laws.specs.Statements.{AllocFits, AllocKept, ends}

pub typed : HWithinIsTyped → (ks : HBlks) (t : HTm) → HBound ks t → HProgramGood ks t
typed within ks t h = within 17592186044416 1604 17592186044416 ks t h.0

-- what holds of the allocation holds of what is equal to it
along : (Q : AProg → ATm → Type 0) (ks : HBlks) (t : HTm) (p : AProg) (main : ATm) → p ≡ alloc_prog ks t →
    main ≡ alloc_main ks t → Q (alloc_prog ks t) (alloc_main ks t) → Q p main
along Q ks t p main e f q = subst (λ x. Q x main) (sym e) (subst (λ y. Q (alloc_prog ks t) y) (sym f) q)

pub stands : AllocStands → (ks : HBlks) (t : HTm) (p : AProg) (main : ATm) → p ≡ alloc_prog ks t →
    main ≡ alloc_main ks t → HProgramGood ks t → Stands p main ks t
stands law ks t p main e f good = along (λ x y. Stands x y ks t) ks t p main e f (law ks t good)

pub means : AllocKept → (ks : HBlks) (t : HTm) (p : AProg) (main : ATm) → p ≡ alloc_prog ks t →
    main ≡ alloc_main ks t → HProgramGood ks t → (n : ℕ) → A.meaning p main n ≡ ends [] (hrun n ks t)
means law ks t p main e f good n =
    along (λ x y. A.meaning x y n ≡ ends [] (hrun n ks t)) ks t p main e f (law ks t good n)

pub fits : AllocFits → (ks : HBlks) (t : HTm) (p : AProg) (main : ATm) → p ≡ alloc_prog ks t → main ≡ alloc_main ks t →
    (N M R : ℕ) → 3 * N ≤ M → HFits N R ks t → AFits M R p main
fits law ks t p main e f N M R le h = along (λ x y. AFits M R x y) ks t p main e f (law N M R le ks t h)
