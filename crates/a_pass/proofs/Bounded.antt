-- The allocation of a program within the bound of programs is within the bound of programs.
use Rattle.std.proofs.Common.{◌≡◌, ℕ, List, [], ◌++◌, ap, ap₂, ◌∙◌, sym, subst, arith}
use Rattle.h_terms.specs.H.{HBlks, HTm}
use Rattle.h_terms.specs.Bound.{HBound}
use Rattle.a_terms.specs.Tree.{AProg, ATm}
use Rattle.a_terms.specs.Bound.{AFits, ABound}
use Rattle.a_terms.specs.Sizes.{Fits-in}
use Rattle.a_terms.specs.NodeTrees.{a_blocks, a_data, a_prog, a_tree}
use Rattle.a_terms.specs.declared.nodes.ABlock.{ABlock}
use Rattle.a_terms.specs.declared.nodes.AData.{AData}
use Rattle.a_terms.specs.declared.nodes.ANode.{ANode}
use Rattle.a_laws.specs.Allocate.{alloc_all, alloc_prog, alloc_main, alloc_t, data_all, data_t, n_all}
use Rattle.a_laws.specs.Statements.{AllocFits}

at_main : (p : AProg) (t u : ATm) → t ≡ u → AFits 70368744177664 1604 p t → AFits 70368744177664 1604 p u
at_main p t u same h = subst (AFits 70368744177664 1604 p) same h

at_prog : (p q : AProg) (u : ATm) → p ≡ q → AFits 70368744177664 1604 p u → AFits 70368744177664 1604 q u
at_prog p q u same h = subst (λ x. AFits 70368744177664 1604 x u) same h

sized : (bs xs : List ABlock) (ds es : List AData) (ns ys : List ANode) → xs ≡ bs → ys ≡ ns → es ≡ ds →
    Fits-in 4611686018427387904 (a_prog xs es) (a_tree ys) → Fits-in 4611686018427387904 (a_prog bs ds) (a_tree ns)
sized bs xs ds es ns ys ex ey ed h =
    subst (λ d. Fits-in 4611686018427387904 (a_prog bs d) (a_tree ns)) ed
    (subst (λ z. Fits-in 4611686018427387904 (a_prog bs es) (a_tree z)) ey
    (subst (λ z. Fits-in 4611686018427387904 (a_prog z es) (a_tree ys)) ex h))

-- the program is the allocation of the hoisted one
pub program_is : (g g' : HBlks) (m m' : HTm) (bs : List ABlock) (ds : List AData) (c : ℕ) → g ≡ g' → m ≡ m' →
    a_blocks bs ≡ alloc_all g 0 g → a_data ds ≡ data_all g 0 g ++ data_t g [] [] c 0 m → c ≡ n_all 0 g →
    a_prog bs ds ≡ alloc_prog g' m'
program_is g g' m m' bs ds c eg em eb ed ec =
    ap₂ (λ ks xs. (let p : AProg = record { blocks = ks; tuples = xs } in p)) eb
    (ed ∙ ap (λ n. data_all g 0 g ++ data_t g [] [] n 0 m) ec)
    ∙ ap₂ alloc_prog eg em

pub main_is : (g g' : HBlks) (m m' : HTm) (t : ATm) (c : ℕ) → g ≡ g' → m ≡ m' → t ≡ alloc_t g [] [] c 0 m →
    c ≡ n_all 0 g → t ≡ alloc_main g' m'
main_is g g' m m' t c eg em et ec = et ∙ ap (λ n. alloc_t g [] [] n 0 m) ec ∙ ap₂ alloc_main eg em

pub bounded : (g' : HBlks) (m' : HTm) (bs xs : List ABlock) (ds es : List AData) (ns ys : List ANode) → AllocFits →
    HBound g' m' → a_prog bs ds ≡ alloc_prog g' m' → a_tree ns ≡ alloc_main g' m' → xs ≡ bs → ys ≡ ns → es ≡ ds →
    Fits-in 4611686018427387904 (a_prog xs es) (a_tree ys) → ABound (a_prog bs ds) (a_tree ns)
bounded g' m' bs xs ds es ns ys law h ep em ex ey ed f = (
  at_main _ _ _ (sym em) (at_prog _ _ _ (sym ep) (law 17592186044416 70368744177664 1604 (omega arith) g' m' h)),
  sized bs xs ds es ns ys ex ey ed f,
)
