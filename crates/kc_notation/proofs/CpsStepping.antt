-- The steps of the walk along a program's nodes, and its end.
use Rattle.std.proofs.Common.{◌≡◌, ◌≤◌, ◌<◌, ℕ, ◌+◌, Bool, List, [], length, drop, get_or, map, sym, ap, ◌∙◌, subst}
use Rattle.std.proofs.Common.{Result, OnOk}
use Rattle.std.proofs.Math.ListN.{drop_of_length-le}
use Rattle.idx_core.proofs.Lists.{next_item}
use Rattle.k_terms.specs.K.{KTm}
use Rattle.k_terms.specs.Stream.{KNd, klin_t}
use Rattle.k_terms.specs.Read.{knode}
use Rattle.k_terms.specs.declared.node.KNode.{KNode}
use Rattle.kc_notation.specs.declared.page.Page.{Page}
use Rattle.kc_notation.specs.Standing.{IsPage}
use Rattle.kc_notation.specs.ClosedWalk.{Sheet, blank, shut}
use Rattle.kc_notation.specs.Notation.{k_text}
use Rattle.kc_notation.specs.CpsWalk.{step, walk}
use Rattle.kc_notation.proofs.CpsWalking.{nodes_make}

module _ (b : Bool) where
  pub as_step : {T E : Type 0} (r : Result T E) (n m : KNd) (g h : Page) → n ≡ m →
      OnOk r ((p : Sheet) → IsPage g p → IsPage h (step b m p)) →
      OnOk r ((p : Sheet) → IsPage g p → IsPage h (step b n p))
  as_step r n m g h e = subst (λ x. OnOk r ((p : Sheet) → IsPage g p → IsPage h (step b x p))) (sym e)

  pub walk_more : (ns : List KNode) (i : ℕ) (n : KNode) (p q : Sheet) → n ≡ get_or ns i n → i < length ns →
      walk b (map knode (drop i ns)) p ≡ q → walk b (map knode (drop (i + 1) ns)) (step b (knode n) p) ≡ q
  walk_more ns i n p q is lt h = subst (λ xs. walk b (map knode xs) p ≡ q) (next_item ns i n is lt) h

  pub walk_done : (ns : List KNode) (i : ℕ) (p : Sheet) (t : KTm) → length ns ≤ i →
      walk b (map knode (drop i ns)) p ≡ walk b (map knode ns) blank → map knode ns ≡ klin_t 0 0 [] t [] →
      shut p.body ≡ k_text b t
  walk_done ns i p t le h read =
      let e : p ≡ walk b (map knode ns) blank =
      subst (λ xs. walk b (map knode xs) p ≡ walk b (map knode ns) blank) (drop_of_length-le ns le) h in
      ap (λ (q : Sheet). shut q.body) (e ∙ ap (λ xs. walk b xs blank) read) ∙ nodes_make b t
