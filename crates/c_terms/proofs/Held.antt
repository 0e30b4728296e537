-- What the nodes of a program hold.
use Rattle.std.proofs.Common.{◌≡◌, List, [], sym, ap, ◌∙◌, subst}
use Rattle.std.proofs.Math.Logic.{∥∥₁_elim, ∥∥₁_map}
use Rattle.c_terms.specs.C.{CTm}
use Rattle.c_terms.specs.Reach.{CWithin}
use Rattle.c_terms.specs.Bound.{CBound}
use Rattle.c_terms.specs.Stream.{clin_t}
use Rattle.c_terms.specs.Scope.{CScoped}
use Rattle.c_terms.specs.Decode.{cdecode}
use Rattle.c_terms.specs.Read.{written}
use Rattle.c_terms.specs.Props.{nodes_set}
use Rattle.c_terms.specs.Program.{closed_of, CWhole, CHolds, IsC}
use Rattle.c_terms.specs.declared.node.CNode.{CNode}
use Rattle.c_terms.proofs.Backs.{reads_back}
use Rattle.c_terms.proofs.Each.{plain_t}
use Rattle.c_terms.proofs.Scoping.{good_within}

pub scoped : (t : CTm) → CBound t → CScoped 0 t
scoped t b = good_within t 0 [] (plain_t (CWithin 17592186044416 1604 17592186044416) t 0 [] b.0)

pub the_term : (ns : List CNode) (t : CTm) → CScoped 0 t → written ns [] ≡ clin_t 0 t [] → closed_of ns ≡ t
the_term ns t h e = ap cdecode e ∙ reads_back t h

pub whole : (ns : List CNode) → IsC ns → CWhole ns
whole ns some =
    ∥∥₁_elim some (nodes_set (clin_t 0 (closed_of ns) []) (written ns []))
    (λ k. ap (λ u. clin_t 0 u []) (the_term ns k.0 (scoped k.0 k.1.1) k.1.0) ∙ sym k.1.0)

pub bound : (ns : List CNode) → IsC ns → ∥ CBound (closed_of ns) ∥₁
bound ns some = ∥∥₁_map some (λ k. subst_bound ns k.0 k.1)
  where
    subst_bound : (ns : List CNode) (t : CTm) → CHolds ns t → CBound (closed_of ns)
    subst_bound ns t h = subst CBound (sym (the_term ns t (scoped t h.1) h.0)) h.1
