use Rattle.std.proofs.Common.{◌≡◌, ◌<◌, ◌∙◌, ◌+◌, ◌∷◌, ◌++◌, ℕ, List, [], length, get_or, take, ap, subst, sym}
use Rattle.std.proofs.lemmas.List.{take_all, take_more}
use Rattle.h_terms.specs.Nodes.{h_blocks, more, reads}
use Rattle.h_terms.specs.declared.node.HPart.{HPart}
use Rattle.h_terms.proofs.Parts.{reads_push}
use Rattle.let_types.specs.Hoisted.{AreOf}
use Rattle.let_types.specs.Names.{scope}
use Rattle.let_types.proofs.hoisted.types_of_parts.Goals as goal

reads_more : (ps : List HPart) (i : ℕ) (p : HPart) → p ≡ get_or ps i p → i < length ps →
    more p (reads [] (take i ps)) ≡ reads [] (take (i + 1) ps)
reads_more ps i p is lt =
    sym (ap (reads []) (take_more ps i p lt ∙ ap (λ q. take i ps ++ q ∷ []) (sym is)) ∙ reads_push [] (take i ps) p)

pub loop-part-preserved : goal.loop-part-preserved
loop-part-preserved c =
    subst (λ vs. AreOf (h_blocks c.args.blocks.now) (scope c.args.types c.args.names.now) c.put_part.new.stack.items vs)
    (reads_more c.args.parts.now c.loop-part.part-index c.part-item.result c.part-item.is c.loop-part-test.true)
    (c.in_ok-put_part.ensures (reads [] (take c.loop-part.part-index c.args.parts.now)) c.loop-part.invariant)

pub returns : goal.returns
returns c =
    subst (λ ps. AreOf (h_blocks c.args.blocks.now) (scope c.args.types c.args.names.now) c.loop-part.stack.items
    (reads [] ps))
    (take_all c.loop-part.part-index c.args.parts.now c.loop-part-test.false) c.loop-part.invariant
