-- The form of a part.
use Rattle.std.proofs.Common.{◌≡◌, ◌<◌, ◌∙◌, ap, subst, All}
use Rattle.f_grammar.specs.Nodes.{children, kids, shape_tree, node_tree}
use Rattle.f_grammar.specs.Term.{count, node_at}
use Rattle.f_grammar.specs.declared.raw.RawNode.{RawNode}
use Rattle.f_grammar.specs.declared.raw.RawShape.{RawShape}
use Rattle.f_parser.specs.Parts.{part_tree}
use Rattle.f_parser.specs.declared.part.Part.{Part}

pub inside : (p : Part) (n : RawNode) (shape : RawShape) → All (λ k. k < count p.term.now) (kids n) → n.shape ≡ shape →
    All (λ k. k < count p.term.now) (children shape)
inside p n shape h e = subst (λ x. All (λ k. k < count p.term.now) (children x)) e h

pub form_is : (p : Part) (n : RawNode) (shape : RawShape) → part_tree p ≡ node_tree (node_at p.term.now) n →
    n.shape ≡ shape → part_tree p ≡ shape_tree (node_at p.term.now) n.span shape
form_is p n shape t e = t ∙ ap (shape_tree (node_at p.term.now) n.span) e
