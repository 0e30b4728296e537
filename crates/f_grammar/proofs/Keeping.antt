-- What one node more changes.
use Rattle.std.proofs.Common.{◌≡◌, ◌<◌, ◌≤◌, ◌⊎◌, inl, inr, ℕ, ◌+◌, List, [], ◌∷◌, ◌++◌, length, Bool, true, false}
use Rattle.std.proofs.Common.{refl, sym, ◌∙◌, ap, subst, arith, All}
use Rattle.std.proofs.lemmas.List.{length_push}
use Rattle.idx_core.specs.declared.span.Span.{Span}
use Rattle.f_grammar.specs.Raw.{RawTm, Piece, raw_span, nodes, nodes_all, raw_tms}
use Rattle.f_grammar.specs.Machine.{Val}
use Rattle.f_grammar.specs.Nodes.{shape_tree, tree_at}
use Rattle.f_grammar.specs.declared.raw.RawNode.{RawNode}
use Rattle.f_grammar.specs.declared.raw.RawShape.{RawShape}
use Rattle.f_grammar.proofs.Noding.{same_all, tree_new, tree_old}
use Rattle.f_grammar.specs.Forest.{size, tree_in, AddsBy, Puts, Stores, AreTrees, nodes_in, Counted}
use Rattle.f_grammar.specs.Frames.{Held}
use Rattle.f_grammar.specs.declared.forest.Forest.{Forest}
use Rattle.f_grammar.specs.declared.part.Part.{Part}
use Rattle.f_grammar.specs.declared.frame.Frame.{Frame}
use Rattle.f_grammar.specs.declared.frame.Frame.TheVariants as frame

-- a node that is kept
module _ {old new : Forest} {shape : RawShape} {s : Span} {p : Part} (h : Puts old new shape s p) where
  here : RawNode
  here = record { span = s; shape = shape }

  kept : new.full ≡ false →
      (old.full ≡ false) × (new.nodes.items ≡ old.nodes.items ++ record { span = s; shape = shape } ∷ [])
  kept e = subst (λ (b : Bool). AddsBy b old new (record { span = s; shape = shape })) e h.adds

  more : new.full ≡ true → (old.full ≡ true) ⊎ (100000 ≤ size old)
  more e = subst (λ (b : Bool). AddsBy b old new (record { span = s; shape = shape })) e h.adds

  size_more : new.full ≡ false → size new ≡ size old + 1
  size_more e = ap (λ (ns : List RawNode). length ns) (kept e).1
      ∙ length_push old.nodes.items (record { span = s; shape = shape })

  old_tree : new.full ≡ false → (k : ℕ) → k < size old → tree_in new k ≡ tree_in old k
  old_tree e k l = ap (λ (ns : List RawNode). tree_at ns k) (kept e).1
      ∙ tree_old old.nodes.items (record { span = s; shape = shape }) k l

  pub new_stands : (q : Piece) → raw_span q.tree ≡ s → q.start ≡ s.start → q.end ≡ s.end →
      (old.full ≡ false → shape_tree (tree_in old) s shape ≡ q.tree) → Stores new p q
  new_stands q is starts ends tree = record {
    node = λ e.
        let k = kept e in
        let l = size_more e in (
          omega (arith, h.node, l),
          ap (λ (ns : List RawNode). tree_at ns p.node) k.1
              ∙ (ap (λ (i : ℕ). tree_at (old.nodes.items ++ record { span = s; shape = shape } ∷ []) i) h.node
              ∙ (tree_new old.nodes.items (record { span = s; shape = shape }) ∙ tree k.0)),
        );
    place = h.place ∙ sym is;
    starts = h.starts ∙ sym starts;
    ends = h.ends ∙ sym ends;
  }

  pub stands_on : (r : Part) (q : Piece) → Stores old r q → Stores new r q
  stands_on r q x = record {
    node =
        λ e. let y = x.node (kept e).0 in let l = size_more e in (omega (arith, y.0, l), old_tree e r.node y.0 ∙ y.1);
    place = x.place;
    starts = x.starts;
    ends = x.ends;
  }

  all_trees : (ks : List ℕ) → new.full ≡ false → All (λ k. k < size old) ks →
      All (λ k. tree_in new k ≡ tree_in old k) ks
  all_trees ks e l i d lt = old_tree e _ (l i d lt)

  pub trees_on : (ks : List ℕ) (ts : List RawTm) → AreTrees old ks ts → AreTrees new ks ts
  trees_on ks ts x e =
      let y = x (kept e).0 in
      let l = size_more e in (
        λ i d lt. let z = y.0 i d lt in
            omega (arith, z, l),
        same_all (tree_in new) (tree_in old) ks (all_trees ks e y.0) ∙ y.1,
      )

  pub held_on : (f : Frame) (vs : List Val) → Held old f vs → Held new f vs
  held_on (frame.Paren l) vs x = x
  held_on (frame.First l) vs x = x
  held_on (frame.Next l fs) vs x = (x.0, x.1, x.2, x.3, trees_on fs.items x.2 x.4, x.5)
  held_on (frame.Proj n m) vs x = x
  held_on (frame.Test w) vs x = x
  held_on (frame.Zero w a) vs x = (x.0, x.1, x.2, x.3, x.4, stands_on a x.3 x.5, x.6)
  held_on (frame.Other w a z) vs x = (x.0, x.1, x.2, x.3, x.4, x.5, x.6, stands_on a x.4 x.7, stands_on z x.5 x.8, x.9)
  held_on (frame.Fix d) vs x = x
  held_on (frame.Gen w n) vs x = x
  held_on (frame.Let w n) vs x = x
  held_on (frame.LetBody w n a) vs x = (x.0, x.1, x.2, x.3, x.4, x.5, x.6, stands_on a x.4 x.7, x.8)
  held_on (frame.Pack w t) vs x = x
  held_on (frame.Open w t n) vs x = x
  held_on (frame.OpenBody o) vs x = (x.0, x.1, x.2, x.3, x.4, x.5, stands_on o.first x.2 x.6, x.7)
  held_on (frame.Ref w) vs x = x
  held_on (frame.Deref w) vs x = x
  held_on (frame.Argument f) vs x = (x.0, stands_on f x.0 x.1, x.2)
  held_on (frame.Right op l) vs x = (x.0, x.1, stands_on l x.1 x.2, x.3)
  held_on (frame.Assigned a) vs x = (x.0, x.1, stands_on a x.1 x.2, x.3)
  held_on frame.MoreParts vs x = x
  held_on frame.MoreFactors vs x = x
  held_on frame.MoreSums vs x = x
  held_on frame.MoreAssign vs x = x

  pub counted_on : (vs us : List Val) → nodes_in us ≡ 1 + nodes_in vs → Counted old vs → Counted new us
  counted_on vs us e c = record {
    all = λ f. let l = size_more f in let n = c.all (kept f).0 in omega (arith, l, n, e);
    many = λ f. by_case (more f);
  }
    where
      by_size : (b : Bool) → old.full ≡ b → 100000 ≤ size old → 100000 < nodes_in us
      by_size true f l = let n = c.many f in omega (arith, n, e)
      by_size false f l = let n = c.all f in omega (arith, n, e, l)

      by_case : (old.full ≡ true) ⊎ (100000 ≤ size old) → 100000 < nodes_in us
      by_case (inl f) = let n = c.many f in omega (arith, n, e)
      by_case (inr l) = by_size old.full refl l

pub nodes_more : (us : List RawTm) (t : RawTm) → nodes_all (raw_tms (us ++ t ∷ [])) ≡ nodes_all (raw_tms us) + nodes t
nodes_more [] t = omega arith
nodes_more (u ∷ us) t = let h = nodes_more us t in omega arith
