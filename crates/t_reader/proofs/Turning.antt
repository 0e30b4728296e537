-- Items in turn, of which there is one raw tree at a time: what was made of those before.
use Rattle.std.proofs.Common.{◌≡◌, ℕ, ◌+◌, ◌<◌, ◌≤◌, List, [], ◌∷◌, ◌++◌, length, drop, get_or, refl, subst, sym, ◌∙◌}
use Rattle.std.proofs.Common.{ap, append_assoc}
use Rattle.std.proofs.lemmas.List.{append-nil, map-append}
use Rattle.std.proofs.Math.ListN.{drop_of_length-le}
use Rattle.t_terms.specs.declared.block.Block.{Block}
use Rattle.t_terms.specs.declared.data.Data as heap_of
use Rattle.t_text.specs.declared.token.Token.{Token}
use Rattle.t_text.specs.Raw as tree
use Rattle.t_terms.specs.Read.{spanned, spanned_data}
use Rattle.t_text.specs.Names.{Labels, labels_of, block_of, data_of}
use Rattle.t_shapes.specs.declared.raw.RawBlock.{RawBlock}
use Rattle.t_shapes.specs.declared.raw.RawData.{RawData}
use Rattle.t_shapes.specs.declared.raw.RawItem.{RawItem}
use Rattle.t_shapes.specs.declared.raw.RawItem.TheVariants as It
use Rattle.t_shapes.specs.declared.turns.SoFar.{SoFar}
use Rattle.t_shapes.specs.Raw.{raw_block, raw_data, raw_item, raw_items}
use Rattle.t_shapes.specs.Reads.{HasRead, AreProgram}
use Rattle.t_reader.specs.declared.heads.Head.{Head}
use Rattle.t_reader.specs.Heads.{head_of, heads_of, head_labels, AreParts}
use Rattle.t_reader.specs.Labelled.{NameTheSame}
use Rattle.t_reader.specs.Resolve.{block_numbered_faults, data_numbered_faults}
use Rattle.t_reader.proofs.Found.{here_is}
use Rattle.t_reader.proofs.Numbering.{ItemsLeft, items_start, block_next, data_next, items_whole, same_labels}

-- items were read and made, with the first i of these heads; whatever follows them, these are the parts of what is made
-- so far
pub record InTurn (text : List ℕ) (ls : Labels) (ts : List Token) (hs : List Head) (i : ℕ) (s : SoFar)
    (blocks : List Block) (heap : List heap_of.Data) : Type 0 where
  pub done : List RawItem
  pub read : HasRead ts s (raw_items done)
  pub heads : hs ≡ heads_of (raw_items done) ++ drop i hs
  pub left : (rest : List RawItem) → NameTheSame ls (labels_of text (raw_items (done ++ rest))) →
      ItemsLeft text (done ++ rest) rest blocks heap

module _ (text : List ℕ) (ls : Labels) (ts : List Token) (hs : List Head) where
  pub turn_start : (s : SoFar) → HasRead ts s [] → InTurn text ls ts hs 0 s [] []
  turn_start s r = record { done = []; read = r; heads = refl; left = λ rest same. items_start text rest }

  module _ (i : ℕ) (s : SoFar) (blocks : List Block) (heap : List heap_of.Data)
      (h : InTurn text ls ts hs i s blocks heap) (y : Head) (l : i < length hs) (x : RawItem) (t : SoFar)
      (more_read : (xs : List tree.RawItem) → HasRead ts s xs → HasRead ts t (xs ++ raw_item x ∷ []))
      (same : get_or hs i y ≡ head_of (raw_item x)) where
    items_more : raw_items (h.done ++ x ∷ []) ≡ raw_items h.done ++ raw_item x ∷ []
    items_more = map-append raw_item h.done (x ∷ [])

    read_more : HasRead ts t (raw_items (h.done ++ x ∷ []))
    read_more = rw items_more (more_read (raw_items h.done) h.read)

    heads_more : hs ≡ heads_of (raw_items (h.done ++ x ∷ [])) ++ drop (i + 1) hs
    heads_more =
        let a : heads_of (raw_items (h.done ++ x ∷ [])) ≡ heads_of (raw_items h.done) ++ head_of (raw_item x) ∷ [] =
        ap (λ (xs : List tree.RawItem). heads_of xs) items_more ∙
        map-append head_of (raw_items h.done) (raw_item x ∷ []) in
        let b : drop i hs ≡ head_of (raw_item x) ∷ drop (i + 1) hs = here_is hs i y (head_of (raw_item x)) l same in
        h.heads ∙ (ap (λ (zs : List Head). heads_of (raw_items h.done) ++ zs) b ∙
        (sym (append_assoc (heads_of (raw_items h.done)) (head_of (raw_item x) ∷ []) (drop (i + 1) hs)) ∙
        sym (ap (λ (zs : List Head). zs ++ drop (i + 1) hs) a)))

    -- what is left, by what was left with this item
    left_more : (bs : List Block) (ds : List heap_of.Data) →
        ((rest : List RawItem) → NameTheSame ls (labels_of text (raw_items (h.done ++ x ∷ rest))) →
        ItemsLeft text (h.done ++ x ∷ rest) rest bs ds) →
        (rest : List RawItem) → NameTheSame ls (labels_of text (raw_items ((h.done ++ x ∷ []) ++ rest))) →
        ItemsLeft text ((h.done ++ x ∷ []) ++ rest) rest bs ds
    left_more bs ds f rest n =
        let q : (h.done ++ x ∷ []) ++ rest ≡ h.done ++ x ∷ rest = append_assoc h.done (x ∷ []) rest in
        subst (λ (xs : List RawItem). ItemsLeft text xs rest bs ds) (sym q)
        (f rest (subst (λ (xs : List RawItem). NameTheSame ls (labels_of text (raw_items xs))) q n))

  module _ (i : ℕ) (s : SoFar) (blocks : List Block) (heap : List heap_of.Data)
      (h : InTurn text ls ts hs i s blocks heap) (y : Head) (l : i < length hs) (t : SoFar) where
    pub block_turned : (b : RawBlock) →
        ((xs : List tree.RawItem) → HasRead ts s xs → HasRead ts t (xs ++ raw_item (It.Block b) ∷ [])) →
        get_or hs i y ≡ head_of (raw_item (It.Block b)) →
        (made : Block) (more : List Block) → (n : ℕ) → n ≡ length blocks →
        (block_numbered_faults text ls n (raw_block b) ≡ []) × (spanned made ≡ block_of text ls (raw_block b)) →
        more ≡ blocks ++ made ∷ [] → InTurn text ls ts hs (i + 1) t more heap
    block_turned b r same made more k q f m = record {
      done = h.done ++ It.Block b ∷ [];
      read = read_more i s blocks heap h y l (It.Block b) t r same;
      heads = heads_more i s blocks heap h y l (It.Block b) t r same;
      left = left_more i s blocks heap h y l (It.Block b) t r same more heap
          (λ rest n. block_next text (h.done ++ It.Block b ∷ rest) (It.Block b ∷ rest) blocks heap
          (h.left (It.Block b ∷ rest) n) ls n b rest refl made more (rw q at f) m);
    }

    pub data_turned : (d : RawData) →
        ((xs : List tree.RawItem) → HasRead ts s xs → HasRead ts t (xs ++ raw_item (It.Data d) ∷ [])) →
        get_or hs i y ≡ head_of (raw_item (It.Data d)) →
        (made : heap_of.Data) (more : List heap_of.Data) → (n : ℕ) → n ≡ length heap →
        (data_numbered_faults text ls n (raw_data d) ≡ []) × (spanned_data made ≡ data_of text ls (raw_data d)) →
        more ≡ heap ++ made ∷ [] → InTurn text ls ts hs (i + 1) t blocks more
    data_turned d r same made more k q f m = record {
      done = h.done ++ It.Data d ∷ [];
      read = read_more i s blocks heap h y l (It.Data d) t r same;
      heads = heads_more i s blocks heap h y l (It.Data d) t r same;
      left = left_more i s blocks heap h y l (It.Data d) t r same blocks more
          (λ rest n. data_next text (h.done ++ It.Data d ∷ rest) (It.Data d ∷ rest) blocks heap
          (h.left (It.Data d ∷ rest) n) ls n d rest refl made more (rw q at f) m);
    }

  pub turned : (i : ℕ) (s : SoFar) (blocks : List Block) (heap : List heap_of.Data) → length hs ≤ i →
      InTurn text ls ts hs i s blocks heap → ((xs : List tree.RawItem) → HasRead ts s xs → AreProgram ts xs) →
      NameTheSame ls (head_labels text hs) → AreParts text ts blocks heap
  turned i s blocks heap l h all same =
      let n : drop i hs ≡ [] = drop_of_length-le hs l in
      let e : hs ≡ heads_of (raw_items h.done) = h.heads ∙ rw n (append-nil (heads_of (raw_items h.done))) in
      let q : h.done ++ [] ≡ h.done = append-nil h.done in
      let g : NameTheSame ls (labels_of text (raw_items h.done)) = same_labels text ls (raw_items h.done) hs e same in
      let k : ItemsLeft text h.done [] blocks heap = subst (λ (xs : List RawItem). ItemsLeft text xs [] blocks heap) q
      (h.left [] (subst (λ (xs : List RawItem). NameTheSame ls (labels_of text (raw_items xs))) (sym q) g)) in
      let w = items_whole text h.done blocks heap [] refl k in
      record { raw = raw_items h.done; program = all (raw_items h.done) h.read; named = w.0; is = w.1 }
