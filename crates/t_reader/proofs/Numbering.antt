-- Items in turn: a label is that of its first item.
use Rattle.std.proofs.Common.{◌≡◌, ℕ, suc, ◌+◌, ◌<◌, ◌≤◌, List, [], ◌∷◌, ◌++◌, length, map, drop, get_or, refl, subst}
use Rattle.std.proofs.Common.{sym, ◌∙◌, ap, Bool, true, false, not, ◌||◌, if◌then◌else◌, append_assoc, arith, add-one}
use Rattle.std.proofs.Common.{Bor, Option, Some, None, is_some}
use Rattle.std.specs.Prelude.{bytes_eq}
use Rattle.std.specs.Option.{option_or}
use Rattle.std.specs.Cmp.Lexicographic.{nat_list_eq_equiv}
use Rattle.std.proofs.lemmas.Bool.{eq-eqb}
use Rattle.std.proofs.lemmas.List.{append-nil, length-append}
use Rattle.std.proofs.Math.ListN.{drop_of_length-le}
use Rattle.idx_core.specs.Names.{Name}
use Rattle.indexmap.specs.IndexMap.{IndexMap, IsEmpty}
use Rattle.t_terms.specs.declared.fault.TCode.TheVariants.{T04}
use Rattle.t_terms.specs.declared.fault.TFault.{TFault}
use Rattle.t_terms.specs.declared.block.Block.{Block}
use Rattle.t_terms.specs.declared.data.Data as heap_of
use Rattle.t_terms.specs.Tree.{TBase, Reg, Int, Label, Data}
use Rattle.t_terms.specs.Spanned.{SBlock, SData}
use Rattle.t_terms.specs.Read.{spanned, spanned_blocks, spanned_data, spanned_heap, spanned_parts}
use Rattle.idx_core.specs.declared.span.Span.{Span}
use Rattle.t_text.specs.Raw as tree
use Rattle.t_text.specs.Raw.{item_name, blocks_in, data_in}
use Rattle.t_text.specs.Names.{Labels, spelled, is_among, named_by, item_labels, labels_of, block_of, data_of}
use Rattle.t_text.specs.Names.{program_of}
use Rattle.t_text.specs.NameFaults.{only_if, item_faults, items_faults, program_faults}
use Rattle.t_text.proofs.ItemLaws.{IsTarget}
use Rattle.t_shapes.specs.declared.raw.RawBlock.{RawBlock}
use Rattle.t_shapes.specs.declared.raw.RawData.{RawData}
use Rattle.t_shapes.specs.declared.raw.RawItem.{RawItem}
use Rattle.t_shapes.specs.declared.raw.RawItem.TheVariants as It
use Rattle.t_shapes.specs.Raw.{raw_block, raw_data, raw_item, raw_items}
use Rattle.t_reader.specs.declared.target.Target.{Target}
use Rattle.t_reader.specs.declared.heads.Head.{Head}
use Rattle.t_reader.specs.declared.heads.Head.TheVariants as H
use Rattle.t_reader.specs.Heads.{heads_of, labels_from, head_labels}
use Rattle.t_reader.specs.Labelled.{NameTheSame, HasFirsts, is_target}
use Rattle.t_reader.specs.Resolve.{StopsAt, stands_before, numbered_faults, block_numbered_faults, data_numbered_faults}
use Rattle.t_reader.proofs.Agreeing.{block_same, data_same, numbered_same}
use Rattle.t_reader.proofs.Found.{here_is, stop_left}
use Rattle.t_reader.proofs.Labelled.{named_append}
use Rattle.t_reader.proofs.Filing.{differs}

-- labels in a map, where the heads from k on are left, b blocks and d data tuples before them
pub record LabelsLeft {S : Type 0} (text : List ℕ) (hs : List Head) (k b d : ℕ)
    (targets : IndexMap (Bor (List ℕ)) Target S) : Type 0 where
  pub seen : Labels
  pub count : b + d ≡ k
  pub labels : head_labels text hs ≡ seen ++ labels_from text b d (drop k hs)
  pub firsts : HasFirsts targets seen

pub labels_start : {S : Type 0} (text : List ℕ) (hs : List Head) (targets : IndexMap (Bor (List ℕ)) Target S) →
    IsEmpty targets → LabelsLeft text hs 0 0 0 targets
labels_start text hs targets e = record { seen = []; count = omega arith; labels = refl; firsts = λ x. rw e refl }

module _ {S : Type 0} (text : List ℕ) (hs : List Head) (k b d : ℕ)
    (old : IndexMap (Bor (List ℕ)) Target S) (x : Head) (l : k < length hs) (h : LabelsLeft text hs k b d old)
    (more : IndexMap (Bor (List ℕ)) Target S) where
  pub next_block : (y : Span) → get_or hs k x ≡ H.Block y →
      HasFirsts more (h.seen ++ (spelled text y, Label b) ∷ []) → LabelsLeft text hs (k + 1) (b + 1) d more
  next_block y e f = record {
    seen = h.seen ++ (spelled text y, Label b) ∷ [];
    count = omega (arith, h.count);
    labels = h.labels ∙ rw (here_is hs k x _ l e, add-one b)
        (sym (append_assoc h.seen ((spelled text y, Label b) ∷ []) (labels_from text (suc b) d (drop (k + 1) hs))));
    firsts = f;
  }

  pub next_data : (y : Span) → get_or hs k x ≡ H.Data y →
      HasFirsts more (h.seen ++ (spelled text y, Data d) ∷ []) → LabelsLeft text hs (k + 1) b (d + 1) more
  next_data y e f = record {
    seen = h.seen ++ (spelled text y, Data d) ∷ [];
    count = omega (arith, h.count);
    labels = h.labels ∙ rw (here_is hs k x _ l e, add-one d)
        (sym (append_assoc h.seen ((spelled text y, Data d) ∷ []) (labels_from text b (suc d) (drop (k + 1) hs))));
    firsts = f;
  }

pub all_labels : {S : Type 0} (text : List ℕ) (hs : List Head) (k b d : ℕ)
    (targets : IndexMap (Bor (List ℕ)) Target S) → length hs ≤ k →
    LabelsLeft text hs k b d targets → HasFirsts targets (head_labels text hs)
all_labels text hs k b d targets l h =
    let n : drop k hs ≡ [] = drop_of_length-le hs l in
    let e : head_labels text hs ≡ h.seen = h.labels ∙ (rw n (append-nil h.seen)) in
    rw e h.firsts

-- the labels of items are those of their heads
labels_by_heads : (text : List ℕ) (k d : ℕ) (xs : List tree.RawItem) →
    item_labels text k d xs ≡ labels_from text k d (heads_of xs)
labels_by_heads text k d [] = refl
labels_by_heads text k d (tree.BlockItem b ∷ xs) =
    ap (λ (ls : Labels). (spelled text b.name, Label k) ∷ ls) (labels_by_heads text (suc k) d xs)
labels_by_heads text k d (tree.DataItem x ∷ xs) =
    ap (λ (ls : Labels). (spelled text x.name, Data d) ∷ ls) (labels_by_heads text k (suc d) xs)

pub same_labels : (text : List ℕ) (ls : Labels) (xs : List tree.RawItem) (hs : List Head) →
    hs ≡ heads_of xs → NameTheSame ls (head_labels text hs) → NameTheSame ls (labels_of text xs)
same_labels text ls xs hs e h = rw (labels_by_heads text 0 0 xs, ← e) h

-- an item more among the labels and names that stand before
more_targets : (p q r s : ℕ) (t : TBase) (b : Bool) (o : Option TBase) → p ≤ r → q ≤ s → IsTarget r s (Some t) →
    IsTarget p q o → IsTarget r s (option_or o (if b then Some t else None))
more_targets p q r s t true None m n f h = f
more_targets p q r s t false None m n f h = tt
more_targets p q r s t b (Some (Label i)) m n f h = omega (arith, m, h)
more_targets p q r s t b (Some (Data i)) m n f h = omega (arith, n, h)
more_targets p q r s t b (Some (Reg i)) m n f h = absurd h
more_targets p q r s t b (Some (Int i)) m n f h = absurd h

known_more : (t : TBase) (b : Bool) (o : Option TBase) →
    (b || is_some o) ≡ is_some (option_or o (if b then Some t else None))
known_more t true None = refl
known_more t false None = refl
known_more t true (Some x) = refl
known_more t false (Some x) = refl

-- a label stood before where it names an item before this one
abbrev Tells : ℕ → ℕ → TBase → Type 0
Tells p q t = (o : Option TBase) → IsTarget p q o → is_some o ≡ not (is_target t (option_or o (Some t)))

block_tells : (p q : ℕ) → Tells p q (Label p)
block_tells p q None h = rw (eq-eqb p p refl) refl
block_tells p q (Some (Label i)) h = rw (differs i p (λ z. omega (arith, h, z))) refl
block_tells p q (Some (Data i)) h = refl
block_tells p q (Some (Reg r)) h = absurd h
block_tells p q (Some (Int z)) h = absurd h

data_tells : (p q : ℕ) → Tells p q (Data q)
data_tells p q None h = rw (eq-eqb q q refl) refl
data_tells p q (Some (Data i)) h = rw (differs i q (λ z. omega (arith, h, z))) refl
data_tells p q (Some (Label i)) h = refl
data_tells p q (Some (Reg r)) h = absurd h
data_tells p q (Some (Int z)) h = absurd h

-- items of which `left` are left, and the blocks and the data that were made of those before
pub record ItemsLeft (text : List ℕ) (xs left : List RawItem) (blocks : List Block) (heap : List heap_of.Data) :
    Type 0 where
  pub seen : Labels
  pub before : List Name
  pub labels : labels_of text (raw_items xs) ≡ seen ++ item_labels text (length blocks) (length heap) (raw_items left)
  pub below : (x : Name) → IsTarget (length blocks) (length heap) (named_by x seen)
  pub known : (x : Name) → is_among x before ≡ is_some (named_by x seen)
  pub faults : program_faults text (raw_items xs) ≡ items_faults text (labels_of text (raw_items xs)) before
      (raw_items left)
  pub blocks_are : (program_of text (raw_items xs)).blocks ≡ spanned_blocks blocks
      ++ map (block_of text (labels_of text (raw_items xs))) (blocks_in (raw_items left))
  pub heap_is : (program_of text (raw_items xs)).heap ≡ spanned_heap heap
      ++ map (data_of text (labels_of text (raw_items xs))) (data_in (raw_items left))

blocks_append : (xs ys : List Block) → spanned_blocks (xs ++ ys) ≡ spanned_blocks xs ++ spanned_blocks ys
blocks_append [] ys = refl
blocks_append (x ∷ xs) ys = ap (λ (zs : List SBlock). spanned x ∷ zs) (blocks_append xs ys)

heap_append : (xs ys : List heap_of.Data) → spanned_heap (xs ++ ys) ≡ spanned_heap xs ++ spanned_heap ys
heap_append [] ys = refl
heap_append (x ∷ xs) ys = ap (λ (zs : List SData). spanned_data x ∷ zs) (heap_append xs ys)

module _ (text : List ℕ) (xs : List RawItem) where
  abbrev all : Labels
  all = labels_of text (raw_items xs)

  pub items_start : ItemsLeft text xs xs [] []
  items_start =
      record {
        seen = [];
        before = [];
        labels = refl;
        below = λ x. tt;
        known = λ x. refl;
        faults = refl;
        blocks_are = refl;
        heap_is = refl;
      }

  module _ (left : List RawItem) (blocks : List Block) (heap : List heap_of.Data)
      (h : ItemsLeft text xs left blocks heap) (ls : Labels) (same : NameTheSame ls all) where
    -- the next item x, which its label names by t, and then the others
    module _ (x : RawItem) (rest : List RawItem) (here : left ≡ x ∷ rest) (t : TBase) (others : Labels)
        (next : item_labels text (length blocks) (length heap) (raw_items (x ∷ rest))
        ≡ (spelled text (item_name (raw_item x)), t) ∷ others) (tells : Tells (length blocks) (length heap) t)
      where
        abbrev name : Name
        name = spelled text (item_name (raw_item x))

        split : all ≡ h.seen ++ (name, t) ∷ others
        split = h.labels ∙ rw (here, next) refl

        -- whether the label stood before, by the item that it names
        named_here : named_by name all ≡ option_or (named_by name h.seen) (Some t)
        named_here = rw (split, named_append name h.seen ((name, t) ∷ others), nat_list_eq_equiv.refl name) refl

        twice : is_among name h.before ≡ stands_before name all t
        twice = h.known name
            ∙ (tells (named_by name h.seen) (h.below name)
            ∙ sym (ap (λ (o : Option TBase). not (is_target t o)) named_here))

        at_item : program_faults text (raw_items xs) ≡
            only_if (is_among name h.before) T04 (item_name (raw_item x))
            ++ (item_faults text all (raw_item x) ++ items_faults text all (name ∷ h.before) (raw_items rest))
        at_item = h.faults ∙ rw here refl

        at_numbered : program_faults text (raw_items xs) ≡ numbered_faults text all t (raw_item x)
            ++ items_faults text all (name ∷ h.before) (raw_items rest)
        at_numbered = at_item ∙ rw twice (sym (append_assoc _ (item_faults text all (raw_item x)) _))

        item_stop : (s : TFault) → StopsAt (numbered_faults text ls t (raw_item x)) s →
            StopsAt (program_faults text (raw_items xs)) s
        item_stop s f =
            rw at_numbered
            (stop_left _ _ s (subst (λ fs. StopsAt fs s) (numbered_same text ls all same t (raw_item x)) f))

        no_faults : numbered_faults text ls t (raw_item x) ≡ [] →
            program_faults text (raw_items xs) ≡ items_faults text all (name ∷ h.before) (raw_items rest)
        no_faults e =
            let none : numbered_faults text all t (raw_item x) ≡ [] =
            sym (numbered_same text ls all same t (raw_item x)) ∙ e in
            at_numbered ∙ rw none refl

        seen_more : all ≡ (h.seen ++ (name, t) ∷ []) ++ others
        seen_more = split ∙ sym (append_assoc h.seen ((name, t) ∷ []) others)

        below_more : (r s : ℕ) → length blocks ≤ r → length heap ≤ s → IsTarget r s (Some t) → (y : Name) →
            IsTarget r s (named_by y (h.seen ++ (name, t) ∷ []))
        below_more r s m n f y =
            rw (named_append y h.seen ((name, t) ∷ []))
            (more_targets (length blocks) (length heap) r s t (bytes_eq y name) (named_by y h.seen) m n f (h.below y))

        known_now : (y : Name) → is_among y (name ∷ h.before) ≡ is_some (named_by y (h.seen ++ (name, t) ∷ []))
        known_now y =
            rw (named_append y h.seen ((name, t) ∷ []), h.known y) (known_more t (bytes_eq y name) (named_by y h.seen))

    module _ (b : RawBlock) (rest : List RawItem) (here : left ≡ It.Block b ∷ rest) where
      pub block_stop : (s : TFault) → StopsAt (block_numbered_faults text ls (length blocks) (raw_block b)) s →
          StopsAt (program_faults text (raw_items xs)) s
      block_stop s f =
          item_stop (It.Block b) rest here (Label (length blocks)) _ refl (block_tells (length blocks) (length heap)) s
          f

      pub block_next : (made : Block) (more : List Block) →
          (block_numbered_faults text ls (length blocks) (raw_block b) ≡ [])
          × (spanned made ≡ block_of text ls (raw_block b)) → more ≡ blocks ++ made ∷ [] →
          ItemsLeft text xs rest more heap
      block_next made more e m =
          let t = Label (length blocks) in
          let others = item_labels text (suc (length blocks)) (length heap) (raw_items rest) in
          let tells = block_tells (length blocks) (length heap) in
          let n : length more ≡ suc (length blocks) = rw (m, length-append blocks (made ∷ [])) (omega arith) in
          let is : spanned made ≡ block_of text all (raw_block b) = e.1 ∙ block_same text ls all same (raw_block b) in
          record {
            seen = h.seen ++ (spelled text b.name, t) ∷ [];
            before = spelled text b.name ∷ h.before;
            labels = rw n (seen_more (It.Block b) rest here t others refl tells);
            below = below_more (It.Block b) rest here t others refl tells (length more) (length heap)
                (omega (arith, n)) (omega arith) (omega (arith, n));
            known = known_now (It.Block b) rest here t others refl tells;
            faults = no_faults (It.Block b) rest here t others refl tells e.0;
            blocks_are =
                h.blocks_are
                ∙ rw (
                  here,
                  m,
                  blocks_append blocks (made ∷ []),
                  append_assoc (spanned_blocks blocks) (spanned made ∷ [])
                      (map (block_of text all) (blocks_in (raw_items rest))),
                  is,
                ) refl;
            heap_is = h.heap_is ∙ rw here refl;
          }

    module _ (d : RawData) (rest : List RawItem) (here : left ≡ It.Data d ∷ rest) where
      pub data_stop : (s : TFault) → StopsAt (data_numbered_faults text ls (length heap) (raw_data d)) s →
          StopsAt (program_faults text (raw_items xs)) s
      data_stop s f =
          item_stop (It.Data d) rest here (Data (length heap)) _ refl (data_tells (length blocks) (length heap)) s f

      pub data_next : (made : heap_of.Data) (more : List heap_of.Data) →
          (data_numbered_faults text ls (length heap) (raw_data d) ≡ [])
          × (spanned_data made ≡ data_of text ls (raw_data d)) → more ≡ heap ++ made ∷ [] →
          ItemsLeft text xs rest blocks more
      data_next made more e m =
          let t = Data (length heap) in
          let others = item_labels text (length blocks) (suc (length heap)) (raw_items rest) in
          let tells = data_tells (length blocks) (length heap) in
          let n : length more ≡ suc (length heap) = rw (m, length-append heap (made ∷ [])) (omega arith) in
          let is : spanned_data made ≡ data_of text all (raw_data d) = e.1 ∙ data_same text ls all same (raw_data d) in
          record {
            seen = h.seen ++ (spelled text d.name, t) ∷ [];
            before = spelled text d.name ∷ h.before;
            labels = rw n (seen_more (It.Data d) rest here t others refl tells);
            below = below_more (It.Data d) rest here t others refl tells (length blocks) (length more) (omega arith)
                (omega (arith, n)) (omega (arith, n));
            known = known_now (It.Data d) rest here t others refl tells;
            faults = no_faults (It.Data d) rest here t others refl tells e.0;
            blocks_are = h.blocks_are ∙ rw here refl;
            heap_is = h.heap_is
                ∙ rw (
                  here,
                  m,
                  heap_append heap (made ∷ []),
                  append_assoc (spanned_heap heap) (spanned_data made ∷ [])
                      (map (data_of text all) (data_in (raw_items rest))),
                  is,
                ) refl;
          }

  pub items_whole : (blocks : List Block) (heap : List heap_of.Data) (left : List RawItem) → left ≡ [] →
      ItemsLeft text xs left blocks heap →
      (program_faults text (raw_items xs) ≡ []) × (spanned_parts blocks heap ≡ program_of text (raw_items xs))
  items_whole blocks heap left n h =
      let e : (program_of text (raw_items xs)).blocks ≡ spanned_blocks blocks =
      h.blocks_are ∙ (rw n (append-nil (spanned_blocks blocks))) in
      let f : (program_of text (raw_items xs)).heap ≡ spanned_heap heap =
      h.heap_is ∙ (rw n (append-nil (spanned_heap heap))) in
      (h.faults ∙ rw n refl, rw (← e, ← f) refl)
