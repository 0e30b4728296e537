-- Items in turn, read one at a time.
use Rattle.std.proofs.Common.{◌≡◌, ℕ, ◌≤◌, List, [], ◌∷◌, ◌++◌, length, slice_get, refl, ◌∙◌, ap, Option, Some, None}
use Rattle.std.proofs.Common.{Bool, true, false, not, ◌||◌, arith}
use Rattle.std.specs.Prelude.{is_some}
use Rattle.std.proofs.lemmas.Option.{slice_get_within}
use Rattle.text_core.specs.Table.{Nt, Do}
use Rattle.text_core.specs.Going.{next_of}
use Rattle.text_core.proofs.Going as step
use Rattle.t_text.specs.declared.token.Token.{Token}
use Rattle.t_text.specs.declared.wanted.Wanted.{Wanted}
use Rattle.t_text.specs.declared.wanted.Wanted.TheVariants as want
use Rattle.t_text.specs.Raw as tree
use Rattle.t_text.specs.Raw.{BlockItem}
use Rattle.t_text.specs.GrammarTable.{table, Stack, LHeader, LMoreBlocks, LSomeItems, MakeFirstBlock, MakeNextBlock}
use Rattle.t_text.specs.GrammarTable.{MakeNoItems, MakeNextItem, MakeHeaded, MakeProgram, header_after, OfItems}
use Rattle.t_text.specs.GrammarTable.{blocks_owed, items_owed}
use Rattle.t_text.specs.Text.{most_open}
use Rattle.t_shapes.specs.Cursor.{Next, Misses}
use Rattle.t_shapes.specs.ReadsTypes.{ReadsOwed}
use Rattle.t_shapes.proofs.Stepping.{Moves, start, begins, by_token, by_call, by_do}
use Rattle.t_shapes.specs.Raw.{raw_block, raw_item, is_block}
use Rattle.t_shapes.specs.declared.whole.Version.{Version}
use Rattle.t_shapes.specs.declared.whole.Version.TheVariants.{Blocks, Items}
use Rattle.t_shapes.specs.Reads.{version_owed, HasReadAs, ReadsItem, ReadsSomeItems, ReadsSomeBlocks, Headed}
use Rattle.t_shapes.specs.Reads.{HasBlocks, AreProgram, some_owed, all_blocks}
use Rattle.t_shapes.specs.declared.blocks.FoundBlock.{FoundBlock}
use Rattle.t_shapes.specs.declared.items.FoundItem.{FoundItem}
use Rattle.t_text.specs.GrammarTable as g
use Rattle.t_shapes.proofs.Blocked.{as_block, no_more_blocks, items_append}
use Rattle.t_shapes.proofs.Itemed.{as_item, item_left, no_more, program_goes, all_read}

-- no token is left where all were read
past_end : (ts : List Token) (j : ℕ) (w : Wanted) → length ts ≤ j → Misses ts j w
past_end ts j w l = by_next (slice_get ts j) refl
  where
    by_next : (o : Option Token) → slice_get ts j ≡ o → next_of table w o ≡ None
    by_next None e = refl
    by_next (Some c) e = let h = slice_get_within ts j c e in absurd (omega (arith, h, l))

-- a block more
pub block_turn : (ts : List Token) (j : ℕ) (f : FoundBlock) (c : Token) → Next ts j want.Name c →
    ReadsOwed (Nt g.LBlock ∷ []) ts 0 j f.next (g.OfBlock (raw_block f.block) ∷ []) →
    (b : Bool) (xs : List tree.RawItem) → HasBlocks ts b j xs →
    ReadsSomeBlocks ts 2 f.next (xs ++ BlockItem (raw_block f.block) ∷ [])
block_turn ts j f c e r false xs h = rw (h.1) (record {
  blocks = raw_block f.block ∷ [];
  are = refl;
  forward = (let q = h.0 in omega (arith, r.forward, q));
  in_range = r.in_range;
  same = by_do MakeFirstBlock (Nt LMoreBlocks ∷ []) _ _ (by_call 0 (Do MakeFirstBlock ∷ (Nt LMoreBlocks ∷ [])) []
      (start ts 0 2 all_blocks) (omega arith) (rw h.0 at r.same)) (λ below. refl);
})
block_turn ts j f c e r true xs h = record {
  blocks = h.blocks ++ raw_block f.block ∷ [];
  are = items_append h.blocks (raw_block f.block) ∙
      ap (λ (ys : List tree.RawItem). ys ++ BlockItem (raw_block f.block) ∷ []) h.are;
  forward = omega (arith, h.forward, r.forward);
  in_range = r.in_range;
  same = by_do MakeNextBlock (Nt LMoreBlocks ∷ []) _ _ (by_call 0 (Do MakeNextBlock ∷ (Nt LMoreBlocks ∷ [])) _
      (as_block h.same e) (omega arith) r.same) (λ below. refl);
}

-- an item more
pub item_turn : (ts : List Token) (j : ℕ) (f : FoundItem) (b : Bool) →
    (not b || is_some (next_of table want.Name (slice_get ts j))) ≡ true → ReadsItem ts j f →
    (xs : List tree.RawItem) → ReadsSomeItems ts 2 j b xs →
    ReadsSomeItems ts 2 f.next (b || is_block (raw_item f.item)) (xs ++ raw_item f.item ∷ [])
item_turn ts j f b e r xs h =
    let m = step.then_goes table most_open ts 0 h.same (as_item ts j b _ e) in
    rw r.kind (record {
      forward = omega (arith, h.forward, r.reads.forward);
      moved = λ q. omega (arith, h.forward, r.reads.forward);
      in_range = r.reads.in_range;
      same = by_do MakeNextItem _ _ _ (by_call 0 (item_left ts j b) _ m (omega arith) r.reads.same) (λ below. refl);
    })

-- none yet
pub no_items : (ts : List Token) (c : Token) → slice_get ts 1 ≡ Some c → ReadsSomeItems ts 2 2 false []
no_items ts c e = record {
  forward = omega arith;
  moved = λ q. absurd (cc);
  in_range = (let l = slice_get_within ts 1 c e in omega (arith, l));
  same = by_do MakeNoItems (Nt LSomeItems ∷ []) [] (OfItems [] ∷ []) (start ts 0 2 some_owed) (λ below. refl);
}

-- all the tokens were read
module _ (ts : List Token) (j : ℕ) (xs : List tree.RawItem) (l : length ts ≤ j) where
  by_header : (owed : Stack) → Headed ts owed → Moves ts 0 1 (Nt LHeader ∷ []) [] j [] (OfItems xs ∷ []) →
      AreProgram ts xs
  by_header owed h m =
      let t = by_token want.Tal h.tal (Nt LHeader ∷ (Do MakeProgram ∷ [])) [] (program_goes ts) h.first (omega arith) in
      all_read ts j xs (by_call 0 (Do MakeProgram ∷ []) _ t (omega arith) m) l

  pub blocks_end : Headed ts blocks_owed → ReadsSomeBlocks ts 2 j xs → AreProgram ts xs
  blocks_end h r =
      let m = no_more_blocks r.same (past_end ts j want.Name l) in
      by_header blocks_owed h (by_do MakeHeaded [] _ _ (by_call 0 (Do MakeHeaded ∷ []) _ (begins ts 0 1 h.number
      LHeader blocks_owed h.second h.heads (omega arith)) (omega arith) m)
      (λ below. ap (λ (ys : List tree.RawItem). OfItems ys ∷ below) r.are))

  pub items_end : Headed ts items_owed → ReadsSomeItems ts 2 j true xs → AreProgram ts xs
  items_end h r =
      let m = no_more r.same (past_end ts j want.Name l) in
      by_header items_owed h (by_do MakeHeaded [] _ _ (by_call 0 (Do MakeHeaded ∷ []) _ (begins ts 0 1 h.number
      LHeader items_owed h.second h.heads (omega arith)) (omega arith) m) (λ below. refl))

-- the header was read
pub begun : (ts : List Token) (v : Version) (t c : Token) → Next ts 0 want.Tal t → slice_get ts 1 ≡ Some c →
    header_after c.kind ≡ version_owed (Some v) → HasReadAs v ts false 2 []
begun ts Blocks t c e q h = (record { tal = t; number = c; first = e; second = q; heads = h }, (refl, refl))
begun ts Items t c e q h = (record { tal = t; number = c; first = e; second = q; heads = h }, no_items ts c q)

pub all_by : (ts : List Token) (v : Version) (j : ℕ) (xs : List tree.RawItem) → length ts ≤ j →
    HasReadAs v ts true j xs → AreProgram ts xs
all_by ts Blocks j xs l h = blocks_end ts j xs l h.0 h.1
all_by ts Items j xs l h = items_end ts j xs l h.0 h.1
