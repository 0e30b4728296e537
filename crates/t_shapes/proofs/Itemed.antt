-- Data tuples, items in turn, what a header heads, and the whole up to the end of the tokens.
use Rattle.std.proofs.Common.{◌≡◌, ℕ, ◌+◌, ◌<◌, ◌≤◌, List, [], ◌∷◌, ◌++◌, length, slice_get, drop, refl, sym, ◌∙◌, ap}
use Rattle.std.proofs.Common.{Option, Some, None, Bool, true, false, not, ◌||◌, arith, Result, Ok, Err}
use Rattle.std.specs.Prelude.{is_some}
use Rattle.std.proofs.lemmas.List.{map-append, length-drop}
use Rattle.std.proofs.Math.ListN.{drop_of_length-le}
use Rattle.idx_core.specs.declared.span.Span.{Span}
use Rattle.text_core.specs.Table.{Tm, Nt, Do, Mark, Fine, bounded, whole, marks}
use Rattle.text_core.specs.Table as table_of
use Rattle.text_core.specs.Going.{verdict, next_of}
use Rattle.text_core.proofs.Going as step
use Rattle.t_text.specs.declared.token.Token.{Token}
use Rattle.t_text.specs.declared.token.Kind.TheVariants as k
use Rattle.t_text.specs.declared.wanted.Wanted.{Wanted}
use Rattle.t_text.specs.declared.wanted.Wanted.TheVariants as want
use Rattle.t_text.specs.Raw as tree
use Rattle.t_text.specs.GrammarTable.{table, Stack, Val, LProgram, LHeader, LTuple, LDatums, LSomeItems, LMoreItems}
use Rattle.t_text.specs.GrammarTable.{LFirst, LItem, MakeTuple, MakeBlock, MakeBlockItem, MakeNextItem, MakeHeaded}
use Rattle.t_text.specs.GrammarTable.{MakeProgram, OfToken, OfEnd, OfSteps, OfFile, OfNames, OfBlock, OfItem, OfItems}
use Rattle.t_text.specs.GrammarTable.{items_tail, blocks_owed, items_owed, header_after}
use Rattle.t_text.specs.Text.{most_open}
use Rattle.t_shapes.specs.declared.cursor.Stopped.{Stopped}
use Rattle.t_shapes.specs.declared.cursor.Stopped.TheVariants.{Memory, Unexpected, TooDeep}
use Rattle.t_shapes.specs.ReadsTypes.{Fails}
use Rattle.t_shapes.specs.Cursor.{Misses}
use Rattle.t_shapes.proofs.Stepping.{Moves, is_next, is_of, begins, as_token, by_none, by_do, by_mark, by_call}
use Rattle.t_shapes.proofs.Stepping.{stop_call}
use Rattle.t_shapes.specs.declared.data.FoundTuple.{FoundTuple}
use Rattle.t_shapes.specs.declared.items.FoundItems.{FoundItems}
use Rattle.t_shapes.specs.declared.raw.RawItem.{RawItem}
use Rattle.t_shapes.specs.Raw.{raw_item, raw_items}
use Rattle.t_shapes.specs.Reads.{AreDatums, IsTuple, AreBlocks, AreItems, IsHeaded, item_owed, items_line, is_code}
use Rattle.t_shapes.specs.Reads.{some_owed, all_blocks, IsStop}
use Rattle.t_shapes.proofs.Lines.{items_begin, item_follows, no_more_items, first_as_item, program_begins}

-- a data tuple by its bracket
module _ (ts : List Token) (i : ℕ) (c : Token) (e : slice_get ts i ≡ Some c) (q : c.kind ≡ k.LeftAngle) where
  bracket : Moves ts 0 i (Nt LTuple ∷ []) [] (i + 1) (Nt LDatums ∷ (Mark ∷ (Do MakeTuple ∷ []))) (OfToken c ∷ [])
  bracket = begins ts 0 i c LTuple (Nt LDatums ∷ (Mark ∷ (Do MakeTuple ∷ []))) e (rw q refl) (omega arith)

  pub bracket_reads : (r : Result FoundTuple Stopped) → AreDatums ts (i + 1) r → IsTuple ts i r
  bracket_reads (Ok f) r = record {
    forward = (let l = r.forward in omega arith);
    in_range = r.in_range;
    same = by_do MakeTuple [] _ _
        (by_mark (Do MakeTuple ∷ []) _ (by_call 1 (Mark ∷ (Do MakeTuple ∷ [])) _ bracket (omega arith) r.same))
        (λ below. refl);
  }
  bracket_reads (Err s) f = stop_call s (Nt LDatums ∷ []) 1 (Mark ∷ (Do MakeTuple ∷ [])) _ bracket (omega arith) f

-- a block that is an item
pub block_item : {ts : List Token} {i j : ℕ} {owed : Stack} {vs : List Val} (e : tree.RawEnd × Span)
    (is : List (tree.RawInstr × Span)) (p : Token) (f : tree.Piece tree.RawRegs) (ns : List Span) (d c l : Token) →
    Moves ts 0 i owed vs j (Do MakeBlock ∷ (Do MakeBlockItem ∷ []))
    (OfEnd e ∷ (OfSteps is
    ∷ (OfToken p ∷ (OfFile f ∷ (OfNames ns ∷ (OfToken d ∷ (OfToken c ∷ (OfToken l ∷ [])))))))) →
    Moves ts 0 i owed vs j []
    (OfItem (tree.BlockItem (record { name = l.span; names = ns; file = f.tree; body = is; last = e })) ∷ [])
block_item e is p f ns d c l h =
    let b : tree.RawBlock = record { name = l.span; names = ns; file = f.tree; body = is; last = e } in
    by_do MakeBlockItem [] (OfBlock b ∷ []) (OfItem (tree.BlockItem b) ∷ [])
    (by_do MakeBlock (Do MakeBlockItem ∷ []) _ (OfBlock b ∷ []) h (λ below. refl)) (λ below. refl)

pub items_more : (xs ys : List RawItem) (x : RawItem) → ys ≡ xs ++ x ∷ [] →
    raw_items ys ≡ raw_items xs ++ raw_item x ∷ []
items_more xs ys x e = ap (λ (zs : List RawItem). raw_items zs) e ∙ map-append raw_item xs (x ∷ [])

-- behind a token that is owed, what is owed may be exchanged for what goes on as it does
under_token : (ts : List Token) (j : ℕ) (w : Wanted) (a b : Stack) (us : List Val) → marks table a ≡ 0 →
    marks table b ≡ 0 →
    ((c : Token) → Moves ts 0 (j + 1) a (OfToken c ∷ us) (j + 1) b (OfToken c ∷ us)) →
    Moves ts 0 j (Tm w ∷ a) us j (Tm w ∷ b) us
under_token ts j w a b us p q h = by_next (next_of table w (slice_get ts j)) refl
  where
    by_next : (o : Option Token) → next_of table w (slice_get ts j) ≡ o → Moves ts 0 j (Tm w ∷ a) us j (Tm w ∷ b) us
    by_next None e = record {
      leads = λ s below r. (step.token_misses table most_open ts 0 j w a us e).leads s below r
          ∙ sym ((step.token_misses table most_open ts 0 j w b us e).leads s below r);
    }
    by_next (Some c) e = record {
      leads = λ s below r. (step.token_taken table most_open ts 0 j c w a us e (omega (arith, p))).leads s below r ∙
          ((h c).leads s below r
          ∙ sym ((step.token_taken table most_open ts 0 j c w b us e (omega (arith, q))).leads s below r));
    }

-- what is owed after an item, where a block stood before or none
abbrev pub item_left : List Token → ℕ → Bool → Stack
item_left ts j b = Do MakeNextItem ∷ (Nt (items_line (b || is_code (slice_get ts (j + 2)))) ∷ [])

-- an item is owed, or follows
pub as_item : (ts : List Token) (j : ℕ) (b : Bool) (us : List Val) →
    (not b || is_some (next_of table want.Name (slice_get ts j))) ≡ true →
    Moves ts 0 j (Nt (items_line b) ∷ []) us j (item_owed ++ item_left ts j b) us
as_item ts j false us e =
    step.then_goes table most_open ts 0 labelled
    (under_token ts j want.Name (Tm want.Colon ∷ (Nt LFirst ∷ [])) (Tm want.Colon ∷ (Nt LItem ∷ item_left ts j false))
    us refl refl after_label)
  where
    labelled : Moves ts 0 j (Nt LSomeItems ∷ []) us j (Tm want.Name ∷ (Tm want.Colon ∷ (Nt LFirst ∷ []))) us
    labelled = step.call_goes table most_open ts 0 [] us (omega arith)
        (as_token ts 0 j LSomeItems want.Name (Tm want.Colon ∷ (Nt LFirst ∷ [])) refl (λ c q. items_begin c.kind))

    place : j + 1 + 1 ≡ j + 2
    place = omega arith

    told : (c d : Token) →
        Moves ts 0 (j + 1 + 1) (Nt LFirst ∷ []) (OfToken d ∷ (OfToken c ∷ us)) (j + 1 + 1)
        (Nt LItem ∷ item_left ts j false) (OfToken d ∷ (OfToken c ∷ us))
    told c d = rw place
        (step.as_any table most_open ts 0 (j + 2) LItem LFirst (item_left ts j false) [] (OfToken d ∷ (OfToken c ∷ us))
        refl refl (λ x q. rw q (first_as_item x.kind)))

    after_label : (c : Token) →
        Moves ts 0 (j + 1) (Tm want.Colon ∷ (Nt LFirst ∷ [])) (OfToken c ∷ us) (j + 1)
        (Tm want.Colon ∷ (Nt LItem ∷ item_left ts j false)) (OfToken c ∷ us)
    after_label c =
        under_token ts (j + 1) want.Colon (Nt LFirst ∷ []) (Nt LItem ∷ item_left ts j false) (OfToken c ∷ us) refl refl
        (told c)
as_item ts j true us e = by_next (next_of table want.Name (slice_get ts j)) refl e
  where
    by_next : (o : Option Token) → next_of table want.Name (slice_get ts j) ≡ o → is_some o ≡ true →
        Moves ts 0 j (Nt LMoreItems ∷ []) us j (item_owed ++ (Do MakeNextItem ∷ (Nt LMoreItems ∷ []))) us
    by_next None q h = absurd (cc)
    by_next (Some c) q h =
        let a = step.line_goes table most_open ts 0 j c LMoreItems (Tm want.Colon ∷ (Nt LItem ∷ items_tail)) [] us
        (is_next ts j want.Name c q) (item_follows c.kind (is_of ts j want.Name c q)) (omega arith) in
        let b = step.token_taken table most_open ts 0 j c want.Name (Tm want.Colon ∷ (Nt LItem ∷ items_tail)) us q
        (omega arith) in
        record { leads = λ s below r. a.leads s below r ∙ sym (b.leads s below r) }

-- no item is owed, and none follows
pub items_done : (ts : List Token) (j : ℕ) (b : Bool) → (not b || is_some (next_of table want.Name (slice_get ts j)))
    ≡ false → (b ≡ true) × Misses ts j want.Name
items_done ts j false e = absurd (cc)
items_done ts j true e = (refl, by_next (next_of table want.Name (slice_get ts j)) e)
  where
    by_next : (o : Option Token) → is_some o ≡ false → o ≡ None
    by_next None h = refl
    by_next (Some c) h = absurd (cc)

pub no_more : {ts : List Token} {i j : ℕ} {owed : Stack} {vs us : List Val} →
    Moves ts 0 i owed vs j (Nt LMoreItems ∷ []) us → Misses ts j want.Name → Moves ts 0 i owed vs j [] us
no_more {ts} {i} {j} {owed} {vs} {us} h e =
    by_none LMoreItems [] us h refl (step.lacks_all table ts j want.Name LMoreItems (λ c q. no_more_items c.kind q) e)

-- what a header's number heads
module _ (ts : List Token) (i : ℕ) (c : Token) (e : slice_get ts i ≡ Some c) where
  pub headed_blocks : (r : Result FoundItems Stopped) → header_after c.kind ≡ Some blocks_owed →
      AreBlocks ts (i + 1) r → IsHeaded ts i r
  headed_blocks (Ok f) a r = record {
    forward = (let l = r.reads.forward in omega arith);
    in_range = r.reads.in_range;
    same = by_do MakeHeaded [] _ _
        (by_call 0 (Do MakeHeaded ∷ []) _ (begins ts 0 i c LHeader blocks_owed e a (omega arith))
        (omega arith) r.reads.same)
        (λ below. ap (λ (xs : List tree.RawItem). OfItems xs ∷ below) r.are);
  }
  headed_blocks (Err s) a f =
      stop_call s all_blocks 0 (Do MakeHeaded ∷ []) _ (begins ts 0 i c LHeader blocks_owed e a (omega arith))
      (omega arith) f

  pub headed_items : (r : Result FoundItems Stopped) → header_after c.kind ≡ Some items_owed → AreItems ts (i + 1) r →
      IsHeaded ts i r
  headed_items (Ok f) a r = record {
    forward = (let l = r.forward in omega arith);
    in_range = r.in_range;
    same = by_do MakeHeaded [] _ _
        (by_call 0 (Do MakeHeaded ∷ []) _ (begins ts 0 i c LHeader items_owed e a (omega arith)) (omega arith) r.same)
        (λ below. refl);
  }
  headed_items (Err s) a f =
      stop_call s some_owed 0 (Do MakeHeaded ∷ []) _ (begins ts 0 i c LHeader items_owed e a (omega arith))
      (omega arith) f

pub program_goes : (ts : List Token) →
    Moves ts 0 0 (Nt LProgram ∷ []) [] 0 (Tm want.Tal ∷ (Nt LHeader ∷ (Do MakeProgram ∷ []))) []
program_goes ts =
    as_token ts 0 0 LProgram want.Tal (Nt LHeader ∷ (Do MakeProgram ∷ [])) refl (λ c q. program_begins c.kind)

-- the end
pub is_stop : (ts : List Token) (e : Stopped) → Fails ts 0 0 (Nt LProgram ∷ []) [] e → IsStop ts e
is_stop ts Memory f = tt
is_stop ts (Unexpected j) f = f.leads [] [] refl
is_stop ts (TooDeep j) f = f.leads [] [] refl

module _ (ts : List Token) (j : ℕ) (xs : List tree.RawItem) {t : Token}
    (h : Moves ts 0 0 (Nt LProgram ∷ []) [] j (Do MakeProgram ∷ []) (OfItems xs ∷ (OfToken t ∷ []))) where
  done : Moves ts 0 0 (Nt LProgram ∷ []) [] j [] (OfItems xs ∷ [])
  done = by_do MakeProgram [] (OfItems xs ∷ (OfToken t ∷ [])) (OfItems xs ∷ []) h (λ below. refl)

  pub more_left : j < length ts → IsStop ts (Unexpected j)
  more_left l = done.leads [] [] refl ∙ rest
    where
      rest : verdict table most_open (drop j ts) [] (OfItems xs ∷ []) ≡ table_of.Unexpected (drop j ts)
      rest = by_rest (drop j ts) (λ e. omega (arith, length-drop j ts, ap length e))
        where
          by_rest : (r : List Token) → (r ≡ [] → ⊥) → verdict table most_open r [] (OfItems xs ∷ [])
              ≡ table_of.Unexpected r
          by_rest [] n = absurd (n refl)
          by_rest (c ∷ z) n = refl

  pub all_read : length ts ≤ j → bounded table most_open ts (whole table ts) ≡ Fine (OfItems xs ∷ [])
  all_read l = let e : drop j ts ≡ [] = drop_of_length-le ts l in done.leads [] [] refl ∙ rw e refl
