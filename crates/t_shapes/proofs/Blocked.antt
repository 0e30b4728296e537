-- Instructions and blocks in turn.
use Rattle.std.proofs.Common.{◌≡◌, ℕ, List, [], ◌∷◌, ◌++◌, slice_get, map, refl, ◌∙◌, ap, Option, Some, None, true}
use Rattle.std.proofs.Common.{false}
use Rattle.std.specs.Prelude.{is_some}
use Rattle.std.proofs.lemmas.List.{map-append}
use Rattle.idx_core.specs.declared.span.Span.{Span}
use Rattle.text_core.specs.Table.{Tm, Nt, Do}
use Rattle.text_core.specs.Going.{Lacks, at_the_end, other}
use Rattle.text_core.proofs.Going as step
use Rattle.t_text.specs.declared.token.Token.{Token}
use Rattle.t_text.specs.declared.wanted.Wanted.TheVariants as want
use Rattle.t_text.specs.Raw as tree
use Rattle.t_text.specs.Raw.{BlockItem, block_items}
use Rattle.t_text.specs.GrammarTable.{table, Stack, Val, LI, LMoreSteps, LBlock, LMoreBlocks, MakeNextBlock}
use Rattle.t_text.specs.GrammarTable.{instr_after, steps_tail, block_owed, blocks_tail}
use Rattle.t_text.specs.Text.{most_open}
use Rattle.t_shapes.specs.Cursor.{Next, Misses}
use Rattle.t_shapes.proofs.Stepping.{Moves, is_next, is_of, as_token, by_none}
use Rattle.t_shapes.specs.Raw.{raw_step, raw_block, raw_item, raw_items}
use Rattle.t_shapes.specs.Reads.{step_next}
use Rattle.t_shapes.specs.declared.raw.RawInstr.{RawInstr}
use Rattle.t_shapes.specs.declared.raw.RawBlock.{RawBlock}
use Rattle.t_shapes.specs.declared.raw.RawItem.{RawItem}
use Rattle.t_shapes.specs.declared.raw.RawItem.TheVariants as It
use Rattle.t_shapes.proofs.Lines.{block_begins, block_follows, no_block}

pub steps_more : (xs ys : List (RawInstr × Span)) (x : RawInstr × Span) → ys ≡ xs ++ x ∷ [] →
    map raw_step ys ≡ map raw_step xs ++ raw_step x ∷ []
steps_more xs ys x e = ap (λ (zs : List (RawInstr × Span)). map raw_step zs) e ∙ map-append raw_step xs (x ∷ [])

-- an instruction follows, and none
pub as_instr : {ts : List Token} {i j : ℕ} {owed : Stack} {vs us : List Val} →
    Moves ts 0 i owed vs j (Nt LMoreSteps ∷ []) us → step_next (slice_get ts j) ≡ true →
    Moves ts 0 i owed vs j (Nt LI ∷ steps_tail) us
as_instr {ts} {i} {j} {owed} {vs} {us} h e = by_token (slice_get ts j) refl e
  where
    by_row : (c : Token) → slice_get ts j ≡ Some c → (o : Option Stack) → instr_after c.kind ≡ o → is_some o ≡ true →
        Moves ts 0 i owed vs j (Nt LI ∷ steps_tail) us
    by_row c q None f g = absurd (cc)
    by_row c q (Some r) f g =
        step.then_goes table most_open ts 0 h
        (step.as_goes table most_open ts 0 j LI LMoreSteps steps_tail [] c us q r f (rw f refl))

    by_token : (o : Option Token) → slice_get ts j ≡ o → step_next o ≡ true →
        Moves ts 0 i owed vs j (Nt LI ∷ steps_tail) us
    by_token None q g = absurd (cc)
    by_token (Some c) q g = by_row c q (instr_after c.kind) refl g

pub no_instr : {ts : List Token} {i j : ℕ} {owed : Stack} {vs us : List Val} →
    Moves ts 0 i owed vs j (Nt LMoreSteps ∷ []) us → step_next (slice_get ts j) ≡ false → Moves ts 0 i owed vs j [] us
no_instr {ts} {i} {j} {owed} {vs} {us} h e = by_none LMoreSteps [] us h refl (by_token (slice_get ts j) refl e)
  where
    by_row : (c : Token) → slice_get ts j ≡ Some c → (o : Option Stack) → instr_after c.kind ≡ o → is_some o ≡ false →
        Lacks table ts j LMoreSteps
    by_row c q None f g = other c q (rw f refl)
    by_row c q (Some r) f g = absurd (cc)

    by_token : (o : Option Token) → slice_get ts j ≡ o → step_next o ≡ false → Lacks table ts j LMoreSteps
    by_token None q g = at_the_end q
    by_token (Some c) q g = by_row c q (instr_after c.kind) refl g

pub block_goes : (ts : List Token) (i : ℕ) → Moves ts 0 i (Nt LBlock ∷ []) [] i (Tm want.Name ∷ block_owed) []
block_goes ts i = as_token ts 0 i LBlock want.Name block_owed refl (λ c q. block_begins c.kind)

-- a block follows, and none
pub as_block : {ts : List Token} {i j : ℕ} {owed : Stack} {vs us : List Val} {c : Token} →
    Moves ts 0 i owed vs j (Nt LMoreBlocks ∷ []) us → Next ts j want.Name c →
    Moves ts 0 i owed vs j (Nt LBlock ∷ (Do MakeNextBlock ∷ (Nt LMoreBlocks ∷ []))) us
as_block {ts} {i} {j} {owed} {vs} {us} {c} h e =
    let f = block_follows c.kind (is_of ts j want.Name c e) in
    step.then_goes table most_open ts 0 h
    (step.as_goes table most_open ts 0 j LBlock LMoreBlocks blocks_tail [] c us (is_next ts j want.Name c e)
    block_owed f.0 f.1)

pub no_more_blocks : {ts : List Token} {i j : ℕ} {owed : Stack} {vs us : List Val} →
    Moves ts 0 i owed vs j (Nt LMoreBlocks ∷ []) us → Misses ts j want.Name → Moves ts 0 i owed vs j [] us
no_more_blocks {ts} {i} {j} {owed} {vs} {us} h e =
    by_none LMoreBlocks [] us h refl (step.lacks_all table ts j want.Name LMoreBlocks (λ c q. no_block c.kind q) e)

-- the blocks as items
pub items_append : (bs : List tree.RawBlock) (b : tree.RawBlock) →
    block_items (bs ++ b ∷ []) ≡ block_items bs ++ BlockItem b ∷ []
items_append [] b = refl
items_append (x ∷ bs) b = ap (λ (xs : List tree.RawItem). BlockItem x ∷ xs) (items_append bs b)

pub blocks_more : (xs ys : List RawItem) (b : RawBlock) (bs : List tree.RawBlock) → ys ≡ xs ++ It.Block b ∷ [] →
    block_items bs ≡ raw_items xs → block_items (bs ++ raw_block b ∷ []) ≡ raw_items ys
blocks_more xs ys b bs e q = rw (items_append bs (raw_block b), q, e, map-append raw_item xs (It.Block b ∷ [])) refl
