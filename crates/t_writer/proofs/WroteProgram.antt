-- Programs that are written stand for themselves.
use Rattle.std.proofs.Common.{◌≡◌, ◌≤◌, ◌^◌, ℕ, ◌+◌, List, [], ◌∷◌, ◌++◌, length, map, codes, true, refl, sym, ap, ap₂}
use Rattle.std.proofs.Common.{◌∙◌, arith, subst, zero-add}
use Rattle.std.proofs.lemmas.List.{append-nil}
use Rattle.idx_core.specs.Names.{Name}
use Rattle.t_terms.specs.Tree.{Label, TBlock, TData, TProg}
use Rattle.t_terms.specs.Spanned.{plain_blocks, plain_heap, plain_program}
use Rattle.t_text.specs.Raw.{RawBlock, RawData, RawItem, blocks_in, data_in, block_items}
use Rattle.t_text.specs.Grammar.{bs_one, its_none, HasBlock, Program, p_blocks, p_items}
use Rattle.t_text.specs.Names.{block_of, data_of, Labels, labels_of, program_of}
use Rattle.t_text.specs.NameFaults.{items_faults, program_faults}
use Rattle.t_terms.specs.Whole.{WellFormedProgram}
use Rattle.t_text.specs.Text.{StandsFor}
use Rattle.t_text.proofs.ItemLaws.{blocks_in-append, data_in-append, blocks_alone, no_data_alone}
use Rattle.t_terms.specs.Values.{BlocksValues, HeapValues}
use Rattle.t_terms.specs.Whole.{ValueFits}
use Rattle.t_writer.specs.Lexeme.{Lexeme, Reserved, Digit, render}
use Rattle.t_writer.specs.Written.{block_written, blocks_written, heap_written, program_written, second_written}
use Rattle.t_writer.proofs.Placed as placing
use Rattle.t_writer.proofs.Placed.{size, placed, placed_append, cut_placed, stops, Fine, fine_append, Written}
use Rattle.t_writer.proofs.Placed.{written_append, written_at}
use Rattle.t_writer.proofs.Scopes.{data_from, data_before}
use Rattle.t_writer.proofs.WroteCode.{labels}
use Rattle.t_writer.proofs.WroteBlocks.{wrote_block, more_blocks}
use Rattle.t_writer.proofs.WroteData.{wrote_heap}

-- what is in blocks after other items
blocks_after : (xs : List RawItem) (bs : List RawBlock) → blocks_in xs ≡ [] → blocks_in (xs ++ block_items bs) ≡ bs
blocks_after xs bs e = blocks_in-append xs (block_items bs)
    ∙ (ap (λ (cs : List RawBlock). cs ++ blocks_in (block_items bs)) e ∙ blocks_alone bs)

data_then : (xs : List RawItem) (bs : List RawBlock) → data_in (xs ++ block_items bs) ≡ data_in xs
data_then xs bs = data_in-append xs (block_items bs)
    ∙ (ap (λ (ys : List RawData). data_in xs ++ ys) (no_data_alone bs) ∙ append-nil (data_in xs))

-- the program of items whose labels, blocks and data are known
program_is : (text : List ℕ) (raw : List RawItem) (names : Labels) (bs : List RawBlock) (xs : List RawData)
    (P : TProg) → labels_of text raw ≡ names → blocks_in raw ≡ bs → data_in raw ≡ xs →
    plain_blocks (map (block_of text names) bs) ≡ P.blocks → plain_heap (map (data_of text names) xs) ≡ P.heap →
    plain_program (program_of text raw) ≡ P
program_is text raw names bs xs P e g h blocks heap =
    ap₂ (λ (us : List TBlock) (vs : List TData). record { blocks = us; heap = vs })
    (subst (λ (ns : Labels). plain_blocks (map (block_of text ns) (blocks_in raw)) ≡ P.blocks) (sym e)
    (subst (λ (cs : List RawBlock). plain_blocks (map (block_of text names) cs) ≡ P.blocks) (sym g) blocks))
    (subst (λ (ns : Labels). plain_heap (map (data_of text ns) (data_in raw)) ≡ P.heap) (sym e)
    (subst (λ (ys : List RawData). plain_heap (map (data_of text names) ys) ≡ P.heap) (sym h) heap))

-- the text stands for the program, where its lexemes do
stands : (text : List ℕ) (ls : List Lexeme) (raw : List RawItem) (P : TProg) → text ≡ render ls → Fine ls true →
    Program (placed 0 ls) raw → program_faults text raw ≡ [] → plain_program (program_of text raw) ≡ P →
    StandsFor text P
stands text ls raw P e fine shape named means = (
  program_of text raw,
  record {
    tokens = placed 0 ls;
    cut = rw e (cut_placed 0 ls fine);
    raw = raw;
    shape = shape;
    named = named;
    is = refl;
  },
  means,
)

-- what is written is in the text from its start on
whole_written : (text : List ℕ) (ls : List Lexeme) → text ≡ render ls → Written text 0 ls
whole_written text ls e = written_at text 0 ls [] (e ∙ sym (append-nil (render ls)))

-- a program of blocks alone
abbrev pub only_blocks : List TBlock → TProg
only_blocks bs = record { blocks = bs; heap = [] }

-- a text in the first version
module _ (text : List ℕ) (b : TBlock) (bs : List TBlock) (few : length (b ∷ bs) ≤ 2 ^ 64)
    (h : WellFormedProgram (only_blocks (b ∷ bs))) (f : BlocksValues ValueFits (b ∷ bs))
    (e : text ≡ render (program_written (b ∷ bs))) where
  stands_for : StandsFor text (only_blocks (b ∷ bs))
  stands_for =
      let n = length (b ∷ bs) in
      let none : 0 ≤ 2 ^ 64 = omega arith in
      let names = labels text n 0 few none in
      let rest = blocks_written 1 bs in
      let v =
      written_append text 6 (block_written 0 b) rest (whole_written text (program_written (b ∷ bs)) e).1.1.1.1 in
      let a = wrote_block text n 0 few none 0 6 b (omega arith) h.1.0 f.0 v.0 in
      let r = more_blocks text n 0 few none 1 (6 + size (block_written 0 b)) bs (omega arith) h.1.1 f.1 v.1 in
      let raw = a.raw ∷ r.raw in
      let spell : labels_of text (block_items raw) ≡ names =
      ap₂ (λ (x : Name) (xs : Labels). (x, Label 0) ∷ xs) a.name (r.spell 0) in
      let fine : Fine (program_written (b ∷ bs)) true = (
        (refl, tt),
        refl,
        (
          refl,
          tt,
          (
            omega arith,
            refl,
            (refl, tt, fine_append (block_written 0 b) rest true (a.fine (stops rest true)) (r.fine true)),
          ),
        ),
      ) in
      let shape : Program (placed 0 (program_written (b ∷ bs))) (block_items raw) =
      rw (placed_append 6 (block_written 0 b) rest)
      (p_blocks (placing.place_of 0 (Reserved (codes "tal"))) (placing.place_of 4 (Digit 1))
      (r.extend _ (a.raw ∷ []) (bs_one a.whole))) in
      let named : program_faults text (block_items raw) ≡ [] =
      subst (λ (ns : Labels). items_faults text ns [] (block_items raw) ≡ []) (sym spell)
      (rw (a.none, a.name) r.none) in
      stands text (program_written (b ∷ bs)) (block_items raw) (only_blocks (b ∷ bs)) e fine shape named
      (program_is text (block_items raw) names raw [] (only_blocks (b ∷ bs)) spell (blocks_alone raw)
      (no_data_alone raw) (ap₂ (λ (c : TBlock) (cs : List TBlock). c ∷ cs) a.means r.means) refl)

pub first_stands : (text : List ℕ) (bs : List TBlock) → length bs ≤ 2 ^ 64 → WellFormedProgram (only_blocks bs) →
    BlocksValues ValueFits bs →
    text ≡ render (program_written bs) → StandsFor text (only_blocks bs)
first_stands text [] few h f e = absurd (omega (arith, h.0))
first_stands text (b ∷ bs) few h f e = stands_for text b bs few h f e

-- a text in the second version
pub second_stands : (text : List ℕ) (P : TProg) → length P.blocks ≤ 2 ^ 64 → length P.heap ≤ 2 ^ 64 →
    WellFormedProgram P →
    BlocksValues ValueFits P.blocks → HeapValues ValueFits P.heap → text ≡ render (second_written P) → StandsFor text P
second_stands text P few small h f g e =
    let p = length P.blocks in
    let q = length P.heap in
    let names = labels text p q few small in
    let first = heap_written 0 P.heap in
    let rest = blocks_written 0 P.blocks in
    let v = written_append text 6 first rest (whole_written text (second_written P) e).1.1.1.1 in
    let x = wrote_heap text p q few small 0 6 P.heap (omega arith) h.2 g v.0 in
    let r = more_blocks text p q few small 0 (6 + size first) P.blocks (omega arith) h.1 f v.1 in
    let raw = x.raw ++ block_items r.raw in
    let spell : labels_of text raw ≡ names =
    x.spell (block_items r.raw) ∙ ap (λ (ns : Labels). data_from 0 q ++ ns) (r.spell (0 + q)) in
    let fine : Fine (second_written P) true = (
      (refl, tt),
      refl,
      (
        refl,
        tt,
        (
          omega arith,
          refl,
          (refl, tt, fine_append first rest true (x.fine (stops rest true)) (r.fine true)),
        ),
      ),
    ) in
    let blocks : blocks_in raw ≡ r.raw = blocks_after x.raw r.raw x.no_blocks in
    let some : HasBlock raw =
    subst (λ (cs : List RawBlock). 1 ≤ length cs) (sym blocks) (omega (arith, r.count, h.0)) in
    let shape : Program (placed 0 (second_written P)) raw = rw (placed_append 6 first rest)
    (p_items (placing.place_of 0 (Reserved (codes "tal"))) (placing.place_of 4 (Digit 2))
    (r.items _ _ (x.extend [] [] its_none)) some) in
    let named : program_faults text raw ≡ [] =
    subst (λ (ns : Labels). items_faults text ns [] raw ≡ []) (sym spell)
    (x.none (block_items r.raw)
    ∙ (ap (λ n. items_faults text names (data_before n) (block_items r.raw)) (zero-add q) ∙ r.none)) in
    stands text (second_written P) raw P e fine shape named
    (program_is text raw names r.raw (data_in x.raw) P spell blocks (data_then x.raw r.raw) r.means x.means)
