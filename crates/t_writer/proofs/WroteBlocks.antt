-- Blocks that are written stand for themselves.
use Rattle.std.proofs.Common.{◌≡◌, ◌≤◌, ◌<◌, ◌^◌, ℕ, suc, ◌+◌, List, [], ◌∷◌, ◌++◌, length, map, codes, Bool, true}
use Rattle.std.proofs.Common.{refl, sym, ap, ap₂, ◌∙◌, arith, append_assoc, zero-add}
use Rattle.std.proofs.lemmas.List.{append-nil}
use Rattle.idx_core.specs.declared.span.Span.{Span}
use Rattle.idx_core.specs.Names.{Name}
use Rattle.t_types.specs.WellFormed.{max_names}
use Rattle.t_text.specs.declared.token.Token.{Token}
use Rattle.t_terms.specs.Tree.{TSeq, Then, Ends, Label, TBlock}
use Rattle.t_terms.specs.Tree as tree_of
use Rattle.t_terms.specs.Spanned.{seq_of, plain, plain_blocks}
use Rattle.t_text.specs.Raw.{RawInstr, RawEnd, RawBlock, RawItem, BlockItem, block_items}
use Rattle.t_text.specs.Grammar.{Is, is_none, is_more, End, Block, b_block, Blocks, bs_more, it_block, Items, its_more}
use Rattle.t_text.specs.Names.{spelled, bind, scope_after_all, body_of, end_of, block_of, Labels, item_labels}
use Rattle.t_text.specs.NameFaults.{body_faults, end_faults, block_faults, items_faults}
use Rattle.t_terms.specs.Whole.{WellFormedSeq, WellFormedBlock, WellFormedBlocks}
use Rattle.t_terms.specs.Values.{SeqValues, BlocksValues}
use Rattle.t_terms.specs.Whole.{ValueFits}
use Rattle.t_writer.specs.Lexeme.{Reserved, LabelName, Sign, bytes}
use Rattle.t_writer.specs.Lexeme.{colon}
use Rattle.t_writer.specs.Written.{line_end, binds_written, file_written, instr_written, end_written, seq_written}
use Rattle.t_writer.specs.Written.{block_written, blocks_written}
use Rattle.t_writer.proofs.Placed as placing
use Rattle.t_writer.proofs.Placed.{size, placed, placed_append, stops, Fine, fine_append, Written, written_append}
use Rattle.t_writer.proofs.Scopes.{label_name, labels_from, before, not_before, scope}
use Rattle.t_writer.proofs.WroteTypes.{wrote_binds, wrote_file}
use Rattle.t_writer.proofs.WroteCode.{labels, wrote_instr, wrote_end}

-- one item more, and then others
pub items_along : (u x y : List Token) (rs more : List RawItem) (r : RawItem) →
    Items ((u ++ x) ++ y) ((rs ++ r ∷ []) ++ more) → Items (u ++ (x ++ y)) (rs ++ r ∷ more)
items_along u x y rs more r h = simp append_assoc at h

-- one block more, and then others
blocks_along : (u x y : List Token) (rs more : List RawBlock) (r : RawBlock) →
    Blocks ((u ++ x) ++ y) ((rs ++ r ∷ []) ++ more) → Blocks (u ++ (x ++ y)) (rs ++ r ∷ more)
blocks_along u x y rs more r h = simp append_assoc at h

module _ (text : List ℕ) (p q : ℕ) (few : p ≤ 2 ^ 64) (small : q ≤ 2 ^ 64) where
  abbrev names : Labels
  names = labels text p q few small

  -- instructions and an end, each on its line
  record WroteSeq (i d : ℕ) (c : TSeq) : Type 0 where
    body : List (RawInstr × Span)
    last : RawEnd × Span
    code : List Token
    tail : List Token
    at : placed i (seq_written d c) ≡ code ++ tail
    extend : (u : List Token) (is : List (RawInstr × Span)) → Is u is → Is (u ++ code) (is ++ body)
    ends : End tail last
    fine : (b : Bool) → Fine (seq_written d c) b
    means : seq_of (body_of text names (scope d) body) (end_of text names (scope_after_all text body (scope d)) last.0)
        ≡ c
    none : body_faults text names (scope d) body ≡ []
    none_last : end_faults text names (scope_after_all text body (scope d)) last.0 ≡ []

  wrote_seq : (i d : ℕ) (c : TSeq) → d ≤ max_names → WellFormedSeq p q d c → SeqValues ValueFits c →
      Written text i (seq_written d c) → WroteSeq i d c
  wrote_seq i d (Ends e) n h f w =
      let r = wrote_end text p q few small i d e n h f (written_append text i (end_written d e) (line_end ∷ []) w).0 in
      record {
        body = [];
        last = r.raw;
        code = [];
        tail = placed i (end_written d e);
        at = placed_append i (end_written d e) (line_end ∷ []) ∙ append-nil (placed i (end_written d e));
        extend = λ u is x. rw (append-nil, append-nil) x;
        ends = r.whole;
        fine = λ b. fine_append (end_written d e) (line_end ∷ []) b r.fine (refl, tt, tt);
        means = ap Ends r.means;
        none = refl;
        none_last = r.none;
      }
  wrote_seq i d (Then x c) n h f w =
      let d' = tree_of.names_after x d in
      let rest = line_end ∷ seq_written d' c in
      let j = i + size (instr_written d x) in
      let v = written_append text i (instr_written d x) rest w in
      let a = wrote_instr text p q few small i d x n h.0 f.0 v.0 in
      let r = wrote_seq (j + 1) d' c h.1 h.2 f.1 v.1.1 in
      record {
        body = a.raw ∷ r.body;
        last = r.last;
        code = placed i (instr_written d x) ++ r.code;
        tail = r.tail;
        at = placed_append i (instr_written d x) rest
            ∙ (ap (λ (ts : List Token). placed i (instr_written d x) ++ ts) r.at
            ∙ sym (append_assoc (placed i (instr_written d x)) r.code r.tail));
        extend = λ u is y.
            simp append_assoc at (r.extend (u ++ placed i (instr_written d x)) (is ++ a.raw ∷ []) (is_more y a.whole));
        ends = r.ends;
        fine = λ b. fine_append (instr_written d x) rest b a.fine (refl, tt, r.fine b);
        means = rw (a.means, a.after) (ap (Then x) r.means);
        none = rw (a.none, a.after) r.none;
        none_last = rw a.after r.none_last;
      }

  pub record WroteBlock (l i : ℕ) (b : TBlock) : Type 0 where
    pub raw : RawBlock
    pub whole : Block (placed i (block_written l b)) raw
    pub fine : (x : Bool) → Fine (block_written l b) x
    pub means : plain (block_of text names raw) ≡ b
    pub none : block_faults text names raw ≡ []
    pub name : spelled text raw.name ≡ label_name l

  pub wrote_block : (l i : ℕ) (b : TBlock) → l < 2 ^ 64 → WellFormedBlock p q b → SeqValues ValueFits b.code →
      Written text i (block_written l b) → WroteBlock l i b
  wrote_block l i b low h f w =
      let bs = binds_written 0 b.owes in
      let fs = file_written b.owes b.file in
      let code = seq_written b.owes b.code in
      let dot = Sign 46 ∷ (line_end ∷ code) in
      let s = placing.place_of i (LabelName l) in
      let j = i + length (bytes (LabelName l)) + 1 + 1 + 4 in
      let m = j + size bs in
      let n = m + size fs in
      let x = written_append text j bs (fs ++ dot) w.1.1.1.1 in
      let y = written_append text m fs dot x.1 in
      let a = wrote_binds j 0 b.owes (omega (arith, h.0)) in
      let file = wrote_file text m b.owes b.file h.0 h.1 y.0 in
      let c = wrote_seq (n + 1 + 1) b.owes b.code h.0 h.2 f y.1.1.1 in
      let e : bind text a.spans [] ≡ scope b.owes = a.bound text x.0 ∙ ap scope (zero-add b.owes) in
      record {
        raw = record { name = s; names = a.spans; file = file.piece.tree; body = c.body; last = c.last };
        whole = rw (placed_append j bs (fs ++ dot), placed_append m fs dot, c.at)
            (b_block s (placing.place_of (i + length (bytes (LabelName l))) colon)
            (placing.place_of (i + length (bytes (LabelName l)) + 1 + 1) (Reserved (codes "code")))
            (placing.place_of n (Sign 46))
            a.whole file.whole (c.extend [] [] is_none) c.ends);
        fine = λ x. (
          low,
          refl,
          (
            (refl, tt),
            tt,
            (
              refl,
              tt,
              (
                (refl, tt),
                refl,
                fine_append bs (fs ++ dot) x (a.fine true)
                    (fine_append fs dot x (file.fine true) ((refl, tt), tt, (refl, tt, c.fine x))),
              ),
            ),
          ),
        );
        means = rw (a.count, e, file.means, c.means) refl;
        none = rw (e, file.none, c.none, c.none_last) refl;
        name = w.0;
      }

  -- blocks in turn
  pub record MoreBlocks (l i : ℕ) (bs : List TBlock) : Type 0 where
    pub raw : List RawBlock
    pub extend : (u : List Token) (rs : List RawBlock) → Blocks u rs →
        Blocks (u ++ placed i (blocks_written l bs)) (rs ++ raw)
    pub items : (u : List Token) (rs : List RawItem) → Items u rs →
        Items (u ++ placed i (blocks_written l bs)) (rs ++ block_items raw)
    pub fine : (x : Bool) → Fine (blocks_written l bs) x
    pub means : plain_blocks (map (block_of text names) raw) ≡ bs
    pub count : length raw ≡ length bs
    pub spell : (d : ℕ) → item_labels text l d (block_items raw) ≡ labels_from l (length bs)
    pub none : items_faults text names (before q l) (block_items raw) ≡ []

  pub more_blocks : (l i : ℕ) (bs : List TBlock) → l + length bs ≤ 2 ^ 64 → WellFormedBlocks p q bs →
      BlocksValues ValueFits bs →
      Written text i (blocks_written l bs) → MoreBlocks l i bs
  more_blocks l i [] low h f w = record {
    raw = [];
    extend = λ u rs x. rw (append-nil, append-nil) x;
    items = λ u rs x. rw (append-nil, append-nil) x;
    fine = λ x. tt;
    means = refl;
    count = refl;
    spell = λ d. refl;
    none = refl;
  }
  more_blocks l i (b ∷ bs) low h f w =
      let v = written_append text i (block_written l b) (blocks_written (suc l) bs) w in
      let a = wrote_block l i b (omega arith) h.0 f.0 v.0 in
      let r = more_blocks (suc l) (i + size (block_written l b)) bs (omega arith) h.1 f.1 v.1 in
      let here = placed i (block_written l b) in
      let rest = placed (i + size (block_written l b)) (blocks_written (suc l) bs) in
      record {
        raw = a.raw ∷ r.raw;
        extend = λ u rs x. rw (placed_append i (block_written l b) (blocks_written (suc l) bs))
            (blocks_along u here rest rs r.raw a.raw (r.extend _ _ (bs_more x a.whole)));
        items = λ u rs x. rw (placed_append i (block_written l b) (blocks_written (suc l) bs))
            (items_along u here rest rs (block_items r.raw) (BlockItem a.raw)
            (r.items _ _ (its_more x (it_block a.whole))));
        fine = λ x. fine_append (block_written l b) (blocks_written (suc l) bs) x
            (a.fine (stops (blocks_written (suc l) bs) x)) (r.fine x);
        means = ap₂ (λ (c : TBlock) (cs : List TBlock). c ∷ cs) a.means r.means;
        count = ap (λ n. suc n) r.count;
        spell = λ d. ap₂ (λ (x : Name) (xs : Labels). (x, Label l) ∷ xs) a.name (r.spell d);
        none = rw (a.name, not_before q l l (omega arith) (omega arith), a.none) r.none;
      }
