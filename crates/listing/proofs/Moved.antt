-- Rows up to a place: of the blocks of a program one after the other, and of a program that is cut there, which are
-- those
-- of the whole program.
use Rattle.std.proofs.Common.{◌≡◌, ◌∙◌, ◌<◌, ◌≤◌, ℕ, zero, suc, ◌+◌, List, [], ◌∷◌, ◌++◌, drop, get_or, length, refl}
use Rattle.std.proofs.Common.{sym, ap, Bool, true, false, ◌||◌, Option, Some, None, subst, arith, if◌then◌else◌}
use Rattle.std.proofs.Common.{append_assoc, add-one, drop-cons, take}
use Rattle.std.specs.Bool.{MatchBool}
use Rattle.std.proofs.lemmas.List.{append-nil}
use Rattle.std.proofs.Math.ListN.{drop_of_length-le}
use Rattle.std.proofs.lemmas.Bool.{or_right}
use Rattle.idx_core.specs.declared.span.Span.{Span}
use Rattle.t_types.specs.Fits.{RegTypes, lookup}
use Rattle.t_terms.specs.declared.block.Block.{Block}
use Rattle.t_terms.specs.declared.instr.Instr.{Instr}
use Rattle.t_terms.specs.Tree.{TInstr, TProg}
use Rattle.t_terms.specs.Spanned.{SBlock, SProg, plain_program}
use Rattle.t_terms.specs.Read.{body, instr, spanned, spanned_blocks}
use Rattle.t_rules.specs.Known.{KnownAt}
use Rattle.listing.specs.Before.{is_at, in_body, in_block, steps_to, is_before_blocks, IsBefore}
use Rattle.listing.specs.Cut.{way_out, cut_block, way_outs, cut_blocks, cut}
use Rattle.listing.specs.CutLaws.{KnownBefore}
use Rattle.listing.specs.Steps.{IsCount}
use Rattle.listing.proofs.Places.{at_itself}
use Rattle.listing.specs.Listing.{IsFileRow, IsSetRow, AreSteps, IsLastRow, IsBegun, IsBlock, set_by, text_row}
use Rattle.listing.specs.Listing.{label_end}
use Rattle.listing.specs.Begun.{AreBlocksTo, IsListingTo}
use Rattle.listing.specs.Writing.{Adds, IsBlockTo}

-- ---- the blocks of a program, one after the other

abbrev pub BlocksLeftTo : List ℕ → TProg → Span → List Block → ℕ → List ℕ → Type 0
BlocksLeftTo text P place blocks i page =
    (rest : List ℕ) → AreBlocksTo text P place i (spanned_blocks (drop i blocks)) rest →
    AreBlocksTo text P place 0 (spanned_blocks blocks) (page ++ rest)

-- the rows of block b and of those behind it up to the place, by whether it has the place
abbrev RowsBy : List ℕ → TProg → Span → ℕ → SBlock → List SBlock → List ℕ → Bool → Type 0
RowsBy text P place b x xs rows met =
    MatchBool met (IsBegun text P b x (steps_to place x.body) rows)
    ((block rest : List ℕ) × IsBlock text P b x block × AreBlocksTo text P place (suc b) xs rest
    × (rows ≡ block ++ rest))

module _ (text : List ℕ) (P : TProg) (place : Span) (blocks : List Block) where
  split_at : (i : ℕ) (x : Block) → x ≡ get_or blocks i x → i < length blocks → drop i blocks ≡ x ∷ drop (suc i) blocks
  split_at i x is lt = drop-cons blocks i x lt ∙ ap (λ (y : Block). y ∷ drop (suc i) blocks) (sym is)

  -- a block without the place
  pub next_to : (i : ℕ) (page end : List ℕ) (x : Block) → x ≡ get_or blocks i x → i < length blocks →
      BlocksLeftTo text P place blocks i page → Adds (IsBlockTo text P place i (spanned x) false) page end →
      BlocksLeftTo text P place blocks (i + 1) end
  next_to i page end x is lt left row rest rows =
      let later = subst (λ k. AreBlocksTo text P place k (spanned_blocks (drop k blocks)) rest) (add-one i) rows in
      let here : AreBlocksTo text P place i (spanned_blocks (x ∷ drop (suc i) blocks)) (row.0 ++ rest) =
      subst (RowsBy text P place i (spanned x) (spanned_blocks (drop (suc i) blocks)) (row.0 ++ rest)) (sym row.1.0)
      (row.0, rest, row.1.1, later, refl) in
      let all : AreBlocksTo text P place i (spanned_blocks (drop i blocks)) (row.0 ++ rest) =
      subst (λ (ys : List Block). AreBlocksTo text P place i (spanned_blocks ys) (row.0 ++ rest))
      (sym (split_at i x is lt))
      here in
      let same : page ++ (row.0 ++ rest) ≡ end ++ rest = rw row.2 (simp append_assoc) in
      subst (AreBlocksTo text P place 0 (spanned_blocks blocks)) same (left (row.0 ++ rest) all)

  -- the block with the place
  pub met_to : (i : ℕ) (page end : List ℕ) (x : Block) → x ≡ get_or blocks i x → i < length blocks →
      BlocksLeftTo text P place blocks i page → Adds (IsBlockTo text P place i (spanned x) true) page end →
      AreBlocksTo text P place 0 (spanned_blocks blocks) end
  met_to i page end x is lt left row =
      let here : AreBlocksTo text P place i (spanned_blocks (x ∷ drop (suc i) blocks)) row.0 =
      subst (RowsBy text P place i (spanned x) (spanned_blocks (drop (suc i) blocks)) row.0) (sym row.1.0) row.1.1 in
      let all : AreBlocksTo text P place i (spanned_blocks (drop i blocks)) row.0 =
      subst (λ (ys : List Block). AreBlocksTo text P place i (spanned_blocks ys) row.0) (sym (split_at i x is lt)) here
      in
      subst (AreBlocksTo text P place 0 (spanned_blocks blocks)) (sym row.2) (left row.0 all)

  pub last_to : (i : ℕ) (page : List ℕ) → length blocks ≤ i → BlocksLeftTo text P place blocks i page →
      AreBlocksTo text P place 0 (spanned_blocks blocks) page
  last_to i page le left =
      let none : AreBlocksTo text P place i (spanned_blocks (drop i blocks)) [] =
      subst (λ (ys : List Block). AreBlocksTo text P place i (spanned_blocks ys) []) (sym (drop_of_length-le blocks le))
      refl in
      subst (AreBlocksTo text P place 0 (spanned_blocks blocks)) (append-nil page) (left [] none)

-- the same, where the lister has moved on in the same text and program, and goes over the blocks by another name
module _ (text text' : List ℕ) (P P' : TProg) (place : Span) (blocks items : List Block) (are : items ≡ blocks) where
  at_item : (i : ℕ) (x : Block) → x ≡ get_or items i x → x ≡ get_or blocks i x
  at_item i x is = subst (λ (ys : List Block). x ≡ get_or ys i x) are is

  here : (i : ℕ) (page end : List ℕ) (x : Block) (met m : Bool) → text' ≡ text → P' ≡ P → met ≡ m →
      Adds (IsBlockTo text' P' place i (spanned x) met) page end →
      Adds (IsBlockTo text P place i (spanned x) m) page end
  here i page end x met m one same is row =
      subst (λ (b : Bool). Adds (IsBlockTo text P place i (spanned x) b) page end) is
      (subst (λ (Q : TProg). Adds (IsBlockTo text Q place i (spanned x) met) page end) same
      (subst (λ (t : List ℕ). Adds (IsBlockTo t P' place i (spanned x) met) page end) one row))

  pub next_in : (i : ℕ) (page end : List ℕ) (x : Block) (met : Bool) → x ≡ get_or items i x → i < length items →
      BlocksLeftTo text P place blocks i page → text' ≡ text → P' ≡ P → met ≡ false →
      Adds (IsBlockTo text' P' place i (spanned x) met) page end → BlocksLeftTo text P place blocks (i + 1) end
  next_in i page end x met is lt left one same behind row =
      next_to text P place blocks i page end x (at_item i x is) (subst (λ (ys : List Block). i < length ys) are lt) left
      (here i page end x met false one same behind row)

  pub met_in : (i : ℕ) (page end : List ℕ) (x : Block) (met : Bool) → x ≡ get_or items i x → i < length items →
      BlocksLeftTo text P place blocks i page → text' ≡ text → P' ≡ P → met ≡ true →
      Adds (IsBlockTo text' P' place i (spanned x) met) page end →
      AreBlocksTo text P place 0 (spanned_blocks blocks) end
  met_in i page end x met is lt left one same there row =
      met_to text P place blocks i page end x (at_item i x is) (subst (λ (ys : List Block). i < length ys) are lt) left
      (here i page end x met true one same there row)

  pub last_in : (i : ℕ) (page : List ℕ) → length items ≤ i → BlocksLeftTo text P place blocks i page →
      AreBlocksTo text P place 0 (spanned_blocks blocks) page
  last_in i page le left =
      last_to text P place blocks i page (subst (λ (ys : List Block). length ys ≤ i) are le) left

-- ---- a block

body_take : (n : ℕ) (xs : List (Instr × Span)) → body (take n xs) ≡ take n (body xs)
body_take zero xs = refl
body_take (suc n) [] = refl
body_take (suc n) (x ∷ xs) = ap (λ (ys : List (TInstr × Span)). (instr x.0, x.1) ∷ ys) (body_take n xs)

take_short : (n : ℕ) (xs : List (Instr × Span)) → length (take n xs) ≤ length xs
take_short zero xs = omega arith
take_short (suc n) [] = omega arith
take_short (suc n) (x ∷ xs) = let le = take_short n xs in omega (arith, le)

-- a first part of its instructions is no longer than all
pub part_short : (n : ℕ) (part steps all : List (Instr × Span)) → part ≡ take n steps → steps ≡ all →
    length part ≤ length all
part_short n part steps all is same =
    subst (λ (xs : List (Instr × Span)). length xs ≤ length all) (sym (is ∙ ap (take n) same)) (take_short n all)

-- up to the place in it
pub begun_to : (text : List ℕ) (P : TProg) (place : Span) (b : ℕ) (x : Block) (n : ℕ)
    (part steps : List (Instr × Span)) (old new : List ℕ) → IsCount place (spanned x) (Some n) →
    part ≡ take n steps → steps ≡ x.body.items → Adds (IsBegun text P b (spanned x) (body part)) old new →
    Adds (IsBlockTo text P place b (spanned x) true) old new
begun_to text P place b x n part steps old new count is same rows =
    let before : body part ≡ steps_to place (body x.body.items) =
    ap body (is ∙ ap (take n) same) ∙ body_take n x.body.items ∙ sym count.2 in (
      rows.0,
      (count.0, subst (λ (ys : List (TInstr × Span)). IsBegun text P b (spanned x) ys rows.0) before rows.1),
      rows.2,
    )

-- without it
pub block_to : (text : List ℕ) (P : TProg) (place : Span) (b : ℕ) (x : Block) (old new : List ℕ) →
    IsCount place (spanned x) None → Adds (IsBlock text P b (spanned x)) old new →
    Adds (IsBlockTo text P place b (spanned x) false) old new
block_to text P place b x old new behind rows = (rows.0, (behind, rows.1), rows.2)

-- ---- of a program that is cut

-- the first ones, or none
abbrev or_none : Bool → List (TInstr × Span) → List (TInstr × Span)
or_none none xs = if none then [] else xs

module _ (place : Span) where
  out_in : (xs : List (TInstr × Span)) → in_body place (xs ++ way_out place) ≡ true
  out_in [] = ap (λ (b : Bool). b || false) (at_itself place place refl)
  out_in (x ∷ xs) = or_right (is_at place x.1) (in_body place (xs ++ way_out place)) (out_in xs)

  at_once : steps_to place (way_out place) ≡ []
  at_once = ap (λ (b : Bool). or_none b (way_out place)) (at_itself place place refl)

  out_to : (xs : List (TInstr × Span)) → steps_to place (steps_to place xs ++ way_out place) ≡ steps_to place xs
  out_to [] = at_once
  out_to (x ∷ xs) = go (is_at place x.1) refl (out_to xs)
    where
      go : (b : Bool) → is_at place x.1 ≡ b → steps_to place (steps_to place xs ++ way_out place) ≡ steps_to place xs →
          steps_to place (or_none b (x ∷ steps_to place xs) ++ way_out place) ≡ or_none b (x ∷ steps_to place xs)
      go true e h = at_once
      go false e h =
          ap (λ (b : Bool). or_none b (x ∷ steps_to place (steps_to place xs ++ way_out place))) e
          ∙ ap (λ (ys : List (TInstr × Span)). x ∷ ys) h

module _ (text : List ℕ) (Q P : TProg) where
  -- in block b up to instruction k what is known in Q is known in P
  module _ (b k : ℕ) (known : (i n : ℕ) (g : RegTypes) → i ≤ k → KnownAt Q b i n g → KnownAt P b i n g) where
    file_moved : (i : ℕ) (row : List ℕ) → i ≤ k → IsFileRow Q b i row → IsFileRow P b i row
    file_moved i row le h =
        record {
          names = h.names;
          file = h.file;
          known = record {
            known = known i h.names (lookup h.file) le h.known.known;
            rises = h.known.rises;
            scope = h.known.scope;
          };
          is = h.is;
        }

    set_moved : (i : ℕ) (o : Option ℕ) (row : List ℕ) → i ≤ k → IsSetRow Q b i o row → IsSetRow P b i o row
    set_moved i None row le h = h
    set_moved i (Some r) row le h =
        record { names = h.names; types = h.types; known = known i h.names h.types le h.known; is = h.is }

    steps_moved : (i : ℕ) (xs : List (TInstr × Span)) (rows : List ℕ) → i + length xs ≤ k →
        AreSteps text Q b i xs rows → AreSteps text P b i xs rows
    steps_moved i [] rows le h = h
    steps_moved i (x ∷ xs) rows le h = (
      h.0,
      h.1,
      set_moved (suc i) (set_by x.0) h.0 (omega (arith, le)) h.2,
      steps_moved (suc i) xs h.1 (omega (arith, le)) h.3,
      h.4,
    )

    last_moved : (xs : List (TInstr × Span)) (row : List ℕ) → length xs ≤ k → IsLastRow Q b xs row →
        IsLastRow P b xs row
    last_moved [] row le h = h
    last_moved (x ∷ xs) row le h = file_moved (suc (length xs)) row (omega (arith, le)) h

    -- of blocks with labels at the same place
    begun_moved : (x y : SBlock) (xs : List (TInstr × Span)) (rows : List ℕ) → y.name ≡ x.name → length xs ≤ k →
        IsBegun text Q b y xs rows → IsBegun text P b x xs rows
    begun_moved x y xs rows same le h =
        record {
          first = h.first;
          steps = h.steps;
          last = h.last;
          starts = file_moved 0 h.first (omega arith) h.starts;
          goes_on = steps_moved 0 xs h.steps (omega (arith, le)) h.goes_on;
          ends = last_moved xs h.last le h.ends;
          is = subst (λ (s : Span). rows ≡ text_row text s label_end ++ (h.first ++ (h.steps ++ h.last))) same h.is;
        }

    block_moved : (x : SBlock) (rows : List ℕ) → length x.body ≤ k → IsBlock text Q b x rows → IsBlock text P b x rows
    block_moved x rows le h =
        record { before = h.before; begun = begun_moved x x x.body h.before refl le h.begun; is = h.is }

  module _ (place : Span) where
    -- a block that is cut at the place
    abbrev begun : SBlock → SBlock
    begun x = cut_block place (steps_to place x.body) x

    abbrev Known : ℕ → List SBlock → Type 0
    Known b bs = (j i n : ℕ) (g : RegTypes) → IsBefore place bs j i → KnownAt Q (b + j) i n g → KnownAt P (b + j) i n g

    at_first : (b i n : ℕ) (g : RegTypes) → (KnownAt Q (b + 0) i n g → KnownAt P (b + 0) i n g) →
        KnownAt Q b i n g → KnownAt P b i n g
    at_first b i n g = subst (λ c. KnownAt Q c i n g → KnownAt P c i n g) (let e : b + 0 ≡ b = omega arith in e)

    later : (b : ℕ) (x : SBlock) (xs : List SBlock) → in_block place x ≡ false → Known b (x ∷ xs) → Known (suc b) xs
    later b x xs e known j i n g before =
        subst (λ c. KnownAt Q c i n g → KnownAt P c i n g) (let s : b + suc j ≡ suc b + j = omega arith in s)
        (known (suc j) i n g (e, before))

    blocks_moved : (b : ℕ) (bs : List SBlock) (rows : List ℕ) → Known b bs →
        AreBlocksTo text Q place b (cut_blocks place bs) rows → AreBlocksTo text P place b bs rows
    blocks_moved b [] rows known h = h
    blocks_moved b (x ∷ xs) rows known h =
        go (in_block place x) refl h (λ e rest. blocks_moved (suc b) xs rest (later b x xs e known))
      where
        go : (c : Bool) → in_block place x ≡ c →
            AreBlocksTo text Q place b (if c then begun x ∷ way_outs place xs else x ∷ cut_blocks place xs) rows →
            (in_block place x ≡ false → (rest : List ℕ) →
            AreBlocksTo text Q place (suc b) (cut_blocks place xs) rest → AreBlocksTo text P place (suc b) xs rest) →
            RowsBy text P place b x xs rows c
        go true e r more =
            let met : IsBegun text Q b (begun x) (steps_to place (steps_to place x.body ++ way_out place)) rows =
            subst (RowsBy text Q place b (begun x) (way_outs place xs) rows)
            (ap (λ (m : Bool). m || is_at place x.last_span) (out_in place (steps_to place x.body))) r in
            begun_moved b (length (steps_to place x.body))
            (λ i n g le. at_first b i n g (known 0 i n g (λ t. le))) x (begun x) (steps_to place x.body) rows refl
            (omega arith)
            (subst (λ (ys : List (TInstr × Span)). IsBegun text Q b (begun x) ys rows) (out_to place x.body) met)
        go false e r more =
            let parts : (block rest : List ℕ) × IsBlock text Q b x block
            × AreBlocksTo text Q place (suc b) (cut_blocks place xs) rest × (rows ≡ block ++ rest) =
            subst (RowsBy text Q place b x (cut_blocks place xs) rows) e r in (
              parts.0,
              parts.1,
              block_moved b (length x.body)
                  (λ i n g le. at_first b i n g (known 0 i n g (λ t. absurd (let q : true ≡ false = sym t ∙ e in
                  cc)))) x
                  parts.0 (omega arith) parts.2,
              more e parts.1 parts.3,
              parts.4,
            )

-- the listing of the whole program up to the place
abbrev ListingBy : List ℕ → SProg → Span → List ℕ → Bool → Type 0
ListingBy text P place rows before =
    MatchBool before (rows ≡ []) (AreBlocksTo text (plain_program P) place 0 P.blocks rows)

pub whole_listing : KnownBefore → (text : List ℕ) (P : SProg) (place : Span) (rows : List ℕ) →
    is_before_blocks place P ≡ false →
    AreBlocksTo text (plain_program (cut place P)) place 0 (cut place P).blocks rows → IsListingTo text P place rows
whole_listing law text P place rows behind h =
    subst (ListingBy text P place rows) (sym behind)
    (blocks_moved text (plain_program (cut place P)) (plain_program P) place 0 P.blocks rows
    (λ j i n g before. subst (λ c. KnownAt (plain_program (cut place P)) c i n g → KnownAt (plain_program P) c i n g)
    (let e : j ≡ 0 + j = omega arith in e) (law P place j i n g before)) h)

pub no_listing : (text : List ℕ) (P : SProg) (place : Span) → is_before_blocks place P ≡ true →
    IsListingTo text P place []
no_listing text P place before = subst (ListingBy text P place []) (sym before) refl
