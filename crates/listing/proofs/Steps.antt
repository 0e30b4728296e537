-- Rows that are put behind one another.
use Rattle.std.proofs.Common.{◌≡◌, ◌∙◌, ◌<◌, ◌≤◌, ℕ, zero, suc, ◌+◌, List, [], ◌∷◌, ◌++◌, drop, get_or, length, refl}
use Rattle.std.proofs.Common.{sym, ap, ◌==◌, Bool, true, false, Option, Some, slice_get, option_and_then, subst, arith}
use Rattle.std.proofs.Common.{append_assoc, add-one, drop-cons}
use Rattle.std.proofs.lemmas.List.{append-nil}
use Rattle.std.proofs.Math.ListN.{drop_of_length-le}
use Rattle.idx_core.specs.declared.span.Span.{Span}
use Rattle.idx_core.specs.Separator.{separator}
use Rattle.t_types.specs.declared.types.TType.{TType}
use Rattle.t_types.specs.Read.{file, tree}
use Rattle.t_terms.specs.declared.block.Block.{Block}
use Rattle.t_terms.specs.declared.instr.Instr.{Instr}
use Rattle.t_terms.specs.Tree.{TInstr, TEnd, TSeq, TBlock, TProg}
use Rattle.t_terms.specs.Spanned.{SBlock, plain, seq_of}
use Rattle.t_terms.specs.Read.{body, instr, spanned, spanned_blocks}
use Rattle.t_terms.specs.ReadProgram.{program}
use Rattle.t_terms.specs.declared.program.TProgram.{TProgram}
use Rattle.t_terms.proofs.Items.{block_at}
use Rattle.t_rules.specs.Known.{seq_from}
use Rattle.listing.specs.Listing.{label_end, line_end, register_text, registers_text, set_by, text_row}
use Rattle.listing.specs.Listing.{AreBlocks, AreSteps, IsBegun, IsBlock, IsFileRow, IsLastRow, IsSetRow}
use Rattle.listing.specs.Writing.{Adds, HasPlaces}

-- ---- registers

seam : (a b c d : List ℕ) → ((a ++ b) ++ c) ++ d ≡ a ++ (b ++ (c ++ d))
seam a b c d = simp append_assoc

seams : (a b c d e : List ℕ) → (((a ++ b) ++ c) ++ d) ++ e ≡ a ++ (b ++ (c ++ (d ++ e)))
seams a b c d e = simp append_assoc

pub one_more : (n i : ℕ) (t0 t1 t2 whole : List ℕ) (xs : List (ℕ × TType)) (x : ℕ × TType) → x ≡ get_or xs i x →
    i < length xs → t0 ++ registers_text n i (file (drop i xs)) ≡ whole → t1 ≡ t0 ++ separator i →
    t2 ≡ t1 ++ register_text n x.0 (tree x.1) → t2 ++ registers_text n (i + 1) (file (drop (i + 1) xs)) ≡ whole
one_more n i t0 t1 t2 whole xs x is lt h e f =
    let d : drop i xs ≡ x ∷ drop (suc i) xs =
    drop-cons xs i x lt ∙ ap (λ (y : ℕ × TType). y ∷ drop (suc i) xs) (sym is) in
    let w : t0 ++ registers_text n i (file (x ∷ drop (suc i) xs)) ≡ whole =
    subst (λ (ys : List (ℕ × TType)). t0 ++ registers_text n i (file ys) ≡ whole) d h in
    let rest = registers_text n (suc i) (file (drop (suc i) xs)) in
    let all : t2 ++ rest ≡ whole =
    ap (λ (t : List ℕ). t ++ rest) (f ∙ ap (λ (t : List ℕ). t ++ register_text n x.0 (tree x.1)) e)
    ∙ seam t0 (separator i) (register_text n x.0 (tree x.1)) rest ∙ w in
    subst (λ k. t2 ++ registers_text n k (file (drop k xs)) ≡ whole) (sym (add-one i)) all

pub no_more : (n i : ℕ) (t whole : List ℕ) (xs : List (ℕ × TType)) → length xs ≤ i →
    t ++ registers_text n i (file (drop i xs)) ≡ whole → t ≡ whole
no_more n i t whole xs le h =
    sym (append-nil t)
    ∙ subst (λ (ys : List (ℕ × TType)). t ++ registers_text n i (file ys) ≡ whole) (drop_of_length-le xs le) h

-- ---- places

abbrev pub Steps : Type 0
Steps = List (Instr × Span)

inside : (xs : Steps) (last : TEnd) (i : ℕ) → i ≤ length xs → (c : TSeq) × (seq_from i (seq_of (body xs) last) ≡ Some c)
inside xs last zero le = (seq_of (body xs) last, refl)
inside [] last (suc i) le = absurd (omega (arith, le))
inside (x ∷ xs) last (suc i) le = inside xs last i (omega (arith, le))

-- each place of a block is there
pub has_places : (P : TProg) (b : ℕ) (x : Block) → slice_get P.blocks b ≡ Some (plain (spanned x)) →
    HasPlaces P b (length x.body.items)
has_places P b x there i le =
    let c = inside x.body.items (spanned x).last i le in
    (c.0, ap (option_and_then (λ (y : TBlock). seq_from i y.code)) there ∙ c.1)

count_is : (xs : Steps) → length (body xs) ≡ length xs
count_is [] = refl
count_is (x ∷ xs) = ap suc (count_is xs)

-- what is known before the end, where instructions stand before it
pub last_row : (P : TProg) (b : ℕ) (xs : Steps) (old new : List ℕ) (none : Bool) → none ≡ (length xs == 0) →
    none ≡ false → Adds (IsFileRow P b (length xs)) old new → Adds (IsLastRow P b (body xs)) old new
last_row P b [] old new none is some row = let e : true ≡ false = sym is ∙ some in cc
last_row P b (x ∷ xs) old new none is some row =
    (row.0, subst (λ k. IsFileRow P b (suc k) row.0) (sym (count_is xs)) row.1, row.2)

-- ---- instructions

-- rows of instructions put behind `old`, of which those of `left` are still to come, the first with the number i
abbrev pub StepsLeft : List ℕ → TProg → ℕ → List ℕ → Steps → ℕ → List ℕ → Type 0
StepsLeft text P b old steps i new =
    (rest : List ℕ) → AreSteps text P b i (body (drop i steps)) rest →
    Adds (AreSteps text P b 0 (body steps)) old (new ++ rest)

pub steps_first : (text : List ℕ) (P : TProg) (b : ℕ) (old : List ℕ) (steps : Steps) →
    StepsLeft text P b old steps 0 old
steps_first text P b old steps = λ rest rows. (rest, rows, refl)

steps_next : (text : List ℕ) (P : TProg) (b : ℕ) (old new mid end : List ℕ) (steps : Steps) (i : ℕ)
    (x : Instr × Span) → x ≡ get_or steps i x → i < length steps → StepsLeft text P b old steps i new →
    mid ≡ new ++ text_row text x.1 line_end → Adds (IsSetRow P b (i + 1) (set_by (instr x.0))) mid end →
    StepsLeft text P b old steps (i + 1) end
steps_next text P b old new mid end steps i x is lt left e row rest rows =
    let d : drop i steps ≡ x ∷ drop (suc i) steps =
    drop-cons steps i x lt ∙ ap (λ (y : Instr × Span). y ∷ drop (suc i) steps) (sym is) in
    let set = subst (λ k. IsSetRow P b k (set_by (instr x.0)) row.0) (add-one i) row.1 in
    let later = subst (λ k. AreSteps text P b k (body (drop k steps)) rest) (add-one i) rows in
    let all : AreSteps text P b i (body (drop i steps)) (text_row text x.1 line_end ++ (row.0 ++ rest)) =
    subst (λ (ys : Steps). AreSteps text P b i (body ys) (text_row text x.1 line_end ++ (row.0 ++ rest))) (sym d)
    (row.0, rest, set, later, refl) in
    let same : new ++ (text_row text x.1 line_end ++ (row.0 ++ rest)) ≡ end ++ rest =
    rw (row.2, e) (simp append_assoc) in
    subst (Adds (AreSteps text P b 0 (body steps)) old) same
    (left (text_row text x.1 line_end ++ (row.0 ++ rest)) all)

-- the same, where the lister has moved on in the same text and program
pub steps_moved : (text text' : List ℕ) (P P' : TProg) (b : ℕ) (old new mid end : List ℕ) (steps : Steps) (i : ℕ)
    (x : Instr × Span) (o : Option ℕ) → x ≡ get_or steps i x → i < length steps → StepsLeft text P b old steps i new →
    text' ≡ text → P' ≡ P → o ≡ set_by (instr x.0) → mid ≡ new ++ text_row text' x.1 line_end →
    Adds (IsSetRow P' b (i + 1) o) mid end → StepsLeft text P b old steps (i + 1) end
steps_moved text text' P P' b old new mid end steps i x o is lt left one same sets e row =
    steps_next text P b old new mid end steps i x is lt left
    (e ∙ ap (λ (t : List ℕ). new ++ text_row t x.1 line_end) one)
    (subst (λ (s : Option ℕ). Adds (IsSetRow P b (i + 1) s) mid end) sets
    (subst (λ (Q : TProg). Adds (IsSetRow Q b (i + 1) o) mid end) same row))

pub steps_last : (text : List ℕ) (P : TProg) (b : ℕ) (old new : List ℕ) (steps : Steps) (i : ℕ) → length steps ≤ i →
    StepsLeft text P b old steps i new → Adds (AreSteps text P b 0 (body steps)) old new
steps_last text P b old new steps i le left =
    let none : AreSteps text P b i (body (drop i steps)) [] =
    subst (λ (ys : Steps). AreSteps text P b i (body ys) []) (sym (drop_of_length-le steps le)) refl in
    subst (Adds (AreSteps text P b 0 (body steps)) old) (append-nil new) (left [] none)

-- each place of a block up to a number is there, by the name that a walk has for its program
pub has_places_in : (P P' : TProg) (b : ℕ) (x : Block) (count : ℕ) → P' ≡ P →
    slice_get P.blocks b ≡ Some (plain (spanned x)) → count ≤ length x.body.items → HasPlaces P' b count
has_places_in P P' b x count same there few =
    subst (λ (Q : TProg). HasPlaces Q b count) (sym same) (λ i le. has_places P b x there i (omega (arith, le, few)))

-- rows of another name for the same program, or text
pub as_known : (P P' : TProg) (b i : ℕ) (old new : List ℕ) → P' ≡ P → Adds (IsFileRow P' b i) old new →
    Adds (IsFileRow P b i) old new
as_known P P' b i old new same row = subst (λ (Q : TProg). Adds (IsFileRow Q b i) old new) same row

pub as_steps : (text text' : List ℕ) (P P' : TProg) (b : ℕ) (xs : Steps) (old new : List ℕ) → text' ≡ text →
    P' ≡ P → Adds (AreSteps text' P' b 0 (body xs)) old new → Adds (AreSteps text P b 0 (body xs)) old new
as_steps text text' P P' b xs old new one same rows =
    subst (λ (Q : TProg). Adds (AreSteps text Q b 0 (body xs)) old new) same
    (subst (λ (t : List ℕ). Adds (AreSteps t P' b 0 (body xs)) old new) one rows)

pub as_last : (P P' : TProg) (b : ℕ) (xs : Steps) (old new : List ℕ) → P' ≡ P →
    Adds (IsLastRow P' b (body xs)) old new → Adds (IsLastRow P b (body xs)) old new
as_last P P' b xs old new same row = subst (λ (Q : TProg). Adds (IsLastRow Q b (body xs)) old new) same row

-- of another name for the same instructions
pub as_begun : (text : List ℕ) (P : TProg) (b : ℕ) (x : SBlock) (xs ys : Steps) (old new : List ℕ) → xs ≡ ys →
    Adds (IsBegun text P b x (body xs)) old new → Adds (IsBegun text P b x (body ys)) old new
as_begun text P b x xs ys old new same rows =
    subst (λ (zs : Steps). Adds (IsBegun text P b x (body zs)) old new) same rows

pub as_text : (text text' : List ℕ) (place : Span) (behind old new : List ℕ) → text' ≡ text →
    new ≡ old ++ text_row text' place behind → new ≡ old ++ text_row text place behind
as_text text text' place behind old new one e = e ∙ ap (λ (t : List ℕ). old ++ text_row t place behind) one

-- the parts of a block up to a place, put behind one another
pub begun_parts : (text : List ℕ) (P : TProg) (b : ℕ) (x : SBlock) (before : List (TInstr × Span))
    (t0 t1 t2 t3 t4 : List ℕ) → t1 ≡ t0 ++ text_row text x.name label_end → Adds (IsFileRow P b 0) t1 t2 →
    Adds (AreSteps text P b 0 before) t2 t3 → Adds (IsLastRow P b before) t3 t4 →
    Adds (IsBegun text P b x before) t0 t4
begun_parts text P b x before t0 t1 t2 t3 t4 name first steps last =
    let label = text_row text x.name label_end in
    let same : t4 ≡ t0 ++ (label ++ (first.0 ++ (steps.0 ++ last.0))) =
    last.2 ∙ ap (λ (t : List ℕ). t ++ last.0)
    (steps.2 ∙ ap (λ (t : List ℕ). t ++ steps.0) (first.2 ∙ ap (λ (t : List ℕ). t ++ first.0) name))
    ∙ seams t0 label first.0 steps.0 last.0 in (
      label ++ (first.0 ++ (steps.0 ++ last.0)),
      record {
        first = first.0;
        steps = steps.0;
        last = last.0;
        starts = first.1;
        goes_on = steps.1;
        ends = last.1;
        is = refl;
      },
      same,
    )

-- a block, and its end behind the rest of it
pub block_parts : (text : List ℕ) (P : TProg) (b : ℕ) (x : SBlock) (t0 t1 t2 : List ℕ) →
    Adds (IsBegun text P b x x.body) t0 t1 → t2 ≡ t1 ++ text_row text x.last_span line_end →
    Adds (IsBlock text P b x) t0 t2
block_parts text P b x t0 t1 t2 begun end =
    let ending = text_row text x.last_span line_end in (
      begun.0 ++ ending,
      record { before = begun.0; begun = begun.1; is = refl },
      end ∙ ap (λ (t : List ℕ). t ++ ending) begun.2 ∙ append_assoc t0 begun.0 ending,
    )

-- ---- blocks

abbrev pub BlocksLeft : List ℕ → TProg → List Block → ℕ → List ℕ → Type 0
BlocksLeft text P blocks i page =
    (rest : List ℕ) → AreBlocks text P i (spanned_blocks (drop i blocks)) rest →
    AreBlocks text P 0 (spanned_blocks blocks) (page ++ rest)

blocks_next : (text : List ℕ) (P : TProg) (blocks : List Block) (i : ℕ) (page end : List ℕ) (x : Block) →
    x ≡ get_or blocks i x → i < length blocks → BlocksLeft text P blocks i page →
    Adds (IsBlock text P i (spanned x)) page end → BlocksLeft text P blocks (i + 1) end
blocks_next text P blocks i page end x is lt left row rest rows =
    let d : drop i blocks ≡ x ∷ drop (suc i) blocks =
    drop-cons blocks i x lt ∙ ap (λ (y : Block). y ∷ drop (suc i) blocks) (sym is) in
    let later = subst (λ k. AreBlocks text P k (spanned_blocks (drop k blocks)) rest) (add-one i) rows in
    let all : AreBlocks text P i (spanned_blocks (drop i blocks)) (row.0 ++ rest) =
    subst (λ (ys : List Block). AreBlocks text P i (spanned_blocks ys) (row.0 ++ rest)) (sym d)
    (row.0, rest, row.1, later, refl) in
    let same : page ++ (row.0 ++ rest) ≡ end ++ rest = rw row.2 (simp append_assoc) in
    subst (AreBlocks text P 0 (spanned_blocks blocks)) same (left (row.0 ++ rest) all)

-- the same, where the lister has moved on in the same text and program, and goes over the blocks by another name
pub blocks_moved : (text text' : List ℕ) (P P' : TProg) (blocks items : List Block) (i : ℕ) (page end : List ℕ)
    (x : Block) → items ≡ blocks → x ≡ get_or items i x → i < length items → BlocksLeft text P blocks i page →
    text' ≡ text → P' ≡ P → Adds (IsBlock text' P' i (spanned x)) page end → BlocksLeft text P blocks (i + 1) end
blocks_moved text text' P P' blocks items i page end x are is lt left one same row =
    blocks_next text P blocks i page end x (subst (λ (ys : List Block). x ≡ get_or ys i x) are is)
    (subst (λ (ys : List Block). i < length ys) are lt) left
    (subst (λ (Q : TProg). Adds (IsBlock text Q i (spanned x)) page end) same
    (subst (λ (t : List ℕ). Adds (IsBlock t P' i (spanned x)) page end) one row))

-- a block of a program
pub block_there : (p : TProgram) (P' : TProg) (items : List Block) (i : ℕ) (x : Block) → P' ≡ program p →
    items ≡ p.blocks.items → x ≡ get_or items i x → i < length items →
    slice_get P'.blocks i ≡ Some (plain (spanned x))
block_there p P' items i x same are is lt =
    ap (λ (Q : TProg). slice_get Q.blocks i) same
    ∙ block_at p.blocks.items i x (subst (λ (ys : List Block). i < length ys) are lt)
    (subst (λ (ys : List Block). x ≡ get_or ys i x) are is)

pub blocks_last : (text : List ℕ) (P : TProg) (blocks items : List Block) (i : ℕ) (page : List ℕ) → items ≡ blocks →
    length items ≤ i → BlocksLeft text P blocks i page → AreBlocks text P 0 (spanned_blocks blocks) page
blocks_last text P blocks items i page are few left =
    let le : length blocks ≤ i = subst (λ (ys : List Block). length ys ≤ i) are few in
    let none : AreBlocks text P i (spanned_blocks (drop i blocks)) [] =
    subst (λ (ys : List Block). AreBlocks text P i (spanned_blocks ys) []) (sym (drop_of_length-le blocks le)) refl in
    subst (AreBlocks text P 0 (spanned_blocks blocks)) (append-nil page) (left [] none)
