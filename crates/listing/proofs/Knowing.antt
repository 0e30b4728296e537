-- What is known before the place where a program is cut is known in the whole program.
use Rattle.std.proofs.Common.{◌≡◌, ◌≤◌, ℕ, zero, suc, List, [], ◌∷◌, ◌++◌, length, Some, slice_get, refl, sym, subst}
use Rattle.std.proofs.Common.{Bool, true, false, if◌then◌else◌, arith}
use Rattle.idx_core.specs.declared.span.Span.{Span}
use Rattle.t_types.specs.Fits.{RegTypes, lookup}
use Rattle.t_terms.specs.Tree.{TInstr, TEnd, Halt, TSeq, Then, Ends, TBlock, TProg, names_after}
use Rattle.t_terms.specs.Spanned.{SBlock, seq_of, plain, plain_blocks, plain_program}
use Rattle.t_rules.specs.Known.{KnownFrom}
use Rattle.listing.specs.Before.{is_at, in_block, steps_to, IsBefore}
use Rattle.listing.specs.Cut.{way_out, cut_block, way_outs, cut_blocks, cut}
use Rattle.listing.specs.CutLaws.{KnownBefore}
use Rattle.listing.proofs.Moving.{Labels, Tuples, instr_moved, labels_alike, alike_cut, alike_back}

module _ (Q P : TProg) (labels : Labels Q P) (tuples : Tuples Q P) where
  -- along the same instructions
  known_along : (k n : ℕ) (g : RegTypes) (c : TSeq) (m : ℕ) (h : RegTypes) → KnownFrom Q n g c k m h →
      KnownFrom P n g c k m h
  known_along zero n g c m h x = x
  known_along (suc k) n g (Then i rest) m h x =
      (x.0, instr_moved Q P labels tuples n g i x.0 x.1, known_along k (names_after i n) x.0 rest m h x.2)
  known_along (suc k) n g (Ends e) m h x = x

  module _ (place : Span) where
    -- along those before the place, whatever follows
    known_to : (xs : List (TInstr × Span)) (ys : List (TInstr × Span)) (e f : TEnd) (k n : ℕ) (g : RegTypes) (m : ℕ)
        (h : RegTypes) → k ≤ length (steps_to place xs) →
        KnownFrom Q n g (seq_of (steps_to place xs ++ ys) e) k m h → KnownFrom P n g (seq_of xs f) k m h
    known_to xs ys e f zero n g m h le x = x
    known_to [] ys e f (suc k) n g m h le x = absurd (omega (arith, le))
    known_to (z ∷ zs) ys e f (suc k) n g m h le x =
        go (is_at place z.1) le x (λ (g2 : RegTypes). known_to zs ys e f k (names_after z.0 n) g2 m h)
      where
        go : (b : Bool) → suc k ≤ length (if b then [] else z ∷ steps_to place zs) →
            KnownFrom Q n g (seq_of ((if b then [] else z ∷ steps_to place zs) ++ ys) e) (suc k) m h →
            ((g2 : RegTypes) → k ≤ length (steps_to place zs) →
            KnownFrom Q (names_after z.0 n) g2 (seq_of (steps_to place zs ++ ys) e) k m h →
            KnownFrom P (names_after z.0 n) g2 (seq_of zs f) k m h) →
            KnownFrom P n g (seq_of (z ∷ zs) f) (suc k) m h
        go true l y r = absurd (omega (arith, l))
        go false l y r = (y.0, instr_moved Q P labels tuples n g z.0 y.0 y.1, r y.0 (omega (arith, l)) y.2)

    -- in the block with this number among the blocks that are left
    abbrev Found : List SBlock → (b i n : ℕ) → RegTypes → Type 0
    Found bs b i n g =
        (x : TBlock) × (slice_get (plain_blocks bs) b ≡ Some x) × KnownFrom P x.owes (lookup x.file) x.code i n g

    abbrev FoundCut : List SBlock → (b i n : ℕ) → RegTypes → Type 0
    FoundCut bs b i n g =
        (x : TBlock) × (slice_get (plain_blocks bs) b ≡ Some x) × KnownFrom Q x.owes (lookup x.file) x.code i n g

    abbrev CutBy : SBlock → List SBlock → Bool → List SBlock
    CutBy x xs b = if b then cut_block place (steps_to place x.body) x ∷ way_outs place xs else x ∷ cut_blocks place xs

    first : (x : SBlock) (xs : List SBlock) (y : SBlock) (ys : List SBlock) (i n : ℕ) (g : RegTypes) →
        ((z : TBlock) → plain y ≡ z → KnownFrom Q z.owes (lookup z.file) z.code i n g →
        KnownFrom P x.owes (lookup x.file) (plain x).code i n g) → FoundCut (y ∷ ys) zero i n g →
        Found (x ∷ xs) zero i n g
    first x xs y ys i n g f h = let e : plain y ≡ h.0 = let z = h.1 in cc in (plain x, refl, f h.0 e h.2)

    found : (bs : List SBlock) (b i n : ℕ) (g : RegTypes) → IsBefore place bs b i → FoundCut (cut_blocks place bs) b i n
        g →
        Found bs b i n g
    found [] b i n g before h = absurd before
    found (x ∷ xs) zero i n g before h = go (in_block place x) refl h
      where
        go : (b : Bool) → in_block place x ≡ b → FoundCut (CutBy x xs b) zero i n g → Found (x ∷ xs) zero i n g
        go true e k =
            first x xs (cut_block place (steps_to place x.body) x) (way_outs place xs) i n g
            (λ z same r. known_to x.body (way_out place) Halt x.last i x.owes (lookup x.file) n g (before e)
            (subst (λ (y : TBlock). KnownFrom Q y.owes (lookup y.file) y.code i n g) (sym same) r)) k
        go false e k =
            first x xs x (cut_blocks place xs) i n g
            (λ z same r. known_along i x.owes (lookup x.file) (plain x).code n g
            (subst (λ (y : TBlock). KnownFrom Q y.owes (lookup y.file) y.code i n g) (sym same) r)) k
    found (x ∷ xs) (suc b) i n g before h =
        found xs b i n g before.1 (subst (λ (c : Bool). FoundCut (CutBy x xs c) (suc b) i n g) before.0 h)

pub known_before : KnownBefore
known_before P place b i n g before h =
    let labels = labels_alike (cut place P) P (alike_back P.blocks (cut_blocks place P.blocks)
    (alike_cut place P.blocks)) in
    found (plain_program (cut place P)) (plain_program P) labels (λ d x e. e) place P.blocks b i n g before h
