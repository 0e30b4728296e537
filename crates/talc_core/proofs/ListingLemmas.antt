-- The listing of a text, or up to its first fault: it is one at most.
use Rattle.std.proofs.Common.{◌≡◌, ◌∙◌, ℕ, suc, List, [], ◌∷◌, ◌++◌, length, Option, Some, None, sym, ap, ap₂, subst}
use Rattle.std.proofs.Common.{Bool, true, false, inl, inr}
use Rattle.std.specs.Bool.{MatchBool}
use Rattle.idx_core.specs.declared.span.Span.{Span}
use Rattle.t_types.specs.Tree.{TFile}
use Rattle.t_types.specs.Fits.{RegTypes, lookup}
use Rattle.t_terms.specs.Tree.{TInstr, TProg}
use Rattle.t_terms.specs.Spanned.{SBlock, SProg, plain_program}
use Rattle.t_rules.specs.LawsSound.{OneKnown}
use Rattle.listing.specs.Listing.{file_row, register_row, set_by, text_row, label_end, line_end}
use Rattle.listing.specs.Listing.{IsFileRow, IsSetRow, AreSteps, IsLastRow, IsBegun, IsBlock, AreBlocks}
use Rattle.listing.specs.Listing.{IsListing}
use Rattle.listing.specs.Before.{is_before_blocks, in_block, steps_to}
use Rattle.listing.specs.Begun.{AreBlocksTo, IsListingTo}
use Rattle.talc_core.specs.declared.fault.Fault.{Fault}
use Rattle.talc_core.specs.declared.fault.Fault.TheVariants.{Source, Tal}
use Rattle.talc_core.specs.FirstFault.{AnAssembly, FirstFault}
use Rattle.talc_core.specs.AtOdds.{AtOdds}
use Rattle.talc_core.specs.Explained.{explained}
use Rattle.talc_core.specs.Listed.{RowsTo, FaultListed, OneListing, OneFaultListed}
use Rattle.talc_core.specs.Steps.{IsFaultPage}
use Rattle.talc_core.specs.TextLaws.{TextLaws, MismatchLaws}
use Rattle.talc_core.proofs.ExplainLemmas.{one_told}
use Rattle.talc_core.proofs.FaultLemmas.{one_fault, same_program}
use Rattle.talc_core.proofs.LineLemmas.{file_one}

module _ (known : OneKnown) (text : List ℕ) (P : TProg) where
  one_file : (b i : ℕ) (v w : List ℕ) → IsFileRow P b i v → IsFileRow P b i w → v ≡ w
  one_file b i v w x y =
      let both = known P b i x.names y.names (lookup x.file) (lookup y.file) x.known.known y.known.known in
      let file : x.file ≡ y.file =
      file_one x.file y.file 0 x.known.rises y.known.rises (λ q. ap (λ (g : RegTypes). g q) both.1) in
      x.is ∙ ap₂ (λ (n : ℕ) (f : TFile). file_row b i n f) both.0 file ∙ sym y.is

  one_set : (b i : ℕ) (o : Option ℕ) (v w : List ℕ) → IsSetRow P b i o v → IsSetRow P b i o w → v ≡ w
  one_set b i None v w x y = x ∙ sym y
  one_set b i (Some r) v w x y =
      let both = known P b i x.names y.names x.types y.types x.known y.known in
      x.is ∙ ap₂ (λ (n : ℕ) (g : RegTypes). register_row n r (g r)) both.0 both.1 ∙ sym y.is

  one_steps : (b i : ℕ) (xs : List (TInstr × Span)) (v w : List ℕ) → AreSteps text P b i xs v →
      AreSteps text P b i xs w → v ≡ w
  one_steps b i [] v w x y = x ∙ sym y
  one_steps b i (z ∷ zs) v w x y =
      x.4
      ∙ ap₂ (λ (row rest : List ℕ). text_row text z.1 line_end ++ (row ++ rest))
      (one_set b (suc i) (set_by z.0) x.0 y.0 x.2 y.2)
      (one_steps b (suc i) zs x.1 y.1 x.3 y.3)
      ∙ sym y.4

  one_last : (b : ℕ) (xs : List (TInstr × Span)) (v w : List ℕ) → IsLastRow P b xs v → IsLastRow P b xs w → v ≡ w
  one_last b [] v w x y = x ∙ sym y
  one_last b (z ∷ zs) v w x y = one_file b (suc (length zs)) v w x y

  one_begun : (b : ℕ) (z : SBlock) (xs : List (TInstr × Span)) (v w : List ℕ) → IsBegun text P b z xs v →
      IsBegun text P b z xs w → v ≡ w
  one_begun b z xs v w x y =
      x.is
      ∙ ap₂ (λ (first steps : List ℕ). text_row text z.name label_end ++ (first ++ (steps ++ x.last)))
      (one_file b 0 x.first y.first x.starts y.starts)
      (one_steps b 0 xs x.steps y.steps x.goes_on y.goes_on)
      ∙ ap (λ (last : List ℕ). text_row text z.name label_end ++ (y.first ++ (y.steps ++ last)))
      (one_last b xs x.last y.last x.ends y.ends)
      ∙ sym y.is

  one_block : (b : ℕ) (z : SBlock) (v w : List ℕ) → IsBlock text P b z v → IsBlock text P b z w → v ≡ w
  one_block b z v w x y =
      x.is
      ∙ ap (λ (before : List ℕ). before ++ text_row text z.last_span line_end)
      (one_begun b z z.body x.before y.before x.begun y.begun)
      ∙ sym y.is

  one_blocks : (b : ℕ) (zs : List SBlock) (v w : List ℕ) → AreBlocks text P b zs v → AreBlocks text P b zs w → v ≡ w
  one_blocks b [] v w x y = x ∙ sym y
  one_blocks b (z ∷ zs) v w x y =
      x.4
      ∙ ap₂ (λ (block rest : List ℕ). block ++ rest) (one_block b z x.0 y.0 x.2 y.2)
      (one_blocks (suc b) zs x.1 y.1 x.3 y.3)
      ∙ sym y.4

  -- the rows of a block without the place, and of those behind it up to the place
  abbrev Wholly : Span → ℕ → SBlock → List SBlock → List ℕ → Type 0
  Wholly place b z zs rows =
      (block rest : List ℕ) × IsBlock text P b z block × AreBlocksTo text P place (suc b) zs rest
      × (rows ≡ block ++ rest)

  -- and up to a place
  one_to : (place : Span) (b : ℕ) (zs : List SBlock) (v w : List ℕ) → AreBlocksTo text P place b zs v →
      AreBlocksTo text P place b zs w → v ≡ w
  one_to place b [] v w x y = x ∙ sym y
  one_to place b (z ∷ zs) v w x y = go (in_block place z) x y (one_to place (suc b) zs)
    where
      go : (met : Bool) → MatchBool met (IsBegun text P b z (steps_to place z.body) v) (Wholly place b z zs v) →
          MatchBool met (IsBegun text P b z (steps_to place z.body) w) (Wholly place b z zs w) →
          ((v w : List ℕ) → AreBlocksTo text P place (suc b) zs v → AreBlocksTo text P place (suc b) zs w → v ≡ w) →
          v ≡ w
      go true p q rest = one_begun b z (steps_to place z.body) v w p q
      go false p q rest =
          p.4
          ∙ ap₂ (λ (block later : List ℕ). block ++ later) (one_block b z p.0 q.0 p.2 q.2) (rest p.1 q.1 p.3 q.3)
          ∙ sym q.4

one_listing_to : OneKnown → (text : List ℕ) (P : SProg) (place : Span) (v w : List ℕ) → IsListingTo text P place v →
    IsListingTo text P place w → v ≡ w
one_listing_to known text P place v w x y = go (is_before_blocks place P) x y
  where
    go : (before : Bool) →
        MatchBool before (v ≡ []) (AreBlocksTo text (plain_program P) place 0 P.blocks v) →
        MatchBool before (w ≡ []) (AreBlocksTo text (plain_program P) place 0 P.blocks w) → v ≡ w
    go true p q = p ∙ sym q
    go false p q = one_to known text (plain_program P) place 0 P.blocks v w p q

module _ (laws : TextLaws) where
  -- the rows, and the page of the one fault behind them
  pub fault_listed : (name text : List ℕ) (fault : Fault) (rows page shown : List ℕ) →
      FirstFault AnAssembly text fault → RowsTo text fault rows → IsFaultPage name text page → shown ≡ rows ++ page →
      FaultListed name text fault shown
  fault_listed name text fault rows page shown first listed h is =
      let same : h.fault ≡ fault = one_fault laws AnAssembly text h.fault fault h.first first in
      record {
        rows = rows;
        told = h.told;
        first = first;
        listed = listed;
        at_odds = subst (λ g. AtOdds text g h.told) same h.at_odds;
        is = is ∙ ap (λ (p : List ℕ). rows ++ p) (h.is ∙ ap (λ (g : Fault). explained name text g h.told) same);
      }

module _ (laws : TextLaws) (known : OneKnown) where
  one_rows : (text : List ℕ) (fault : Fault) (v w : List ℕ) → RowsTo text fault v → RowsTo text fault w → v ≡ w
  one_rows text (Source c s) v w x y = absurd x
  one_rows text (Tal c s) v w (inl x) (inl y) = x.1 ∙ sym y.1
  one_rows text (Tal c s) v w (inl x) (inr y) = absurd (laws.no_fault_of_a_program text y.program c s y.read x.0)
  one_rows text (Tal c s) v w (inr x) (inl y) = absurd (laws.no_fault_of_a_program text x.program c s x.read y.0)
  one_rows text (Tal c s) v w (inr x) (inr y) =
      let same : x.program ≡ y.program = same_program laws text x.program y.program x.read y.read in
      one_listing_to known text y.program s v w
      (subst (λ (program : SProg). IsListingTo text program s v) same x.listed) y.listed

  pub one_fault_listed : MismatchLaws → OneFaultListed
  one_fault_listed odds name text a b f g x y =
      let same : f ≡ g = one_fault laws AnAssembly text f g x.first y.first in
      let rows : x.rows ≡ y.rows =
      one_rows text g x.rows y.rows (subst (λ h. RowsTo text h x.rows) same x.listed) y.listed in
      let told : x.told ≡ y.told =
      one_told laws odds text g x.told y.told (subst (λ h. AtOdds text h x.told) same x.at_odds) y.at_odds in (
        same,
        x.is
            ∙ ap₂ (λ (r : List ℕ) (h : Fault). r ++ explained name text h x.told) rows same
            ∙ ap (λ t. y.rows ++ explained name text g t) told
            ∙ sym y.is,
      )

pub one_listing : TextLaws → OneKnown → OneListing
one_listing laws known text a b x y =
    let same : x.program ≡ y.program = same_program laws text x.program y.program x.accepted.0 y.accepted.0 in
    one_blocks known text (plain_program y.program) 0 y.program.blocks a b
    (subst (λ (program : SProg). IsListing text program a) same x.listed) y.listed
