-- From word code that means what the program does, and a file of that word code, to native code of the program.
use Rattle.std.proofs.Common.{◌≡◌, ℕ, ◌+◌, ℤ, List, [], ◌∷◌, Some, ap, ap₂, sym, ◌∙◌, subst, inl, inr, slice_get}
use Rattle.t_terms.specs.Tree.{TProg}
use Rattle.t_terms.specs.ReadProgram.{program as program_tree}
use Rattle.t_terms.specs.declared.program.TProgram.{TProgram}
use Rattle.t_terms.specs.Whole.{Whole}
use Rattle.t_rules.specs.Rules.{Accepted}
use Rattle.t_rules.specs.Machine.{Halts}
use Rattle.w_terms.specs.Tree.{WSeq, WProg}
use Rattle.w_terms.specs.Machine.{WRegs, Put, Places, Exits}
use Rattle.w_print.specs.Blocks.{integer_line}
use Rattle.w_laws.specs.Built.{IsBuilt, EachBuiltMeansTheSame, first_use, full_line, line_texts, program_layout}
use Rattle.w_laws.specs.Built.{start_code}
use Rattle.w_laws.specs.Enough.{EnoughAtFirst}
use Rattle.w_laws.specs.Laws.{MeansTheSame}
use Rattle.x_terms.specs.Machine.{Image, State, Answer, Call}
use Rattle.x_terms.specs.Elf.{IsStart, image}
use Rattle.x_terms.specs.Process.{Ends, EndsWithLine, IsProcessOf}
use Rattle.x_laws.specs.Laws.{places, held_words, EndsLike, BehavesAs, CompiledCodeBehaves}
use Rattle.x_laws.specs.Laws.{CompiledCodeHasPlaces}
use Rattle.x_laws.proofs.Results.{is_process}
use Rattle.x_pass.specs.Homes.{home}
use Rattle.w_gen.specs.Data.{word_code}
use Rattle.w_gen.specs.Limits.{registers_of, IsTooLarge}
use Rattle.x_program.specs.Made.{base_of, HasRoom, IsMade}
use Rattle.native.specs.Native.{IsNative, MakesFewTuples, IsInBounds, native_registers, native_base}
use Rattle.native.specs.Made.{IsMadeOf}
use Rattle.native.proofs.Bounds.{has_room}
use Rattle.native.specs.Listing.{native_words, HasNativeCode, IsNativeListing}
use Rattle.t_rules.specs.Erase.{erase_blocks}
use Rattle.x_laws.specs.Layout.{program_code}
use Rattle.x_file.specs.File.{code_address}
use Rattle.x_listing.specs.Remarks.{Note}
use Rattle.x_listing.specs.Lines.{page_text, program_lines, ShowsCode}
use Rattle.x_listing.specs.Notes.{notes_of}

-- the end of a process that writes a line and exits with 0
line_end : (m : Image) (world : ℕ → Answer) (s : State) (line : List ℕ) (k : ℕ) (calls : List Call) →
    Ends m world s k calls → EndsLike 0 (Put 1 line ∷ []) k calls → EndsWithLine m world s line
line_end m world s line k calls h (inl e) = inl (calls, subst (λ j. Ends m world s j calls) e.0 h, e.1)
line_end m world s line k calls h (inr e) = inr (calls, subst (λ j. Ends m world s j calls) e.0 h, e.1)

module _ (means_same : EachBuiltMeansTheSame) (enough_first : EnoughAtFirst) (behaves : CompiledCodeBehaves)
    (have_places : CompiledCodeHasPlaces) (P : TProg) (whole : Whole P) (accepted : Accepted P)
    (base heap n : ℕ) (W : WProg) (built : IsBuilt P base heap W) (file : List ℕ) (made : IsMade n W file) where
  -- the first block
  abbrev first : WSeq
  first =
      let y = program_layout base heap built.many P in start_code y.base (y.base + first_use heap)

  is_first : slice_get W.blocks 0 ≡ Some first
  is_first = ap (λ bs. slice_get bs 0) built.blocks

  module _ (s : State) (start : IsStart file s) where
    abbrev place : ℕ → ℕ
    place = places (image file) home W

    abbrev regs : WRegs
    regs = held_words home s

    places_are : Places place W
    places_are = have_places (image file) n home W s (made.compiled s start)

    means : MeansTheSame P place W line_texts regs
    means = means_same P whole accepted base heap W built place places_are regs (made.words s start)

    runs : IsProcessOf (Halts P) integer_line full_line (image file) s
    runs =
        is_process behaves (Halts P) integer_line full_line (image file) n home W s (made.compiled s start) first
        is_first (record { forth = means.forth; back = means.back; goes_on = means.goes_on })

    does : BehavesAs place W regs (image file) s
    does = behaves (image file) n home W s (made.compiled s start) first is_first means.goes_on

    exits : (i : ℤ) → MakesFewTuples heap P i → Exits place W regs 0 (Put 1 (integer_line i) ∷ [])
    exits i f =
        enough_first P whole accepted base heap W built place places_are regs (made.words s start) f.first f.is_first
        f.steps i f.halted f.few

    enough : (i : ℤ) → MakesFewTuples heap P i → (world : ℕ → Answer) →
        EndsWithLine (image file) world s (integer_line i)
    enough i f world =
        let g = does.forth world 0 (Put 1 (integer_line i) ∷ []) (exits i f) in
        line_end (image file) world s (integer_line i) g.0 g.1 g.2 g.3

  is_native : IsNative heap P file
  is_native = record {
    executable = made.executable;
    runs = runs;
    enough = enough;
  }

-- the same of a file that comes of the program, as the code has it
pub code_is_native : EachBuiltMeansTheSame → EnoughAtFirst → CompiledCodeBehaves → CompiledCodeHasPlaces →
    (p q : TProgram) → q ≡ p → Accepted (program_tree q) → (heap : ℕ) (file : List ℕ) →
    IsMadeOf heap (program_tree q) file → IsNative heap (program_tree p) file
code_is_native means_same enough_first behaves have_places p q same accepted heap file made =
    subst (λ (t : TProgram). IsNative heap (program_tree t) file) same
    (is_native means_same enough_first behaves have_places (program_tree q) q.whole accepted
    (native_base (program_tree q)) heap (native_registers (program_tree q)) made.code made.built file made.made)

-- it is in bounds
pub in_bounds : (p q : TProgram) → q ≡ p → (heap : ℕ) (file : List ℕ) → IsMadeOf heap (program_tree q) file →
    IsInBounds heap (program_tree p)
in_bounds p q same heap file made =
    let room = subst (HasRoom (native_registers (program_tree q))) made.is made.made.fits in
    subst (λ (t : TProgram). IsInBounds heap (program_tree t)) same
    (record { small = made.small; code = room.code; memory = room.memory })

-- The program has n registers. A file of its word code comes of it.
module _ (heap n : ℕ) (P : TProg) (count : n ≡ registers_of P) where
  pub made_of : (W : WProg) (file : List ℕ) → (IsTooLarge (base_of (n + 16)) heap P → ⊥) →
      W ≡ word_code P (base_of (n + 16)) heap → IsBuilt P (base_of (n + 16)) heap W → IsMade (n + 16) W file →
      IsMadeOf heap P file
  made_of W file small is built made = record {
    small = subst (λ k. IsTooLarge (base_of (k + 16)) heap P → ⊥) count small;
    code = W;
    is = subst (λ k. W ≡ word_code P (base_of (k + 16)) heap) count is;
    built = subst (λ k. IsBuilt P (base_of (k + 16)) heap W) count built;
    made = subst (λ k. IsMade (k + 16) W file) count made;
  }

  -- it is out of bounds where there is no word code, or that has no room
  pub not_coded : IsTooLarge (base_of (n + 16)) heap P → IsInBounds heap P → ⊥
  not_coded large bounds = bounds.small (subst (λ k. IsTooLarge (base_of (k + 16)) heap P) count large)

  pub no_room : Whole P → (W : WProg) → W ≡ word_code P (base_of (n + 16)) heap → (HasRoom (n + 16) W → ⊥) →
      IsInBounds heap P → ⊥
  no_room whole W is none bounds =
      subst (λ k. HasRoom (k + 16) W → ⊥) count none
      (subst (HasRoom (native_registers P))
      (sym (subst (λ k. W ≡ word_code P (base_of (k + 16)) heap) count is)) (has_room heap P whole bounds))

-- the code that the file has
pub has_code : (p q : TProgram) → q ≡ p → (heap : ℕ) (file : List ℕ) → IsMadeOf heap (program_tree q) file →
    HasNativeCode heap (program_tree p) (image file)
has_code p q same heap file made =
    subst (λ (t : TProgram). HasNativeCode heap (program_tree t) (image file)) same
    (made.made.code_at, made.made.code ∙ ap (λ (W : WProg). program_code home code_address W.blocks) made.is)

-- the word code is that of the program, where its registers are counted
pub words_of : (heap n : ℕ) (P : TProg) (W : WProg) → n ≡ registers_of P → W ≡ word_code P (base_of (n + 16)) heap →
    W ≡ native_words heap P
words_of heap n P W count is = subst (λ k. W ≡ word_code P (base_of (k + 16)) heap) count is

-- the listing of a program's word code
pub is_listing : (heap : ℕ) (P : TProg) (W : WProg) (notes : List Note) (page : List ℕ) → W ≡ native_words heap P →
    notes ≡ notes_of (erase_blocks P) → page ≡ page_text (program_lines notes W) →
    ShowsCode code_address (program_lines notes W) (program_code home code_address W.blocks) →
    IsNativeListing heap P page
is_listing heap P W notes page same told is shows = record {
  is = is ∙ ap₂ (λ xs (V : WProg). page_text (program_lines xs V)) told same;
  shows = subst (λ (V : WProg). ShowsCode code_address (program_lines (notes_of (erase_blocks P)) V)
      (program_code home code_address V.blocks)) same
      (subst (λ xs. ShowsCode code_address (program_lines xs W) (program_code home code_address W.blocks)) told shows);
}

-- of the program that was checked
pub listed : (p q : TProgram) → q ≡ p → (heap : ℕ) (page : List ℕ) → IsNativeListing heap (program_tree q) page →
    IsNativeListing heap (program_tree p) page
listed p q same heap page h = subst (λ (t : TProgram). IsNativeListing heap (program_tree t) page) same h
