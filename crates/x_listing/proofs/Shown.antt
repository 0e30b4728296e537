-- What the lines of a program show.
use Rattle.std.proofs.Common.{◌≡◌, ℕ, suc, ◌+◌, ◌-◌, ◌*◌, ◌≤◌, ◌^◌, List, [], ◌∷◌, ◌++◌, length, map, drop, Some}
use Rattle.std.proofs.Common.{slice_get, slice_index_or, refl, ap, sym, ◌∙◌, subst, arith, append_assoc, append-nil}
use Rattle.std.proofs.Common.{length-append}
use Rattle.x_terms.specs.Machine.{Image, fetch}
use Rattle.x_terms.specs.declared.instr.Instr.{Instr}
use Rattle.x_code.specs.Bytes.{bytes_of, FitsInstr}
use Rattle.x_file.specs.File.{code_address}
use Rattle.x_laws.specs.Core.{bytes_all}
use Rattle.x_laws.specs.Code.{instr_code, seq_code}
use Rattle.x_laws.specs.Going.{Standing, AllFit}
use Rattle.x_laws.specs.Layout.{size, place_from, code_from, program_code}
use Rattle.x_laws.proofs.Running.{fetches, further}
use Rattle.x_laws.proofs.Flow.{bytes_both}
use Rattle.x_laws.proofs.Laid.{same_size}
use Rattle.x_pass.specs.Homes.{home}
use Rattle.x_pass.specs.Layout.{starts, stop}
use Rattle.x_pass.specs.Short.{AreFine}
use Rattle.x_pass.proofs.Measures.{code_long, places_are, each_fits}
use Rattle.x_listing.specs.Remarks.{Note, note_at, name_at}
use Rattle.x_listing.specs.Lines.{Line, Title, Remark, Word, Step, remark, step_lines, seq_lines, block_lines}
use Rattle.x_listing.specs.Lines.{blocks_lines, parts, program_lines, page_text, shown_bytes, AreInOrder, AreFetched}
use Rattle.x_listing.specs.Lines.{ShowsCode}
use Rattle.x_listing.proofs.Turns.{page_both}
use Rattle.w_terms.specs.Tree.{WSeq, WThen, WJump, WGoto, WExit}
use Rattle.w_terms.specs.Read.{block, program}
use Rattle.w_terms.specs.declared.program.WBlock.{WBlock}
use Rattle.w_terms.specs.declared.program.WProgram.{WProgram}

-- all instructions have bytes of their own
abbrev LinesFit : List Line → Type 0
LinesFit [] = Unit {0}
LinesFit (Title a name ∷ xs) = LinesFit xs
LinesFit (Remark text ∷ xs) = LinesFit xs
LinesFit (Word text ∷ xs) = LinesFit xs
LinesFit (Step a i ∷ xs) = FitsInstr i × LinesFit xs

-- lines, the first of them at the address a, show instructions
record Shows (a : ℕ) (lines : List Line) (is : List Instr) : Type 0 where
  bytes : shown_bytes lines ≡ bytes_all is
  in_order : AreInOrder a lines
  fit : AllFit is → LinesFit lines

shown_both : (xs ys : List Line) → shown_bytes (xs ++ ys) ≡ shown_bytes xs ++ shown_bytes ys
shown_both [] ys = refl
shown_both (Title a name ∷ xs) ys = shown_both xs ys
shown_both (Remark text ∷ xs) ys = shown_both xs ys
shown_both (Word text ∷ xs) ys = shown_both xs ys
shown_both (Step a i ∷ xs) ys =
    ap (λ s. bytes_of i ++ s) (shown_both xs ys) ∙ sym (append_assoc (bytes_of i) (shown_bytes xs) (shown_bytes ys))

order_both : (a : ℕ) (xs ys : List Line) → AreInOrder a xs → (b : ℕ) → b ≡ a + length (shown_bytes xs) →
    AreInOrder b ys → AreInOrder a (xs ++ ys)
order_both a [] ys h b e g = let is : b ≡ a = omega (arith, e) in subst (λ k. AreInOrder k ys) is g
order_both a (Title c name ∷ xs) ys h b e g = (h.0, order_both a xs ys h.1 b e g)
order_both a (Remark text ∷ xs) ys h b e g = order_both a xs ys h b e g
order_both a (Word text ∷ xs) ys h b e g = order_both a xs ys h b e g
order_both a (Step c i ∷ xs) ys h b e g =
    let is : b ≡ a + length (bytes_of i) + length (shown_bytes xs) =
    omega (arith, e, length-append (bytes_of i) (shown_bytes xs)) in
    (h.0, order_both (a + length (bytes_of i)) xs ys h.1 b is g)

fit_both : (xs ys : List Line) → LinesFit xs → LinesFit ys → LinesFit (xs ++ ys)
fit_both [] ys f g = g
fit_both (Title a name ∷ xs) ys f g = fit_both xs ys f g
fit_both (Remark text ∷ xs) ys f g = fit_both xs ys f g
fit_both (Word text ∷ xs) ys f g = fit_both xs ys f g
fit_both (Step a i ∷ xs) ys f g = (f.0, fit_both xs ys f.1 g)

fit_parts : (is js : List Instr) → AllFit (is ++ js) → AllFit is × AllFit js
fit_parts [] js f = (tt, f)
fit_parts (i ∷ is) js f = let r : AllFit is × AllFit js = fit_parts is js f.1 in ((f.0, r.0), r.1)

behind : (a : ℕ) (xs ys : List Line) (is js : List Instr) → Shows a xs is → (b : ℕ) → b ≡ a + length (bytes_all is) →
    Shows b ys js → Shows a (xs ++ ys) (is ++ js)
behind a xs ys is js h b e g = record {
  bytes = shown_both xs ys ∙ ap (λ s. s ++ shown_bytes ys) h.bytes ∙ ap (λ s. bytes_all is ++ s) g.bytes
      ∙ sym (bytes_both is js);
  in_order = order_both a xs ys h.in_order b (e ∙ ap (λ s. a + length s) (sym h.bytes)) g.in_order;
  fit = λ f. let p : AllFit is × AllFit js = fit_parts is js f in fit_both xs ys (h.fit p.0) (g.fit p.1);
}

remarked : (a : ℕ) (text : List ℕ) (xs : List Line) (is : List Instr) → Shows a xs is → Shows a (remark text ++ xs) is
remarked a [] xs is h = h
remarked a (b ∷ text) xs is h = record { bytes = h.bytes; in_order = h.in_order; fit = h.fit }

worded : (a : ℕ) (text : List ℕ) (xs : List Line) (is : List Instr) → Shows a xs is → Shows a (Word text ∷ xs) is
worded a text xs is h = record { bytes = h.bytes; in_order = h.in_order; fit = h.fit }

titled : (a : ℕ) (name : List ℕ) (xs : List Line) (is : List Instr) → Shows a xs is → Shows a (Title a name ∷ xs) is
titled a name xs is h = record { bytes = h.bytes; in_order = (refl, h.in_order); fit = h.fit }

steps : (a : ℕ) (is : List Instr) → Shows a (step_lines a is) is
steps a [] = record { bytes = refl; in_order = tt; fit = λ f. tt }
steps a (i ∷ is) =
    let h : Shows (a + length (bytes_of i)) (step_lines (a + length (bytes_of i)) is) is =
    steps (a + length (bytes_of i)) is in record {
      bytes = ap (λ s. bytes_of i ++ s) h.bytes;
      in_order = (refl, h.in_order);
      fit = λ f. (f.0, h.fit f.1);
    }

-- the instructions of blocks, of which the first stands at the address a
abbrev all_code : (ℕ → ℕ) → ℕ → List WSeq → List Instr
all_code place a [] = []
all_code place a (c ∷ cs) = seq_code home place a c ++ all_code place (a + size home c) cs

all_bytes : (place : ℕ → ℕ) (a : ℕ) (cs : List WSeq) →
    bytes_all (all_code place a cs) ≡ code_from home place a cs
all_bytes place a [] = refl
all_bytes place a (c ∷ cs) =
    bytes_both (seq_code home place a c) (all_code place (a + size home c) cs)
    ∙ ap (λ s. bytes_all (seq_code home place a c) ++ s) (all_bytes place (a + size home c) cs)

all_fit : (place : ℕ → ℕ) (a : ℕ) (cs : List WSeq) →
    ((l : ℕ) (c : WSeq) → slice_get cs l ≡ Some c → AllFit (seq_code home place (place_from home a cs l) c)) →
    AllFit (all_code place a cs)
all_fit place a [] h = tt
all_fit place a (c ∷ cs) h =
    let rest : AllFit (all_code place (a + size home c) cs) =
    all_fit place (a + size home c) cs (λ l d e. h (suc l) d e) in
    joined (seq_code home place a c) (all_code place (a + size home c) cs) (h 0 c refl) rest
  where
    joined : (is js : List Instr) → AllFit is → AllFit js → AllFit (is ++ js)
    joined [] js f g = g
    joined (i ∷ is) js f g = (f.0, joined is js f.1 g)

module _ (place : ℕ → ℕ) (notes : List Note) where
  seqs : (before : List (List ℕ)) (k a : ℕ) (c : WSeq) →
      Shows a (seq_lines place notes before k a c) (seq_code home place a c)
  seqs before k a (WThen i c) =
      remarked a _ _ _
      (behind a _ _ (instr_code home place a i) _ (worded a _ _ _ (steps a (instr_code home place a i))) _ refl
      (seqs before (suc k) (a + length (bytes_all (instr_code home place a i))) c))
  seqs before k a (WJump l) = remarked a _ _ _ (worded a _ _ _ (steps a (seq_code home place a (WJump l))))
  seqs before k a (WGoto q) = remarked a _ _ _ (worded a _ _ _ (steps a (seq_code home place a (WGoto q))))
  seqs before k a (WExit status) =
      remarked a _ _ _ (worded a _ _ _ (steps a (seq_code home place a (WExit status))))

  block_shows : (l a : ℕ) (c : WSeq) → place l ≡ a → Shows a (block_lines place notes l c) (seq_code home place a c)
  block_shows l a c e =
      subst (λ b. Shows a (Title b (name_at notes l) ∷ seq_lines place notes (note_at notes l).before 0 b c)
      (seq_code home place a c)) (sym e) (titled a _ _ _ (seqs (note_at notes l).before 0 a c))

  blocks_show : (l a : ℕ) (cs : List WSeq) → ((k : ℕ) → place (l + k) ≡ place_from home a cs k) →
      Shows a (blocks_lines place notes l cs) (all_code place a cs)
  blocks_show l a [] h = record { bytes = refl; in_order = tt; fit = λ f. tt }
  blocks_show l a (c ∷ cs) h =
      let here : l ≡ l + 0 = omega arith in
      behind a _ _ (seq_code home place a c) _ (block_shows l a c (ap place here ∙ h 0)) (a + size home c)
      (ap (λ k. a + k) (same_size home (λ l. 0) place 0 a c))
      (blocks_show (suc l) (a + size home c) cs
      (λ k. let at : suc l + k ≡ l + suc k = omega arith in ap place at ∙ h (suc k)))

-- the processor reads them
fetched_all : (m : Image) (a : ℕ) (xs : List Line) → LinesFit xs → AreInOrder a xs → Standing m a (shown_bytes xs) →
    AreFetched m xs
fetched_all m a [] f o s = tt
fetched_all m a (Title b name ∷ xs) f o s = fetched_all m a xs f o.1 s
fetched_all m a (Remark text ∷ xs) f o s = fetched_all m a xs f o s
fetched_all m a (Word text ∷ xs) f o s = fetched_all m a xs f o s
fetched_all m a (Step b i ∷ xs) f o s = (
  subst (λ k. fetch m k ≡ Some (i, length (bytes_of i))) (sym o.0) (fetches m a i (shown_bytes xs) f.0 s),
  fetched_all m (a + length (bytes_of i)) xs f.1 o.1 (further m a (bytes_of i) (shown_bytes xs) s),
)

stands : (m : Image) (a : ℕ) (code : List ℕ) → m.code_at ≡ a → m.code ≡ code → Standing m a code
stands m a code e f =
    let none : a - m.code_at ≡ 0 = omega (arith, e) in record {
      behind = omega (arith, e);
      rest = [];
      is = ap (λ k. drop k m.code) none ∙ f ∙ sym (append-nil code);
    }

-- the lines of a program
module _ (p : WProgram) (notes : List Note) (bs : List WBlock) (is : bs ≡ p.blocks.items) where
  abbrev place : ℕ → ℕ
  place = place_from home code_address (map block p.blocks.items)

  pub shows_code : (n : ℕ) → AreFine n bs → stop code_address bs ≤ 2 ^ 28 →
      ShowsCode code_address (program_lines notes (program p)) (program_code home code_address (program p).blocks)
  shows_code n fine near =
      let all : List WSeq = map block p.blocks.items in
      let from_zero : (k : ℕ) → 0 + k ≡ k = λ k. omega arith in
      let h : Shows code_address (blocks_lines place notes 0 all) (all_code place code_address all) =
      blocks_show place notes 0 code_address all (λ k. ap place (from_zero k)) in
      let fit : AllFit (all_code place code_address all) =
      all_fit place code_address all
      (subst (λ (xs : List WBlock). (l : ℕ) (c : WSeq) → slice_get (map block xs) l ≡ Some c →
      AllFit (seq_code home (place_from home code_address (map block xs)) (place_from home code_address (map block xs) l)
      c)) is (each_fits n code_address bs fine near)) in
      let bytes : shown_bytes (blocks_lines place notes 0 all) ≡ program_code home code_address all =
      h.bytes ∙ all_bytes place code_address all in record {
        bytes = bytes;
        in_order = h.in_order;
        fetched = λ m at code. fetched_all m code_address (blocks_lines place notes 0 all) (h.fit fit) h.in_order
            (stands m code_address _ at (code ∙ sym bytes));
      }

  -- the page of the program
  pub page_is : (places : List ℕ) (end memory : ℕ) (none head page : List ℕ) → places ≡ starts code_address bs →
      end ≡ stop code_address bs → memory ≡ p.base + 8 * p.size → none ≡ [] →
      head ≡ none ++ page_text (parts end p.base memory) →
      page ≡ head ++ page_text (blocks_lines (λ l. slice_index_or places l end) notes 0 (map block bs)) →
      page ≡ page_text (program_lines notes (program p))
  page_is places end memory none head page s e m z f g =
      let code : List ℕ = program_code home code_address (map block bs) in
      let long : end ≡ code_address + length code =
      e ∙ sym (code_long (place_from home code_address (map block bs)) code_address bs) in
      let first : List Line = parts (code_address + length code) p.base (p.base + 8 * p.size) in
      g
      ∙ ap (λ x. x ++ page_text (blocks_lines (λ l. slice_index_or places l end) notes 0 (map block bs)))
      (f ∙ ap (λ x. x ++ page_text (parts end p.base memory)) z
      ∙ ap (λ k. page_text (parts end p.base k)) m
      ∙ ap (λ k. page_text (parts k p.base (p.base + 8 * p.size))) long)
      ∙ ap (λ q. page_text first ++ page_text (blocks_lines q notes 0 (map block bs)))
      (places_are code_address bs places end s e)
      ∙ sym (page_both first (blocks_lines (place_from home code_address (map block bs)) notes 0 (map block bs)))
      ∙ ap (λ (xs : List WBlock). page_text
      (parts (code_address + length (program_code home code_address (map block xs))) p.base (p.base + 8 * p.size)
      ++ blocks_lines (place_from home code_address (map block xs)) notes 0 (map block xs))) is
