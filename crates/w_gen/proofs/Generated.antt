-- What the code makes of a program is a translation of it.
use Rattle.std.proofs.Common.{◌≡◌, ℕ, zero, suc, ◌+◌, ◌*◌, ◌<◌, List, [], ◌∷◌, ◌++◌, length, map, refl, sym, ap, ap₂}
use Rattle.std.proofs.Common.{◌∙◌, arith}
use Rattle.std.specs.Prelude.{slice_index}
use Rattle.std.proofs.lemmas.List.{length-map}
use Rattle.t_terms.specs.Tree.{TBase, Reg, Int, Label, Data, TValue, Plain, Pack, TData, TProg}
use Rattle.t_terms.specs.Whole.{WellFormedValue, WellFormedData, WellFormedHeap, Whole}
use Rattle.t_rules.specs.Erase.{EArith, EBnz, ELd, EMalloc, EMov, ESt, ESeq, EThen, EJmp, EHalt, erase_value}
use Rattle.t_rules.specs.Erase.{erase_datum, erase_blocks, erase_heap, field_word, base_word, no_ewords}
use Rattle.w_terms.specs.Tree.{WInstr, WConst, WSeq}
use Rattle.w_terms.specs.declared.program.WDatum.{WDatum}
use Rattle.w_terms.specs.declared.program.WDatum.TheVariants as D
use Rattle.w_rooms.specs.Numbers.{reg, bytes, runtime_labels}
use Rattle.w_laws.specs.Code.{datum, data_at, data_words, own_words, IsMove, IsChoice, IsSeq}
use Rattle.w_laws.specs.Code.{IsTranslation}
use Rattle.w_laws.specs.Translate.{blocks_of, AllSmall}
use Rattle.w_laws.proofs.Translating.{are_blocks}
use Rattle.w_laws.proofs.Fitting.{programs_are_fine}
use Rattle.w_gen.specs.Data.{addresses_of, generated}

-- two ways to say where data tuples stand, which agree on those that there are
module _ (at to : ℕ → ℕ) (fixed many : ℕ) (agree : (d : ℕ) → d < fixed → at d ≡ to d) where
  is_move : (blocks : List WSeq) (rd : ℕ) (b : TBase) (i : WInstr) → IsMove at fixed many blocks rd b i →
      IsMove to fixed many blocks rd b i
  is_move blocks rd (Reg q) i k = k
  is_move blocks rd (Int n) i k = k
  is_move blocks rd (Label l) i k = k
  is_move blocks rd (Data d) i k = (k.0, k.1 ∙ ap (WConst (reg rd)) (agree d k.0))

  is_choice : (blocks : List WSeq) (q : ℕ) (b : TBase) (k c : WSeq) → IsChoice at fixed many blocks q b k c →
      IsChoice to fixed many blocks q b k c
  is_choice blocks q (Reg r) k c h = h
  is_choice blocks q (Int i) k c h = h
  is_choice blocks q (Label l) k c h = h
  is_choice blocks q (Data d) k c h = h

  pub is_seq : (blocks : List WSeq) (e : ESeq) (c : WSeq) → IsSeq at fixed many blocks e c →
      IsSeq to fixed many blocks e c
  is_seq blocks (EThen (EArith op rd rs b) e) c k = (k.0, k.1, k.2, is_seq blocks e k.0 k.3, k.4, k.5)
  is_seq blocks (EThen (EBnz q b) e) c k = (k.0, is_seq blocks e k.0 k.1, is_choice blocks q b k.0 c k.2)
  is_seq blocks (EThen (ELd rd rs i) e) c k = (k.0, is_seq blocks e k.0 k.1, k.2, k.3)
  is_seq blocks (EThen (EMalloc rd n) e) c k = (k.0, k.1, is_seq blocks e k.0 k.2, k.3, k.4, k.5, k.6)
  is_seq blocks (EThen (EMov rd b) e) c k =
      (k.0, k.1, is_move blocks rd b k.1 k.2, is_seq blocks e k.0 k.3, k.4, k.5)
  is_seq blocks (EThen (ESt rd i rs) e) c k = (k.0, is_seq blocks e k.0 k.1, k.2)
  is_seq blocks (EJmp b) c k = k
  is_seq blocks EHalt c k = k

  -- the words of data
  module _ (p : ℕ) where
    by_base : (n : ℕ) (v : TValue) → WellFormedValue p fixed n v →
        datum at (field_word (base_word no_ewords (erase_value v)))
        ≡ datum to (field_word (base_word no_ewords (erase_value v)))
    by_base n (Plain (Reg r) ts) w = refl
    by_base n (Plain (Int i) ts) w = refl
    by_base n (Plain (Label l) ts) w = refl
    by_base n (Plain (Data d) ts) w = ap D.Number (agree d w.0)
    by_base n (Pack t v s) w = by_base n v w.1

    fields : (x : TData) → WellFormedData p fixed x →
        map (datum at) (map erase_datum x) ≡ map (datum to) (map erase_datum x)
    fields [] w = refl
    fields (y ∷ x) w = ap₂ (λ a b. a ∷ b) (by_base 0 y.value w.0.0) (fields x w.1)

    pub heap : (h : List TData) → WellFormedHeap p fixed h →
        data_words at (map (map erase_datum) h) ≡ data_words to (map (map erase_datum) h)
    heap [] w = refl
    heap (x ∷ h) w = ap₂ (λ a b. D.Number (length (map erase_datum x)) ∷ (a ++ b)) (fields x w.0) (heap h w.1)

pub addresses_agree : (h : List TData) (a d : ℕ) → d < length h →
    slice_index (addresses_of a h) d ≡ data_at a (map (map erase_datum) h) d
addresses_agree [] a d lt = absurd (omega (arith, lt))
addresses_agree (t ∷ h) a zero lt = refl
addresses_agree (t ∷ h) a (suc d) lt =
    addresses_agree h (a + bytes (length t)) d (omega (arith, lt))
    ∙ ap (λ n. data_at (a + bytes n) (map (map erase_datum) h) d) (sym (length-map t erase_datum))

-- of a program of the code, behind the blocks and the words of any runtime, which are its own words
pub generated_by_rules : (P : TProg) → Whole P → (many : ℕ) → AllSmall many (erase_blocks P) → (base size : ℕ)
    (runtime : List WSeq) (own : List WDatum) → length runtime ≡ runtime_labels → length own ≡ own_words many →
    (t : IsTranslation P many (generated base size many runtime own P)) × (t.own ≡ own)
generated_by_rules P w many s base size runtime own count words =
    let start = base + 8 * own_words many in
    let at = slice_index (addresses_of start P.heap) in
    let to = data_at start (erase_heap P) in
    let agree = λ (d : ℕ) (lt : d < length P.heap). addresses_agree P.heap start d lt in
    let all = are_blocks at (length P.heap) many runtime (erase_blocks P) count (programs_are_fine P w many s) in
    let t : IsTranslation P many (generated base size many runtime own P) = record {
      blocks = λ l e g.
          let k = all l e g in
          (k.0, k.1, is_seq at to (length P.heap) many agree (blocks_of at runtime (erase_blocks P)) e k.0 k.2);
      own = own;
      sized = words;
      image = ap (λ xs. own ++ xs) (heap at to (length P.heap) many agree (length P.blocks) P.heap w.0.2);
    } in (t, refl)
