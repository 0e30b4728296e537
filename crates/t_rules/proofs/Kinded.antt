-- The words of the registers that are known at the place of a state are of the kinds of their types.
use Rattle.std.proofs.Common.{◌≡◌, ◌≢◌, ℕ, suc, ◌-◌, ◌<◌, List, [], ◌∷◌, length, map, Some, refl}
use Rattle.std.proofs.Common.{sym, ap, ◌∙◌, subst, arith}
use Rattle.std.specs.Prelude.{option_map}
use Rattle.std.proofs.lemmas.Option.{slice_get_within}
use Rattle.std.proofs.lemmas.List.{length-map}
use Rattle.t_types.specs.Tree.{Ty, IntTy, VarTy, CodeTy, ExistsTy, TupleTy, TFile, TFields, shift, put}
use Rattle.t_types.specs.Fits.{RegTypes}
use Rattle.t_terms.specs.Tree.{TProg}
use Rattle.t_terms.specs.Registers.{inst_known}
use Rattle.t_rules.specs.Known.{KnownAt}
use Rattle.t_rules.specs.Machine.{Word, IntWord, AddressWord, LabelWord, EmptyWord, PackWord, Heap, State}
use Rattle.t_rules.specs.Machine.{At, Spot}
use Rattle.t_rules.specs.HeapTypes.{HeapTypes, WordHas, TuplesHave, StateTyped, heap_types}
use Rattle.t_rules.specs.Erase.{EWord, ELabel, EEmpty, EHeap, ERegs, ESeq, EAt, erase_word}
use Rattle.t_rules.specs.Erase.{erase_regs, erase}
use Rattle.t_rules.specs.LawsSound.{IsFull}
use Rattle.t_rules.specs.Kinds.{HasKind, KnownWordsHaveKinds}
use Rattle.t_rules.proofs.Words.{is_int, is_address}
use Rattle.t_rules.proofs.Places.{known_one}
use Rattle.t_rules.proofs.Runs.{typed_states}
use Rattle.t_rules.proofs.Uses.{full}

-- types that are put into a type keep its form
abbrev SameForm : Ty → Ty → Type 0
SameForm IntTy u = u ≡ IntTy
SameForm (TupleTy fs) u = (gs : TFields) × (u ≡ TupleTy gs)
SameForm (CodeTy owes file) u = (k : ℕ) × (f : TFile) × (u ≡ CodeTy k f)
SameForm (VarTy i) u = Unit {0}
SameForm (ExistsTy t) u = Unit {0}

form_same : (t : Ty) → SameForm t t
form_same IntTy = refl
form_same (TupleTy fs) = (fs, refl)
form_same (CodeTy owes file) = (owes, file, refl)
form_same (VarTy i) = tt
form_same (ExistsTy t) = tt

form_put : (c : ℕ) (s t u : Ty) → SameForm (put c s t) u → SameForm t u
form_put c s IntTy u h = h
form_put c s (TupleTy fs) u h = h
form_put c s (CodeTy owes file) u h = h
form_put c s (VarTy i) u h = tt
form_put c s (ExistsTy t) u h = tt

-- so do those that are put into what is known
form_known : (ts : List Ty) (n : ℕ) (g : RegTypes) (q : ℕ) (t : Ty) → g q ≡ Some t →
    (u : Ty) × (inst_known ts n g q ≡ Some u) × SameForm t u
form_known [] n g q t e = (t, e, form_same t)
form_known (s ∷ ts) n g q t e =
    let z : Ty = shift (n - 1) 0 s in
    let x = form_known ts (n - 1) (λ p. option_map (put (n - 1) z) (g p)) q (put (n - 1) z t)
    (ap (option_map (put (n - 1) z)) e) in
    (x.0, x.1, form_put (n - 1) z t x.0 x.2)

full_word : (w : Word) → IsFull w → erase_word w ≢ EEmpty
full_word (IntWord i) h e = cc
full_word (AddressWord a) h e = cc
full_word (LabelWord l ts) h e = cc
full_word (EmptyWord t) h e = h
full_word (PackWord t w s) h e = full_word w h e

module _ (P : TProg) (p : HeapTypes) where
  as_many : (q : HeapTypes) (h : Heap) → TuplesHave P p q h → length q ≡ length h
  as_many [] [] k = refl
  as_many (fs ∷ q) (ws ∷ h) k = ap suc (as_many q h k.1)
  as_many [] (ws ∷ h) k = absurd k
  as_many (fs ∷ q) [] k = absurd k

  is_label : (w : Word) (owes : ℕ) (file : TFile) → WordHas P p w (CodeTy owes file) →
      (l : ℕ) × (erase_word w ≡ ELabel l) × (l < length P.blocks)
  is_label (IntWord i) owes file h = cc
  is_label (AddressWord a) owes file h = let e = h.3 in cc
  is_label (LabelWord l ts) owes file h = (l, refl, slice_get_within P.blocks l h.0 h.1)
  is_label (EmptyWord u) owes file h = absurd h
  is_label (PackWord u w s) owes file h = let e = h.2 in let e2 = h.3 in cc

  kind_of : (h : Heap) → TuplesHave P p p h → (t u : Ty) (w : Word) → SameForm t u → WordHas P p w u →
      HasKind (length P.blocks) (length h) t (erase_word w)
  kind_of h tuples IntTy u w form has =
      let x = is_int P p w (subst (WordHas P p w) form has) in (x.0, ap erase_word x.1)
  kind_of h tuples (TupleTy fs) u w form has =
      let x = is_address P p w form.0 (subst (WordHas P p w) form.1 has) in
      let within = slice_get_within p x.0 x.1 x.3 in
      let same = as_many p h tuples in
      (x.0, ap erase_word x.2, omega (arith, within, same))
  kind_of h tuples (CodeTy owes file) u w form has = is_label w form.0 form.1 (subst (WordHas P p w) form.2 has)
  kind_of h tuples (VarTy i) u w form has = full_word w (full P p w u has)
  kind_of h tuples (ExistsTy t) u w form has = full_word w (full P p w u has)

-- a state at its place
state_kinds : (P : TProg) (p : HeapTypes) (s : State) (block index : ℕ) → StateTyped P p s (Spot block index) →
    (n : ℕ) (g : RegTypes) → KnownAt P block index n g →
    (h : EHeap) (r : ERegs) (c : ESeq) → EAt h r c ≡ erase s → (q : ℕ) (t : Ty) → g q ≡ Some t →
    (w : EWord) × (r q ≡ Some w) × HasKind (length P.blocks) (length h) t w
state_kinds P p (At heap regs code) block index typed n g known h r c e q t here =
    let at = typed.1 in
    let same = known_one P block index at.names n at.known g at.knows known in
    let there : at.known q ≡ Some t = ap (λ (f : RegTypes). f q) same.1 ∙ here in
    let x = form_known at.types at.names at.known q t there in
    let w = at.words q x.0 x.1 in
    let tuples : h ≡ map (map erase_word) heap = cc in
    let words : r ≡ erase_regs regs = cc in
    let count : length heap ≡ length h = sym (length-map heap (map erase_word)) ∙ ap length (sym tuples) in (
      erase_word w.0,
      ap (λ (f : ERegs). f q) words ∙ ap (option_map erase_word) w.1,
      subst (λ k. HasKind (length P.blocks) k t (erase_word w.0)) count (kind_of P p heap typed.0 t x.0 w.0 x.2 w.2),
    )

pub known_words_have_kinds : KnownWordsHaveKinds
known_words_have_kinds P whole acc m blocks h r c block index erased n g known q t here =
    let s = erased.1.0 in
    let run = erased.1.1 in
    state_kinds P (heap_types P m s (Spot block index) run) s block index
    (typed_states P whole acc m s (Spot block index) run) n g known h r c erased.1.2 q t here
