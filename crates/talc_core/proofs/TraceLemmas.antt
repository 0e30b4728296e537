-- The lines of states, one after the other, and what a machine at a state shows of it.
use Rattle.std.proofs.Common.{◌≡◌, ℕ, zero, suc, ◌+◌, ◌<◌, ◌≤◌, inl, inr, nat_eq, cond, Bool, true, false, List, []}
use Rattle.std.proofs.Common.{◌∷◌, ◌++◌, length, drop, get_or, Option, Some, None, refl, sym, ap, ◌∙◌, subst, arith}
use Rattle.std.proofs.Common.{append_assoc, add-one, drop-cons}
use Rattle.std.specs.Prelude.{option_map, ℤ}
use Rattle.std.proofs.Math.Path.{fun_ext}
use Rattle.std.proofs.lemmas.Bool.Decides.{nat_tests}
use Rattle.std.proofs.lemmas.List.{append-nil}
use Rattle.std.proofs.Math.ListN.{drop_of_length-le}
use Rattle.t_types.specs.Tree.{Ty, TFile, NoRegs, MoreRegs}
use Rattle.t_types.specs.Fits.{lookup}
use Rattle.t_types.specs.Read.{file}
use Rattle.t_types.specs.declared.types.TType.{TType}
use Rattle.t_terms.specs.Tree.{TSeq, TProg}
use Rattle.t_terms.specs.Whole.{WellFormedProgram}
use Rattle.t_terms.specs.declared.shown.Shown.{Shown}
use Rattle.t_rules.specs.Rules.{Accepted}
use Rattle.t_rules.specs.Known.{code_at}
use Rattle.t_rules.specs.Machine.{State, At, Spot, After, HaltedAfter, GoesOnAfter}
use Rattle.t_rules.specs.HeapTypes.{HeapTypes, StateTyped, heap_types}
use Rattle.t_rules.specs.LawsSound.{regs_of, StatesAreTyped}
use Rattle.t_rules.specs.Erase.{EWord, EHeap, ERegs, ESeq, EAt, erase, erase_blocks, erase_regs}
use Rattle.t_rules.specs.Kinds.{KnownWordsHaveKinds}
use Rattle.t_check.specs.Walks.{IsKnownFile}
use Rattle.t_machine.specs.Words.{shown_word}
use Rattle.t_machine.specs.Runs.{Stands, IsPlaceAfter, words_in}
use Rattle.t_machine.specs.declared.machine.Machine.{Machine}
use Rattle.t_trace.specs.Line.{AreWordsOf, line_text}
use Rattle.talc_core.specs.Lines.{integer_line, more_instructions_line}
use Rattle.talc_core.specs.Traced.{HaveWords, AreLines, HaltedStates, RunningStates}
use Rattle.talc_core.specs.Tracing.{HaveAll, AddsLine}

-- one line more
pub more_lines : (P : TProg) (from m : ℕ) (old new : List ℕ) → from ≤ m → AreLines P from m old →
    AddsLine P m old new → AreLines P from (suc m) new
more_lines P from m old new le are adds = inr (le, old, adds.0, are, adds.1, adds.2)

-- the words of registers, one by one
abbrev pub Regs : Type 0
Regs = List (ℕ × TType)

abbrev pub Words : Type 0
Words = List (ℕ × Shown)

abbrev pub Told : ERegs → Regs → Words → ℕ → Type 0
Told r xs ws i = (rest : Words) → HaveWords r rest (file (drop i xs)) → HaveWords r (ws ++ rest) (file xs)

pub told_more : (r : ERegs) (xs : Regs) (ws : Words) (i : ℕ) (x : ℕ × TType) (w : Shown) → i < length xs →
    x ≡ get_or xs i x → r x.0 ≡ Some (shown_word w) → Told r xs ws i → Told r xs (ws ++ (x.0, w) ∷ []) (i + 1)
told_more r xs ws i x w lt is here told rest h =
    let d : drop i xs ≡ x ∷ drop (suc i) xs =
    drop-cons xs i x lt ∙ ap (λ (y : ℕ × TType). y ∷ drop (suc i) xs) (sym is) in
    let after : HaveWords r rest (file (drop (suc i) xs)) =
    subst (λ k. HaveWords r rest (file (drop k xs))) (add-one i) h in
    subst (λ (vs : Words). HaveWords r vs (file xs)) (sym (append_assoc ws ((x.0, w) ∷ []) rest))
    (told ((x.0, w) ∷ rest)
    (subst (λ (ys : Regs). HaveWords r ((x.0, w) ∷ rest) (file ys)) (sym d) (refl, here, after)))

pub told_all : (r : ERegs) (xs : Regs) (ws : Words) (i : ℕ) → length xs ≤ i → Told r xs ws i → HaveWords r ws (file xs)
told_all r xs ws i le told =
    subst (λ (vs : Words). HaveWords r vs (file xs)) (append-nil ws)
    (told [] (subst (λ (ys : Regs). HaveWords r [] (file ys)) (sym (drop_of_length-le xs le)) tt))

pub next_has : (r : ERegs) (xs : Regs) (i : ℕ) (x : ℕ × TType) → i < length xs → x ≡ get_or xs i x →
    HaveAll r (file (drop i xs)) → ((w : EWord) × (r x.0 ≡ Some w)) × HaveAll r (file (drop (i + 1) xs))
next_has r xs i x lt is h =
    let d : drop i xs ≡ x ∷ drop (suc i) xs =
    drop-cons xs i x lt ∙ ap (λ (y : ℕ × TType). y ∷ drop (suc i) xs) (sym is) in
    let both : HaveAll r (file (x ∷ drop (suc i) xs)) = subst (λ (ys : Regs). HaveAll r (file ys)) d h in
    (both.0, subst (λ k. HaveAll r (file (drop k xs))) (sym (add-one i)) both.1)

pub word_told : (o : Option EWord) (w : Shown) → option_map shown_word (Some w) ≡ o → o ≡ Some (shown_word w)
word_told o w e = sym e

pub no_word : (o : Option EWord) → (w : EWord) × (o ≡ Some w) → option_map shown_word None ≡ o → ⊥
no_word o h e = let a = h.1 in cc

pub words_are : (r : ERegs) (ws : Words) (f : TFile) → HaveWords r ws f → AreWordsOf ws f
words_are r [] NoRegs h = tt
words_are r (x ∷ xs) (MoreRegs q t f) h = (h.0, words_are r xs f h.2)
words_are r [] (MoreRegs q t f) h = absurd h
words_are r (x ∷ xs) NoRegs h = absurd h

-- each register that a file names has a type in it
have_all : (r : ERegs) (f : TFile) → ((q : ℕ) (t : Ty) → lookup f q ≡ Some t → (w : EWord) × (r q ≡ Some w)) →
    HaveAll r f
have_all r NoRegs h = tt
have_all r (MoreRegs q t f) h = (h q t here, have_all r f (λ p u e. later p u e (nat_eq q p) refl))
  where
    here : cond (nat_eq q q) (Some t) (lookup f q) ≡ Some t
    here = let yes : nat_eq q q ≡ true = grind (arith, nat_tests) in ap (λ (b : Bool). cond b (Some t) (lookup f q)) yes

    later : (p : ℕ) (u : Ty) → lookup f p ≡ Some u → (b : Bool) → nat_eq q p ≡ b → (w : EWord) × (r p ≡ Some w)
    later p u e true is = h p t (ap (λ (b : Bool). cond b (Some t) (lookup f p)) is)
    later p u e false is = h p u (ap (λ (b : Bool). cond b (Some t) (lookup f p)) is ∙ e)

-- the registers of an erased state
regs_are : (u : State) (h : EHeap) (r : ERegs) (c : ESeq) → EAt h r c ≡ erase u → r ≡ erase_regs (regs_of u)
regs_are (At heap regs code) h r c e = cc

code_there : (P : TProg) (p : HeapTypes) (u : State) (block index : ℕ) → StateTyped P p u (Spot block index) →
    (c : TSeq) × (code_at P block index ≡ Some c)
code_there P p (At h r c) block index typed = (typed.1.body, typed.1.at)

-- a machine that stands for the state after m steps, at its place
module _ (P : TProg) (whole : WellFormedProgram P) (acc : Accepted P) (m : ℕ) (x : Machine) (stands : Stands P m x)
    (block index : ℕ) (place : IsPlaceAfter P m block index) where
  -- the words of the machine's registers are those of the state
  erased_is : EAt stands.erased.heap (words_in x) stands.rest ≡ erase stands.erased.erased.1.0
  erased_is =
      let words : words_in x ≡ stands.erased.regs = fun_ext (λ q. sym (stands.erased.keeps.regs q)) in
      ap (λ (r : ERegs). EAt stands.erased.heap r stands.rest) words ∙ stands.erased.erased.1.2

  run : After P m stands.erased.erased.1.0 (Spot block index)
  run = subst (After P m stands.erased.erased.1.0)
      (place stands.erased.erased.1.0 (Spot stands.block stands.index) stands.erased.erased.1.1)
      stands.erased.erased.1.1

  pub place_there : StatesAreTyped → (c : TSeq) × (code_at P block index ≡ Some c)
  place_there law =
      code_there P (heap_types P m stands.erased.erased.1.0 (Spot block index) run) stands.erased.erased.1.0 block index
      (law P whole acc m stands.erased.erased.1.0 (Spot block index) run)

  module _ (names : ℕ) (f : TFile) (known : IsKnownFile P block index names f) where
    pub known_have : KnownWordsHaveKinds → HaveAll (words_in x) f
    known_have law = have_all (words_in x) f (λ q t e.
        let k = law P whole acc m (erase_blocks P) stands.erased.heap (words_in x) stands.rest block index
        (refl, (stands.erased.erased.1.0, run, erased_is)) names (lookup f) known.known q t e in
        (k.0, k.1))

    pub line_is : (words : Words) → HaveWords (words_in x) words f → (old new : List ℕ) →
        new ≡ old ++ line_text m block index names words f → AddsLine P m old new
    line_is words have old new e = (
      line_text m block index names words f,
      record {
        state = stands.erased.erased.1.0;
        block = block;
        index = index;
        names = names;
        file = f;
        words = words;
        run = run;
        known = known;
        have = subst (λ (r : ERegs). HaveWords r words f)
            (regs_are stands.erased.erased.1.0 stands.erased.heap (words_in x) stands.rest erased_is) have;
        is = refl;
      },
      e,
    )

-- the lines with what is said behind them
pub halted_shown : (P : TProg) (from to steps : ℕ) (value : ℤ) (old last new : List ℕ) → steps ≤ to →
    HaltedAfter P steps value → AreLines P from (suc steps) old → last ≡ integer_line value →
    new ≡ old ++ last → HaltedStates P from to new
halted_shown P from to steps value old last new within halted states says is = record {
  steps = steps;
  value = value;
  shown = old;
  within = within;
  halted = halted;
  states = states;
  is = is ∙ ap (λ (s : List ℕ). old ++ s) says;
}

pub running_shown : (P : TProg) (from to : ℕ) (old last new : List ℕ) → GoesOnAfter P to →
    AreLines P from (suc to) old → last ≡ more_instructions_line to → new ≡ old ++ last →
    RunningStates P from to new
running_shown P from to old last new goes_on states says is = record {
  shown = old;
  goes_on = goes_on;
  states = states;
  is = is ∙ ap (λ (s : List ℕ). old ++ s) says;
}

-- no line is shown
pub no_lines : (P : TProg) (from end : ℕ) (lines : List ℕ) → end ≤ from → lines ≡ [] → AreLines P from end lines
no_lines P from zero lines le none = none
no_lines P from (suc m) lines le none = inl (omega (arith, le), none)

-- where no step was made since the last line, and where one was
pub lines_same : (P : TProg) (from m made : ℕ) (lines : List ℕ) → made ≡ 0 → AreLines P from (suc m) lines →
    AreLines P from (suc (m + made)) lines
lines_same P from m made lines none are =
    let same : m ≡ m + made = omega (arith, none) in subst (λ k. AreLines P from (suc k) lines) same are

pub lines_after : (P : TProg) (from m made : ℕ) (old new : List ℕ) → made ≡ 1 → from ≤ m →
    AreLines P from (suc m) old → AddsLine P (m + made) old new → AreLines P from (suc (m + made)) new
lines_after P from m made old new one le are adds =
    let next : suc m ≡ m + made = omega (arith, one) in
    more_lines P from (m + made) old new (omega (arith, le)) (subst (λ k. AreLines P from k old) next are) adds
