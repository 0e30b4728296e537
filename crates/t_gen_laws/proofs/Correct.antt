-- Both ways, and the counts, of whatever is so by the rules.
use Rattle.std.proofs.Common.{◌≡◌, ℕ, zero, suc, ◌+◌, ◌<◌, ◌≤◌, ◌==◌, List, [], ◌∷◌, length, Option, Some, None, refl}
use Rattle.std.proofs.Common.{sym, ap, ap₂, ◌∙◌, subst, arith, ⊎_elim, ◌⊎◌, inl, inr, slice_get}
use Rattle.std.specs.Prelude.{ℤ, option_map, map}
use Rattle.std.proofs.lemmas.Bool.{cases_eq, cases_order, eq-eqb, ne_eqb}
use Rattle.std.proofs.lemmas.Option.{slice_get_within}
use Rattle.a_terms.specs.Tree.{ATm, ABlk, AConsts, AProg, AVal}
use Rattle.a_terms.specs.Meaning.{AWord, Result, Halted, Spent, Wrong, datum, start_heap, meaning, NeverWrong}
use Rattle.a_terms.specs.Bound.{thirds}
use Rattle.t_terms.specs.Tree.{TBlock, TData, TProg}
use Rattle.t_terms.specs.Whole.{WellFormedProgram}
use Rattle.t_rules.specs.Rules.{Accepted}
use Rattle.t_rules.specs.Machine as M
use Rattle.t_rules.specs.Machine.{Where, Next, Into, State, Place, After, HaltsWithin}
use Rattle.t_rules.specs.Times.{Entries, entries, entered_by}
use Rattle.t_rules.specs.Erase.{ESeq, EThen, EJmp, EHalt, EAt, EStep, EGoes, no_ewords, field_word}
use Rattle.t_rules.specs.Erase.{erase_datum, erase_block, erase_blocks, estep}
use Rattle.t_rules.specs.ErasedRuns.{RunsErase, HaltsErased, StepsFirst}
use Rattle.t_rules.specs.LawsTimes.{TimesWithinEntries}
use Rattle.t_gen_laws.specs.Counting.{one, count, first_of, times_among, share, share_of, credit, log_of, MadeOf}
use Rattle.t_gen_laws.specs.Correct.{FromMain, Keeps}
use Rattle.t_gen_laws.specs.Rules.{nothing, Fields, Tuples, Generates}
use Rattle.t_gen_laws.proofs.Leads.{LState, On, logged, lstep, so, after}
use Rattle.t_gen_laws.proofs.Words.{slot, tuple, heap, Fits}
use Rattle.t_gen_laws.proofs.Decls.{reads_word}
use Rattle.t_gen_laws.proofs.Lift.{HaltsAt, start_of, count_same, run_logged, halts_typed, typed_halts}
use Rattle.t_gen_laws.proofs.Runs.{IsCalling, entered, Follows, Laid, term_runs, calls_run}

-- the blocks entered are kept
abbrev Grown : ℕ → List ℕ → Option LState → Type 0
Grown k log None = Unit {0}
Grown k log (Some t) = count k log ≤ count k (entered t)

grown_by : (k : ℕ) (w : Where) (log : List ℕ) → count k log ≤ count k (entered_by w log)
grown_by k Next log = omega arith
grown_by k (Into l) log = omega arith

grown_step : (B : List ESeq) (k : ℕ) (s : LState) → Grown k (entered s) (lstep B s)
grown_step B k (On e log) = go (estep B e)
  where
    go : (o : Option EStep) → Grown k log (option_map (logged log) o)
    go None = tt
    go (Some (EGoes w f)) = grown_by k w log

grown_later : (B : List ESeq) (k m n : ℕ) (s t u : LState) → m ≤ n → after B m s ≡ Some t → after B n s ≡ Some u →
    count k (entered t) ≤ count k (entered u)
grown_later B k zero zero s t u le x y = let e : t ≡ u = cc in omega (arith, ap (λ v. count k (entered v)) e)
grown_later B k zero (suc n) s t u le x y =
    go (lstep B s) (grown_step B k s) y (λ v q. grown_later B k zero n v v u (omega arith) refl q)
  where
    same : s ≡ t
    same = cc

    go : (o : Option LState) → Grown k (entered s) o → so o (after B n) ≡ Some u →
        ((v : LState) → after B n v ≡ Some u → count k (entered v) ≤ count k (entered u)) →
        count k (entered t) ≤ count k (entered u)
    go None g q f = cc
    go (Some v) g q f = omega (arith, g, f v q, ap (λ v. count k (entered v)) same)
grown_later B k (suc m) zero s t u le x y = absurd (omega arith)
grown_later B k (suc m) (suc n) s t u le x y = go (lstep B s) x y (λ v p q. grown_later B k m n v t u (omega arith) p q)
  where
    go : (o : Option LState) → so o (after B m) ≡ Some t → so o (after B n) ≡ Some u →
        ((v : LState) → after B m v ≡ Some t → after B n v ≡ Some u → count k (entered t) ≤ count k (entered u)) →
        count k (entered t) ≤ count k (entered u)
    go None p q f = cc
    go (Some v) p q f = f v p q

module _ (B : List ESeq) where
  -- a halted state has no step
  no_step : (s : LState) (i : ℤ) → HaltsAt s i → lstep B s ≡ None
  no_step (On (EAt h ρ EHalt) log) i e = refl
  no_step (On (EAt h ρ (EJmp b)) log) i e = absurd e
  no_step (On (EAt h ρ (EThen j c)) log) i e = absurd e

  calling_answer : (s : LState) (i : ℤ) → IsCalling s → HaltsAt s i → ⊥
  calling_answer (On (EAt h ρ EHalt) log) i c e = c
  calling_answer (On (EAt h ρ (EJmp b)) log) i c e = e
  calling_answer (On (EAt h ρ (EThen j d)) log) i c e = c

  one_answer : (s : LState) (i j : ℤ) → HaltsAt s i → HaltsAt s j → i ≡ j
  one_answer (On (EAt h ρ EHalt) log) i j x y = cc
  one_answer (On (EAt h ρ (EJmp b)) log) i j x y = absurd x
  one_answer (On (EAt h ρ (EThen k c)) log) i j x y = absurd x

  -- nothing comes after a halted state
  last : (m n : ℕ) (s t u : LState) (w : ℤ) → after B m s ≡ Some t → HaltsAt t w → after B n s ≡ Some u →
      (n ≤ m) × (m ≤ n → t ≡ u)
  last zero zero s t u w x a y = (omega arith, λ l. cc)
  last zero (suc n) s t u w x a y =
      let same : s ≡ t = cc in
      let none = no_step s w (subst (λ q. HaltsAt q w) (sym same) a) in
      let z = sym (ap (λ o. so o (after B n)) none) ∙ y in absurd (impossible z)
    where
      impossible : None ≡ Some u → ⊥
      impossible e = cc
  last (suc m) zero s t u w x a y = (omega arith, λ l. absurd (omega arith))
  last (suc m) (suc n) s t u w x a y = go (lstep B s) x y (λ v p q. last m n v t u w p a q)
    where
      go : (o : Option LState) → so o (after B m) ≡ Some t → so o (after B n) ≡ Some u →
          ((v : LState) → after B m v ≡ Some t → after B n v ≡ Some u → (n ≤ m) × (m ≤ n → t ≡ u)) →
          (suc n ≤ suc m) × (suc m ≤ suc n → t ≡ u)
      go None p q k = cc
      go (Some v) p q k = let r = k v p q in (omega (arith, r.0), λ l. r.1 (omega arith))

-- the first tuples of the heap
none_held : (r : ℕ) (v : AVal) → None ≡ Some v → ⊥
none_held r v e = cc

none_fit : Fits no_ewords nothing []
none_fit r v e = absurd (none_held r v e)

fields_word : (x : AConsts) (d : TData) → Fields x d → map erase_datum d ≡ tuple (datum x)
fields_word [] [] f = refl
fields_word [] (d ∷ ds) f = absurd f
fields_word (c ∷ cs) [] f = absurd f
fields_word (c ∷ cs) (d ∷ ds) f =
    let r = reads_word no_ewords nothing [] none_fit c.value d.value f.0.0 in
    ap₂ (λ o q. o ∷ q) (ap field_word r.2 ∙ sym (ap slot r.1)) (fields_word cs ds f.1)

heap_word : (xs : List AConsts) (ds : List TData) → Tuples xs ds → map (map erase_datum) ds ≡ heap (start_heap xs)
heap_word [] [] f = refl
heap_word [] (d ∷ ds) f = absurd f
heap_word (x ∷ xs) [] f = absurd f
heap_word (x ∷ xs) (d ∷ ds) f = ap₂ (λ o q. o ∷ q) (fields_word x d f.0) (heap_word xs ds f.1)

no_variable : (n : ℕ) (w : AWord) → slice_get [] n ≡ Some w → ⊥
no_variable n w x = cc

-- the simulation, from the start
module _ (p : AProg) (main : ATm) (P : TProg) (by_rules : Generates p main P) (k : ℕ) where
  abbrev B : List ESeq
  B = map erase_block P.blocks

  abbrev at : ℕ
  at = suc (length p.blocks)

  abbrev first : TBlock
  first = by_rules.main_block.block

  -- the main term's block, and those of its third parts
  abbrev budget : ℕ
  budget = one (k == 0) + times_among k at (thirds main)

  abbrev limit : List ℕ → ℕ
  limit = credit p.blocks (at + thirds main) k budget

  abbrev begins : LState
  begins = start_of P first

  laid : Laid p P.blocks (at + thirds main)
  laid = record { blocks = by_rules.blocks }

  follows : (c : ℕ) → Follows B k limit begins c (meaning p main c)
  follows c =
      let base : count k (0 ∷ []) + times_among k at (thirds main) ≤ limit [] = omega arith in
      subst (λ h. Follows B k limit (On (EAt h no_ewords (erase_block first)) (0 ∷ [])) c (meaning p main c))
      (sym (heap_word p.tuples P.heap by_rules.tuples))
      (term_runs p P.blocks (at + thirds main) k budget laid c
      (calls_run p P.blocks (at + thirds main) k budget laid c) main first.code [] 0 at [] [] (start_heap p.tuples) []
      no_ewords (0 ∷ []) by_rules.main_block.code refl (λ n w y x. absurd (no_variable n w x)) base)

  back_from : (m n : ℕ) (i : ℤ) (t : LState) → n ≤ m → after B n begins ≡ Some t → HaltsAt t i → (r : Result) →
      ((log : List ℕ) → r ≡ Wrong log → ⊥) → Follows B k limit begins m r → (log : List ℕ) × (r ≡ Halted i log)
  back_from m n i t le a h (Halted j log) ne f =
      let x = last B n f.steps begins t f.state i a h f.runs in
      let y = last B f.steps n begins f.state t j f.runs f.answers a in
      let same : t ≡ f.state = x.1 y.0 in
      let e : i ≡ j = one_answer B f.state i j (subst (λ q. HaltsAt q i) same h) f.answers in
      (log, ap (λ n. Halted n log) (sym e))
  back_from m n i t le a h (Spent log) ne f =
      let x = last B n f.steps begins t f.state i a h f.runs in
      let same : t ≡ f.state = x.1 (omega (arith, le, f.many)) in
      absurd (calling_answer B f.state i f.calls_next (subst (λ q. HaltsAt q i) same h))
  back_from m n i t le a h (Wrong log) ne f = absurd (ne log refl)

  counts_from : (m : ℕ) (s : LState) → after B m begins ≡ Some s → (r : Result) →
      ((log : List ℕ) → r ≡ Wrong log → ⊥) → Follows B k limit begins m r → count k (entered s) ≤ limit (log_of r)
  counts_from m s e (Halted i log) ne f =
      let x = last B f.steps m begins f.state s i f.runs f.answers e in
      let g = grown_later B k m f.steps begins s f.state x.0 e f.runs in
      omega (arith, g, f.counted)
  counts_from m s e (Spent log) ne f =
      let g = grown_later B k m f.steps begins s f.state f.many e f.runs in
      omega (arith, g, f.counted)
  counts_from m s e (Wrong log) ne f = absurd (ne log refl)

-- the numbers of one block's third parts are its own
spare_out : (k b n : ℕ) → (k < b) ⊎ (b + n ≤ k) → times_among k b n ≡ 0
spare_out k b zero o = refl
spare_out k b (suc n) o =
    let ne : k ≡ b → ⊥ = λ e. ⊎_elim (λ x. absurd (omega arith)) (λ x. absurd (omega arith)) o in
    let z : one (k == b) ≡ 0 = ap one (ne_eqb k b ne) in
    let r = spare_out k (suc b) n (⊎_elim (λ x. inl (omega arith)) (λ x. inr (omega arith)) o) in
    omega (arith, z, r)

spare_one : (k b n : ℕ) → times_among k b n ≤ 1
spare_one k b zero = omega arith
spare_one k b (suc n) = ⊎_elim
    (λ e. let z : one (k == b) ≡ 1 = ap one (eq-eqb k b e) in let r = spare_out k (suc b) n (inl (omega arith)) in
    omega (arith, z, r))
    (λ ne. let z : one (k == b) ≡ 0 = ap one (ne_eqb k b ne) in let r = spare_one k (suc b) n in omega (arith, z, r))
    (cases_eq k b)

first_least : (bs : List ABlk) (at l : ℕ) → at ≤ first_of bs at l
first_least [] at l = omega arith
first_least (b ∷ bs) at zero = omega arith
first_least (b ∷ bs) at (suc l) = let r = first_least bs (at + thirds b.body) l in omega (arith, r)

first_apart : (bs : List ABlk) (at l j : ℕ) (b : ABlk) → slice_get bs l ≡ Some b → l < j →
    first_of bs at l + thirds b.body ≤ first_of bs at j
first_apart [] at l j b e x = absurd (impossible e)
  where
    impossible : None ≡ Some b → ⊥
    impossible x = cc
first_apart (c ∷ bs) at l zero b e x = absurd (omega arith)
first_apart (c ∷ bs) at zero (suc j) b e x =
    let y : c ≡ b = cc in let r = first_least bs (at + thirds c.body) j in omega (arith, r, ap (λ q. thirds q.body) y)
first_apart (c ∷ bs) at (suc l) (suc j) b e x = first_apart bs (at + thirds c.body) l j b e (omega arith)

module _ (bs : List ABlk) (at k l : ℕ) (b : ABlk) (past : length bs < at) (m : MadeOf bs at k l b) where
  share_here : share bs at k l ≤ 1
  share_here =
      let s : share bs at k l ≡ one (k == suc l) + times_among k (first_of bs at l) (thirds b.body) =
      ap (share_of k l (first_of bs at l)) m.there in
      let w = slice_get_within bs l b m.there in
      let f = first_least bs at l in
      ⊎_elim
      (λ e. let z : one (k == suc l) ≡ 1 = ap one (eq-eqb k (suc l) e) in
      let r = spare_out k (first_of bs at l) (thirds b.body) (inl (omega arith)) in omega (arith, s, z, r))
      (λ ne. let z : one (k == suc l) ≡ 0 = ap one (ne_eqb k (suc l) ne) in
      let r = spare_one k (first_of bs at l) (thirds b.body) in omega (arith, s, z, r))
      (cases_eq k (suc l))

  share_none : (j : ℕ) (o : Option ABlk) → slice_get bs j ≡ o → (l ≡ j → ⊥) → share_of k j (first_of bs at j) o ≡ 0
  share_none j None e ne = refl
  share_none j (Some c) e ne =
      let w = slice_get_within bs l b m.there in
      let v = slice_get_within bs j c e in
      let f = first_least bs at j in
      let g = first_least bs at l in
      let no : k ≡ suc j → ⊥ = λ x. ⊎_elim (λ y. ne (omega arith)) (λ y. absurd (omega arith)) m.own in
      let z : one (k == suc j) ≡ 0 = ap one (ne_eqb k (suc j) no) in
      let out : (k < first_of bs at j) ⊎ (first_of bs at j + thirds c.body ≤ k) =
      ⊎_elim
      (λ y. inl (omega arith))
      (λ y. ⊎_elim (λ q. absurd (ne q))
      (λ q. ⊎_elim (λ lt. let r = first_apart bs at l j b m.there lt in inl (omega (arith, r)))
      (λ gt. let r = first_apart bs at j l c e gt in inr (omega (arith, r))) q) (cases_order l j))
      m.own in
      let r = spare_out k (first_of bs at j) (thirds c.body) out in
      omega (arith, z, r)

  share_most : (j : ℕ) → share bs at k j ≤ one (l == j)
  share_most j = ⊎_elim
      (λ e. let z : one (l == j) ≡ 1 = ap one (eq-eqb l j e) in let y = ap (share bs at k) e in
      omega (arith, z, y, share_here))
      (λ ne. omega (arith, share_none j (slice_get bs j) refl ne))
      (cases_eq l j)

  credit_most : (main : ℕ) → main ≡ 0 → (log : List ℕ) → credit bs at k main log ≤ count l log
  credit_most main e [] = omega arith
  credit_most main e (j ∷ log) = let r = credit_most main e log in let s = share_most j in omega (arith, r, s)

  own_far : (n t : ℕ) → n ≡ suc (length bs) → at ≡ n + t → times_among k n t ≡ 0
  own_far n t e q =
      let w = slice_get_within bs l b m.there in
      let g = first_least bs at l in
      spare_out k n t (⊎_elim (λ y. inl (omega arith)) (λ y. inr (omega arith)) m.own)

-- a block of the main term
module _ (bs : List ABlk) (at k : ℕ) (past : length bs < k) (before : k < at) where
  share_far : (j : ℕ) (o : Option ABlk) → slice_get bs j ≡ o → share_of k j (first_of bs at j) o ≡ 0
  share_far j None e = refl
  share_far j (Some c) e =
      let v = slice_get_within bs j c e in
      let f = first_least bs at j in
      let z : one (k == suc j) ≡ 0 = ap one (ne_eqb k (suc j) (λ x. absurd (omega arith))) in
      let r = spare_out k (first_of bs at j) (thirds c.body) (inl (omega arith)) in
      omega (arith, z, r)

  credit_main : (main : ℕ) (log : List ℕ) → credit bs at k main log ≡ main
  credit_main main [] = refl
  credit_main main (j ∷ log) =
      let r = credit_main main log in let s = share_far j (slice_get bs j) refl in omega (arith, r, s)

-- nothing enters block 0
share_zero : (bs : List ABlk) (at j : ℕ) (o : Option ABlk) → 0 < at → share_of 0 j (first_of bs at j) o ≡ 0
share_zero bs at j None l = refl
share_zero bs at j (Some c) l =
    let f = first_least bs at j in
    let z : one (0 == suc j) ≡ 0 = ap one (ne_eqb 0 (suc j) (λ x. absurd (omega arith))) in
    let r = spare_out 0 (first_of bs at j) (thirds c.body) (inl (omega arith)) in
    omega (arith, z, r)

credit_zero : (bs : List ABlk) (at main : ℕ) (log : List ℕ) → 0 < at → credit bs at 0 main log ≡ main
credit_zero bs at main [] l = refl
credit_zero bs at main (j ∷ log) l =
    let r = credit_zero bs at main log l in let s = share_zero bs at j (slice_get bs j) l in omega (arith, r, s)

module _ (runs : RunsErase) (halts : HaltsErased) (steps : StepsFirst) (times : TimesWithinEntries) (p : AProg)
    (main : ATm) (P : TProg) (by_rules : Generates p main P) (never : NeverWrong p main) (whole : WellFormedProgram P)
    (acc : Accepted P) where
  abbrev first_block : TBlock
  first_block = by_rules.main_block.block

  at_first : slice_get P.blocks 0 ≡ Some first_block
  at_first = by_rules.main_block.found

  abbrev n : ℕ
  n = suc (length p.blocks)

  -- the entries of a run, by the credit of the calls
  most : (m : ℕ) (s : State) (z : Place) (run : After P m s z) (k : ℕ) →
      count k (entries P m s z run) ≤ limit p main P by_rules k (log_of (meaning p main m))
  most m s z run k =
      counts_from p main P by_rules k m _ (run_logged runs halts steps P whole acc first_block at_first m s z run)
      (meaning p main m) (never m) (follows p main P by_rules k m)

  forth : (c : ℕ) (i : ℤ) (log : List ℕ) → meaning p main c ≡ Halted i log → M.Halts P i
  forth c i log e = go (subst (Follows (erase_blocks P) 0 (limit p main P by_rules 0) (begins p main P by_rules 0) c)
      e (follows p main P by_rules 0 c))
    where
      go : Follows (erase_blocks P) 0 (limit p main P by_rules 0) (begins p main P by_rules 0) c (Halted i log) →
          M.Halts P i
      go f = typed f.state f.runs f.answers
        where
          typed : (t : LState) → after (erase_blocks P) f.steps (begins p main P by_rules 0) ≡ Some t → HaltsAt t i →
              M.Halts P i
          typed (On x tlog) r a = (
            f.steps,
            halts_typed runs halts steps P whole acc first_block at_first f.steps x
                tlog i r a,
          )

  back : (m : ℕ) (i : ℤ) → HaltsWithin P m i → (log : List ℕ) × (meaning p main m ≡ Halted i log)
  back m i h =
      let x = typed_halts runs halts steps P whole acc first_block at_first m i h in
      back_from p main P by_rules 0 m x.0 i x.1 x.2 x.3 x.4 (meaning p main m) (never m) (follows p main P by_rules 0 m)

  entries_most : (m : ℕ) (s : State) (z : Place) (run : After P m s z) (k l : ℕ) (b : ABlk) →
      MadeOf p.blocks (n + thirds main) k l b → Entries P m s z run k ≤ count l (log_of (meaning p main m))
  entries_most m s z run k l b o =
      let x = most m s z run k in
      let past : length p.blocks < (n + thirds main) = omega arith in
      let g = first_least p.blocks (n + thirds main) l in
      let far = own_far p.blocks (n + thirds main) k l b past o n (thirds main) refl refl in
      let no : k ≡ 0 → ⊥ = λ e. ⊎_elim (λ y. absurd (omega arith)) (λ y. absurd (omega (arith, g))) o.own in
      let first = ap one (ne_eqb k 0 no) in
      let y = credit_most p.blocks (n + thirds main) k l b past o (budget p main P by_rules k)
      (omega (arith, far, first)) (log_of (meaning p main m)) in
      omega (arith, x, y, count_same k (entries P m s z run))

  main_most : (m : ℕ) (s : State) (z : Place) (run : After P m s z) (k : ℕ) → FromMain p main k →
      Entries P m s z run k ≤ 1
  main_most m s z run k o = ⊎_elim
      (λ (e : k ≡ 0).
      let x = most m s z run 0 in
      let y = credit_zero p.blocks (n + thirds main) (budget p main P by_rules 0) (log_of (meaning p main m))
      (omega arith) in
      let r = spare_out 0 n (thirds main) (inl (omega arith)) in
      let c = count_same 0 (entries P m s z run) in
      let one0 : one (0 == 0) ≡ 1 = refl in
      let same = ap (Entries P m s z run) e in
      omega (arith, x, y, r, c, same, one0))
      (λ (gt : length p.blocks < k).
      let x = most m s z run k in
      let y = credit_main p.blocks (n + thirds main) k gt o.0 (budget p main P by_rules k)
      (log_of (meaning p main m)) in
      let first = ap one (ne_eqb k 0 (λ z. absurd (omega arith))) in
      omega (arith, x, y, first, spare_one k n (thirds main), count_same k (entries P m s z run)))
      o.1

  pub keeps : Keeps p main P
  keeps = record {
    forth = forth;
    back = back;
    entries = entries_most;
    main_entries = main_most;
    places = λ m s z run k l i b o. omega (arith, times P m s z run k i, entries_most m s z run k l b o);
    main_places = λ m s z run k i o. omega (arith, times P m s z run k i, main_most m s z run k o);
  }
