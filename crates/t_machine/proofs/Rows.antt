-- Worked examples: what the steps of a program allocate, and an address.
use Rattle.std.proofs.Common.{◌≡◌, ℕ, zero, suc, ◌+◌, ◌≤◌, [], ◌∷◌, Some, refl, sym, ap, ◌∙◌, subst, arith, inl, inr}
use Rattle.std.proofs.Common.{◌⊎◌, ⊎_elim, slice_get}
use Rattle.t_types.specs.Tree.{IntTy, NoRegs}
use Rattle.t_terms.specs.Tree.{Label, Plain, Malloc, Jmp, TSeq, Then, Ends, TBlock, TProg}
use Rattle.t_terms.specs.Registers.{inst_seq}
use Rattle.t_rules.specs.Machine.{LabelWord, Heap, RegWords, State, At, Where, Place, Step, After, start_heap, no_words}
use Rattle.t_collect.specs.Words.{address_of, tuple_of, start_of}
use Rattle.t_machine.specs.Room.{asked_next, tuples_wanted, fields_wanted, tuples_made, fields_made, Covers}

-- A program that allocates at every second step. Its text, with a bar for a line end:
-- tal 1 | L0: code[]{}. malloc r1[int] jmp L0
abbrev jump : TSeq
jump = Ends (Jmp (Plain (Label 0) []))

abbrev body : TSeq
body = Then (Malloc 1 (IntTy ∷ [])) jump

abbrev only : TBlock
only = record { owes = 0; file = NoRegs; code = body }

abbrev taking : TProg
taking = record { blocks = only ∷ []; heap = [] }

-- after j steps, which have allocated t tuples and f fields, it stands before its `malloc`, or behind it
abbrev Before : (j t f : ℕ) → State → Type 0
Before j t f s = (h : Heap) × (r : RegWords) × (s ≡ At h r body) × (j ≡ t + t) × (f ≡ t)

abbrev Behind : (j t f : ℕ) → State → Type 0
Behind j t f s = (h : Heap) × (r : RegWords) × (s ≡ At h r jump) × (j + 1 ≡ t + t) × (f ≡ t)

allocated : (j t f : ℕ) (a : State) (k : Where) (s : State) → Before j t f a → Step taking a k s →
    Behind (suc j) (t + tuples_wanted (asked_next a)) (f + fields_wanted (asked_next a)) s
allocated j t f a k s b step =
    let go : Step taking (At b.0 b.1 body) k s = subst (λ z. Step taking z k s) b.2 step in
    let tuples : tuples_wanted (asked_next a) ≡ 1 = ap (λ z. tuples_wanted (asked_next z)) b.2 in
    let fields : fields_wanted (asked_next a) ≡ 1 = ap (λ z. fields_wanted (asked_next z)) b.2 in
    let steps = b.3 in
    let same = b.4 in
    (_, _, go.1, omega arith, omega arith)

jumped : (j t f : ℕ) (a : State) (k : Where) (s : State) → Behind j t f a → Step taking a k s →
    Before (suc j) (t + tuples_wanted (asked_next a)) (f + fields_wanted (asked_next a)) s
jumped j t f a k s b step =
    let go : Step taking (At b.0 b.1 jump) k s = subst (λ z. Step taking z k s) b.2 step in
    let tuples : tuples_wanted (asked_next a) ≡ 0 = ap (λ z. tuples_wanted (asked_next z)) b.2 in
    let fields : fields_wanted (asked_next a) ≡ 0 = ap (λ z. fields_wanted (asked_next z)) b.2 in
    let steps = b.3 in
    let same = b.4 in
    let entry = go.4 in
    let word : LabelWord 0 [] ≡ LabelWord go.1 entry.0 = sym go.3 ∙ entry.2 in
    let label : 0 ≡ go.1 = cc in
    let types : entry.0 ≡ [] = cc in
    let here : Some only ≡ Some entry.1 = ap (slice_get taking.blocks) label ∙ entry.3 in
    let block : only ≡ entry.1 = cc in
    let code : go.2 ≡ body = entry.5 ∙ ap (λ z. inst_seq z entry.1.owes entry.1.code) types
    ∙ ap (λ z. z.code) (sym block) in
    (b.0, b.1, go.6 ∙ ap (At b.0 b.1) code, omega arith, omega arith)

taken : (j : ℕ) (s : State) (p : Place) (run : After taking j s p) → Before j (tuples_made taking j j s p run)
    (fields_made taking j j s p run) s ⊎ Behind j (tuples_made taking j j s p run) (fields_made taking j j s p run) s
taken zero s p run =
    let e = run.0.1 in
    let block : only ≡ run.0.0 = cc in
    inl (
      start_heap taking,
      no_words,
      run.0.2 ∙ ap (λ z. At (start_heap taking) no_words z.code)
          (sym block),
      refl,
      refl,
    )
taken (suc j) s p run = ⊎_elim
    (λ z. inr (allocated j _ _ run.0 run.2 s z run.4))
    (λ z. inl (jumped j _ _ run.0 run.2 s z run.4))
    (taken j run.0 run.1 run.3)

-- any n + n steps of it allocate at most n tuples and n fields
within : (n j : ℕ) → j ≤ n + n → (s : State) (p : Place) (run : After taking j s p) →
    (tuples_made taking j j s p run ≤ n) × (fields_made taking j j s p run ≤ n)
within n j le s p run =
    let t = tuples_made taking j j s p run in
    let f = fields_made taking j j s p run in
    ⊎_elim
    (λ (z : Before j t f s). let steps = z.3 in let same = z.4 in (omega arith, omega arith))
    (λ (z : Behind j t f s). let steps = z.3 in let same = z.4 in (omega arith, omega arith))
    (taken j s p run)

Limits : (n j k : ℕ) → Type 0
Limits n j k = (s : State) (p : Place) (run : After taking k s p) → (tuples_made taking j k s p run ≤ n) ×
    (fields_made taking j k s p run ≤ n)

taking_covered : (n : ℕ) → Covers taking 0 (n + n) n n
unfolding Limits
taking_covered n j s p run le = let all : j ≡ 0 + j = omega arith in subst (Limits n j) all (within n j le) s p run

-- so 1,000 spare tuples and fields are enough for 2,000 steps from its start on
pub a_thousand_are_enough : Covers taking 0 2000 1000 1000
a_thousand_are_enough = taking_covered 1000

-- the address of tuple 3, whose fields start at cell 7, tells both
pub an_address : (address_of 3 7 ≡ 12884901895) × (tuple_of 12884901895 ≡ 3) × (start_of 12884901895 ≡ 7)
an_address = (refl, refl, refl)
