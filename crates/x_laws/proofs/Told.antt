-- What was written stays written: calls only grow, and what is told before an end is a part of what is told then.
use Rattle.std.proofs.Common.{◌≡◌, ℕ, zero, suc, ◌+◌, ◌%◌, ◌==◌, ◌||◌, ◌&&◌, nat_le, List, [], ◌∷◌, ◌++◌, length, Bool}
use Rattle.std.proofs.Common.{true, false, cond, Option, Some}
use Rattle.std.proofs.Common.{None, refl, ap, sym, ◌∙◌, subst, arith, inl, inr, append_assoc}
use Rattle.std.proofs.lemmas.List.{append-nil}
use Rattle.x_terms.specs.Machine.{Image, State, Answer, Call, Wrote, Outcome, Next, Exits, Stuck, effect, fetch}
use Rattle.x_terms.specs.Machine.{fetched}
use Rattle.x_terms.specs.Machine.{step, run, after, write, jump_if, is_word, are_bytes, address, word, plus, result}
use Rattle.x_terms.specs.Machine.{bytes}
use Rattle.x_terms.specs.Told.{AllTo, taken, AllWritten, PartWritten, CutShort}
use Rattle.x_terms.specs.declared.register.Register.TheVariants.{Rax, Rdx, Rsi, Rdi}
use Rattle.x_terms.specs.declared.instr.Condition.{Condition}
use Rattle.x_terms.specs.declared.instr.Instr.{Instr}
use Rattle.x_terms.specs.declared.instr.Instr.TheVariants.{Const, Mov, Load, Store, Lea, Arith, Imul, Shift, Test, Jmp}
use Rattle.x_terms.specs.declared.instr.Instr.TheVariants.{Jcc, JmpReg, Syscall}
use Rattle.x_laws.specs.Laws.{EndsLike, ToldLike}
use Rattle.w_terms.specs.Machine.{Written, Put}

abbrev pub Grows : List Call → List Call → Type 0
Grows old new = (more : List Call) × (new ≡ more ++ old)

-- the calls of an outcome continue these
abbrev pub Continues : List Call → Outcome → Type 0
Continues old (Next t) = Grows old t.calls
Continues old (Exits status calls) = Grows old calls
Continues old Stuck = Unit {0}

same : (old : List Call) → Grows old old
same old = ([], refl)

-- ---- one step

checked : (b : Bool) (old : List Call) (o : Outcome) → Continues old o → Continues old (cond b o Stuck)
checked true old o h = h
checked false old o h = tt

jumps : (s : State) (n to : ℕ) (e : Condition) (f : Option (ℕ × ℕ)) → Continues s.calls (jump_if s n to e f)
jumps s n to e None = tt
jumps s n to e (Some f) = same s.calls

writes : (m : Image) (w : Answer) (s : State) (n : ℕ) → Continues s.calls (write m w s n)
writes m w s n =
    let bs : List ℕ = cond (nat_le (result w) (s.registers Rdx)) (bytes s.memory (s.registers Rsi) (result w)) [] in
    let new : Call = Wrote (s.registers Rdi) bs in
    let more : Grows s.calls (new ∷ s.calls) = (new ∷ [], refl) in
    let asked : Bool = are_bytes m (s.registers Rsi) (s.registers Rdx) in
    checked ((s.registers Rdi == 1 || s.registers Rdi == 2) && asked) s.calls _ more

called : (m : Image) (w : Answer) (s : State) (n : ℕ) (b c : Bool) →
    Continues s.calls (cond b (write m w s n) (cond c (Exits (s.registers Rdi % 256) s.calls) Stuck))
called m w s n true c = writes m w s n
called m w s n false true = same s.calls
called m w s n false false = tt

does : (m : Image) (w : Answer) (s : State) (n : ℕ) (i : Instr) → Continues s.calls (effect m w s n i)
does m w s n (Const r i) = same s.calls
does m w s n (Mov r v) = same s.calls
does m w s n (Load r a) = checked (is_word m (address s.registers a)) s.calls _ (same s.calls)
does m w s n (Store a r) = checked (is_word m (address s.registers a)) s.calls _ (same s.calls)
does m w s n (Lea r a) = same s.calls
does m w s n (Arith o r v) = same s.calls
does m w s n (Imul r q) = same s.calls
does m w s n (Shift k r i) = same s.calls
does m w s n (Test r q) = same s.calls
does m w s n (Jmp d) = same s.calls
does m w s n (Jcc e d) = jumps s n (plus n (word d)) e s.flags
does m w s n (JmpReg r) = same s.calls
does m w s n Syscall = called m w s n (s.registers Rax == 1) (s.registers Rax == 60)

fetched_so : (m : Image) (w : Answer) (s : State) (o : Option (Instr × ℕ)) → Continues s.calls (fetched m w s o)
fetched_so m w s None = tt
fetched_so m w s (Some x) = does m w s (s.place + x.1) x.0

-- ---- runs

further : (old mid : List Call) (o : Outcome) → Grows old mid → Continues mid o → Continues old o
further old mid (Next t) g h = (h.0 ++ g.0, h.1 ∙ ap (λ c. h.0 ++ c) g.1 ∙ sym (append_assoc h.0 g.0 old))
further old mid (Exits status calls) g h = (h.0 ++ g.0, h.1 ∙ ap (λ c. h.0 ++ c) g.1 ∙ sym (append_assoc h.0 g.0 old))
further old mid Stuck g h = tt

module _ (m : Image) (world : ℕ → Answer) where
  then_so : (k : ℕ) (old : List Call) (o : Outcome) → ((s : State) → Continues s.calls (run m world k s)) →
      Continues old o → Continues old (after o (run m world k))
  then_so k old (Next t) rec h = further old t.calls (run m world k t) h (rec t)
  then_so k old (Exits status calls) rec h = h
  then_so k old Stuck rec h = tt

  pub continues : (k : ℕ) (s : State) → Continues s.calls (run m world k s)
  continues zero s = same s.calls
  continues (suc k) s =
      then_so k s.calls (step m (world (length s.calls)) s) (λ t. continues k t)
      (fetched_so m (world (length s.calls)) s (fetch m s.place))

  apart : (k j : ℕ) (o : Outcome) → ((s : State) → run m world (k + j) s ≡ after (run m world k s) (run m world j)) →
      after o (run m world (k + j)) ≡ after (after o (run m world k)) (run m world j)
  apart k j (Next t) rec = rec t
  apart k j (Exits status calls) rec = refl
  apart k j Stuck rec = refl

  -- so many steps, and then more
  pub run_on : (k j : ℕ) (s : State) → run m world (k + j) s ≡ after (run m world k s) (run m world j)
  run_on zero j s = let none : 0 + j ≡ j = omega arith in ap (λ i. run m world i s) none
  run_on (suc k) j s =
      let more : suc k + j ≡ suc (k + j) = omega arith in
      ap (λ i. run m world i s) more
      ∙ apart k j (step m (world (length s.calls)) s) (λ t. run_on k j t)

-- ---- parts of what is told

nothing : (more old : List Call) → more ++ old ≡ [] → old ≡ []
nothing [] old e = e
nothing (c ∷ more) old e = absurd (cc)

pub nothing_before : {old new : List Call} → Grows old new → new ≡ [] → old ≡ []
nothing_before {old} g e = nothing g.0 old (sym g.1 ∙ e)

taken_both : (more old : List Call) → taken (more ++ old) ≡ taken old ++ taken more
taken_both [] old = sym (append-nil (taken old))
taken_both (Wrote f bs ∷ more) old =
    ap (λ x. x ++ bs) (taken_both more old) ∙ append_assoc (taken old) (taken more) bs

to_before : (file : ℕ) (more old : List Call) → AllTo file (more ++ old) → AllTo file old
to_before file [] old h = h
to_before file (Wrote f bs ∷ more) old h = to_before file more old h.1

part_by : (file : ℕ) (line : List ℕ) (more old : List Call) → PartWritten file line (more ++ old) →
    PartWritten file line old
part_by file line more old h = (
  to_before file more old h.0,
  taken more ++ h.1,
  h.2 ∙ ap (λ x. x ++ h.1) (taken_both more old) ∙ append_assoc (taken old) (taken more) h.1,
)

part_before : (file : ℕ) (line : List ℕ) (old new : List Call) → Grows old new → PartWritten file line new →
    PartWritten file line old
part_before file line old new g h = part_by file line g.0 old (subst (PartWritten file line) g.1 h)

all_is_part : (file : ℕ) (line : List ℕ) (calls : List Call) → AllWritten file line calls → PartWritten file line calls
all_is_part file line calls h = (h.0, [], sym h.1 ∙ sym (append-nil (taken calls)))

cut_is_part : (file : ℕ) (line : List ℕ) (calls : List Call) → CutShort file line calls → PartWritten file line calls
cut_is_part file line calls h =
    subst (PartWritten file line) (sym h.last)
    ((refl, h.files), h.rest, h.is ∙ ap (λ x. x ++ h.rest) (sym (append-nil (taken h.before))))

pub told_before : (status : ℕ) (out : List Written) (k : ℕ) (old new : List Call) → Grows old new →
    EndsLike status out k new → ToldLike out old
told_before status [] k old new g e = nothing_before g e.1
told_before status (Put file bytes ∷ []) k old new g (inl e) =
    part_before file bytes old new g (all_is_part file bytes new e.1)
told_before status (Put file bytes ∷ []) k old new g (inr e) =
    part_before file bytes old new g (cut_is_part file bytes new e.1)
told_before status (Put file bytes ∷ (w ∷ more)) k old new g e = absurd e
