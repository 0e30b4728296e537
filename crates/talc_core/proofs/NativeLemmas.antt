-- Native code of what `compile` wrote: its processes are those of the source; and of any text: they show what `run`
-- shows.
use Rattle.std.proofs.Common.{◌≡◌, ◌⊎◌, ℕ, ℤ, List, inl, inr, refl, sym, subst, arith}
use Rattle.std.proofs.Math.Logic.{∥∥₁_map, ∥∥₁_map₂}
use Rattle.f_terms.specs.Tm.{Term, plain}
use Rattle.t_terms.specs.Spanned.{SProg, plain_program}
use Rattle.t_terms.specs.Tree.{TProg}
use Rattle.t_rules.specs.Machine.{Halts, HaltsWithin}
use Rattle.pipeline.specs.Meaning.{SameMeaning}
use Rattle.w_print.specs.Blocks.{integer_line}
use Rattle.w_laws.specs.Built.{full_line}
use Rattle.x_terms.specs.Machine.{Image, State, Answer, Call, Outcome, Next, Exits, Stuck, run}
use Rattle.x_terms.specs.Process.{EndedSo, Ends, EndsFull, EndsWithLine, IsSound, IsProcessOf}
use Rattle.x_terms.specs.Told.{AllWritten}
use Rattle.x_terms.specs.Elf.{IsStart, image}
use Rattle.native.specs.Native.{IsNative}
use Rattle.talc_core.specs.FirstFault.{IsAcceptedText}
use Rattle.talc_core.specs.NativeText.{HasValue, NativeRunsTheSame, NativeShowsTheSame}
use Rattle.talc_core.specs.Shown.{HaltedShown}
use Rattle.talc_core.specs.TextLaws.{TextLaws}
use Rattle.talc_core.proofs.CompositionLemmas.{means}
use Rattle.talc_core.proofs.FaultLemmas.{same_program}

module _ (A B : ℤ → Type 0) (line : ℤ → List ℕ) (full : List ℕ) (onto : (i : ℤ) → A i → B i)
    (back : (i : ℤ) → B i → A i) where
  sound : (o : Outcome) → IsSound A line full o → IsSound B line full o
  sound (Next s) (inl none) = inl none
  sound (Next s) (inr (inl told)) = inr (inl (told.0, onto told.0 told.1, told.2))
  sound (Next s) (inr (inr told)) = inr (inr told)
  sound (Exits status calls) (inl ends) = inl (ends.0, onto ends.0 ends.1, ends.2, ends.3)
  sound (Exits status calls) (inr (inl ends)) = inr (inl (ends.0, onto ends.0 ends.1, ends.2, ends.3))
  sound (Exits status calls) (inr (inr ends)) = inr (inr ends)
  sound Stuck h = h

  -- a process of one program is that of another that halts with the same integers
  same_process : (m : Image) (s : State) → IsProcessOf A line full m s → IsProcessOf B line full m s
  same_process m s p = record {
    back = λ world k. sound (run m world k s) (p.back world k);
    forth = λ world i h. p.forth world i (back i h);
    goes_on = λ world never k. p.goes_on world (λ i h. never i (onto i h)) k;
  }

of_source : (e : Term) (P : TProg) (m : Image) (s : State) → IsProcessOf (Halts P) integer_line full_line m s →
    SameMeaning e P → IsProcessOf (HasValue e) integer_line full_line m s
of_source e P m s process same =
    same_process (Halts P) (HasValue e) integer_line full_line (λ i h. (h.0, same.back h.0 i h.1))
    (λ i h. same.forth h.0 i h.1) m s process

pub native_shows_the_same : TextLaws → NativeShowsTheSame
native_shows_the_same laws source target file heap made native term checked s start =
    let P = plain_program native.program in
    ∥∥₁_map₂ native.native (means laws source target made term checked native.program native.accepted)
    (λ is same. of_source (plain term) P (image file) s (is.runs s start) same)

-- a process that has ended with 0 has written the line of an integer
module _ (A : ℤ → Type 0) (line : ℤ → List ℕ) (full : List ℕ) where
  written_at_zero : (calls : List Call) → EndedSo A line full 0 calls → (i : ℤ) × A i × AllWritten 1 (line i) calls
  written_at_zero calls (inl ends) = (ends.0, ends.1, ends.3)
  written_at_zero calls (inr (inl ends)) = absurd (omega (arith, ends.2))
  written_at_zero calls (inr (inr ends)) = absurd (omega (arith, ends.0))

  written : (m : Image) (s : State) → IsProcessOf A line full m s → (world : ℕ → Answer) (calls : List Call) →
      Ends m world s 0 calls → (i : ℤ) × A i × AllWritten 1 (line i) calls
  written m s p world calls ends =
      written_at_zero calls (subst (IsSound A line full) ends.1 (p.back world ends.0))

module _ (source file : List ℕ) (heap : ℕ) (program : SProg) (accepted : IsAcceptedText source program)
    (native : IsNative heap (plain_program program) file) (s : State) (start : IsStart file s) (world : ℕ → Answer) where
  abbrev P : TProg
  P = plain_program program

  shows_run : (ran : List ℕ) (i : ℤ) → ran ≡ integer_line i → Halts P i →
      EndsWithLine (image file) world s ran ⊎ EndsFull (image file) world s full_line
  shows_run ran i is halts =
      subst (λ line. EndsWithLine (image file) world s line ⊎ EndsFull (image file) world s full_line) (sym is)
      ((native.runs s start).forth world i halts)

  run_shows : (calls : List Call) → Ends (image file) world s 0 calls →
      (fuel : ℕ) × (ran : List ℕ) × HaltedShown fuel source ran × AllWritten 1 ran calls
  run_shows calls ends =
      let told = written (Halts P) integer_line full_line (image file) s (native.runs s start) world calls ends in
      let halts : Halts P told.0 = told.1 in (
        halts.0,
        integer_line told.0,
        record { program = program; value = told.0; accepted = accepted; halts = halts.1; is = refl },
        told.2,
      )

pub native_runs_the_same : TextLaws → NativeRunsTheSame
native_runs_the_same laws source file heap native s start world = (
  λ fuel ran shown.
      let same = same_program laws source shown.program native.program shown.accepted.0 native.accepted.0 in
      ∥∥₁_map native.native (λ is.
      shows_run source file heap native.program native.accepted is s start world ran shown.value shown.is
      (fuel, subst (λ p. HaltsWithin (plain_program p) fuel shown.value) same shown.halts)),
  λ calls ends.
      ∥∥₁_map native.native (λ is.
      run_shows source file heap native.program native.accepted is s start world calls ends),
)
