-- What the steps of `gen` come to: the source of a seed is a program, so that nothing but want of memory stops them.
use Rattle.std.proofs.Common.{◌≡◌, ◌+◌, ◌*◌, ℕ, ℤ, false, List, length, Result, Ok, Err, Vec, sym, ◌∙◌, ap, subst}
use Rattle.std.proofs.Common.{arith}
use Rattle.std.specs.declared.alloc.Global.{Global}
use Rattle.std.proofs.Math.Logic.{∥∥₁_elim}
use Rattle.std.proofs.Math.IntN.{ℤ_set}
use Rattle.f_terms.specs.Ty.{TInt}
use Rattle.f_terms.specs.Tm.{Tm, plain}
use Rattle.f_terms.specs.Cells.{has_cells}
use Rattle.f_terms.specs.Eval.{Empty, VInt, Gives, Spent, eval, IsSpent}
use Rattle.f_terms.specs.Laws.{MoreTurnsKeepTheValue, OneAnswer}
use Rattle.t_terms.specs.Spanned.{SProg, plain_program}
use Rattle.t_terms.specs.ReadProgram.{spanned_program}
use Rattle.t_rules.specs.Machine.{Halts, HaltsWithin}
use Rattle.t_rules.specs.Times.{program_size}
use Rattle.f_terms.specs.ReadTerm.{spanned}
use Rattle.f_check.specs.Typed.{program_term}
use Rattle.f_check.specs.declared.typed.Program.{Program}
use Rattle.t_check.specs.Checked.{checked_program}
use Rattle.t_check.specs.declared.checked.Checked.{Checked}
use Rattle.f_seeds.specs.Source.{source as source_of}
use Rattle.f_seeds.specs.Laws.{SourcesArePrograms}
use Rattle.talc_core.specs.declared.fault.Fault.{Fault}
use Rattle.talc_core.specs.declared.refusal.Refusal.{Refusal}
use Rattle.talc_core.specs.declared.refusal.Refusal.TheVariants as refusal
use Rattle.talc_core.specs.FirstFault.{AProgram, AnAssembly, FirstFault, IsChecked, IsAcceptedText, IsTaken}
use Rattle.talc_core.specs.FirstFault.{NoFaultWhereTaken}
use Rattle.talc_core.specs.Compiled.{IsCompiled}
use Rattle.talc_core.specs.Lines.{seed_lines}
use Rattle.talc_core.specs.Shown.{seed_turns, SeedShown}
use Rattle.talc_core.specs.CompiledText.{CompiledText}
use Rattle.talc_core.specs.OnTexts.{RefusedBy, MakesText}
use Rattle.talc_core.specs.Steps.{ReadsProgram, ChecksAssembly, WantsMemory, OrMemory, Evaluated, HaltsSoonEnough}
use Rattle.talc_core.specs.TextLaws.{TextLaws}
use Rattle.talc_core.proofs.FaultLemmas.{same_term}
use Rattle.talc_core.proofs.RunLemmas.{going_not_halted}
use Rattle.talc_core.proofs.CompositionLemmas.{compiled_is_taken, compiled_means_the_same, compiled_halts}

taken : SourcesArePrograms → (seed : ℕ) → IsTaken AProgram (source_of seed)
taken programs seed = let p = programs seed in (p.0, (p.1, p.2))

no_seed_fault : NoFaultWhereTaken → SourcesArePrograms → (seed : ℕ) (text : List ℕ) → text ≡ source_of seed →
    (fault : Fault) → FirstFault AProgram text fault → ⊥
no_seed_fault no_fault programs seed text is fault first =
    no_fault AProgram (source_of seed) fault (taken programs seed) (subst (λ t. FirstFault AProgram t fault) is first)

-- it is refused for want of memory alone
refused : NoFaultWhereTaken → SourcesArePrograms → (seed : ℕ) (text : List ℕ) → text ≡ source_of seed →
    (why : Refusal) → RefusedBy AProgram text why → WantsMemory why
refused no_fault programs seed text is (refusal.Fault fault) first =
    no_seed_fault no_fault programs seed text is fault first
refused no_fault programs seed text is refusal.Memory first = tt

pub compiles : NoFaultWhereTaken → SourcesArePrograms → (seed : ℕ) (text : List ℕ) → text ≡ source_of seed →
    (r : Result (Vec ℕ Global) Refusal) → MakesText CompiledText AProgram text r →
    OrMemory (λ target. CompiledText (source_of seed) target.items) r
compiles no_fault programs seed text is (Ok target) made = subst (λ t. CompiledText t target.items) is made
compiles no_fault programs seed text is (Err why) first = refused no_fault programs seed text is why first

pub reads : NoFaultWhereTaken → SourcesArePrograms → (seed : ℕ) (text : List ℕ) → text ≡ source_of seed →
    (r : Result Program Refusal) → ReadsProgram text r →
    OrMemory (λ program. IsChecked (source_of seed) (spanned (program_term program)) TInt) r
reads no_fault programs seed text is (Ok program) checked =
    subst (λ t. IsChecked t (spanned (program_term program)) TInt) is checked
reads no_fault programs seed text is (Err why) first = refused no_fault programs seed text is why first

-- the source of a seed has no cells
pub no_cells : TextLaws → SourcesArePrograms → (seed : ℕ) (term : Tm) → IsChecked (source_of seed) term TInt →
    has_cells (plain term) ≡ false
no_cells laws programs seed term checked =
    let p = programs seed in
    let same : p.0 ≡ term = same_term laws (source_of seed) p.0 term p.1 checked.0 in
    subst (λ (t : Tm). has_cells (plain t) ≡ false) same p.3

-- the turns suffice
pub not_spent : TextLaws → SourcesArePrograms → MoreTurnsKeepTheValue → (seed : ℕ) (term : Tm) →
    IsChecked (source_of seed) term TInt → IsSpent (plain term) seed_turns → ⊥
not_spent laws programs more seed term checked spent =
    let p = programs seed in
    let same : p.0 ≡ term = same_term laws (source_of seed) p.0 term p.1 checked.0 in
    let found = p.4 in
    let left = found.1.0 in
    let st = found.1.1.0 in
    let value : eval 1280 Empty Empty (plain p.0) ≡ Gives (VInt found.0) left st = found.1.1.1 in
    let longer : eval 1000000 Empty Empty (plain p.0) ≡ Gives (VInt found.0) (left + 998720) st =
    more 1280 998720 left Empty Empty (plain p.0) (VInt found.0) st value in
    let over : eval 1000000 Empty Empty (plain p.0) ≡ Spent =
    subst (λ t. eval 1000000 Empty Empty (plain t) ≡ Spent) (sym same) spent in
    let e : Gives (VInt found.0) (left + 998720) st ≡ Spent = sym longer ∙ over in
    cc

-- what is compiled is accepted
pub target_taken : (source target : List ℕ) → IsCompiled source target → IsTaken AnAssembly target
target_taken source target made = compiled_is_taken source target made

pub checks : NoFaultWhereTaken → (target : List ℕ) → IsTaken AnAssembly target → (r : Result Checked Refusal) →
    ChecksAssembly target r → OrMemory (λ checked. IsAcceptedText target (spanned_program (checked_program checked))) r
checks no_fault target taken (Ok checked) accepted = accepted
checks no_fault target taken (Err (refusal.Fault fault)) first = no_fault AnAssembly target fault taken first
checks no_fault target taken (Err refusal.Memory) why = tt

-- and halts
pub soon : TextLaws → (seed : ℕ) (target : List ℕ) → IsCompiled (source_of seed) target → (value : ℤ) (used : ℕ) →
    Evaluated seed value used → (program : SProg) → IsAcceptedText target program →
    HaltsSoonEnough (plain_program program)
soon laws seed target made value used evaluated program accepted fuel enough goes_on =
    let P = plain_program program in
    let halts : HaltsWithin P ((seed_turns + 1) * program_size P) value =
    compiled_halts laws (source_of seed) target made evaluated.term evaluated.checked seed_turns value
    (evaluated.left, evaluated.evaluates) program accepted in
    let most = halts.1 in
    going_not_halted laws P halts.0 fuel value halts.2 goes_on (omega (arith, most, enough))

same_value : TextLaws → OneAnswer → (seed : ℕ) (target : List ℕ) → IsCompiled (source_of seed) target →
    (value : ℤ) (used : ℕ) → Evaluated seed value used → (program : SProg) → IsAcceptedText target program →
    (halted : ℤ) → Halts (plain_program program) halted → halted ≡ value
same_value laws one seed target made value used evaluated program accepted halted halts =
    ∥∥₁_elim (compiled_means_the_same laws (source_of seed) target made evaluated.term evaluated.checked program
    accepted) (ℤ_set halted value) (λ same.
    one (plain evaluated.term) halts.0 seed_turns halted value (same.back halts.0 halted halts.1)
    (evaluated.left, evaluated.evaluates))

pub shown : TextLaws → OneAnswer → (seed : ℕ) (target : List ℕ) → CompiledText (source_of seed) target →
    (value : ℤ) (used : ℕ) → Evaluated seed value used → (program : SProg) → IsAcceptedText target program →
    (halted : ℤ) → Halts (plain_program program) halted → (text lines : List ℕ) → text ≡ source_of seed →
    lines ≡ seed_lines (length text) value used halted → SeedShown seed lines
shown laws one seed target made value used evaluated program accepted halted halts text lines text_is lines_are =
    let same = same_value laws one seed target made.compiled value used evaluated program accepted halted halts in
    record {
      term = evaluated.term;
      value = value;
      used = used;
      left = evaluated.left;
      target = target;
      program = program;
      checked = evaluated.checked;
      evaluates = evaluated.evaluates;
      turns_used = evaluated.turns_used;
      compiled = made;
      accepted = accepted;
      halts = subst (λ i. Halts (plain_program program) i) same halts;
      is = lines_are
          ∙ (ap (λ (t : List ℕ). seed_lines (length t) value used halted) text_is
          ∙ ap (λ i. seed_lines (length (source_of seed)) value used i) same);
    }
