-- What the checking of an assembly text says of its program.
use Rattle.std.proofs.Common.{◌≡◌, ◌≤◌, ℕ, List, refl, sym, subst, inr}
use Rattle.t_terms.specs.ReadProgram.{program, spanned_program}
use Rattle.t_terms.specs.Whole.{WellFormedProgram}
use Rattle.t_text.specs.Text.{most_open, ReadsBack}
use Rattle.t_terms.specs.Nesting.{nesting}
use Rattle.t_text.specs.NestingLaws.{KeepsByNesting}
use Rattle.t_terms.specs.declared.program.TProgram.{TProgram}
use Rattle.t_terms.specs.declared.fault.TFault.{TFault}
use Rattle.t_terms.specs.declared.fault.TFault.TheVariants.{Memory, Refused}
use Rattle.t_rules.specs.Faults.{ProgramFault}
use Rattle.t_rules.specs.LawsSound.{NothingSticks}
use Rattle.t_check.specs.Verdict.{Says}
use Rattle.t_writer.specs.Lexeme.{render}
use Rattle.t_writer.specs.Written.{second_written}
use Rattle.talc_core.specs.declared.refusal.Refusal.{Refusal}
use Rattle.talc_core.specs.FirstFault.{AnAssembly, IsAssembly, IsAcceptedText}
use Rattle.talc_core.specs.Failures.{refusal_of_assembly}
use Rattle.talc_core.specs.OnTexts.{RefusedBy}
use Rattle.talc_core.specs.Upgraded.{IsUpgraded}
use Rattle.talc_core.proofs.WrittenLemmas.{written}
use Rattle.talc_core.specs.Lines.{accepted_line}
use Rattle.talc_core.specs.Shown.{AcceptedShown}

-- a text is refused whose program is
pub refused : (text : List ℕ) (p : TProgram) (fault : TFault) (why : Refusal) → IsAssembly text (spanned_program p) →
    Says fault (ProgramFault (spanned_program p)) → why ≡ refusal_of_assembly fault → RefusedBy AnAssembly text why
refused text p Memory why read says is = subst (RefusedBy AnAssembly text) (sym is) tt
refused text p (Refused code span) why read says is =
    subst (RefusedBy AnAssembly text) (sym is)
    (inr (record { program = spanned_program p; read = read; fault = says }))

pub accepted_shown : NothingSticks → (text line : List ℕ) (p : TProgram) → WellFormedProgram (program p) →
    IsAcceptedText text (spanned_program p) → line ≡ accepted_line → AcceptedShown text line
accepted_shown sticks text line p whole accepted is = record {
  program = spanned_program p;
  accepted = accepted;
  never_sticks = sticks (program p) whole accepted.1;
  is = is;
}

-- what is written of the program of a text that was read keeps the limit on open constructs, as that text does
pub upgraded : KeepsByNesting → (text target : List ℕ) (p q : TProgram) → q ≡ p →
    IsAcceptedText text (spanned_program p) → target ≡ render (second_written (program q)) →
    (nesting (program q) ≤ most_open → ReadsBack target (program q)) → IsUpgraded text target
upgraded keeps text target p q same accepted is reads =
    let stands = accepted.0.stands in
    let within : nesting (program p) ≤ most_open =
    (keeps text (program p) (spanned_program p, stands, refl)).0 accepted.0.within in
    record {
      program = spanned_program p;
      accepted = accepted;
      whole = p.whole;
      written = written target p q same within is reads;
    }
