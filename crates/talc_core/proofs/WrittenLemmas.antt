-- Texts that are written of programs: what they read as, and that one program has one.
use Rattle.std.proofs.Common.{◌≡◌, ◌∙◌, ◌≤◌, ℕ, List, sym, ap, subst}
use Rattle.t_terms.specs.Spanned.{SProg, plain_program}
use Rattle.t_terms.specs.Tree.{TProg}
use Rattle.t_terms.specs.ReadProgram.{program}
use Rattle.t_text.specs.Text.{most_open, ReadsBack}
use Rattle.t_terms.specs.Nesting.{nesting}
use Rattle.t_terms.specs.declared.program.TProgram.{TProgram}
use Rattle.t_writer.specs.Lexeme.{render}
use Rattle.t_writer.specs.Written.{second_written}
use Rattle.talc_core.specs.FirstFault.{IsAssembly}
use Rattle.talc_core.specs.Written.{IsWritten}
use Rattle.talc_core.specs.Composition.{OneWrittenText, OneUpgrade, UpgradedIsKept, CompiledIsKept, BoundedIsKept}
use Rattle.talc_core.specs.TextLaws.{TextLaws}
use Rattle.talc_core.proofs.FaultLemmas.{same_program}

-- what is written of a program is its text, where its nesting is within the limit
pub written : (target : List ℕ) (p q : TProgram) → q ≡ p → nesting (program p) ≤ most_open →
    target ≡ render (second_written (program q)) → (nesting (program q) ≤ most_open → ReadsBack target (program q)) →
    IsWritten (program p) target
written target p q same shallow is reads =
    let low : nesting (program q) ≤ most_open =
    subst (λ (r : TProgram). nesting (program r) ≤ most_open) (sym same) shallow in
    subst (λ (r : TProgram). IsWritten (program r) target) same (record { is = is; reads = reads low })

-- a text reads as one program, places aside
pub reads_same : TextLaws → (P : TProg) (target : List ℕ) → ReadsBack target P → (p : SProg) → IsAssembly target p →
    plain_program p ≡ P
reads_same laws P target r p read =
    let same : r.0 ≡ p = same_program laws target r.0 p r.1 read in subst (λ q. plain_program q ≡ P) same r.2

one_text : (P Q : TProg) (a b : List ℕ) → IsWritten P a → IsWritten Q b → P ≡ Q → a ≡ b
one_text P Q a b u v same = u.is ∙ (ap (λ R. render (second_written R)) same ∙ sym v.is)

pub one_written_text : TextLaws → OneWrittenText
one_written_text laws P Q a b u v p q read_p read_q same =
    let is_p : plain_program p ≡ P = reads_same laws P a u.reads p read_p in
    let is_q : plain_program q ≡ Q = reads_same laws Q b v.reads q read_q in
    one_text P Q a b u v (sym is_p ∙ (same ∙ is_q))

pub one_upgrade : TextLaws → OneUpgrade
one_upgrade laws source a b x y =
    let same : x.program ≡ y.program = same_program laws source x.program y.program x.accepted.0 y.accepted.0 in
    one_text (plain_program x.program) (plain_program y.program) a b x.written y.written (ap plain_program same)

-- what is written of a program is upgraded to itself
kept : TextLaws → (P : TProg) (target again : List ℕ) → IsWritten P target → (p : SProg) → IsAssembly target p →
    IsWritten (plain_program p) again → again ≡ target
kept laws P target again w p read v =
    one_text (plain_program p) P again target v w (reads_same laws P target w.reads p read)

pub upgraded_is_kept : TextLaws → UpgradedIsKept
upgraded_is_kept laws source target again x y =
    kept laws (plain_program x.program) target again x.written y.program y.accepted.0 y.written

pub compiled_is_kept : TextLaws → CompiledIsKept
compiled_is_kept laws source target again x y =
    kept laws x.program target again x.written y.program y.accepted.0 y.written

pub bounded_is_kept : TextLaws → BoundedIsKept
bounded_is_kept laws k source target again x y =
    kept laws x.program target again x.written y.program y.accepted.0 y.written
