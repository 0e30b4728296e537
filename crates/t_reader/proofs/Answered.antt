-- The program that is read, and the first fault.
use Rattle.std.proofs.Common.{◌≡◌, ◌≢◌, ℕ, List, [], refl, Result, Ok, Err}
use Rattle.std.specs.Result.{MatchResult, IsErrAnd}
use Rattle.idx_core.specs.declared.span.Span.{Span}
use Rattle.t_terms.specs.declared.block.Block.{Block}
use Rattle.t_terms.specs.declared.data.Data.{Data}
use Rattle.t_terms.specs.declared.fault.TCode.{TCode}
use Rattle.t_terms.specs.declared.fault.TFault.{TFault}
use Rattle.t_terms.specs.declared.fault.TFault.TheVariants.{Memory, Refused}
use Rattle.t_terms.specs.declared.program.TProgram.{TProgram}
use Rattle.t_terms.specs.Spanned.{SProg}
use Rattle.t_terms.specs.Read.{spanned_parts}
use Rattle.t_terms.specs.ReadProgram.{spanned_program}
use Rattle.t_text.specs.Raw.{RawItem}
use Rattle.t_text.specs.Names.{program_of}
use Rattle.t_text.specs.NameFaults.{program_faults}
use Rattle.t_text.specs.Text.{ReadsAs, FirstFault, IsFirstFault, AtMostOneProgram, AtMostOneFault, NoFaultWhereRead}
use Rattle.t_reader.specs.Resolve.{IsShape}

pub reads : (text : List ℕ) (raw : List RawItem) (bs : List Block) (xs : List Data) → IsShape text raw →
    program_faults text raw ≡ [] → spanned_parts bs xs ≡ program_of text raw → ReadsAs text (spanned_parts bs xs)
reads text raw bs xs h f e = record {
  stands = record { tokens = h.tokens; cut = h.cut; raw = raw; shape = h.shape; named = f; is = e };
  within = (h.tokens, h.cut, h.within);
}

abbrev pub Right : List ℕ → Result TProgram TFault → Type 0
Right text r = MatchResult r (λ p. ReadsAs text (spanned_program p)) (λ f. IsFirstFault text f)

pub by_program : AtMostOneProgram → NoFaultWhereRead → (text : List ℕ) (P : SProg) (r : Result TProgram TFault) →
    Right text r → ReadsAs text P → MatchResult r (λ p. spanned_program p ≡ P) (λ f. f ≡ Memory)
by_program one none text P (Ok p) h s = one text (spanned_program p) P h.stands s.stands
by_program one none text P (Err Memory) h s = refl
by_program one none text P (Err (Refused code span)) h s = absurd (none text P code span s h)

pub by_fault : AtMostOneFault → NoFaultWhereRead →
    (text : List ℕ) (code : TCode) (span : Span) (r : Result TProgram TFault) → Right text r →
    FirstFault text code span →
    IsErrAnd r (λ f. f ≢ Memory → f ≡ Refused code span)
by_fault one none text code span (Ok p) h s = none text (spanned_program p) code span h s
by_fault one none text code span (Err Memory) h s = λ n. absurd (n refl)
by_fault one none text code span (Err (Refused c i)) h s =
    λ n. let e = one text c code i span h s in let p = e.0 in let q = e.1 in cc
