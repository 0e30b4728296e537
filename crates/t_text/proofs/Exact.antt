-- The laws of an assembly text's tokens, and the clauses of `tokens` by them.
use Rattle.std.proofs.Common.{◌≡◌, ◌<◌, ℕ, ◌+◌, ◌-◌, List, length, drop, refl, sym, ◌∙◌, ap}
use Rattle.idx_core.specs.declared.span.Span.{Span}
use Rattle.t_terms.specs.declared.fault.TCode.{TCode}
use Rattle.t_terms.specs.declared.fault.TCode.TheVariants.{T01, T02}
use Rattle.t_terms.specs.declared.fault.TFault.TheVariants.{Refused}
use Rattle.text_core.specs.Tokens.{Reason, NoToken, OutOfRange, Nothing, Spelling}
use Rattle.text_core.specs.Lexeme.{item, Within}
use Rattle.text_core.proofs.Walk.{SoFar, bad, large}
use Rattle.text_core.proofs.Once as once
use Rattle.text_core.proofs.Places.{same_span}
use Rattle.t_text.specs.declared.token.Kind.{Kind}
use Rattle.t_text.specs.declared.token.Token.{Token}
use Rattle.t_text.specs.Tokens.{assembly, Keeps}
use Rattle.t_text.specs.Text.{code_of}
use Rattle.t_text.proofs.TokenLaws.{assembly_signs}
use Rattle.t_text.specs.Cut.{FirstTokenFault, AtMostOneCut, NoTokenFaultWhereCut, AtMostOneTokenFault}

pub at_most_one_cut : AtMostOneCut
at_most_one_cut text w v x y = once.one_cut assembly assembly_signs x v y

pub no_token_fault_where_cut : NoTokenFaultWhereCut
no_token_fault_where_cut text w c span x f =
    once.cut_or_wrong assembly assembly_signs text w f.why span.start span.end x f.wrong

pub at_most_one_token_fault : AtMostOneTokenFault
at_most_one_token_fault text c c' span span' f h =
    let e = once.one_wrong assembly assembly_signs text f.why span.start span.end h.why span'.start span'.end f.wrong
    h.wrong in
    (f.is_code ∙ (ap (λ (y : Reason). code_of y) e.reason ∙ sym h.is_code), same_span span span' e.starts e.ends)

pub same_fault : (text : List ℕ) (c c' : TCode) (span span' : Span) → FirstTokenFault text c span →
    FirstTokenFault text c' span' → Refused c span ≡ Refused c' span'
same_fault text c c' span span' f h =
    let e = at_most_one_token_fault text c c' span span' f h in let p = e.0 in let q = e.1 in cc

-- the faults that a walk through a text comes to
module _ (t : List ℕ) (i : ℕ) (out : List Token) (h : SoFar assembly t i out) (l : i < length t) where
  pub is_bad : item assembly (drop i t) ≡ Nothing → FirstTokenFault t T01 (record { start = i; end = i + 1 })
  is_bad e = record { why = NoToken; is_code = refl; wrong = bad assembly assembly_signs t i out h l e }

  pub is_large : (j : ℕ) → Within t i j × ((k : Kind) × (item assembly (drop i t) ≡ Spelling k (j - i)) × ¬ Keeps k) →
      FirstTokenFault t T02 (record { start = i; end = j })
  is_large j (w, (k, e, b)) =
      record { why = OutOfRange; is_code = refl; wrong = large assembly assembly_signs t i out h l j k w e b }
