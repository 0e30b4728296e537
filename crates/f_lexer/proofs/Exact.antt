-- The laws of a source text's tokens, and the clauses of `tokens` by them.
use Rattle.std.proofs.Common.{◌≡◌, ◌<◌, ◌⊎◌, inl, inr, ℕ, ◌+◌, ◌-◌, pos, negsuc, ◌≤ℤ◌, nat_le, Bool, true, false, List}
use Rattle.std.proofs.Common.{length, drop, refl, sym, ◌∙◌, ap, arith}
use Rattle.std.proofs.lemmas.Bool.{leb-true, leb-false}
use Rattle.std.proofs.lemmas.Int.{ints}
use Rattle.idx_core.specs.declared.span.Span.{Span}
use Rattle.f_terms.specs.declared.fault.Code.{Code}
use Rattle.f_terms.specs.declared.fault.FFault.TheVariants.{Refused}
use Rattle.f_terms.specs.declared.fault.Code.TheVariants.{E01, E02}
use Rattle.text_core.specs.Tokens.{Reason, NoToken, OutOfRange, Nothing, Spelling, FirstWrong}
use Rattle.text_core.specs.Lexeme.{item, Within}
use Rattle.text_core.proofs.Walk.{SoFar, bad, large}
use Rattle.text_core.proofs.Once as once
use Rattle.text_core.proofs.Total as total
use Rattle.text_core.proofs.Places.{same_span}
use Rattle.f_lexer.specs.declared.kind.Kind.{Kind}
use Rattle.f_lexer.specs.declared.kind.Kind.TheVariants as k
use Rattle.f_lexer.specs.declared.token.Token.{Token}
use Rattle.f_lexer.specs.Source.{source, Keeps, IsCut, code_of, FirstTokenFault, OneCut, NoFaultWhereCut, CutOrFault}
use Rattle.f_lexer.specs.Source.{OneTokenFault}
use Rattle.f_lexer.proofs.Finding.{source_signs}

pub one_cut : OneCut
one_cut text w v x y = once.one_cut source source_signs x v y

pub no_fault_where_cut : NoFaultWhereCut
no_fault_where_cut text w c span x f = once.cut_or_wrong source source_signs text w f.why span.start span.end x f.wrong

-- whether a token keeps its bounds
bounds : (x : Kind) → Keeps x ⊎ (Keeps x → ⊥)
bounds (k.Plain (pos n)) = by_test (nat_le n 9223372036854775807) refl
  where
    by_test : (b : Bool) → nat_le n 9223372036854775807 ≡ b → (pos n ≤ℤ pos 9223372036854775807)
        ⊎ (pos n ≤ℤ pos 9223372036854775807 → ⊥)
    by_test true e = inl (let h = leb-true n 9223372036854775807 e in omega (arith, ints))
    by_test false e = inr (λ x. let h = leb-false n 9223372036854775807 e in omega (arith, ints))
bounds (k.Plain (negsuc n)) = inl (omega (arith, ints))
bounds (k.Negative (pos n)) = inl (omega (arith, ints))
bounds (k.Negative (negsuc n)) = by_test (nat_le n 9223372036854775807) refl
  where
    by_test : (b : Bool) → nat_le n 9223372036854775807 ≡ b → (negsuc 9223372036854775807 ≤ℤ negsuc n)
        ⊎ (negsuc 9223372036854775807 ≤ℤ negsuc n → ⊥)
    by_test true e = inl (let h = leb-true n 9223372036854775807 e in omega (arith, ints))
    by_test false e = inr (λ x. let h = leb-false n 9223372036854775807 e in omega (arith, ints))
bounds _ = inl tt

pub cut_or_fault : CutOrFault
cut_or_fault text = by_case (total.cut_or_wrong source source_signs bounds text)
  where
    by_case : ((w : List Token) × IsCut text w)
        ⊎ ((why : Reason) × (start : ℕ) × (end : ℕ) × FirstWrong source text why start end) →
        ((w : List Token) × IsCut text w) ⊎ ((c : Code) × (span : Span) × FirstTokenFault text c span)
    by_case (inl c) = inl c
    by_case (inr (why, start, end, f)) =
        inr (code_of why, record { start = start; end = end }, record { why = why; is_code = refl; wrong = f })

pub one_token_fault : OneTokenFault
one_token_fault text c c' span span' f h =
    let e = once.one_wrong source source_signs text f.why span.start span.end h.why span'.start span'.end f.wrong
    h.wrong in
    (f.is_code ∙ (ap (λ (y : Reason). code_of y) e.reason ∙ sym h.is_code), same_span span span' e.starts e.ends)

pub same_fault : (text : List ℕ) (c c' : Code) (span span' : Span) → FirstTokenFault text c span →
    FirstTokenFault text c' span' → Refused c span ≡ Refused c' span'
same_fault text c c' span span' f h =
    let e = one_token_fault text c c' span span' f h in let p = e.0 in let q = e.1 in cc

-- the faults that a walk through a text comes to
module _ (t : List ℕ) (i : ℕ) (out : List Token) (h : SoFar source t i out) (l : i < length t) where
  pub is_bad : item source (drop i t) ≡ Nothing → FirstTokenFault t E01 (record { start = i; end = i + 1 })
  is_bad e = record { why = NoToken; is_code = refl; wrong = bad source source_signs t i out h l e }

  pub is_large : (j : ℕ) → Within t i j × ((k : Kind) × (item source (drop i t) ≡ Spelling k (j - i)) × ¬ Keeps k) →
      FirstTokenFault t E02 (record { start = i; end = j })
  is_large j (w, (k, e, b)) =
      record { why = OutOfRange; is_code = refl; wrong = large source source_signs t i out h l j k w e b }
