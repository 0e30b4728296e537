-- A text stands for at most one program, has at most one first fault, and not both.
use Rattle.std.proofs.Common.{◌≡◌, ℕ, List, [], ◌∷◌, ◌++◌, length, refl, sym, ◌∙◌, ap, subst, append_assoc}
use Rattle.idx_core.specs.declared.span.Span.{Span}
use Rattle.text_core.specs.Tokens.{Reason, FirstWrong}
use Rattle.text_core.specs.Table.{Verdict, Fine, Unexpected, Passed}
use Rattle.text_core.specs.Shapes.{NonePasses}
use Rattle.text_core.specs.Verdicts.{Says}
use Rattle.text_core.proofs.Once as once
use Rattle.text_core.proofs.Places.{same_span}
use Rattle.t_terms.specs.declared.fault.TCode.{TCode}
use Rattle.t_terms.specs.declared.fault.TCode.TheVariants.{T03, M1}
use Rattle.t_text.specs.declared.token.Token.{Token}
use Rattle.t_terms.specs.Spanned.{SProg}
use Rattle.t_text.specs.Tokens.{assembly, IsCut}
use Rattle.t_text.specs.Raw.{RawItem}
use Rattle.t_text.specs.Grammar.{Program, assembly_grammar}
use Rattle.t_text.specs.GrammarTable.{table, OfItems}
use Rattle.t_text.specs.Names.{program_of}
use Rattle.t_text.specs.NameFaults.{program_faults}
use Rattle.t_text.specs.Text.{most_open, ReadsAs, code_of, FirstFault, in_tokens, unexpected, cut_short, too_deep}
use Rattle.t_text.specs.Text.{in_names, AtMostOneProgram, NoFaultWhereRead, NoProgramWhereFaulty, AtMostOneFault}
use Rattle.t_text.proofs.TokenLaws.{assembly_signs}
use Rattle.t_text.proofs.Instance.{one_tree, one_verdict}

pub one_cut : (text : List ℕ) (w v : List Token) → IsCut text w → IsCut text v → w ≡ v
one_cut text w v x y = once.one_cut assembly assembly_signs x v y

-- two programs of one text before names are resolved
same_raw : (text : List ℕ) {w v : List Token} {a b : List RawItem} → IsCut text w → IsCut text v → Program w a →
    Program v b → a ≡ b
same_raw text {w} {v} {a} x y p q = one_tree (subst (λ (u : List Token). Program u a) (one_cut text w v x y) p) q

pub at_most_one_program : AtMostOneProgram
at_most_one_program text P Q a b = a.is ∙ (ap (program_of text) (same_raw text a.cut b.cut a.shape b.shape) ∙ sym b.is)

-- what a verdict on the tokens shows of a fault
abbrev Shows : List ℕ → List Token → Verdict table → TCode → Span → Type 0
Shows text w (Fine vs) code span = (raw : List RawItem) × (rest : List (TCode × Span)) × Program w raw
    × (program_faults text raw ≡ (code, span) ∷ rest)
Shows text w (Unexpected []) code span = (code ≡ T03) × (span ≡ record { start = length text; end = length text })
Shows text w (Unexpected (c ∷ z)) code span = (code ≡ T03) × (span ≡ c.span)
Shows text w (Passed []) code span = ⊥
Shows text w (Passed (c ∷ z)) code span = (code ≡ M1) × (span ≡ c.span)

-- a fault of the tokens, or one that the verdict on them shows
data Stage (text : List ℕ) : TCode → Span → Type 0 where
  s_tokens : {span : Span} (why : Reason) → FirstWrong assembly text why span.start span.end →
      Stage text (code_of why) span
  s_cut : {code : TCode} {span : Span} (w : List Token) (v : Verdict table) → IsCut text w → Says table most_open w v →
      Shows text w v code span → Stage text code span

fine : {w : List Token} {raw : List RawItem} → Program w raw → NonePasses assembly_grammar most_open w →
    Says table most_open w (Fine (OfItems raw ∷ []))
fine {raw} p n = record { value = raw; shape = p; is = refl; within = n }

stage : {text : List ℕ} {code : TCode} {span : Span} → FirstFault text code span → Stage text code span
stage (in_tokens why f) = s_tokens why f
stage (unexpected {w} {u} {c} {z} x f) = s_cut w (Unexpected (c ∷ z)) x (u, f) (refl, refl)
stage (cut_short {w} x f) = s_cut w (Unexpected []) x f (refl, refl)
stage (too_deep {w} {u} {c} {z} x f) = s_cut w (Passed (c ∷ z)) x (u, f) (refl, refl)
stage (in_names {w} {raw} {rest} x p n e) = s_cut w (Fine (OfItems raw ∷ [])) x (fine p n) (raw, rest, p, e)

no_wrong : {text : List ℕ} {w : List Token} {why : Reason} {span : Span} → IsCut text w →
    FirstWrong assembly text why span.start span.end → ⊥
no_wrong {text} {w} {why} {span} x f = once.cut_or_wrong assembly assembly_signs text w why span.start span.end x f

same_verdict : {text : List ℕ} {w u : List Token} {v x : Verdict table} → IsCut text w → IsCut text u →
    Says table most_open w v → Says table most_open u x → v ≡ x
same_verdict {text} {w} {u} {v} {x} a b p q =
    one_verdict most_open u v x (subst (λ (y : List Token). Says table most_open y v) (one_cut text w u a b) p) q

abbrev Same : TCode → Span → TCode → Span → Type 0
Same code span code' span' = (code ≡ code') × (span ≡ span')

same_names : (text : List ℕ) {w u : List Token} {code code' : TCode} {span span' : Span} (v : Verdict table) →
    IsCut text w → IsCut text u → Shows text w v code span → Shows text u v code' span' → Same code span code' span'
same_names text {code} {code'} {span} {span'} (Fine vs) x y (a, r, p, e) (b, s, q, f) =
    let g : program_faults text a ≡ program_faults text b = ap (program_faults text) (same_raw text x y p q) in
    let h : (code, span) ∷ r ≡ (code', span') ∷ s = sym e ∙ (g ∙ f) in
    let i : (code, span) ≡ (code', span') = cc in
    (ap (λ (z : TCode × Span). z.0) i, ap (λ (z : TCode × Span). z.1) i)
same_names text (Unexpected []) x y p q = (p.0 ∙ sym q.0, p.1 ∙ sym q.1)
same_names text (Unexpected (c ∷ z)) x y p q = (p.0 ∙ sym q.0, p.1 ∙ sym q.1)
same_names text (Passed []) x y p q = absurd p
same_names text (Passed (c ∷ z)) x y p q = (p.0 ∙ sym q.0, p.1 ∙ sym q.1)

same_stage : {text : List ℕ} {code code' : TCode} {span span' : Span} → Stage text code span → Stage text code' span' →
    Same code span code' span'
same_stage {text} (s_tokens {span} why f) (s_tokens {span = span'} why' h) =
    let e = once.one_wrong assembly assembly_signs text why span.start span.end why' span'.start span'.end f h in
    (ap code_of e.reason, same_span span span' e.starts e.ends)
same_stage (s_tokens {span} why f) (s_cut w v x s e) = absurd (no_wrong {span = span} x f)
same_stage (s_cut w v x s e) (s_tokens {span} why f) = absurd (no_wrong {span = span} x f)
same_stage {text} (s_cut {code} {span} w v x s e) (s_cut u v' y t f) =
    same_names text v' x y (subst (λ (z : Verdict table). Shows text w z code span) (same_verdict x y s t) e) f

pub at_most_one_fault : AtMostOneFault
at_most_one_fault text code code' span span' f h = same_stage (stage f) (stage h)

-- what a program excludes
no_stage : {text : List ℕ} {P : SProg} {code : TCode} {span : Span} → ReadsAs text P → Stage text code span → ⊥
no_stage r (s_tokens {span} why f) = no_wrong {span = span} r.stands.cut f
no_stage {text} r (s_cut {code} {span} w v x s e) =
    let n = subst (λ (y : List Token). NonePasses assembly_grammar most_open y)
    (one_cut text r.within.0 r.stands.tokens r.within.1 r.stands.cut) r.within.2 in
    none v (same_verdict x r.stands.cut s (fine r.stands.shape n)) e
  where
    none : (v : Verdict table) → v ≡ Fine (OfItems r.stands.raw ∷ []) → Shows text w v code span → ⊥
    none (Fine vs) q (raw, rest, p, f) =
        let g : program_faults text raw ≡ program_faults text r.stands.raw =
        ap (program_faults text) (same_raw text x r.stands.cut p r.stands.shape) in
        let h : (code, span) ∷ rest ≡ [] = sym f ∙ (g ∙ r.stands.named) in cc
    none (Unexpected c) q p = cc
    none (Passed c) q p = cc

pub no_fault_where_read : NoFaultWhereRead
no_fault_where_read text P code span r f = no_stage r (stage f)

pub no_program_where_faulty : NoProgramWhereFaulty
no_program_where_faulty text P _ span (in_tokens why f) m s = no_wrong {span = span} s.cut f
no_program_where_faulty text P _ _ (unexpected {w} {u} {c} {z} x f) m s =
    let q : s.tokens ≡ (u ++ c ∷ []) ++ z =
    one_cut text s.tokens w s.cut x ∙ (f.place ∙ sym (append_assoc u (c ∷ []) z)) in
    f.with_it (z, (s.raw, subst (λ (y : List Token). Program y s.raw) q s.shape))
no_program_where_faulty text P _ _ (cut_short {w} x f) m s =
    f.none (s.raw, subst (λ (y : List Token). Program y s.raw) (one_cut text s.tokens w s.cut x) s.shape)
no_program_where_faulty text P _ _ (too_deep x f) m s = m refl
no_program_where_faulty text P code span (in_names {raw} {rest} x p n e) m s =
    let g : program_faults text raw ≡ program_faults text s.raw =
    ap (program_faults text) (same_raw text x s.cut p s.shape) in
    let h : (code, span) ∷ rest ≡ [] = sym e ∙ (g ∙ s.named) in cc
