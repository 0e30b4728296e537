-- The laws of texts and terms, and the clauses of `parse` by them.
use Rattle.std.specs.Prelude.{Result, Ok, Err, MatchResult, IsErrAnd}
use Rattle.std.proofs.Common.{◌≡◌, ◌≢◌, ◌≤◌, ◌<◌, arith, ℕ, List, [], ◌∷◌, ◌++◌, append_assoc, length, refl, sym, ◌∙◌}
use Rattle.std.proofs.Common.{ap, subst}
use Rattle.idx_core.specs.declared.span.Span.{Span}
use Rattle.text_core.specs.Table.{Verdict, Fine, Unexpected, Passed}
use Rattle.text_core.specs.Shapes.{Begins}
use Rattle.text_core.specs.Verdicts.{IsFine, Says}
use Rattle.f_terms.specs.declared.fault.Code.{Code}
use Rattle.f_terms.specs.declared.fault.Code.TheVariants as code
use Rattle.f_terms.specs.declared.fault.FFault.{FFault}
use Rattle.f_terms.specs.declared.fault.FFault.TheVariants.{Memory, Refused}
use Rattle.f_terms.specs.declared.node.FTerm.{FTerm}
use Rattle.f_terms.specs.ReadTerm.{spanned}
use Rattle.f_terms.specs.Tm.{Tm}
use Rattle.f_lexer.specs.declared.token.Token.{Token}
use Rattle.f_lexer.specs.Source.{IsCut, FirstTokenFault, IsTokenFault}
use Rattle.f_lexer.proofs.Exact as lexer
use Rattle.f_grammar.specs.Raw.{Piece, RawTm, nodes, raw_span}
use Rattle.f_grammar.specs.Grammar.{E}
use Rattle.f_grammar.specs.Machine.{table, OfTerm}
use Rattle.f_grammar.proofs.Instance.{one_tree, one_verdict}
use Rattle.f_grammar.specs.Scope.{TermOf, Use, uses, IsFirstUnbound, unbound_code}
use Rattle.f_grammar.specs.Text.{SourceWithin, FewBytes, whole_of, end_of, HasTokens, HasShape, IsFault, FirstFault}
use Rattle.f_grammar.specs.Text.{too_long, no_token, unexpected, cut_short, too_deep, too_large, unbound}
use Rattle.f_grammar.specs.Text.{source_grammar, Source, OneTerm, NoFaultWhereRead, IsLimit, NoTermWhereFaulty}
use Rattle.f_grammar.specs.Text.{SameNodes, OneFault, ClosedTerms}
use Rattle.f_grammar.proofs.Bound as names
use Rattle.f_grammar.proofs.Closed.{term_in_scope, same_nodes}

-- what a fault after the reading of tokens says, by the tree
data AfterShape (text : List ℕ) (t : RawTm) (c : Code) (s : Span) : Type 0 where
  large : 100000 < nodes t → c ≡ code.L3 → s ≡ raw_span t → AfterShape text t c s
  name : (u : Use) → nodes t ≤ 100000 → IsFirstUnbound text (uses text [] [] t) u → c ≡ unbound_code u.of_type →
      s ≡ u.at → AfterShape text t c s

-- what a fault after the cutting into tokens says, by the verdict on them
data AfterCut (text : List ℕ) : Verdict table → Code → Span → Type 0 where
  at_token : (t : Token) (z : List Token) {c : Code} {s : Span} → c ≡ code.E03 → s ≡ t.span →
      AfterCut text (Unexpected (t ∷ z)) c s
  at_end : {c : Code} {s : Span} → c ≡ code.E04 → s ≡ end_of text → AfterCut text (Unexpected []) c s
  at_opener : (t : Token) (z : List Token) {c : Code} {s : Span} → c ≡ code.L2 → s ≡ t.span →
      AfterCut text (Passed (t ∷ z)) c s
  in_shape : (p : Piece) {c : Code} {s : Span} → AfterShape text p.tree c s → AfterCut text (Fine (OfTerm p ∷ [])) c s

-- how far the checks came
data Stage (text : List ℕ) (c : Code) (s : Span) : Type 0 where
  bytes : 16777216 < length text → c ≡ code.L1 → s ≡ whole_of text → Stage text c s
  token : FewBytes text → FirstTokenFault text c s → Stage text c s
  later : (w : List Token) (v : Verdict table) → HasTokens text w → Says table 200 w v → AfterCut text v c s →
      Stage text c s

fine : (text : List ℕ) (p : Piece) (h : HasShape text p) → IsFine table 200 h.tokens (OfTerm p ∷ [])
fine text p h = record { value = p; shape = h.is_shape; is = refl; within = h.few_open }

stage : (text : List ℕ) (c : Code) (s : Span) → FirstFault text c s → Stage text c s
stage text _ _ (too_long l) = bytes l refl refl
stage text c s (no_token h f) = token h f
stage text _ _ (unexpected {w} u t z h f) = later w (Unexpected (t ∷ z)) h (u, f) (at_token t z refl refl)
stage text _ _ (cut_short {w} h f) = later w (Unexpected []) h f (at_end refl refl)
stage text _ _ (too_deep {w} u t z h f) = later w (Passed (t ∷ z)) h (u, f) (at_opener t z refl refl)
stage text _ _ (too_large p h l) =
    later h.tokens (Fine (OfTerm p ∷ [])) h.has_tokens (fine text p h) (in_shape p (large l refl refl))
stage text _ _ (unbound p u h l f) =
    later h.tokens (Fine (OfTerm p ∷ [])) h.has_tokens (fine text p h) (in_shape p (name u l f refl refl))

-- two verdicts on the tokens of one text
verdicts : (text : List ℕ) (w w' : List Token) (v v' : Verdict table) → IsCut text w → IsCut text w' →
    Says table 200 w v → Says table 200 w' v' → v ≡ v'
verdicts text w w' v v' cut cut' x y =
    let e : w' ≡ w = lexer.one_cut text w' w cut' cut in
    one_verdict 200 w v v' x (subst (λ (u : List Token). Says table 200 u v') e y)

after_shape : (text : List ℕ) (t : RawTm) (c c' : Code) (s s' : Span) → AfterShape text t c s →
    AfterShape text t c' s' → (c ≡ c') × (s ≡ s')
after_shape text t c c' s s' (large l e p) (large k f q) = (e ∙ sym f, p ∙ sym q)
after_shape text t c c' s s' (large l e p) (name u k h f q) = absurd (omega arith)
after_shape text t c c' s s' (name u k h e p) (large l f q) = absurd (omega arith)
after_shape text t c c' s s' (name u k h e p) (name u' k' h' f q) =
    let i : u ≡ u' = names.one_first text (uses text [] [] t) u u' h h' in
    (e ∙ (ap (λ (x : Use). unbound_code x.of_type) i ∙ sym f), p ∙ (ap (λ (x : Use). x.at) i ∙ sym q))

after_cut : (text : List ℕ) (v : Verdict table) (c c' : Code) (s s' : Span) → AfterCut text v c s →
    AfterCut text v c' s' → (c ≡ c') × (s ≡ s')
after_cut text _ c c' s s' (at_token t z e p) (at_token _ _ f q) = (e ∙ sym f, p ∙ sym q)
after_cut text _ c c' s s' (at_end e p) (at_end f q) = (e ∙ sym f, p ∙ sym q)
after_cut text _ c c' s s' (at_opener t z e p) (at_opener _ _ f q) = (e ∙ sym f, p ∙ sym q)
after_cut text _ c c' s s' (in_shape p x) (in_shape _ y) = after_shape text p.tree c c' s s' x y

stages : (text : List ℕ) (c c' : Code) (s s' : Span) → Stage text c s → Stage text c' s' → (c ≡ c') × (s ≡ s')
stages text c c' s s' (bytes l e p) (bytes k f q) = (e ∙ sym f, p ∙ sym q)
stages text c c' s s' (bytes l e p) (token h f) = absurd (omega arith)
stages text c c' s s' (bytes l e p) (later w v h x y) = let k = h.few_bytes in absurd (omega arith)
stages text c c' s s' (token h f) (bytes l e p) = absurd (omega arith)
stages text c c' s s' (token h f) (token k g) = lexer.one_token_fault text c c' s s' f g
stages text c c' s s' (token h f) (later w v k x y) = absurd (lexer.no_fault_where_cut text w c s k.cut f)
stages text c c' s s' (later w v h x y) (bytes l e p) = let k = h.few_bytes in absurd (omega arith)
stages text c c' s s' (later w v h x y) (token k g) = absurd (lexer.no_fault_where_cut text w c' s' h.cut g)
stages text c c' s s' (later w v h x y) (later w' v' h' x' y') =
    let e : v' ≡ v = sym (verdicts text w w' v v' h.cut h'.cut x x') in
    after_cut text v c c' s s' y (subst (λ (u : Verdict table). AfterCut text u c' s') e y')

pub one_fault : OneFault
one_fault text c c' s s' f g = stages text c c' s s' (stage text c s f) (stage text c' s' g)

-- what stands for a term within the limits
few : (text : List ℕ) (a : Tm) (x : SourceWithin text a) → nodes x.source.shape.tree ≤ 100000
few text a x = let e = same_nodes x.source.bound in let l = x.few_nodes in omega (arith, e, l)

none_after_shape : (text : List ℕ) (t : RawTm) (a : Tm) (c : Code) (s : Span) → TermOf text [] [] t a →
    nodes t ≤ 100000 → ¬ AfterShape text t c s
none_after_shape text t a c s b l (large k e p) = omega arith
none_after_shape text t a c s b l (name u k h e p) = names.not_first text (uses text [] [] t) u (names.term_bound b) h

none_after_cut : (text : List ℕ) (p : Piece) (v : Verdict table) (a : Tm) (c : Code) (s : Span) →
    TermOf text [] [] p.tree a → nodes p.tree ≤ 100000 → v ≡ Fine (OfTerm p ∷ []) → ¬ AfterCut text v c s
none_after_cut text p _ a c s b l e (at_token t z f q) = cc
none_after_cut text p _ a c s b l e (at_end f q) = cc
none_after_cut text p _ a c s b l e (at_opener t z f q) = cc
none_after_cut text p _ a c s b l e (in_shape r x) =
    let i : r ≡ p = cc in none_after_shape text p.tree a c s b l (subst (λ (y : Piece). AfterShape text y.tree c s) i x)

none_at : (text : List ℕ) (a : Tm) (c : Code) (s : Span) → SourceWithin text a → ¬ Stage text c s
none_at text a c s x (bytes l e p) = let h = x.few_bytes in omega arith
none_at text a c s x (token h f) = lexer.no_fault_where_cut text x.source.tokens c s x.source.cut f
none_at text a c s x (later w v h y z) =
    let f : IsFine table 200 x.source.tokens (OfTerm x.source.shape ∷ []) =
    record { value = x.source.shape; shape = x.source.is_shape; is = refl; within = x.few_open } in
    none_after_cut text x.source.shape v a c s x.source.bound (few text a x)
    (verdicts text w x.source.tokens v (Fine (OfTerm x.source.shape ∷ [])) h.cut x.source.cut y f) z

pub no_fault_where_read : NoFaultWhereRead
no_fault_where_read text a c s x f = none_at text a c s x (stage text c s f)

pub same_nodes_of_text : SameNodes
same_nodes_of_text text a x = sym (same_nodes x.bound)

-- a fault of no limit leaves no term, whatever the limits
module _ (text : List ℕ) (a : Tm) (x : Source text a) where
  same_shape : (p : Piece) (w : List Token) → IsCut text w → E w p → p ≡ x.shape
  same_shape p w c e = one_tree (subst (λ (v : List Token). E v p) (lexer.one_cut text w x.tokens c x.cut) e) x.is_shape

  begins : (w : List Token) → IsCut text w → (u : List Token) (t : Token) (z : List Token) → w ≡ u ++ t ∷ z →
      Begins source_grammar (u ++ t ∷ [])
  begins w c u t z e =
      let q : (u ++ t ∷ []) ++ z ≡ x.tokens =
      append_assoc u (t ∷ []) z ∙ (sym e ∙ lexer.one_cut text w x.tokens c x.cut) in
      (z, (x.shape, subst (λ (v : List Token). E v x.shape) (sym q) x.is_shape))

  unfaulty : (c : Code) (s : Span) → FirstFault text c s → ¬ IsLimit c → ⊥
  unfaulty _ _ (too_long l) n = n tt
  unfaulty c s (no_token l f) n = lexer.no_fault_where_cut text x.tokens c s x.cut f
  unfaulty _ _ (unexpected {w} u t z h f) n = f.with_it (begins w h.cut u t z f.place)
  unfaulty _ _ (cut_short {w} h f) n =
      f.none (x.shape, subst (λ (v : List Token). E v x.shape) (lexer.one_cut text x.tokens w x.cut h.cut) x.is_shape)
  unfaulty _ _ (too_deep u t z h f) n = n tt
  unfaulty _ _ (too_large p h l) n = n tt
  unfaulty _ _ (unbound p u h l f) n =
      let q = same_shape p h.tokens h.has_tokens.cut h.is_shape in
      names.not_first text (uses text [] [] p.tree) u
      (names.term_bound (subst (λ (r : Piece). TermOf text [] [] r.tree a) (sym q) x.bound)) f

pub no_term_where_faulty : NoTermWhereFaulty
no_term_where_faulty text a c s f n x = unfaulty text a x c s f n

pub one_term : OneTerm
one_term text a b x y =
    let e : y.tokens ≡ x.tokens = lexer.one_cut text y.tokens x.tokens y.cut x.cut in
    let p : y.shape ≡ x.shape = one_tree (subst (λ (w : List Token). E w y.shape) e y.is_shape) x.is_shape in
    names.one_term x.bound (subst (λ (q : Piece). TermOf text [] [] q.tree b) p y.bound)

pub closed_terms : ClosedTerms
closed_terms text a x = term_in_scope x.bound

same_fault : (text : List ℕ) (c c' : Code) (s s' : Span) → FirstFault text c s → FirstFault text c' s' →
    Refused c s ≡ Refused c' s'
same_fault text c c' s s' f g = let e = one_fault text c c' s s' f g in let p = e.0 in let q = e.1 in cc

-- an answer that is right is the only one, but for want of memory
not_refused : (text : List ℕ) (f : FFault) (tm : Tm) → IsFault text f → SourceWithin text tm → f ≡ Memory
not_refused text Memory tm h x = refl
not_refused text (Refused c s) tm h x = absurd (no_fault_where_read text tm c s x h)

no_other : (text : List ℕ) (f : FFault) (c : Code) (s : Span) → IsFault text f → FirstFault text c s → f ≢ Memory →
    f ≡ Refused c s
no_other text Memory c s h x n = absurd (n refl)
no_other text (Refused c' s') c s h x n = same_fault text c' c s' s h x

module _ (text : List ℕ) (r : Result FTerm FFault)
    (h : MatchResult r (λ e. SourceWithin text (spanned e)) (λ f. IsFault text f)) where
  pub only_term : (tm : Tm) → SourceWithin text tm → MatchResult r (λ e. spanned e ≡ tm) (λ f. f ≡ Memory)
  only_term tm x = by_case r h
    where
      by_case : (q : Result FTerm FFault) → MatchResult q (λ e. SourceWithin text (spanned e)) (λ f. IsFault text f) →
          MatchResult q (λ e. spanned e ≡ tm) (λ f. f ≡ Memory)
      by_case (Ok e) y = one_term text (spanned e) tm y.source x.source
      by_case (Err f) y = not_refused text f tm y x

  pub only_fault : (c : Code) (s : Span) → FirstFault text c s → IsErrAnd r (λ f. f ≢ Memory → f ≡ Refused c s)
  only_fault c s x = by_case r h
    where
      by_case : (q : Result FTerm FFault) → MatchResult q (λ e. SourceWithin text (spanned e)) (λ f. IsFault text f) →
          IsErrAnd q (λ f. f ≢ Memory → f ≡ Refused c s)
      by_case (Ok e) y = absurd (no_fault_where_read text (spanned e) c s y x)
      by_case (Err f) y = no_other text f c s y x

-- the answers of `parse`, a fault that is passed on and one of the tokens
pub passed_on : (text : List ℕ) (r : Result FTerm FFault) (f g : FFault) → r ≡ Err g → g ≡ f → IsFault text f →
    MatchResult r (λ e. SourceWithin text (spanned e)) (λ x. IsFault text x)
passed_on text r f g p q h = rw (p, q) h

pub token_fault : (text : List ℕ) (f : FFault) → FewBytes text → IsTokenFault text f → IsFault text f
token_fault text Memory h x = tt
token_fault text (Refused c s) h x = no_token h x

pub long_fault : (text : List ℕ) (f : FFault) (s : Span) → f ≡ Refused code.L1 s → s ≡ whole_of text →
    16777216 < length text → IsFault text f
long_fault text f s p q l = rw (p, q) (too_long l)
