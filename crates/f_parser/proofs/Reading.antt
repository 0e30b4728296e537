-- From what the tokens and the tree say to what the text says.
use Rattle.std.specs.Prelude.{Result, Ok, Err, MatchResult}
use Rattle.std.proofs.Common.{◌≡◌, ◌<◌, ◌≤◌, ◌+◌, ℕ, List, [], ◌∷◌, slice_get, drop, sym, ◌∙◌, ap, subst, Some, None}
use Rattle.idx_core.specs.declared.span.Span.{Span}
use Rattle.text_core.specs.Table.{Nt}
use Rattle.text_core.proofs.Going.{next_is, no_next}
use Rattle.text_core.proofs.Whole.{whole_fine, whole_more, whole_unexpected, whole_cut, whole_deep, never_deep}
use Rattle.f_terms.specs.declared.fault.Code.TheVariants as code
use Rattle.f_terms.specs.Tm.{Tm}
use Rattle.f_lexer.specs.declared.token.Token.{Token}
use Rattle.f_grammar.specs.Raw.{RawTm, Piece, nodes, raw_span}
use Rattle.f_grammar.specs.Grammar.{E}
use Rattle.f_grammar.specs.Machine.{table, LE, OfTerm}
use Rattle.f_grammar.specs.Reads.{Fails}
use Rattle.f_grammar.specs.declared.cursor.Stopped.TheVariants as stopped
use Rattle.f_grammar.proofs.Instance.{claims}
use Rattle.f_grammar.specs.Term.{tree_of}
use Rattle.f_grammar.specs.ReadsTerms.{Keeps, ReadsTerm}
use Rattle.f_grammar.specs.declared.part.FoundTerm.{FoundTerm}
use Rattle.f_terms.specs.declared.fault.FFault.{FFault}
use Rattle.f_terms.specs.declared.fault.FFault.TheVariants.{Refused}
use Rattle.f_grammar.specs.declared.raw.RawTerm.{RawTerm}
use Rattle.f_grammar.specs.Scope.{TermOf, Use, uses, IsFirstUnbound, unbound_code}
use Rattle.f_parser.specs.Resolve.{StopsAt}
use Rattle.f_parser.specs.declared.resolve.Unresolved.TheVariants.{Value, «Type»}
use Rattle.f_grammar.specs.Text.{SourceWithin, end_of, IsFault, HasTokens, HasShape, FirstFault, unexpected, cut_short}
use Rattle.f_grammar.specs.Text.{too_deep, too_large, unbound}
use Rattle.f_parser.specs.Reader.{HasTree}
use Rattle.f_grammar.proofs.Closed.{same_nodes}

-- where the reading of the tokens stops
module _ (text : List ℕ) (w : List Token) (h : HasTokens text w) (i : ℕ) where
  pub stops_at_token : (t : Token) → Fails w 0 0 (Nt LE ∷ []) [] (stopped.Unexpected i) → slice_get w i ≡ Some t →
      FirstFault text code.E03 t.span
  stops_at_token t f e =
      let u = whole_unexpected table claims 200 w i t (drop (i + 1) w) f (next_is w i t e) in
      unexpected u.0 t (drop (i + 1) w) h u.1

  pub stops_at_end : Fails w 0 0 (Nt LE ∷ []) [] (stopped.Unexpected i) → slice_get w i ≡ None →
      FirstFault text code.E04 (end_of text)
  stops_at_end f e = cut_short h (whole_cut table claims 200 w i f (no_next w i e))

  pub deep_at_end : Fails w 0 0 (Nt LE ∷ []) [] (stopped.TooDeep i) → slice_get w i ≡ None → ⊥
  deep_at_end f e = never_deep table claims 200 w i f (no_next w i e)

  pub stops_at_opener : (t : Token) → Fails w 0 0 (Nt LE ∷ []) [] (stopped.TooDeep i) → slice_get w i ≡ Some t →
      FirstFault text code.L2 t.span
  stops_at_opener t f e =
      let u = whole_deep table claims 200 w i t (drop (i + 1) w) f (next_is w i t e) in
      too_deep u.0 t (drop (i + 1) w) h u.1

-- where an expression was read
module _ (text : List ℕ) (w : List Token) (h : HasTokens text w) (f : FoundTerm) (r : ReadsTerm w f) where
  pub goes_on : (t : Token) → slice_get w f.next ≡ Some t → FirstFault text code.E03 t.span
  goes_on t e =
      let u = whole_more table claims 200 w f.next (OfTerm r.piece ∷ []) t (drop (f.next + 1) w) r.same
      (next_is w f.next t e) in
      unexpected u.0 t (drop (f.next + 1) w) h u.1

  has_shape : slice_get w f.next ≡ None → HasShape text r.piece
  has_shape e =
      let x = whole_fine table claims 200 w f.next (OfTerm r.piece ∷ []) r.same (no_next w f.next e) in
      let i = x.is in
      let p : x.value ≡ r.piece = cc in
      record { tokens = w; has_tokens = h; is_shape = subst (λ (q : Piece). E w q) p x.shape; few_open = x.within }

  -- what is kept of the tree, and what comes of that
  pub whole_kept : slice_get w f.next ≡ None → (result : Result RawTerm FFault) →
      ((t : RawTm) → Keeps f.kept t →
      MatchResult result (λ e. (tree_of e ≡ t) × (nodes t ≤ 100000))
      (λ x. (x ≡ Refused code.L3 (raw_span t)) × (100000 < nodes t))) →
      MatchResult result (λ t. HasTree text (tree_of t)) (λ x. IsFault text x)
  whole_kept e (Ok t) k =
      let x = k r.piece.tree r.keeps in
      record { shape = r.piece; has_shape = has_shape e; few_nodes = x.1; is = x.0 }
  whole_kept e (Err x) k =
      let y = k r.piece.tree r.keeps in
      rw (y.0) (too_large r.piece (has_shape e) y.1)

-- where the names of a tree are bound, or one is not
module _ (text : List ℕ) (t : RawTm) (h : HasTree text t) where
  pub bound : (tm : Tm) → TermOf text [] [] t tm → SourceWithin text tm
  bound tm b = record {
    source = record {
      tokens = h.has_shape.tokens;
      shape = h.shape;
      cut = h.has_shape.has_tokens.cut;
      is_shape = h.has_shape.is_shape;
      bound = subst (λ (u : RawTm). TermOf text [] [] u tm) h.is b;
    };
    few_bytes = h.has_shape.has_tokens.few_bytes;
    few_open = h.has_shape.few_open;
    few_nodes = subst (λ (n : ℕ). n ≤ 100000) (sym (same_nodes b ∙ ap nodes h.is)) h.few_nodes;
  }

  is_unbound : (u : Use) → IsFirstUnbound text (uses text [] [] t) u → FirstFault text (unbound_code u.of_type) u.at
  is_unbound u f =
      unbound h.shape u h.has_shape h.few_nodes
      (subst (λ (x : RawTm). IsFirstUnbound text (uses text [] [] x) u) h.is f)

  pub value_unbound : (s : Span) → StopsAt text (uses text [] [] t) (Value s) → FirstFault text code.E05 s
  value_unbound s x = rw (x.3) (subst (λ y. FirstFault text (unbound_code y) x.0.at) x.2 (is_unbound x.0 x.1))

  pub type_unbound : (s : Span) → StopsAt text (uses text [] [] t) («Type» s) → FirstFault text code.E06 s
  type_unbound s x = rw (x.3) (subst (λ y. FirstFault text (unbound_code y) x.0.at) x.2 (is_unbound x.0 x.1))
