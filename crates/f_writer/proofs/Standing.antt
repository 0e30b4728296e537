-- The text of a term stands for the term.
use Rattle.std.proofs.Common.{◌≡◌, ℕ, List, [], ◌∷◌, ◌++◌, codes, true, refl, sym, ap, ◌∙◌, subst, lit<, ◌≤◌, arith}
use Rattle.std.proofs.lemmas.List.{append-nil}
use Rattle.text_core.specs.Tokens.{Cut}
use Rattle.f_terms.specs.Tm.{Term, Tm, plain}
use Rattle.f_lexer.specs.Source.{source}
use Rattle.f_grammar.specs.Text.{OneTerm, Source, FewOpen}
use Rattle.f_terms.specs.Limits.{FewNodes}
use Rattle.f_writer.specs.declared.line.Line.TheVariants.{Expression}
use Rattle.f_writer.specs.Fits.{CanBeWritten}
use Rattle.f_writer.specs.Nesting.{most_open, nesting}
use Rattle.f_writer.specs.Lines.{line_of}
use Rattle.f_writer.specs.Notation.{term_text}
use Rattle.f_writer.specs.Laws.{StandsForItself, WrittenTwiceIsWrittenOnce, WrittenTextsAreWithin}
use Rattle.f_writer.proofs.Lexemes.{Lexeme, Blank, render, render_append, lexed, term_rendered}
use Rattle.f_writer.proofs.Placed.{placed, placed_append, cut_placed, Fine, fine_append, Written, written_append}
use Rattle.f_writer.proofs.Placed.{written_from}
use Rattle.f_writer.proofs.Opens.{Opens, whole_term}
use Rattle.f_writer.proofs.Nested.{few_open, nests_within}
use Rattle.f_writer.proofs.WroteTerms.{wrote_term}
use Rattle.f_writer.proofs.Reading.{can_be_written}

line_end : List Lexeme
line_end = Blank 10 ∷ []

-- the text of a term as a source, within the limit on open constructs where the term nests within it
record Stood (e : Term) : Type 0 where
  tm : Tm
  source_of : Source (term_text e) tm
  is : plain tm ≡ e
  few : nesting e ≤ most_open → FewOpen source_of.tokens

stood : (e : Term) → CanBeWritten e → Stood e
unfolding line_end
stood e h =
    let text = term_text e in
    let ls = lexed 0 0 e ++ line_end in
    let rendered : render ls ≡ text = render_append (lexed 0 0 e) line_end
    ∙ ap (λ (u : List ℕ). u ++ codes "\n") (term_rendered 0 0 e) in
    let written : Written text 0 ls = written_from text 0 ls [] (sym rendered ∙ sym (append-nil (render ls))) in
    let r = wrote_term text 0 0 0 e (lit< tt) (lit< tt) h (written_append text 0 (lexed 0 0 e) line_end written).0 in
    let fine : Fine ls true = fine_append (lexed 0 0 e) line_end true r.fine (refl, tt, tt) in
    let whole : Opens Expression (placed 0 ls) r.piece (nesting e) =
    rw (placed_append 0 (lexed 0 0 e) line_end, append-nil) (whole_term _ _ _ (line_of e) r.whole) in
    record {
      tm = r.tm;
      source_of = record {
        tokens = placed 0 ls;
        shape = r.piece;
        cut = subst (λ (s : List ℕ). Cut source 0 s (placed 0 ls)) rendered (cut_placed 0 ls fine);
        is_shape = whole.shape;
        bound = r.bound;
      };
      is = r.is;
      few = λ n. few_open (placed 0 ls) r.piece whole.shape (whole.few 0 (omega (arith, n)));
    }

pub stands_for_itself : StandsForItself
stands_for_itself e h = let s = stood e h in (s.tm, s.source_of, s.is)

pub written_twice : OneTerm → WrittenTwiceIsWrittenOnce
written_twice one text a few s =
    let w = stands_for_itself (plain a) (can_be_written text a few s) in
    let same : (b : Tm) → Source (term_text (plain a)) b → plain b ≡ plain a =
    λ b t. ap plain (one (term_text (plain a)) b w.0 t w.1) ∙ w.2 in (
      (w.0, w.1),
      λ b t. (same b t, ap term_text (same b t)),
    )

pub written_within : WrittenTextsAreWithin
written_within text a x few =
    let s = stood (plain a) (can_be_written text a x.few_bytes x.source) in
    let nodes : FewNodes (plain s.tm) = subst (λ (e : Term). FewNodes e) (sym s.is) x.few_nodes in (
      s.tm,
      record {
        source = s.source_of;
        few_bytes = few;
        few_open = s.few (nests_within text a x.source x.few_open);
        few_nodes = nodes;
      },
      s.is,
    )
