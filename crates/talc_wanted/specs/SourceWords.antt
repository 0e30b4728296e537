-- The kinds of tokens of the source, and the words for them.
use Rattle.std.specs.Prelude.{map}
use Rattle.idx_core.specs.declared.span.Span.{Span}
use Rattle.f_lexer.specs.declared.kind.Kind.{Kind}
use Rattle.f_lexer.specs.declared.token.Token.{Token}
use Rattle.f_grammar.specs.Grammar.{tok}
use Rattle.talc_wanted.specs.Wanted.{Kinds}
use Rattle.talc_wanted.specs.declared.source_words.TheConstants.{KINDS}

abbrev pub nowhere : Span
nowhere = record { start = 0; end = 0 }

abbrev pub source_kinds : Kinds Kind Token
source_kinds = record {
  kinds = map (λ r. (r.0, r.1, r.2.now)) KINDS;
  sample = λ kind. tok kind nowhere;
  place = λ t. t.span;
}
