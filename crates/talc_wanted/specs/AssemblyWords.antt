-- The kinds of tokens of assembly texts, and the words for them.
use Rattle.std.specs.Prelude.{map}
use Rattle.idx_core.specs.declared.span.Span.{Span}
use Rattle.t_text.specs.declared.token.Kind.{Kind}
use Rattle.t_text.specs.declared.token.Token.{Token}
use Rattle.talc_wanted.specs.Wanted.{Kinds}
use Rattle.talc_wanted.specs.declared.assembly_words.TheConstants.{KINDS}

abbrev pub nowhere : Span
nowhere = record { start = 0; end = 0 }

abbrev pub assembly_kinds : Kinds Kind Token
assembly_kinds = record {
  kinds = map (λ r. (r.0, r.1, r.2.now)) KINDS;
  sample = λ kind. record { kind = kind; span = nowhere };
  place = λ t. t.span;
}
