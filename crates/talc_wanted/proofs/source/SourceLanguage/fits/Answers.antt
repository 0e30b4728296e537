use Rattle.std.proofs.Common.{◌≡◌, refl, ◌∙◌, ap, Bool, true, false, Some, None, if◌then◌else◌}
use Rattle.std.specs.Option.{is_some}
use Rattle.f_lexer.specs.declared.token.Token.{Token}
use Rattle.f_grammar.specs.Machine.{fits}
use Rattle.talc_wanted.proofs.source.SourceLanguage.fits.Goals as goal

by_fit : (b : Bool) (t : Token) → is_some (if b then Some t else None) ≡ b
by_fit true t = refl
by_fit false t = refl

pub returns : goal.returns
returns c =
    c.is_some.ensures
    ∙ (ap (λ o. is_some o) c.take.ensures ∙ by_fit (fits c.args.class c.args.token.kind) _)
