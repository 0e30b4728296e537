use Rattle.std.proofs.Common.{refl, sym, ◌∙◌}
use Rattle.f_grammar.proofs.Follows.{none_of}
use Rattle.f_grammar.proofs.Beginning.{no_part, no_part_end}
use Rattle.f_grammar.proofs.begin.begin_part.Goals as goal

pub returns-in-None : goal.returns-in-None
returns-in-None c = no_part_end c.args.reader.now.tokens.now _ (sym c.peek.ensures ∙ c.in-None.is) refl c.requires

pub returns-in_default : goal.returns-in_default
returns-in_default c =
    let k1 = c.in-Some.token in
    no_part c.args.reader.now.tokens.now k1 _ (sym c.peek.ensures ∙ c.in-Some.is)
    (none_of k1.kind c.in_default.not-Name (λ z. c.in_default.not-Plain z) (λ z. c.in_default.not-Negative z)
    c.in_default.not-LeftParen c.in_default.not-LeftAngle c.in_default.not-Hash c.in_default.not-If0
    c.in_default.not-Ref c.in_default.not-Bang) refl c.requires
