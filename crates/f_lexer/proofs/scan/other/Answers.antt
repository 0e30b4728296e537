use Rattle.std.proofs.Common.{refl, sym, ◌∙◌}
use Rattle.f_lexer.specs.declared.kind.Kind.TheVariants as k
use Rattle.f_lexer.proofs.Finding.{pair_found}
use Rattle.f_lexer.proofs.scan.other.Goals as goal

pub returns-then-is_pair : goal.returns-then-is_pair
returns-then-is_pair c =
    pair_found 45 62 k.Arrow refl tt c.args.text.now c.args.at c.requires.at c.requires.other
    (sym c.is_pair.ensures ∙ c.if-is_pair.true)

pub returns-then-is_pair-2 : goal.returns-then-is_pair-2
returns-then-is_pair-2 c =
    pair_found 58 61 k.Assign refl tt c.args.text.now c.args.at c.requires.at c.requires.other
    (sym c.is_pair-2.ensures ∙ c.if-is_pair-2.true)
