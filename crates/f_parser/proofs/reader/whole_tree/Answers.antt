use Rattle.std.proofs.Common.{◌∙◌, sym}
use Rattle.f_parser.proofs.Reading.{goes_on, whole_kept}
use Rattle.f_parser.proofs.reader.whole_tree.Goals as goal

pub returns-in-Some : goal.returns-in-Some
returns-in-Some c =
    rw c.refused.ensures
    (goes_on c.args.text.now c.args.tokens.now c.requires c.in-Ok.found c.in-Ok.ensures c.in-Some.token
    (sym c.peek.ensures ∙ c.in-Some.is))

pub returns-in-None : goal.returns-in-None
returns-in-None c =
    whole_kept c.args.text.now c.args.tokens.now c.requires c.in-Ok.found c.in-Ok.ensures
    (sym c.peek.ensures ∙ c.in-None.is) c.kept_tree.result c.kept_tree.ensures
