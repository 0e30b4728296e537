use Rattle.std.proofs.Common.{sym, ◌∙◌, ap}
use Rattle.t_text.specs.Kept.{of_tag}
use Rattle.t_text.proofs.Finding.{space_is_found, sign_is_found}
use Rattle.t_text.proofs.scan.short_at.Goals as goal

pub returns-then-is_space : goal.returns-then-is_space
returns-then-is_space c =
    space_is_found c.args.text.now c.args.at c.requires (sym c.is_space.ensures ∙ c.if-is_space.true)

pub returns-in-Some : goal.returns-in-Some
returns-in-Some c =
    sign_is_found c.args.text.now c.args.at _ c.requires (sym c.sign.ensures ∙ ap of_tag c.in-Some.is)
