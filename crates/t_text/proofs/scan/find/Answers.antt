use Rattle.std.proofs.Common.{sym, ◌∙◌, ap}
use Rattle.t_text.specs.Kept.{of_tag}
use Rattle.t_text.proofs.Finding.{space_is_found, sign_is_found, register_is_found}
use Rattle.t_text.proofs.scan.find.Goals as goal

pub returns-then-is_space : goal.returns-then-is_space
returns-then-is_space c =
    space_is_found c.args.text.now c.args.at c.requires (sym c.is_space.ensures ∙ c.if-is_space.true)

pub returns-in-Some : goal.returns-in-Some
returns-in-Some c =
    rw c.bare.ensures (sign_is_found c.args.text.now c.args.at _ c.requires
    (sym c.sign.ensures ∙ ap of_tag c.in-Some.is))

pub returns-in-Some-register : goal.returns-in-Some-register
returns-in-Some-register c =
    let s = c.in-Some-register in
    rw c.numbered.ensures (register_is_found c.args.text.now c.args.at s.digits s.ensures)
