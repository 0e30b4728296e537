use Rattle.std.proofs.Common.{◌≡◌, List, ℕ, ◌++◌, ap, ◌∙◌, subst, rules, to_z, of_z, w64}
use Rattle.std.proofs.lemmas.Result.{on_ok_weaker}
use Rattle.page_core.specs.Names.{number}
use Rattle.page_core.specs.Pieces.{HasText}
use Rattle.kc_notation.proofs.Pages.{keeps_page}
use Rattle.kc_notation.proofs.page.Page.integer.Goals as goal

pub returns : goal.returns
returns c =
    let same : to_z w64 (of_z w64 c.args.n) ≡ c.args.n = search rules in
    on_ok_weaker c.push.result
    (λ f p h.
    f p (number c.args.n) (keeps_page c.args.self.now c.bytes.new.self p c.in_ok-piece.ensures.keeps h)
    (subst (HasText c.bytes.new.self c.in_ok-piece.piece)
    (c.in_ok-write_integer.ensures
    ∙ ap (λ (x : List ℕ). x ++ number (to_z w64 (of_z w64 c.args.n))) c.new-text.ensures.items
    ∙ ap number same)
    c.in_ok-piece.ensures.stands))
    c.push.ensures
