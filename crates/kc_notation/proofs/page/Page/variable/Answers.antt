use Rattle.std.proofs.Common.{List, ℕ, ◌++◌, ap, ◌∙◌, subst}
use Rattle.std.proofs.lemmas.Result.{on_ok_weaker}
use Rattle.page_core.specs.Names.{value_name}
use Rattle.page_core.specs.Pieces.{HasText}
use Rattle.kc_notation.proofs.Pages.{keeps_page}
use Rattle.kc_notation.proofs.page.Page.variable.Goals as goal

pub returns : goal.returns
returns c = on_ok_weaker c.push.result
    (λ f p h.
    f p (value_name c.args.level) (keeps_page c.args.self.now c.bytes.new.self p c.in_ok-piece.ensures.keeps h)
    (subst (HasText c.bytes.new.self c.in_ok-piece.piece)
    (c.in_ok-write_value_name.ensures ∙ ap (λ (x : List ℕ). x ++ value_name c.args.level) c.new-text.ensures.items)
    c.in_ok-piece.ensures.stands))
    c.push.ensures
