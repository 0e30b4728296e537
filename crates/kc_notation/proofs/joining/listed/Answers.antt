use Rattle.std.proofs.Common.{List, ℕ, ◌++◌, ap, ◌∙◌, subst}
use Rattle.page_core.specs.Names.{separator}
use Rattle.page_core.specs.Pieces.{HasText}
use Rattle.kc_notation.proofs.joining.listed.Goals as goal

pub returns-clause-stands : goal.returns-clause-stands
returns-clause-stands c = λ s t a b.
    subst (λ (e : List ℕ). HasText c.joined.new.pieces c.in_ok-piece.piece (s ++ (e ++ t)))
    (c.in_ok-write_separator.ensures ∙ ap (λ (x : List ℕ). x ++ separator c.args.already) c.new-between.ensures.items)
    (c.in_ok-piece.ensures.stands s t a b)
