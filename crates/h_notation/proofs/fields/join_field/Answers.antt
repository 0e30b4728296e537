use Rattle.std.proofs.Common.{◌≡◌, ℕ, List, ◌++◌, ap, ◌∙◌, subst}
use Rattle.page_core.specs.Names.{separator}
use Rattle.page_core.specs.Pieces.{HasText}
use Rattle.h_notation.proofs.fields.join_field.Goals as goal

pub returns-clause-keeps : goal.returns-clause-keeps
returns-clause-keeps c =
    λ x s h. c.in_ok-whole.ensures.keeps x s (c.in_ok-tail.ensures.keeps x s (c.in_ok-gap.ensures.keeps x s h))

pub returns-clause-stands : goal.returns-clause-stands
returns-clause-stands c = λ s t hs ht.
    let comma : c.write_separator.new.text.items ≡ separator c.args.before =
    c.in_ok-write_separator.ensures ∙ ap (λ (u : List ℕ). u ++ separator c.args.before) c.new-comma.ensures.items in
    let gap = subst (λ u. HasText c.bytes.new.self c.in_ok-gap.gap u) comma c.in_ok-gap.ensures.stands in
    let tail = c.in_ok-tail.ensures.stands (separator c.args.before) t gap
    (c.in_ok-gap.ensures.keeps c.args.field t ht) in
    c.in_ok-whole.ensures.stands s (separator c.args.before ++ t)
    (c.in_ok-tail.ensures.keeps c.args.piece s (c.in_ok-gap.ensures.keeps c.args.piece s hs)) tail
