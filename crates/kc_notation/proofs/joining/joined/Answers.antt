use Rattle.kc_notation.proofs.joining.joined.Goals as goal

pub returns-clause-keeps : goal.returns-clause-keeps
returns-clause-keeps c = λ i s h.
    c.in_ok-whole.ensures.keeps i s (c.in_ok-behind.ensures.keeps i s (c.in_ok-middle.ensures.keeps i s h))

pub returns-clause-stands : goal.returns-clause-stands
returns-clause-stands c = λ s t a b.
    let kept = c.in_ok-middle.ensures.keeps in
    c.in_ok-whole.ensures.stands s _ (c.in_ok-behind.ensures.keeps _ s (kept _ s a))
    (c.in_ok-behind.ensures.stands _ t c.in_ok-middle.ensures.stands (kept _ t b))
