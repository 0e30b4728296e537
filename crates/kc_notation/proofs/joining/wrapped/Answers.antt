use Rattle.kc_notation.proofs.joining.wrapped.Goals as goal

pub returns-clause-keeps : goal.returns-clause-keeps
returns-clause-keeps c = λ i s h.
    c.in_ok-whole.ensures.keeps i s (c.in_ok-begin.ensures.keeps i s (c.in_ok-ended.ensures.keeps i s
    (c.in_ok-end.ensures.keeps i s h)))

pub returns-clause-stands : goal.returns-clause-stands
returns-clause-stands c = λ s a.
    c.in_ok-whole.ensures.stands _ _ c.in_ok-begin.ensures.stands
    (c.in_ok-begin.ensures.keeps _ _ (c.in_ok-ended.ensures.stands s _ (c.in_ok-end.ensures.keeps _ s a)
    c.in_ok-end.ensures.stands))
