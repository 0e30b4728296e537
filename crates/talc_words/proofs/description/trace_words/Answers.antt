use Rattle.talc_words.proofs.description.trace_words.Goals as goal

pub returns : goal.returns
returns c =
    let between = c.with-command.ensures _ _ c.reads-command.ensures c.number.ensures.rule c.number.ensures.local in
    c.with.ensures _ _ between c.number-2.ensures.rule c.number-2.ensures.local
