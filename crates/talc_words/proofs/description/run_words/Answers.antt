use Rattle.talc_words.proofs.description.run_words.Goals as goal

pub returns : goal.returns
returns c =
    c.with.ensures _ _ c.reads-command.ensures c.number.ensures.rule c.number.ensures.local
