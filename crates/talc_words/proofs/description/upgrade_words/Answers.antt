use Rattle.talc_words.proofs.description.upgrade_words.Goals as goal

pub returns : goal.returns
returns c =
    c.with.ensures _ _ c.reads-command.ensures c.written.ensures.rule c.written.ensures.local
