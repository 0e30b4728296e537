use Rattle.talc_words.proofs.description.gen_words.Goals as goal

pub returns : goal.returns
returns c =
    let writes = c.with-command.ensures _ _ c.named.ensures c.written.ensures.rule c.written.ensures.local in
    c.with.ensures _ _ writes c.number.ensures.rule c.number.ensures.local
