use Rattle.talc_words.proofs.description.compile_words.Goals as goal

pub returns : goal.returns
returns c =
    let writes = c.with-command.ensures _ _ c.reads-command.ensures c.written.ensures.rule c.written.ensures.local in
    c.with.ensures _ _ writes c.registers.ensures.rule c.registers.ensures.local
