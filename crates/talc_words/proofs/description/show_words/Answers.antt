use Rattle.talc_words.proofs.description.show_words.Goals as goal

pub returns : goal.returns
returns c =
    let formed = c.with-command.ensures _ _ c.reads-command.ensures c.form.ensures.rule c.form.ensures.local in
    c.with.ensures _ _ formed c.flag.ensures.rule c.flag.ensures.local
