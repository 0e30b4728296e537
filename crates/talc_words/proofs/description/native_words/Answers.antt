use Rattle.talc_words.proofs.description.native_words.Goals as goal

pub returns : goal.returns
returns c =
    let writes =
    c.with-command.ensures _ _ c.reads-command.ensures c.optional_file.ensures.rule c.optional_file.ensures.local in
    let lists = c.with-command-2.ensures _ _ writes c.flag.ensures.rule c.flag.ensures.local in
    c.with_usage.ensures _ (c.with-command-3.ensures _ _ lists c.heap.ensures.rule c.heap.ensures.local)
