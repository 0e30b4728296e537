use Rattle.f_grammar.proofs.Steps.{ended}
use Rattle.f_grammar.proofs.reader.found.Goals as goal

pub kept-kept-requires : goal.kept-kept-requires
kept-kept-requires c = λ f. (c.requires.leads.1.node f).0

pub returns : goal.returns
returns c =
    let r = c.args.reader in
    let x = c.requires.leads in
    let e = ended r.tokens.now r.frames.items r.forest r.depth r.at x.0 c.requires.none x.2 in
    record { piece = x.0; keeps = c.kept-kept.ensures x.0 x.1 e.1; same = e.0 }
