use Rattle.f_grammar.proofs.Steps.{got_are}
use Rattle.f_grammar.proofs.Resuming.{next_field}
use Rattle.f_grammar.proofs.resume.after_next.Goals as goal

pub after_field-requires : goal.after_field-requires
after_field-requires c =
    let x = c.requires in
    let h = x.3 in
    let g = next_field c.args.reader.now.tokens.now x.0 h.0 h.1 h.2 c.args.fields.items c.in_ok-more.more.items x.2 h.4
    c.in_ok-more.ensures (got_are x.0 x.1 _ h.5 x.4) in
    (h.0, _, h.3, g.0, g.1)
