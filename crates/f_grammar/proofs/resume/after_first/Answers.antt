use Rattle.std.proofs.Common.{[], ◌∷◌, ◌++◌, ap, ◌∙◌}
use Rattle.f_grammar.specs.Machine.{OfToken}
use Rattle.f_grammar.proofs.Steps.{got_are}
use Rattle.f_grammar.proofs.Resuming.{first_field}
use Rattle.f_grammar.proofs.resume.after_first.Goals as goal

pub after_field-requires : goal.after_field-requires
after_field-requires c =
    let x = c.requires in
    let o = x.3.0 in
    let g = first_field c.args.reader.now.tokens.now x.0 o c.push.new.self.items x.2
    (c.in_ok-push.ensures.items ∙ ap (λ xs. xs ++ c.args.part.node ∷ []) c.new-fields.ensures.items)
    (got_are x.0 x.1 (OfToken o ∷ []) x.3.2 x.4) in
    (o, _, x.3.1, g.0, g.1)
