use Rattle.std.proofs.Common.{◌∙◌, sym, ap, arith}
use Rattle.std.proofs.lemmas.Option.{slice_get_within}
use Rattle.talc_wanted.specs.Owing.{owing, from_top}
use Rattle.talc_wanted.specs.Wanted.{line_at, token_line, end_line}
use Rattle.talc_wanted.proofs.Lines.{goes_next, stands_here, stands_at_end}
use Rattle.talc_wanted.proofs.line.line_of.Goals as goal

pub returns-then-not-taken : goal.returns-then-not-taken
returns-then-not-taken g c =
    c.in_ok-line-in-Some.ensures
    ∙ (ap (λ x. token_line (owing g.G.Language.owes) g.G.Language.tells c.args.text.now c.args.at (from_top x)
    c.in-Some.token) c.deref.ensures.value
    ∙ ap (λ x. line_at (owing g.G.Language.owes) g.G.Language.tells c.args.text.now c.args.at x)
    (sym (c.walk.invariant
    ∙ stands_here (owing g.G.Language.owes) (g.G.Language.tokens_of c.args.tokens.now) c.walk.read c.walk.owed.items
    c.in-Some.token c.advance.new.owed.items c.in_ok-taken-in-Some.taken (sym c.token.ensures ∙ c.in-Some.is)
    c.in_ok-taken-in-Some.ensures c.if-not-taken.true)))

pub walk-preserved : goal.walk-preserved
walk-preserved g c =
    c.walk.invariant
    ∙ goes_next (owing g.G.Language.owes) (g.G.Language.tokens_of c.args.tokens.now) c.walk.read c.walk.owed.items
    c.in-Some.token c.advance.new.owed.items c.in_ok-taken-in-Some.taken (sym c.token.ensures ∙ c.in-Some.is)
    c.in_ok-taken-in-Some.ensures c.if-not-taken.false

pub returns-in-None : goal.returns-in-None
returns-in-None g c =
    c.in_ok-line-in-None.ensures
    ∙ (ap (λ x. end_line (owing g.G.Language.owes) g.G.Language.tells c.args.text.now c.args.at (from_top x))
    c.deref-in-None.ensures.value
    ∙ ap (λ x. line_at (owing g.G.Language.owes) g.G.Language.tells c.args.text.now c.args.at x)
    (sym (c.walk.invariant
    ∙ stands_at_end (owing g.G.Language.owes) (g.G.Language.tokens_of c.args.tokens.now) c.walk.read
    c.walk.owed.items (sym c.token.ensures ∙ c.in-None.is))))

pub overflow_add-read : goal.overflow_add-read
overflow_add-read g c =
    let within = slice_get_within (g.G.Language.tokens_of c.args.tokens.now) c.walk.read c.in-Some.token
    (sym c.token.ensures ∙ c.in-Some.is) in
    record { fits = omega (arith, within, c.requires) }

pub walk-smaller : goal.walk-smaller
walk-smaller g c =
    let within = slice_get_within (g.G.Language.tokens_of c.args.tokens.now) c.walk.read c.in-Some.token
    (sym c.token.ensures ∙ c.in-Some.is) in
    omega (arith, within)
