use Rattle.std.proofs.Common.{◌∙◌, ap, ◌++◌, [], if◌then◌else◌}
use Rattle.talc_wanted.specs.Owing.{owing, from_top}
use Rattle.talc_wanted.specs.Wanted.{told_of, heading, found_token, bytes_at, same_place}
use Rattle.talc_wanted.proofs.line.token_line.Goals as goal

pub returns-then-same_place : goal.returns-then-same_place
returns-then-same_place g c =
    let h = heading (told_of (owing g.G.Language.owes) g.G.Language.tells (from_top c.args.owed.now)) in
    let s = c.if-same_place.ensures ∙ ap (λ p. same_place c.args.at p) c.place.ensures in
    c.in_ok-made.ensures
    ∙ (ap (λ x. x ++ found_token c.token_bytes.result.now) c.in_ok-line.ensures
    ∙ (ap (λ x. h ++ found_token x) c.token_bytes.ensures
    ∙ ap (λ b. if b then h ++ found_token (bytes_at c.args.text.now c.args.at) else []) s))

pub returns : goal.returns
returns g c =
    let h = heading (told_of (owing g.G.Language.owes) g.G.Language.tells (from_top c.args.owed.now)) in
    let s = c.if-same_place.ensures ∙ ap (λ p. same_place c.args.at p) c.place.ensures in
    c.new.ensures.items
    ∙ ap (λ b. if b then h ++ found_token (bytes_at c.args.text.now c.args.at) else []) s
