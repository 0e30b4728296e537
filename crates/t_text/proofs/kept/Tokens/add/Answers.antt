use Rattle.std.proofs.Common.{refl, ◌∙◌}
use Rattle.t_text.proofs.Keeping.{long_kept}
use Rattle.t_text.proofs.kept.Tokens.add.Goals as goal

pub returns : goal.returns
returns c =
    let t = c.args.self.now in
    λ h. rw (c.in_ok-push-2.ensures.items, c.in_ok-push.ensures.items)
    (long_kept t.long.items c.args.token t.words.items _ refl (c.len-at.ensures ∙ t.long.ok.0) h)
