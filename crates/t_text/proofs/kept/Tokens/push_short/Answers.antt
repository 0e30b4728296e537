use Rattle.t_text.proofs.Keeping.{short_kept}
use Rattle.t_text.proofs.kept.Tokens.push_short.Goals as goal

pub returns : goal.returns
returns c =
    let t = c.args.self.now in
    λ h. rw c.in_ok-push.ensures.items (short_kept t.long.items t.words.items _ c.requires.not_empty h)
