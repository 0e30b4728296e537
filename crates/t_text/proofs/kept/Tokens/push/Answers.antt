use Rattle.t_text.proofs.Keeping.{short_kept}
use Rattle.t_text.proofs.kept.Tokens.push.Goals as goal

pub returns-in_ok-push-in-Some : goal.returns-in_ok-push-in-Some
returns-in_ok-push-in-Some c =
    let t = c.args.self.now in
    let (n, e) = c.in-Some.ensures in
    λ h. rw c.in_ok-push-in-Some.ensures.items (rw e at (short_kept t.long.items t.words.items c.in-Some.word n h))
