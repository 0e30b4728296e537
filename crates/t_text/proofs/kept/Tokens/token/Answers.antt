use Rattle.std.proofs.Common.{sym, ◌∙◌}
use Rattle.t_text.proofs.Keeping.{long_in, short_in}
use Rattle.t_text.proofs.kept.Tokens.token.Goals as goal

pub returns-then-word-eq0 : goal.returns-then-word-eq0
returns-then-word-eq0 c =
    c.long_token.ensures ∙ sym (long_in c.args.self.now.long.items c.args.word c.if-word-eq0.true)

pub returns : goal.returns
returns c = c.short_token.ensures ∙ sym (short_in c.args.self.now.long.items c.args.word c.if-word-eq0.false)
