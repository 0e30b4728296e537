use Rattle.std.proofs.Common.{ap₂, map}
use Rattle.let_types.specs.KnownRead.{frame, seen}
use Rattle.let_types.proofs.Knowing.{names_more, with_names}
use Rattle.let_types.proofs.closed.Known.declare.Goals as goal

pub returns : goal.returns
returns c =
    ap₂ (λ es vs. with_names es (map seen vs) (map frame c.args.self.now.around.items))
    (names_more c.args.level c.args.self.now.body.names.items c.truncate-2.new.self.items c.push.new.self.items
    (record { ty = c.args.ty; types = c.args.types }) c.truncate-2.ensures.items c.in_ok-push.ensures.items)
    c.truncate.ensures.items
