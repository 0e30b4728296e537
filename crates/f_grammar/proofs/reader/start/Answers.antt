use Rattle.std.proofs.Common.{refl}
use Rattle.f_grammar.proofs.Steps.{started}
use Rattle.f_grammar.proofs.reader.start.Goals as goal

pub returns : goal.returns
returns c = (started c.args.tokens.now c.new.result.items _ c.new.ensures.items refl c.new-2.ensures.items, refl)
