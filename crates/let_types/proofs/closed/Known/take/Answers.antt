use Rattle.std.proofs.Common.{ap}
use Rattle.let_types.specs.Known.{with_values}
use Rattle.let_types.specs.KnownRead.{known}
use Rattle.let_types.proofs.Knowing.{last_seen, others_seen}
use Rattle.let_types.proofs.closed.Known.take.Goals as goal

pub returns-in-Some-clause-last : goal.returns-in-Some-clause-last
returns-in-Some-clause-last c =
    last_seen c.args.self.now.body.values.items c.pop.new.self.items c.in-Some.value c.in-Some.ensures.items

pub returns-in-Some-clause-rest : goal.returns-in-Some-clause-rest
returns-in-Some-clause-rest c =
    ap (with_values (known c.args.self.now))
    (others_seen c.args.self.now.body.values.items c.pop.new.self.items c.in-Some.value c.in-Some.ensures.items)
