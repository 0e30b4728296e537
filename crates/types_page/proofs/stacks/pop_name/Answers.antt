use Rattle.std.proofs.Common.{arith}
use Rattle.types_page.specs.Walk.{named}
use Rattle.types_page.proofs.Stacking.{popped}
use Rattle.types_page.proofs.stacks.pop_name.Goals as goal

pub returns : goal.returns
returns c =
    popped named c.pop.result c.args.scope.now.items c.pop.new.self.items c.args.scope.now.len c.pop.new.self.len
    (omega (arith, c.args.scope.now.ok.0)) c.pop.ensures.items c.pop.ensures.cases
