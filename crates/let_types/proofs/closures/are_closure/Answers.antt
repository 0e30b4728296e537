use Rattle.let_types.proofs.TypesListed.{no_closure}
use Rattle.let_types.proofs.closures.are_closure.Goals as goal

pub returns-then-ts-ne2 : goal.returns-then-ts-ne2
returns-then-ts-ne2 c = no_closure c.args.ts.now c.if-ts-ne2.true
