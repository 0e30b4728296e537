use Rattle.std.proofs.Common.{arith}
use Rattle.std.proofs.lemmas.List.{length-map}
use Rattle.f_terms.specs.ReadTerm.{part}
use Rattle.f_terms.proofs.stack.FStack.len.Goals as goal

pub returns : goal.returns
returns c = omega (
  arith,
  c.len.ensures,
  c.args.self.now.numbers.ok.0,
  length-map c.args.self.now.numbers.items (part c.args.self.now.parts),
)
