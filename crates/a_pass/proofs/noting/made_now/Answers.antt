use Rattle.std.proofs.Common.{arith}
use Rattle.a_terms.specs.Read.{atree}
use Rattle.a_pass.proofs.Terms.{shown_now}
use Rattle.a_pass.proofs.noting.made_now.Goals as goal

pub returns : goal.returns
returns c = (shown_now c.args.under (atree c.args.ty), omega arith)
