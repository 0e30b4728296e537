use Rattle.std.proofs.Common.{refl}
use Rattle.k_terms.specs.Stream.{NArith}
use Rattle.k_pass.specs.declared.work.Frame.TheVariants as F
use Rattle.k_pass.proofs.Gives.{takes_two}
use Rattle.k_pass.proofs.give.give_right.Goals as goal

pub returns-clause-steps : goal.returns-clause-steps
returns-clause-steps c = λ t.
    takes_two t c.args.work.now c.put_two.new.out (F.Right c.args.op c.args.a) c.args.a c.args.given.atom
    c.args.given.depth c.in_ok-inside.inside (NArith c.args.given.depth c.args.op) refl refl
    c.in_ok-put_two.ensures c.in_ok-inside.ensures
