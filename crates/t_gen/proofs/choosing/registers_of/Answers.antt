use Rattle.std.proofs.Common.{subst}
use Rattle.std.proofs.lemmas.List.{take_all}
use Rattle.a_scope.specs.Scope.{homes}
use Rattle.t_gen.specs.Keeps.{among, each}
use Rattle.t_gen.specs.Registers.{Holds}
use Rattle.t_gen.proofs.InUse.{taken_next}
use Rattle.t_gen.proofs.choosing.registers_of.Goals as goal

pub loop-i-preserved : goal.loop-i-preserved
loop-i-preserved c =
    taken_next _ (homes c.args.vars.now) c.args.some.now c.loop-i.i 0 c.register_now.result c.loop-i-test.true
    c.register_now.ensures (c.in_ok-take.ensures _ c.loop-i.invariant)

pub returns : goal.returns
returns c = subst (λ xs. Holds c.loop-i.registers (among each (homes c.args.vars.now) xs))
    (take_all c.loop-i.i c.args.some.now c.loop-i-test.false) c.loop-i.invariant
