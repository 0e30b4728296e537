use Rattle.std.proofs.Common.{ℕ, [], subst}
use Rattle.std.specs.Prelude.{◌&&◌, not}
use Rattle.std.proofs.lemmas.List.{take_all}
use Rattle.a_scope.specs.Scope.{homes}
use Rattle.t_gen.specs.Keeps.{among, is_one}
use Rattle.t_gen.specs.Registers.{Holds}
use Rattle.t_gen.proofs.InUse.{holds_same, and_true, released_next}
use Rattle.t_gen.proofs.choosing.release_all.Goals as goal

pub loop-i-init : goal.loop-i-init
loop-i-init c =
    λ h k. holds_same c.args.registers.now h
    (λ r. h r && not (among (λ n. not (is_one c.args.but n)) (homes c.args.vars.now) [] r)) k (λ r le. and_true (h r))

pub loop-i-preserved : goal.loop-i-preserved
loop-i-preserved c = λ h k.
    let p = λ (n : ℕ). not (is_one c.args.but n) in
    released_next _ h p (homes c.args.vars.now) c.args.gone.now c.loop-i.i 0 c.loop-i-test.true
    (c.in_ok-release_one.ensures _ (c.loop-i.invariant h k))

pub returns : goal.returns
returns c = λ h k.
    subst (λ xs. Holds c.loop-i.registers
    (λ r. h r && not (among (λ n. not (is_one c.args.but n)) (homes c.args.vars.now) xs r)))
    (take_all c.loop-i.i c.args.gone.now c.loop-i-test.false) (c.loop-i.invariant h k)
