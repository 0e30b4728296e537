use Rattle.std.proofs.Common.{ap, sym}
use Rattle.std.specs.Prelude.{◌==◌, ◌&&◌, ◌||◌}
use Rattle.t_gen.proofs.InUse.{holds_same}
use Rattle.t_gen.proofs.choosing.take_if.Goals as goal

pub returns-then-new : goal.returns-then-new
returns-then-new c =
    λ h k. holds_same c.take.new.self (λ q. (c.args.r == q) || h q) (λ q. (c.args.new && c.args.r == q) || h q)
    (c.in_ok-take.ensures h k) (λ q le. sym (ap (λ b. (b && c.args.r == q) || h q) c.if-new.true))

pub returns : goal.returns
returns c = λ h k. holds_same c.args.registers.now h (λ q. (c.args.new && c.args.r == q) || h q) k
    (λ q le. sym (ap (λ b. (b && c.args.r == q) || h q) c.if-new.false))
