use Rattle.std.proofs.Common.{◌∙◌, ap, sym}
use Rattle.std.specs.Prelude.{◌==◌, ◌&&◌, not}
use Rattle.t_gen_rules.specs.Gen.{place}
use Rattle.a_scope.specs.Scope.{homes}
use Rattle.t_gen.specs.Keeps.{is_one}
use Rattle.t_gen.proofs.InUse.{holds_same, and_true}
use Rattle.t_gen.proofs.choosing.release_one.Goals as goal

pub returns-then-is_it : goal.returns-then-is_it
returns-then-is_it c = λ h k.
    let m = homes c.args.vars.now in
    let n = c.args.n in
    let it = sym c.is_it.ensures ∙ c.if-is_it.true in
    holds_same c.args.registers.now h (λ r. h r && not (not (is_one c.args.but n) && place m n == r)) k
    (λ r le. and_true (h r) ∙ sym (ap (λ b. h r && not (not b && place m n == r)) it))

pub returns : goal.returns
returns c = λ h k.
    let m = homes c.args.vars.now in
    let n = c.args.n in
    let it = sym c.is_it.ensures ∙ c.if-is_it.false in
    holds_same c.release.new.self (λ r. h r && not (c.register_now.result == r))
    (λ r. h r && not (not (is_one c.args.but n) && place m n == r)) (c.in_ok-release.ensures h k)
    (λ r le. ap (λ q. h r && not (q == r)) c.register_now.ensures
    ∙ sym (ap (λ b. h r && not (not b && place m n == r)) it))
