use Rattle.std.proofs.Common.{◌∙◌, sym, refl}
use Rattle.t_gen_rules.specs.Gen.{busy}
use Rattle.t_gen_laws.proofs.Own.{picked_is}
use Rattle.t_gen.proofs.Gapped.{clash}
use Rattle.t_gen.proofs.registers.Registers.pick.Goals as goal

pub returns-then-is_free : goal.returns-then-is_free
returns-then-is_free c = λ m u k.
    let free = sym (c.is_free.ensures (λ r. busy r m u) k) ∙ c.if-is_free.true in
    picked_is m u c.args.wanted c.args.from c.args.wanted c.requires.one (λ e. refl) (λ e. absurd (clash free e))

pub returns : goal.returns
returns c = λ m u k.
    let held = sym (c.is_free.ensures (λ r. busy r m u) k) ∙ c.if-is_free.false in
    picked_is m u c.args.wanted c.args.from c.least.result c.requires.one (λ e. absurd (clash e held))
    (λ e. c.least.ensures (λ r. busy r m u) k)
