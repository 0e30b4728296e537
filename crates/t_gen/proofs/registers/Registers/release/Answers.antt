use Rattle.std.proofs.Common.{◌≡◌, ◌≤◌, ◌∙◌, ℕ, ap, sym, arith}
use Rattle.std.specs.Prelude.{◌==◌, ◌&&◌, not, false}
use Rattle.t_gen.proofs.Gapped.{gaps_same, busy_less, same_less}
use Rattle.t_gen.proofs.registers.Registers.release.Goals as goal

pub returns-then-r-eq0 : goal.returns-then-r-eq0
returns-then-r-eq0 c = λ h k.
    let off : (q : ℕ) → 1 ≤ q → h q ≡ (h q && not (c.args.r == q)) =
    λ q le. same_less h c.args.r q (λ e. absurd (omega (arith, le, e, c.if-r-eq0.true))) in
    record {
      busy = λ q le. k.busy q le ∙ off q le;
      gaps = gaps_same c.args.self.now.gaps h (λ q. h q && not (c.args.r == q)) k.gaps (λ q le lt. off q le);
    }

pub returns-else-remove : goal.returns-else-remove
returns-else-remove c = λ h k.
    let none : h c.args.r ≡ false =
    sym (k.busy c.args.r (omega (arith, c.if-r-eq0.false))) ∙ sym c.remove.ensures.test ∙ c.if-remove.false in
    record {
      busy = busy_less c.args.self.now.busy c.remove.new.self h c.args.r c.remove.ensures.updates.0 k.busy;
      gaps = gaps_same c.args.self.now.gaps h (λ q. h q && not (c.args.r == q)) k.gaps
          (λ q le lt. same_less h c.args.r q (λ e. ap h (sym e) ∙ none));
    }

pub returns-in_default : goal.returns-in_default
returns-in_default c = λ h k. record {
  busy = busy_less c.args.self.now.busy c.remove.new.self h c.args.r c.remove.ensures.updates.0 k.busy;
  gaps = gaps_same c.args.self.now.gaps h (λ q. h q && not (c.args.r == q)) k.gaps
      (λ q le lt. same_less h c.args.r q (λ e. absurd (c.in_default.ensures (omega (arith, lt, e)))));
}
