-- The high part of a file, spilled.
use Rattle.std.proofs.Common.{◌≡◌, ℕ, nat_lt, Bool, true, false, refl, sym, ap, ◌∙◌}
use Rattle.t_types.specs.Tree.{Ty, TFile, NoRegs, MoreRegs}
use Rattle.t_spill_rules.specs.Spill.{sp, sp_regs, with_if, high_part}

with_regs : (m : ℕ) (b : Bool) (r : ℕ) (t : Ty) (x : TFile) →
    sp_regs m (with_if b r t x) ≡ with_if b r (sp m t) (sp_regs m x)
with_regs m true r t x = refl
with_regs m false r t x = refl

pub high_regs : (m n : ℕ) (x : TFile) → high_part n (sp_regs m x) ≡ sp_regs m (high_part n x)
high_regs m n NoRegs = refl
high_regs m n (MoreRegs r t x) =
    ap (with_if (nat_lt n r) r (sp m t)) (high_regs m n x) ∙ sym (with_regs m (nat_lt n r) r t (high_part n x))
