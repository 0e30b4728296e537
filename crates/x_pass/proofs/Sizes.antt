-- How long the code of both operands of a comparison is.
use Rattle.std.proofs.Common.{◌≡◌, ℕ, ◌+◌, length}
use Rattle.x_terms.specs.declared.register.Register.TheVariants.{Rax}
use Rattle.x_laws.specs.Core.{bytes_all}
use Rattle.x_laws.specs.Homes.{Home}
use Rattle.x_laws.specs.Straight.{bring, bring_right}
use Rattle.x_laws.specs.Code.{both}
use Rattle.x_laws.proofs.Laid.{length_both}
use Rattle.w_terms.specs.declared.instr.WOp.TheVariants as w
use Rattle.w_terms.specs.declared.instr.WOperand.{WOperand}

pub both_size : (homes : ℕ → Home) (rs : ℕ) (v : WOperand) →
    length (bytes_all (both homes rs v))
    ≡ length (bytes_all (bring Rax (homes rs))) + length (bytes_all (bring_right homes w.Sub v))
both_size homes rs v = length_both (bring Rax (homes rs)) (bring_right homes w.Sub v)
