use Rattle.std.proofs.Common.{rules, true, false, ◌≡◌, ◌==◌, ℕ, List, [], ◌∷◌, length, Bool, IsTrue, refl, arith}
use Rattle.std.proofs.lemmas.Bool.Decides.{nat_tests}
use Rattle.t_types.specs.Tree.{NoRegs}
use Rattle.t_types.specs.Read.{file}
use Rattle.t_types.specs.declared.types.TType.{TType}
use Rattle.t_check.proofs.program.takes_nothing.Goals as goal

no_regs : (xs : List (ℕ × TType)) (b : Bool) → b ≡ (length xs == 0) → (IsTrue b → file xs ≡ NoRegs)
    × (file xs ≡ NoRegs → IsTrue b)
no_regs [] b e = ((λ h. refl), λ h. e)
no_regs (x ∷ xs) b e =
    let more : (length (x ∷ xs) == 0) ≡ false = grind (arith, nat_tests) in
    ((λ h. let here : false ≡ true = cc in cc), λ h. cc)

pub returns-then-block-eq0 : goal.returns-then-block-eq0
returns-then-block-eq0 c =
    let h = no_regs c.args.block.now.regs.regs.items c.is_empty.result (search rules) in
    ((λ t. (c.if-block-eq0.true, h.0 t)), λ e. h.1 e.1)
