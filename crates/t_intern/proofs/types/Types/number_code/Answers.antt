use Rattle.std.proofs.Common.{ap, subst, IfOk}
use Rattle.t_types.specs.Tree.{CodeTy}
use Rattle.t_intern.specs.Grown.{IsNumber}
use Rattle.t_intern.proofs.Growing.{grown_next}
use Rattle.t_intern.proofs.types.Types.number_code.Goals as goal

pub returns-clause-grown : goal.returns-clause-grown
returns-clause-grown c = grown_next _ _ _ c.in_ok-regs.ensures.grown c.interned.ensures.grown

pub returns-clause-number : goal.returns-clause-number
returns-clause-number c =
    subst (λ u. IfOk c.interned.result (IsNumber c.interned.new.self u))
    (ap (CodeTy c.args.owes) c.in_ok-regs.ensures.numbers.0) c.interned.ensures.number
