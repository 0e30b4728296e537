use Rattle.std.proofs.Common.{sym, subst}
use Rattle.std.proofs.Math.Logic.{∥∥₁_map₂}
use Rattle.t_terms.specs.Tree.{TProg}
use Rattle.t_terms.specs.ReadProgram.{program}
use Rattle.t_spill_laws.specs.Correct.{origin}
use Rattle.t_spill_laws.specs.Bounded.{Spills}
use Rattle.t_spill.proofs.program.spill.Goals as goal

pub returns-clause-spills : goal.returns-clause-spills
returns-clause-spills c =
    let P = program c.args.program.now in
    ∥∥₁_map₂ c.requires.accepted c.requires.names (λ a f.
    subst (λ (q : TProg). Spills c.args.k P q (origin c.args.k P)) (sym c.in_ok-made.ensures)
    (c.registers_are_bounded.ensures c.args.k P c.requires.least c.args.program.now.whole.0 a f))
