use Rattle.std.proofs.Common.{◌≤◌, sym, subst, arith}
use Rattle.std.proofs.Math.Bridge.{le_prop}
use Rattle.std.proofs.Math.Logic.{∥∥₁_elim, ∥∥₁_map}
use Rattle.f_check.specs.Typed.{program_term}
use Rattle.f_terms.specs.ReadTerm as source
use Rattle.t_terms.specs.Nesting.{nesting, most_open}
use Rattle.t_terms.specs.ReadProgram.{program}
use Rattle.t_terms.specs.declared.program.TProgram.{TProgram}
use Rattle.pipeline.specs.Compilation.{IsCompilation}
use Rattle.pipeline.specs.Made.{IsMade}
use Rattle.pipeline.specs.Work.{HasBlocks, SameWeights}
use Rattle.pipeline.proofs.Shallow.{shallow}
use Rattle.pipeline.proofs.compiling.compile.Goals as goal

pub seal-requires : goal.seal-requires
seal-requires c = ∥∥₁_map c.in_ok-made.ensures.compiled (λ made. made.accepted)

pub returns-clause-compiled : goal.returns-clause-compiled
returns-clause-compiled c =
    subst (λ (x : TProgram). ∥ IsCompilation (source.term_of (program_term c.args.program.now)) (program x) ∥₁)
    (sym c.seal.ensures) c.in_ok-made.ensures.compiled

pub returns-clause-shallow : goal.returns-clause-shallow
returns-clause-shallow c =
    let P = program c.in_ok-made.made in
    subst (λ (x : TProgram). nesting (program x) ≤ most_open) (sym c.seal.ensures)
    (∥∥₁_elim c.in_ok-made.ensures.flat le_prop (λ flat.
    ∥∥₁_elim c.in_ok-made.ensures.within le_prop (λ within.
    let x = shallow 70368744177664 1606 140737488355328 P flat within in omega (arith, x))))

pub returns-clause-work : goal.returns-clause-work
returns-clause-work c =
    let e = source.term_of (program_term c.args.program.now) in
    subst (λ (x : TProgram). HasBlocks e (program x)) (sym c.seal.ensures) c.in_ok-made.ensures.work

pub returns-clause-weights : goal.returns-clause-weights
returns-clause-weights c =
    let e = source.term_of (program_term c.args.program.now) in
    subst (λ (x : TProgram). SameWeights e (program x)) (sym c.seal.ensures) c.in_ok-made.ensures.weights

pub returns-clause-made : goal.returns-clause-made
returns-clause-made c =
    let e = source.term_of (program_term c.args.program.now) in
    subst (λ (x : TProgram). IsMade e (program x)) (sym c.seal.ensures) c.in_ok-made.ensures.made
