use Rattle.std.proofs.Common.{sym, subst}
use Rattle.std.proofs.Math.Logic.{∥∥₁_map}
use Rattle.t_rules.specs.Rules.{Accepted}
use Rattle.a_terms.specs.Program.{program_in, main_in}
use Rattle.t_gen_laws.specs.Correct.{Keeps}
use Rattle.t_terms.specs.Flat.{Flat}
use Rattle.t_gen_laws.specs.TypesEach.{TypesEach, TWithin}
use Rattle.t_gen.proofs.generation.generate.Goals as goal

pub returns-clause-accepted : goal.returns-clause-accepted
returns-clause-accepted c =
    let p = program_in c.args.program.now in
    let main = main_in c.args.program.now in
    ∥∥₁_map c.args.program.now.bound
    (λ b. subst Accepted (sym c.in_ok-made.ensures) (c.types_are_kept.ensures p main b.0.0))

pub returns-clause-flat : goal.returns-clause-flat
returns-clause-flat c =
    let p = program_in c.args.program.now in
    let main = main_in c.args.program.now in
    ∥∥₁_map c.args.program.now.bound
    (λ b. subst Flat (sym c.in_ok-made.ensures) (c.packs_are_flat.ensures p main b.0.0))

pub returns-clause-within : goal.returns-clause-within
returns-clause-within c =
    let p = program_in c.args.program.now in
    let main = main_in c.args.program.now in
    ∥∥₁_map c.args.program.now.bound
    (λ b. subst (TypesEach (TWithin 70368744177664 1606 140737488355328)) (sym c.in_ok-made.ensures)
    (c.types_stay_within.ensures 70368744177664 1604 70368744177664 p main b.0.0 b.0.1))

pub returns-clause-keeps : goal.returns-clause-keeps
returns-clause-keeps c =
    let p = program_in c.args.program.now in
    let main = main_in c.args.program.now in
    ∥∥₁_map c.args.program.now.bound
    (λ b. subst (Keeps p main) (sym c.in_ok-made.ensures) (c.meaning_is_kept.ensures p main b.0.0 b.1))
