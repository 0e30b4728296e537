use Rattle.std.proofs.Math.Logic.{∥∥₁_map}
use Rattle.h_terms.specs.Program.{blocks_in, main_in}
use Rattle.a_terms.specs.Program as a
use Rattle.a_pass.proofs.Kept.{typed, stands, means, fits}
use Rattle.a_pass.proofs.program.allocate.Goals as goal

pub returns-clause-stands : goal.returns-clause-stands
returns-clause-stands c =
    let made = c.in_ok-made.made in
    ∥∥₁_map c.args.program.now.bound
    (λ h. stands c.allocation_stands_for_its_program.ensures (blocks_in c.args.program.now)
    (main_in c.args.program.now) (a.program_in made) (a.main_in made) c.in_ok-made.ensures.program
    c.in_ok-made.ensures.main
    (typed c.h_within_is_typed_law.ensures (blocks_in c.args.program.now) (main_in c.args.program.now) h))

pub returns-clause-bound : goal.returns-clause-bound
returns-clause-bound c =
    let made = c.in_ok-made.made in
    fits c.bounds_are_kept.ensures (blocks_in c.args.program.now) (main_in c.args.program.now) (a.program_in made)
    (a.main_in made) c.in_ok-made.ensures.program c.in_ok-made.ensures.main

pub returns-clause-meaning : goal.returns-clause-meaning
returns-clause-meaning c =
    let made = c.in_ok-made.made in
    ∥∥₁_map c.args.program.now.bound
    (λ h. means c.meaning_is_kept.ensures (blocks_in c.args.program.now) (main_in c.args.program.now)
    (a.program_in made) (a.main_in made) c.in_ok-made.ensures.program c.in_ok-made.ensures.main
    (typed c.h_within_is_typed_law.ensures (blocks_in c.args.program.now) (main_in c.args.program.now) h))
