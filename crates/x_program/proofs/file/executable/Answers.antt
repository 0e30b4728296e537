use Rattle.std.proofs.Common.{◌≡◌, IfOk, IfErr, subst}
use Rattle.x_program.specs.declared.file.Refused.TheVariants.{TooLarge}
use Rattle.x_program.specs.Made.{HasRoom, IsMade}
use Rattle.x_program.proofs.Making.{program_is}
use Rattle.x_program.proofs.file.executable.Goals as goal

pub returns-clause-made : goal.returns-clause-made
returns-clause-made c =
    subst (λ p. IfOk c.file_of.result (λ file. IsMade c.args.registers p file.items))
    (program_is c.args.program.now c.args.registers c.deref.result.now c.deref-2.result.now c.requires
    c.deref.ensures.value c.deref-2.ensures.value) c.file_of.ensures.made

pub returns-clause-large : goal.returns-clause-large
returns-clause-large c =
    subst (λ p. IfErr c.file_of.result (λ why. why ≡ TooLarge → HasRoom c.args.registers p → ⊥))
    (program_is c.args.program.now c.args.registers c.deref.result.now c.deref-2.result.now c.requires
    c.deref.ensures.value c.deref-2.ensures.value) c.file_of.ensures.large
