-- What a checked program holds.
use Rattle.t_terms.specs.declared.program.TProgram.{TProgram}
use Rattle.t_check.specs.declared.checked.Checked.{Checked}

-- the program that was checked
abbrev pub checked_program : Checked → TProgram
checked_program c = c.program
