-- When an assembly text is what another is upgraded to.
use Rattle.std.specs.Prelude.{ℕ, List}
use Rattle.t_terms.specs.Spanned.{SProg, plain_program}
use Rattle.t_terms.specs.Whole.{Whole}
use Rattle.talc_core.specs.FirstFault.{IsAcceptedText}
use Rattle.talc_core.specs.Written.{IsWritten}

-- The source text stands for a well-formed program with integers of 64 bits that the typing rules accept, within the
-- limit on open constructs.
-- The target text is the one that is written of that program, places aside.
pub record IsUpgraded (source target : List ℕ) : Type 0 where
  pub program : SProg
  pub accepted : IsAcceptedText source program
  pub whole : Whole (plain_program program)
  pub written : IsWritten (plain_program program) target
