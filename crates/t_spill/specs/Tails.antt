-- What is left of a block from an instruction on.
use Rattle.std.specs.Prelude.{ℕ, List, drop}
use Rattle.idx_core.specs.declared.span.Span.{Span}
use Rattle.t_terms.specs.Tree.{TSeq}
use Rattle.t_terms.specs.Spanned.{seq_of}
use Rattle.t_terms.specs.Read.{body, end_of}
use Rattle.t_terms.specs.declared.instr.Instr.{Instr}
use Rattle.t_terms.specs.declared.instr.End.{End}

abbrev pub tail_of : List (Instr × Span) → End → ℕ → TSeq
tail_of items e i = seq_of (body (drop i items)) (end_of e)
