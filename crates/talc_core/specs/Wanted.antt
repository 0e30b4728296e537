-- What could stand at the place of a fault.
use Rattle.std.specs.Prelude.{◌≡◌, ℕ, List, [], Bool, true, false}
use Rattle.std.specs.Bool.{MatchBool}
use Rattle.f_terms.specs.declared.fault.Code.TheVariants.{E03, E04}
use Rattle.t_terms.specs.declared.fault.TCode.TheVariants.{T03}
use Rattle.talc_wanted.specs.SourceText as source_wanted
use Rattle.talc_wanted.specs.AssemblyText as assembly_wanted
use Rattle.talc_core.specs.declared.fault.Fault.{Fault}
use Rattle.talc_core.specs.declared.fault.Fault.TheVariants.{Source, Tal}

-- the fault is by the grammar: a token may not stand there, or the text ends
abbrev pub by_grammar : Fault → Bool
by_grammar (Source E03 span) = true
by_grammar (Source E04 span) = true
by_grammar (Source other span) = false
by_grammar (Tal T03 span) = true
by_grammar (Tal other span) = false

-- the line of the place, by the grammar of the text
abbrev pub IsWanted : List ℕ → Fault → List ℕ → Type 0
IsWanted text (Source code span) line = source_wanted.IsWanted text span line
IsWanted text (Tal code span) line = assembly_wanted.IsWanted text span line

-- the line on what could stand there, of a fault that is by the grammar; and else nothing
abbrev pub CouldStand : List ℕ → Fault → List ℕ → Type 0
CouldStand text fault line = MatchBool (by_grammar fault) (IsWanted text fault line) (line ≡ [])
