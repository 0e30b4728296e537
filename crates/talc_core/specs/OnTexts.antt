-- What each command does with a text, without files, outputs and words: the answers of the calls on bytes.
use Rattle.std.specs.Prelude.{ℕ, List, Result, Ok, Err, Vec}
use Rattle.std.specs.declared.alloc.Global.{Global}
use Rattle.talc_core.specs.declared.status.Status.{Status}
use Rattle.talc_core.specs.declared.status.Status.TheVariants.{Done, Budget}
use Rattle.talc_core.specs.declared.refusal.Refusal.{Refusal}
use Rattle.talc_core.specs.declared.refusal.Refusal.TheVariants as refusal
use Rattle.talc_core.specs.declared.reply.Ending.{Ending}
use Rattle.talc_core.specs.declared.reply.Ending.TheVariants.{Ends, GoesOn}
use Rattle.talc_core.specs.declared.reply.Reply.{Reply}
use Rattle.talc_core.specs.FirstFault.{Need, FirstFault}
use Rattle.talc_core.specs.Shown.{Showing}

-- what a command makes of a text
abbrev pub Making : Type 1
Making = List ℕ → List ℕ → Type 0

-- the text of which this is needed has this first fault; or memory was wanted
abbrev pub RefusedBy : Need → List ℕ → Refusal → Type 0
RefusedBy need text (refusal.Fault fault) = FirstFault need text fault
RefusedBy need text refusal.Memory = Unit {0}

-- what is made of a text of which this is needed, or why there is none
abbrev pub MakesText : Making → Need → List ℕ → Result (Vec ℕ Global) Refusal → Type 0
MakesText Makes need source (Ok target) = Makes source target.items
MakesText Makes need source (Err why) = RefusedBy need source why

-- the status of a command that failed nowhere
abbrev pub status_at : Ending → Status
status_at Ends = Done
status_at GoesOn = Budget

-- the line, or the lines, to be shown of a text of which this is needed, or why there are none
abbrev pub ShowsText : Showing → Need → List ℕ → Result Reply Refusal → Type 0
ShowsText Says need text (Ok reply) = Says (status_at reply.ending) text reply.line.items
ShowsText Says need text (Err why) = RefusedBy need text why
