-- What is told of a text by the calls on it.
use Rattle.std.proofs.Common.{ℕ, List, Result, Ok, Err, Vec}
use Rattle.std.specs.declared.alloc.Global.{Global}
use Rattle.talc_core.specs.declared.refusal.Refusal.{Refusal}
use Rattle.talc_core.specs.declared.reply.Reply.{Reply}
use Rattle.talc_core.specs.FirstFault.{Need}
use Rattle.talc_core.specs.Shown.{Showing}
use Rattle.talc_core.specs.OnTexts.{Making, MakesText, ShowsText}
use Rattle.talc_c.specs.declared.answer.Made.{Made}
use Rattle.talc_c.specs.Told.{Tells, Told, made_as, Makes}

pub told : (Says : Showing) (need : Need) (text old new : List ℕ) (answer : Made)
    (outcome : Result Reply Refusal) → ShowsText Says need text outcome → Tells outcome old new answer →
    Told Says need text old new answer
told Says need text old new answer outcome says tells = record { outcome = outcome; says = says; tells = tells }

pub made_shows : (Says : Making) (need : Need) (text : List ℕ) (made : Result (Vec ℕ Global) Refusal) →
    MakesText Says need text made → ShowsText (Makes Says) need text (made_as made)
made_shows Says need text (Ok target) makes = makes
made_shows Says need text (Err why) makes = makes
