use Rattle.std.proofs.Common.{◌≡◌, ◌++◌, [], get_or}
use Rattle.page_core.specs.Texts.{texts, spelled, steps, work_of}
use Rattle.page_core.proofs.spelling.spell.Given as goal

abbrev pub invariant-loop-number : goal.invariant-loop-number
invariant-loop-number l = l.text.items ++ spelled (texts l.pieces) l.pending.items ≡ get_or (texts l.pieces) l.piece
    []

abbrev pub decreases-loop-number : goal.decreases-loop-number
decreases-loop-number l = work_of (steps l.pieces) l.pending.items
