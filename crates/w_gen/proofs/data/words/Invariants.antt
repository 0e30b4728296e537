use Rattle.std.proofs.Common.{◌≡◌, ◌++◌, drop}
use Rattle.std.specs.Prelude.{slice_index}
use Rattle.w_gen.proofs.DataWalks.{heap_words}
use Rattle.w_gen.proofs.data.words.Given as goal

abbrev pub invariant-loop-tuple : goal.invariant-loop-tuple
invariant-loop-tuple l =
    l.image.items ++ heap_words (slice_index l.places) (drop l.tuple-index l.heap)
    ≡ l.fn.image.items ++ heap_words (slice_index l.places) l.heap
