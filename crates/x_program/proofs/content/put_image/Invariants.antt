use Rattle.std.proofs.Common.{◌≡◌, ◌++◌, drop, map}
use Rattle.w_terms.specs.Machine.{datum_word}
use Rattle.x_pass.specs.Layout.{place_of}
use Rattle.x_program.proofs.content.put_image.Given as goal

abbrev pub invariant-loop-datum : goal.invariant-loop-datum
invariant-loop-datum l =
    l.words.items ++ map (datum_word (place_of l.labels)) (drop l.datum-index l.image)
    ≡ l.initial.words.items ++ map (datum_word (place_of l.labels)) l.image
