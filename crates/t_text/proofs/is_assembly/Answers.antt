use Rattle.std.proofs.Common.{arith, drop}
use Rattle.std.proofs.lemmas.List.{length-drop}
use Rattle.std.proofs.lemmas.List.Sums.{prefix_len-le-length}
use Rattle.text_core.specs.Byte.{of_word}
use Rattle.t_text.proofs.is_assembly.Goals as goal

pub slice_bounds-word-end : goal.slice_bounds-word-end
slice_bounds-word-end c =
    let start = c.first_place-start.result in
    let word = prefix_len-le-length of_word (drop start c.args.text.now) in
    let left = length-drop start c.args.text.now in
    omega (arith, word, left, c.word_end-end.ensures, c.first_place-start.ensures.in_range)
