use Rattle.std.proofs.Common.{◌≡◌, ◌++◌, drop}
use Rattle.x_file.specs.Loaded.{words_bytes, AreWords}
use Rattle.x_file.proofs.content.put_words.Given as goal

abbrev pub invariant-loop-word : goal.invariant-loop-word
invariant-loop-word l = record {
  bytes : l.content.items ++ words_bytes (drop l.word-index l.words) ≡ l.initial.content.items ++ words_bytes l.words;
  words : AreWords (drop l.word-index l.words) → AreWords l.words;
}
