-- The words for want of memory.
use Rattle.std.specs.Prelude.{ℕ, List, codes}

abbrev pub memory_words : List ℕ
memory_words = codes "out of memory"
