-- The words of a failure for the user.
use Rattle.std.specs.Prelude.{ℕ, List, codes}
use Rattle.io_core.specs.declared.outside.Stop.{Stop}
use Rattle.io_core.specs.declared.outside.Stop.TheVariants.{Memory, Failed}

abbrev pub stop_words : Stop → List ℕ
stop_words Memory = codes "out of memory"
stop_words Failed = codes "the outside failed"
