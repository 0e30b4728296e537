-- What stands between the items of a list in a text.
use Rattle.std.specs.Prelude.{ℕ, zero, suc, List, [], codes}

-- what stands before an item with so many items before it
abbrev pub separator : ℕ → List ℕ
separator zero = []
separator (suc before) = codes ", "
