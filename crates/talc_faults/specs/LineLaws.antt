-- What is said of the lines.
use Rattle.std.specs.Prelude.{◌≤◌, length}
use Rattle.type_path.specs.Paths.{Path}
use Rattle.talc_faults.specs.Apart.{path_text}

-- a path takes at most 100 bytes of its line
abbrev pub PathsAreShort : Type 0
PathsAreShort = (p : Path) → length (path_text p) ≤ 100
