-- Blocks one after the other: where each stands, and the bytes of all.
use Rattle.std.specs.Prelude.{ℕ, zero, suc, ◌+◌, List, [], ◌∷◌, ◌++◌, length}
use Rattle.x_laws.specs.Core.{bytes_all}
use Rattle.x_laws.specs.Homes.{Home}
use Rattle.x_laws.specs.Code.{seq_code}
use Rattle.w_terms.specs.Tree.{WSeq}

-- how many bytes a block takes, wherever it and its labels stand
abbrev pub size : (ℕ → Home) → WSeq → ℕ
size homes c = length (bytes_all (seq_code homes (λ l. 0) 0 c))

-- the place of a block, where the first stands at the address a
abbrev pub place_from : (ℕ → Home) → ℕ → List WSeq → ℕ → ℕ
place_from homes a [] l = a
place_from homes a (c ∷ cs) zero = a
place_from homes a (c ∷ cs) (suc l) = place_from homes (a + size homes c) cs l

abbrev pub code_from : (ℕ → Home) → (ℕ → ℕ) → ℕ → List WSeq → List ℕ
code_from homes place a [] = []
code_from homes place a (c ∷ cs) = bytes_all (seq_code homes place a c) ++ code_from homes place (a + size homes c) cs

-- the code of a program that stands at the address a
abbrev pub program_code : (ℕ → Home) → ℕ → List WSeq → List ℕ
program_code homes a blocks = code_from homes (place_from homes a blocks) a blocks
