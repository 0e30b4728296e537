-- Where the blocks of a program stand, as a list.
use Rattle.std.specs.Prelude.{◌≡◌, ℕ, ◌+◌, ◌≤◌, ◌^◌, ◌∷◌, List, [], slice_index_or}
use Rattle.x_laws.specs.Layout.{size}
use Rattle.x_pass.specs.Homes.{home}
use Rattle.x_pass.specs.Short.{AreShort}
use Rattle.x_pass.specs.declared.layout.Labels.{Labels}
use Rattle.w_terms.specs.Read as read
use Rattle.w_terms.specs.declared.program.WBlock.{WBlock}

-- the place of a label
abbrev pub place_of : Labels → ℕ → ℕ
place_of labels l = slice_index_or labels.places.items l labels.end

-- so far the code may reach: jumps are of 32 bits
abbrev pub AreNear : Labels → Type 0
AreNear labels = (l : ℕ) → place_of labels l ≤ 2 ^ 28

-- where blocks begin of which the first stands at the address a, and where the last ends
abbrev pub starts : ℕ → List WBlock → List ℕ
starts a [] = []
starts a (b ∷ bs) = a ∷ starts (a + size home (read.block b)) bs

abbrev pub stop : ℕ → List WBlock → ℕ
stop a [] = a
stop a (b ∷ bs) = stop (a + size home (read.block b)) bs

-- offsets of all instructions are short
abbrev pub AreAllShort : List WBlock → Type 0
AreAllShort [] = Unit {0}
AreAllShort (b ∷ bs) = AreShort b.body.items × AreAllShort bs

-- the labels of blocks of which the first stands at the address a
abbrev pub AreLaid : ℕ → List WBlock → Labels → Type 0
AreLaid a blocks labels = (labels.places.items ≡ starts a blocks) × (labels.end ≡ stop a blocks)
