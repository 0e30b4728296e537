-- Bounds on a hoisted program.
use Rattle.std.specs.Prelude.{ℕ, ◌≤◌, ◌+◌, length}
use Rattle.c_terms.specs.Reach.{CWithin}
use Rattle.h_terms.specs.Each.{HProgramWith}
use Rattle.h_terms.specs.H.{HBlks, HTm}
use Rattle.h_terms.specs.Size.{HSmall, all_hifs, hifs_t}

-- typed, where at most N names are in scope at a type and bound around a place of it, and its reach is at most R;
-- at most N nodes in each body; and at most N blocks and choices
abbrev pub HFits : (N R : ℕ) → HBlks → HTm → Type 0
HFits N R ks t = HProgramWith (CWithin N R N) ks t × HSmall N ks t × (length ks + (hifs_t t + all_hifs ks) ≤ N)

-- the bound of programs
abbrev pub HBound : HBlks → HTm → Type 0
HBound ks t = HFits 17592186044416 1604 ks t
