-- How a guest in memory of the host is lent for a call, and given back.
use Rattle.std.proofs.Common.{ℕ, MutBor}
use base.Fml.{GName}
use Rattle.tal_c.specs.declared.guest.Guest.{Guest}

-- the reference that is passed
abbrev pub lent : ℕ → ℕ → GName → Guest → MutBor Guest
lent b o name guest = record { ref_ptr = (b, o); ghost_name = name; now = guest }
