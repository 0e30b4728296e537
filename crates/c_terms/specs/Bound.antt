-- Bounds on a closed program. The whole may grow with the square of the program before closure conversion, but no
-- body does.
use Rattle.std.specs.Prelude.{ℕ, ◌+◌, ◌≤◌, []}
use Rattle.c_terms.specs.C.{CTm, ct_next}
use Rattle.c_terms.specs.Each.{CTypedWith}
use Rattle.c_terms.specs.Reach.{CWithin}
use Rattle.c_terms.specs.Size.{CSmall, cifs_t}

-- typed, where at most N names are in scope at a type and bound around a place of it, and its reach is at most R;
-- at most N nodes in a body, and at most N codes and choices
abbrev pub CFits : (N R : ℕ) → CTm → Type 0
CFits N R t = CTypedWith (CWithin N R N) 0 [] t × CSmall N t × (ct_next 0 t + cifs_t t ≤ N)

-- the bound of programs
abbrev pub CBound : CTm → Type 0
CBound t = CFits 17592186044416 1604 t
