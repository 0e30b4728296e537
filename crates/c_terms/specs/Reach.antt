-- How deep a type's image in the assembly language nests.
use Rattle.std.specs.Prelude.{ℕ, suc, ◌≤◌, ◌+◌, max}
use Rattle.c_terms.specs.C.{CTy, CTys, TCInt, TCVar, TCTuple, TCCode, TCExists, TCRef, NoCTys, MoreCTys}
use Rattle.c_terms.specs.Each.{CProp}

-- the greatest number of constructs open at one place of the image, each brace counted twice; a reference's image is
-- a tuple of one field
abbrev mutual
  pub creach : CTy → ℕ
  creach TCInt = 0
  creach (TCVar i) = 0
  creach (TCTuple ts) = suc (creaches ts)
  creach (TCCode n ts) = suc (suc (creaches ts))
  creach (TCExists t) = suc (creach t)
  creach (TCRef t) = suc (creach t)

  pub creaches : CTys → ℕ
  creaches NoCTys = 0
  creaches (MoreCTys t ts) = max (creach t) (creaches ts)

-- the greatest number of type names bound around one place
abbrev mutual
  pub cbinds : CTy → ℕ
  cbinds TCInt = 0
  cbinds (TCVar i) = 0
  cbinds (TCTuple ts) = cbinds_all ts
  cbinds (TCCode n ts) = n + cbinds_all ts
  cbinds (TCExists t) = suc (cbinds t)
  cbinds (TCRef t) = cbinds t

  pub cbinds_all : CTys → ℕ
  cbinds_all NoCTys = 0
  cbinds_all (MoreCTys t ts) = max (cbinds t) (cbinds_all ts)

-- at most so many names in scope, and so much reach and so many names in a type
abbrev pub CWithin : (names reach binds : ℕ) → CProp
CWithin names reach binds n t = (n ≤ names) × (creach t ≤ reach) × (cbinds t ≤ binds)
