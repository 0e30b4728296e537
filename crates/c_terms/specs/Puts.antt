-- One type put for one type variable, and types put for names one after the other.
use Rattle.std.specs.Prelude.{◌≡◌, ℕ, zero, suc, Option, Some, None}
use Rattle.calc_core.specs.Ends.{lift}
use Rattle.c_terms.specs.C.{CTy, CTys, TCInt, TCVar, TCTuple, TCCode, TCExists, TCRef, NoCTys, MoreCTys, ccount}
use Rattle.c_terms.specs.Typing.{cren, cup, csubs, names}

abbrev pub further_one : Option ℕ → Option ℕ
further_one None = None
further_one (Some i) = Some (suc i)

-- what index i is without index n: none where it is n
abbrev pub without : ℕ → ℕ → Option ℕ
without zero zero = None
without zero (suc i) = Some i
without (suc n) zero = Some 0
without (suc n) (suc i) = further_one (without n i)

abbrev pub var_or : Option ℕ → CTy → CTy
var_or None u = u
var_or (Some j) u = TCVar j

-- u put for variable n
abbrev mutual
  pub cput : ℕ → CTy → CTy → CTy
  cput n u TCInt = TCInt
  cput n u (TCVar i) = var_or (without n i) u
  cput n u (TCTuple ts) = TCTuple (cputs n u ts)
  cput n u (TCCode m ts) = TCCode m (cputs (lift m n) (cren (lift m) u) ts)
  cput n u (TCExists t) = TCExists (cput (suc n) (cren suc u) t)
  cput n u (TCRef t) = TCRef (cput n u t)

  pub cputs : ℕ → CTy → CTys → CTys
  cputs n u NoCTys = NoCTys
  cputs n u (MoreCTys t ts) = MoreCTys (cput n u t) (cputs n u ts)

-- the first name's type first
abbrev pub capply : CTy → CTys → Option CTy
capply t NoCTys = Some t
capply (TCCode (suc n) args) (MoreCTys u us) = capply (TCCode n (cputs n (cren (lift n) u) args)) us
capply _ _ = None

-- types put one after the other are put at once
abbrev pub OneByOne : Type 0
OneByOne =
    (ts : CTys) (owes : ℕ) (args : CTys) →
    capply (TCCode (lift owes (ccount ts)) args) ts ≡ Some (TCCode owes (csubs (cup owes (names ts TCVar)) args))
