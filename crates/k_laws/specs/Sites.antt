-- How many codes a conversion has.
use Rattle.std.specs.Prelude.{◌≡◌, ℕ, ◌+◌, Bool, true, false}
use Rattle.f_terms.specs.Tm.{Term, MVar, MNum, MFix, MApp, MGen, MInst, MTuple, MProj, MArith, MIf0, MLet, MPack}
use Rattle.f_terms.specs.Tm.{MOpen, MRef, MDeref, MAssign, Terms, NoTerms, MoreTerms}
use Rattle.k_terms.specs.Size.{codes_t}
use Rattle.k_laws.specs.Annotate.{cps_term}

abbrev pub unless : Bool → ℕ
unless true = 0
unless false = 1

-- one for each `fix` and `gen`, and one for each application, type application or `if0` outside tail place; in tail
-- place are the bodies of `fix` and `gen` and the branches of `if0`, and where a `let` or an `open` is in tail place,
-- its second part
abbrev mutual
  pub sites : Bool → Term → ℕ
  sites tail (MVar i) = 0
  sites tail (MNum n) = 0
  sites tail (MFix arg res e) = 1 + sites true e
  sites tail (MApp f x) = unless tail + (sites false f + sites false x)
  sites tail (MGen e) = 1 + sites true e
  sites tail (MInst e s) = unless tail + sites false e
  sites tail (MTuple es) = sites_all es
  sites tail (MProj i e) = sites false e
  sites tail (MArith op a b) = sites false a + sites false b
  sites tail (MIf0 c a b) = unless tail + (sites false c + (sites true a + sites true b))
  sites tail (MLet a b) = sites false a + sites tail b
  sites tail (MPack h e s) = sites false e
  sites tail (MOpen a b) = sites false a + sites tail b
  sites tail (MRef e) = sites false e
  sites tail (MDeref e) = sites false e
  sites tail (MAssign a b) = sites false a + sites false b

  pub sites_all : Terms → ℕ
  sites_all NoTerms = 0
  sites_all (MoreTerms e es) = sites false e + sites_all es

abbrev pub CodesAreSites : Type 0
CodesAreSites = (e : Term) → codes_t (cps_term e) ≡ sites false e
