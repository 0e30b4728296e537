-- What a translation to continuation-passing style keeps.
use Rattle.std.specs.Prelude.{◌≡◌, false, ℕ, ℤ, ◌+◌, ◌*◌, ◌≤◌, []}
use Rattle.f_terms.specs.Tm.{Term}
use Rattle.f_terms.specs.Ty.{TInt, NoTys}
use Rattle.f_terms.specs.Noted.{Noted, bare, Beside}
use Rattle.f_terms.specs.Typing.{IsProgram}
use Rattle.f_terms.specs.Eval.{Evaluates}
use Rattle.f_terms.specs.Limits.{nodes}
use Rattle.f_terms.specs.Accepted.{IsAccepted}
use Rattle.calc_core.specs.Ends.{Halted}
use Rattle.k_terms.specs.K.{KTm}
use Rattle.k_terms.specs.Meaning.{krun}
use Rattle.k_terms.specs.Typing.{KTyped}
use Rattle.k_terms.specs.Each.{KTypedWith}
use Rattle.k_terms.specs.Reach.{KWithin}
use Rattle.k_terms.specs.Size.{ksize_t}
use Rattle.k_terms.specs.Bound.{KFits, KBound}
use Rattle.k_laws.specs.Translates.{cps_program}
use Rattle.k_laws.specs.Annotate.{cps_term}
use Rattle.k_laws.specs.Annotated.{Annotated}
use Rattle.k_laws.specs.Cps.{cps_of}
use Rattle.k_laws.specs.Count.{count}

-- the term halts with the integer within so many calls
abbrev pub HaltsAt : KTm → ℕ → ℤ → Type 0
HaltsAt m calls i = (krun calls m).end ≡ Halted i

-- the same integer, in both directions, and no code is entered more than n + 1 times, within any number of calls
pub record Kept (e : Term) (m : KTm) : Type 0 where
  pub forth : (n : ℕ) (i : ℤ) → Evaluates e n i → (calls : ℕ) × HaltsAt m calls i
  pub back : (calls : ℕ) (i : ℤ) → HaltsAt m calls i → Evaluates e calls i
  pub seldom : (n : ℕ) (i : ℤ) (calls c : ℕ) → Evaluates e n i → count c (krun calls m).entered ≤ n + 1

-- every translation keeps the meaning
abbrev pub KeepsMeaning : Type 0
KeepsMeaning = (e : Term) (m : KTm) → cps_program e m → Kept e m

-- every translation is typed, with all types written in it in scope
abbrev pub KeepsTypes : Type 0
KeepsTypes = (e : Term) (m : KTm) → cps_program e m → KTyped 0 [] m

-- each type in a translation of an accepted program of L nodes has a reach of at most 1600,
-- binds at most 598 names around a place, and stands under at most L names
abbrev pub KeepsReach : Type 0
KeepsReach = (e : Term) (m : KTm) → IsAccepted e TInt → cps_program e m → KTypedWith (KWithin (nodes e) 1600 598) 0 [] m

-- the conversion is a translation
abbrev pub IsTranslated : Type 0
IsTranslated = (e : Term) → IsProgram e → cps_program e (cps_term e)

-- so it keeps all that
abbrev pub CpsKeepsMeaning : Type 0
CpsKeepsMeaning = (e : Term) → IsProgram e → Kept e (cps_term e)

abbrev pub CpsKeepsTypes : Type 0
CpsKeepsTypes = (e : Term) → IsProgram e → KTyped 0 [] (cps_term e)

abbrev pub CpsKeepsReach : Type 0
CpsKeepsReach = (e : Term) → IsAccepted e TInt → KTypedWith (KWithin (nodes e) 1600 598) 0 [] (cps_term e)

-- how large a conversion is
abbrev pub SizeIs : Type 0
SizeIs = (e : Term) → ksize_t (cps_term e) ≤ 7 * nodes e + 1

-- the conversion of an accepted program is within bounds; of one with at most 4294967295 nodes, within the bound of
-- programs
abbrev pub CpsFits : Type 0
CpsFits = (e : Term) → IsAccepted e TInt → KFits (7 * nodes e + 598) 1600 (cps_term e)

abbrev pub CpsKeepsBound : Type 0
CpsKeepsBound = (e : Term) → IsAccepted e TInt → nodes e ≤ 4294967295 → KBound (cps_term e)

-- where types stand beside a program that are its own, they are annotations, and the conversion is the program's
abbrev pub OneConversion : Type 0
OneConversion = (e : Noted) → IsProgram (bare e) → Beside e NoTys → Annotated false e 0 NoTys TInt
    × (cps_of e ≡ cps_term (bare e))
