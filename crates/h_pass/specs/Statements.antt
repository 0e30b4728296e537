-- What hoisting keeps.
use Rattle.std.specs.Prelude.{◌≡◌, ◌≢◌, ℕ, []}
use Rattle.calc_core.specs.Ends.{Stuck}
use Rattle.c_terms.specs.Bound.{CBound, CFits}
use Rattle.c_terms.specs.C.{CTm}
use Rattle.c_terms.specs.Each.{CTypedWith}
use Rattle.c_terms.specs.Meaning.{crun}
use Rattle.c_terms.specs.Reach.{CWithin}
use Rattle.c_terms.specs.Scope.{CScoped}
use Rattle.c_terms.specs.Size.{CSmall}
use Rattle.c_terms.specs.Stream.{clin_t}
use Rattle.c_terms.specs.Typing.{CTyped}
use Rattle.h_terms.specs.Bound.{HFits}
use Rattle.h_terms.specs.Each.{HProgramWith}
use Rattle.h_terms.specs.H.{HBlks, HTm}
use Rattle.h_terms.specs.Meaning.{hrun}
use Rattle.h_terms.specs.Typing.{HProgramGood}
use Rattle.h_pass.specs.Back.{IsHoisted}
use Rattle.h_pass.specs.Hoist.{blocks_of, main_of}
use Rattle.h_pass.specs.Stream.{hoisted, whole}

-- the hoisted form is a translation of the closed term
abbrev pub HoistIsBack : Type 0
HoistIsBack = (t : CTm) → CTyped 0 [] t → IsHoisted (blocks_of t) (main_of t) t

-- the rule leaves nothing to choose: whatever is hoisted, by the rule, from a typed closed term is its hoisted form
abbrev pub OneHoisting : Type 0
OneHoisting =
    (ks : HBlks) (t : HTm) (closed : CTm) → CTyped 0 [] closed → IsHoisted ks t closed →
    (ks ≡ blocks_of closed) × (t ≡ main_of closed)

-- so whatever is hoisted by the rule is typed; and within each number of calls it ends as the closed term does, and the
-- blocks entered have the numbers of the codes entered
abbrev pub HoistedMeansTheSame : Type 0
HoistedMeansTheSame =
    (ks : HBlks) (t : HTm) (closed : CTm) → CTyped 0 [] closed → IsHoisted ks t closed →
    HProgramGood ks t × ((n : ℕ) → hrun n ks t ≡ crun n closed)

-- within any number of calls it ends as the closed term does, and the blocks entered have the numbers of the codes
-- entered
abbrev pub HoistKept : Type 0
HoistKept = (t : CTm) (n : ℕ) → hrun n (blocks_of t) (main_of t) ≡ crun n t

-- a typed term becomes a typed program
abbrev pub HoistTypesKept : Type 0
HoistTypesKept = (t : CTm) → CTyped 0 [] t → HProgramGood (blocks_of t) (main_of t)

-- a typed closed term is never stuck, since its hoisted program is not
abbrev pub ClosedNeverStuck : Type 0
ClosedNeverStuck = (t : CTm) → CTyped 0 [] t → (n : ℕ) → (crun n t).end ≢ Stuck

-- hoisting adds nothing to the reach of types, nor to the names in scope and bound
abbrev pub HoistReach : Type 0
HoistReach = (N R B : ℕ) (t : CTm) → CTypedWith (CWithin N R B) 0 [] t →
    HProgramWith (CWithin N R B) (blocks_of t) (main_of t)

-- a term within bounds becomes a program within the same bounds
abbrev pub HoistFits : Type 0
HoistFits = (N R : ℕ) (t : CTm) → CFits N R t → HFits N R (blocks_of t) (main_of t)

-- a term within the bound of programs has its names in scope, and small bodies
abbrev pub BoundIsSmall : Type 0
BoundIsSmall = (t : CTm) → ∥ CBound t ∥₁ → CScoped 0 t × CSmall 17592186044416 t

-- where names are in scope, no types are needed
abbrev pub ScopedIsBack : Type 0
ScopedIsBack = (t : CTm) → CScoped 0 t → IsHoisted (blocks_of t) (main_of t) t

-- the nodes of a term hold its hoisted form
abbrev pub NodesKept : Type 0
NodesKept = (t : CTm) → CScoped 0 t → CSmall 17592186044416 t → hoisted (clin_t 0 t []) ≡ whole t
