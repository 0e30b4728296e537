-- Laws of hoisted programs.
use Rattle.std.specs.Prelude.{◌≢◌, ◌↔◌, ◌≤◌, ℕ}
use Rattle.calc_core.specs.Ends.{Stuck}
use Rattle.c_terms.specs.Reach.{CWithin}
use Rattle.h_terms.specs.Bound.{HFits}
use Rattle.h_terms.specs.Each.{HProgramWith}
use Rattle.h_terms.specs.H.{HBlks, HTm}
use Rattle.h_terms.specs.Meaning.{hrun}
use Rattle.h_terms.specs.Typing.{HProgramGood}

-- a typed program is never stuck
abbrev pub HNeverStuck : Type 0
HNeverStuck = (ks : HBlks) (t : HTm) → HProgramGood ks t → (n : ℕ) → (hrun n ks t).end ≢ Stuck

-- typing is typing with the property that every type has
abbrev pub HTypedIsAny : Type 0
HTypedIsAny = (ks : HBlks) (t : HTm) → HProgramGood ks t ↔ HProgramWith (λ n u. Unit {0}) ks t

-- a program whose types are within bounds is typed
abbrev pub HWithinIsTyped : Type 0
HWithinIsTyped = (N R B : ℕ) (ks : HBlks) (t : HTm) → HProgramWith (CWithin N R B) ks t → HProgramGood ks t

-- a program within bounds is within any larger ones
abbrev pub HFitsMore : Type 0
HFitsMore = (N M R S : ℕ) (ks : HBlks) (t : HTm) → N ≤ M → R ≤ S → HFits N R ks t → HFits M S ks t
