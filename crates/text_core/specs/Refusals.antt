-- The calculus of first faults: checks in order, of which the first that fails gives its code and its place.
use Rattle.std.specs.Prelude.{◌≡◌, ◌⊎◌, Option, Some, None}

-- which fault is the first, and at which place
abbrev pub Refusal : Type 0 → Type 0 → Type 1
Refusal Code Place = Code → Place → Type 0

-- no fault
abbrev pub nothing : {Code Place : Type 0} → Refusal Code Place
nothing c p = ⊥

-- this fault at this place
abbrev pub refuse : {Code Place : Type 0} → Code → Place → Refusal Code Place
refuse code place c p = (c ≡ code) × (p ≡ place)

-- a fact is checked: the fault where it does not hold, else the rest follows
abbrev pub check : {Code Place : Type 0} → Type 0 → Refusal Code Place → Refusal Code Place → Refusal Code Place
check P fault rest c p = ((P → ⊥) × fault c p) ⊎ (P × rest c p)

-- a part is checked: its fault, or the rest follows, with what the part gives
abbrev pub part : {Code Place A : Type 0} → Refusal Code Place → (A → Type 0) → (A → Refusal Code Place) →
    Refusal Code Place
part fault Gives rest c p = fault c p ⊎ ((x : _) × Gives x × rest x c p)

-- what is looked up: the one refusal where it is not there, else the other follows
abbrev pub if_known : {Code Place A : Type 0} → Option A → Refusal Code Place → (A → Refusal Code Place) →
    Refusal Code Place
if_known None other go = other
if_known (Some x) other go = go x
