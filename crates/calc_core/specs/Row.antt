-- Rows of trees, the first one on top, and how many trees a row has.
use Rattle.std.specs.Prelude.{List, [], ◌∷◌}

-- the first, or what stands for it
abbrev pub top : {T : Type 0} → T → List T → T
top d [] = d
top d (t ∷ ts) = t

-- all but the first
abbrev pub others : {T : Type 0} → List T → List T
others [] = []
others (t ∷ ts) = ts

-- none, exactly one, exactly two, at least one
abbrev pub IsNone : {T : Type 0} → List T → Type 0
IsNone [] = Unit {0}
IsNone (v ∷ vs) = ⊥

abbrev pub IsOne : {T : Type 0} → List T → Type 0
IsOne [] = ⊥
IsOne (v ∷ []) = Unit {0}
IsOne (v ∷ w ∷ vs) = ⊥

abbrev pub IsTwo : {T : Type 0} → List T → Type 0
IsTwo [] = ⊥
IsTwo (v ∷ vs) = IsOne vs

abbrev pub IsSome : {T : Type 0} → List T → Type 0
IsSome [] = ⊥
IsSome (v ∷ vs) = Unit {0}

-- there is one proof of each at most
pub none_prop : {T : Type 0} (vs : List T) → IsProp (IsNone vs)
none_prop [] = hlevel
none_prop (v ∷ vs) = hlevel

pub one_prop : {T : Type 0} (vs : List T) → IsProp (IsOne vs)
one_prop [] = hlevel
one_prop (v ∷ []) = hlevel
one_prop (v ∷ w ∷ vs) = hlevel

pub two_prop : {T : Type 0} (vs : List T) → IsProp (IsTwo vs)
two_prop [] = hlevel
two_prop (v ∷ vs) = one_prop vs

pub some_prop : {T : Type 0} (vs : List T) → IsProp (IsSome vs)
some_prop [] = hlevel
some_prop (v ∷ vs) = hlevel
