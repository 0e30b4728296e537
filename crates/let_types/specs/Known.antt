-- What is known along the nodes of closed terms: the types of the names, and of the values that wait.
use Rattle.std.specs.Prelude.{ℕ, zero, suc, ◌+◌, ◌-◌, List, [], ◌∷◌, ◌++◌, Option, Some, None, length, take, drop}
use Rattle.calc_core.specs.Walks.{shift}
use Rattle.c_terms.specs.C.{CTy, CTys, TCInt, TCTuple, TCCode, TCRef, NoCTys, MoreCTys}
use Rattle.c_terms.specs.Stream.{CNd, MVar, MInt, MTuple, MCode, MEnd, MApply, MPack, MName, MProj, MArith, MUnpack}
use Rattle.c_terms.specs.Stream.{MCell, MGet, MSet}
use Rattle.let_types.specs.Parts.{applied_type, field_type, held_type, opened_type}

-- a type, as it is under so many type names
pub record Entry : Type 0 where
  pub ty : CTy
  pub types : ℕ

-- a value that waits: the name of this level, or any other value, of this type
pub record Seen : Type 0 where
  pub level : Option ℕ
  pub own : Entry

-- a code's body that is open, or the main term: its names by level, and the values that wait, the last one last
pub record Frame : Type 0 where
  pub names : List Entry
  pub values : List Seen

-- the body that is walked, and those around it
pub record Known : Type 0 where
  pub body : Frame
  pub around : List Frame

abbrev pub entry_of : CTy → ℕ → Entry
entry_of t n = record { ty = t; types = n }

-- the type under k type names
abbrev pub seen_at : ℕ → Entry → CTy
seen_at k e = shift (k - e.types) 0 e.ty

-- the name of a level, or this where there is none
abbrev pub name_or : Entry → List Entry → ℕ → Entry
name_or own [] l = own
name_or own (e ∷ es) zero = e
name_or own (e ∷ es) (suc l) = name_or own es l

abbrev pub chosen : List Entry → Entry → Option ℕ → Entry
chosen es own None = own
chosen es own (Some l) = name_or own es l

abbrev pub entry_in : List Entry → Seen → Entry
entry_in es s = chosen es s.own s.level

abbrev pub types_in : ℕ → List Entry → List Seen → CTys
types_in k es [] = NoCTys
types_in k es (s ∷ ss) = MoreCTys (seen_at k (entry_in es s)) (types_in k es ss)

-- a value of this type that is no name
abbrev pub own : ℕ → CTy → Seen
own k t = record { level = None; own = entry_of t k }

abbrev pub named : ℕ → Seen
named l = record { level = Some l; own = entry_of TCInt 0 }

-- the last value, and those before it
abbrev pub last : List Seen → Seen
last [] = own 0 TCInt
last (s ∷ []) = s
last (s ∷ u ∷ ss) = last (u ∷ ss)

abbrev pub but_last : List Seen → List Seen
but_last [] = []
but_last (s ∷ []) = []
but_last (s ∷ u ∷ ss) = s ∷ but_last (u ∷ ss)

abbrev pub with_values : Known → List Seen → Known
with_values κ vs = record { body = record { names = κ.body.names; values = vs }; around = κ.around }

abbrev pub put : Known → Seen → Known
put κ s = with_values κ (κ.body.values ++ s ∷ [])

-- what the last value is, and its type under k type names
abbrev pub last_entry : Known → Entry
last_entry κ = entry_in κ.body.names (last κ.body.values)

abbrev pub last_type : ℕ → Known → CTy
last_type k κ = seen_at k (last_entry κ)

-- the last so many values become one, a tuple
abbrev pub tuple_from : ℕ → ℕ → Known → Known
tuple_from k from κ =
    with_values κ (take from κ.body.values
    ++ own k (TCTuple (types_in k κ.body.names (drop from κ.body.values))) ∷ [])

abbrev pub tuple : ℕ → ℕ → Known → Known
tuple k n κ = tuple_from k (length κ.body.values - n) κ

-- the last value becomes one of this type
abbrev pub change : ℕ → CTy → Known → Known
change k t κ = with_values κ (but_last κ.body.values ++ own k t ∷ [])

-- the names of a code's arguments
abbrev pub arguments : ℕ → CTys → List Entry
arguments k NoCTys = []
arguments k (MoreCTys t ts) = entry_of t k ∷ arguments k ts

-- the body of a code begins, and the code is a value of the body around, under k type names
abbrev pub enter : ℕ → ℕ → CTys → Known → Known
enter k owes args κ = record {
  body = record { names = entry_of (TCCode owes args) owes ∷ arguments owes args; values = [] };
  around = (put κ (own k (TCCode owes args))).body ∷ κ.around;
}

abbrev pub leave : Known → List Frame → Known
leave κ [] = κ
leave κ (f ∷ fs) = record { body = f; around = fs }

-- a name of this level and type is declared under k type names. No value waits then
abbrev pub declare : ℕ → ℕ → CTy → Known → Known
declare l k t κ =
    record { body = record { names = take l κ.body.names ++ entry_of t k ∷ []; values = [] }; around = κ.around }

-- one node more, under k type names
abbrev pub known_step : ℕ → CNd → Known → Known
known_step k (MVar l) κ = put κ (named l)
known_step k (MInt n) κ = put κ (own k TCInt)
known_step k (MTuple n) κ = tuple k n κ
known_step k (MCode owes args) κ = enter k owes args κ
known_step k MEnd κ = leave κ κ.around
known_step k (MApply ts) κ = change k (applied_type (last_type k κ) ts) κ
known_step k (MPack h s) κ = change k s κ
known_step k (MName l) κ = declare l k (last_type k κ) κ
known_step k (MProj l i) κ = declare l k (field_type i (last_type k κ)) κ
known_step k (MArith l op) κ = declare l k TCInt κ
known_step k (MUnpack l) κ = declare l (k + 1) (opened_type (last_type k κ)) κ
known_step k (MCell l) κ = declare l k (TCRef (last_type k κ)) κ
known_step k (MGet l) κ = declare l k (held_type (last_type k κ)) κ
known_step k (MSet l) κ = declare l k (TCTuple NoCTys) κ
known_step k _ κ = with_values κ []

-- the level that a node declares
abbrev pub level_bound : CNd → Option ℕ
level_bound (MName l) = Some l
level_bound (MProj l i) = Some l
level_bound (MArith l op) = Some l
level_bound (MUnpack l) = Some l
level_bound (MCell l) = Some l
level_bound (MGet l) = Some l
level_bound (MSet l) = Some l
level_bound _ = None

-- nothing is known yet
abbrev pub nothing : Known
nothing = record { body = record { names = []; values = [] }; around = [] }
