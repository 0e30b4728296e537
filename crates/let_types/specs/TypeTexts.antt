-- The notation of the types of closed programs, as bytes. A type inside n type names names its variable i as the type
-- name with n - 1 - i others around it.
use Rattle.std.specs.Prelude.{◌≡◌, ◌≤◌, ◌^◌, ℕ, suc, ◌+◌, ◌-◌, ◌==◌, ◌&&◌, ◌||◌, not, List, [], ◌++◌, Option}
use Rattle.std.specs.Prelude.{Some, None, Bool, true, false, if◌then◌else◌, codes}
use Rattle.page_core.specs.Names.{separator, type_name, type_names}
use Rattle.c_terms.specs.C.{CTy, TCInt, TCVar, TCTuple, TCCode, TCExists, TCRef, CTys, NoCTys, MoreCTys}

-- the variable of a number, or, with none, any whose number no word holds
abbrev pub IsVariable : Option ℕ → ℕ → Type 0
IsVariable None v = 2 ^ 64 ≤ v
IsVariable (Some d) v = v ≡ d

-- whether a type, or one of several, names the variable v
abbrev mutual
  pub names_variable : ℕ → CTy → Bool
  names_variable v TCInt = false
  names_variable v (TCVar i) = i == v
  names_variable v (TCTuple ts) = one_names_variable v ts
  names_variable v (TCCode owes args) = one_names_variable (v + owes) args
  names_variable v (TCExists t) = names_variable (v + 1) t
  names_variable v (TCRef t) = names_variable v t

  pub one_names_variable : ℕ → CTys → Bool
  one_names_variable v NoCTys = false
  one_names_variable v (MoreCTys t ts) = names_variable v t || one_names_variable v ts

abbrev pub is_variable : ℕ → CTy → Bool
is_variable v (TCVar i) = i == v
is_variable v _ = false

-- whether the variable v is the first of several types, and no other one names it
abbrev pub only_first : ℕ → CTys → Bool
only_first v NoCTys = false
only_first v (MoreCTys t ts) = is_variable v t && not (one_names_variable v ts)

-- whether a type is that of a code whose first argument is the variable that is 0 outside of it, and no other argument
-- names that
abbrev pub takes_hidden : CTy → Bool
takes_hidden (TCCode owes args) = only_first owes args
takes_hidden _ = false

-- whether these are the variable 0 alone
abbrev pub is_hidden : CTys → Bool
is_hidden NoCTys = false
is_hidden (MoreCTys t NoCTys) = is_variable 0 t
is_hidden (MoreCTys t (MoreCTys u us)) = false

-- whether `some` of this type is that of a closure: of a code that takes what is hidden first, beside what is hidden
abbrev pub are_closure : CTys → Bool
are_closure NoCTys = false
are_closure (MoreCTys t ts) = takes_hidden t && is_hidden ts

abbrev pub is_closure : CTy → Bool
is_closure (TCTuple ts) = are_closure ts
is_closure _ = false

-- the text of a type inside n type names, and of several with so many before them. With closures `some b.
-- <code[as](b, ts), b>` is `closure[as](ts)` where ts don't name b, which takes a name all the same
abbrev mutual
  pub text_of : (closures : Bool) → ℕ → CTy → List ℕ
  text_of c n TCInt = codes "int"
  text_of c n (TCVar i) = type_name (n - 1 - i)
  text_of c n (TCTuple ts) = codes "<" ++ texts_after c 0 n ts ++ codes ">"
  text_of c n (TCCode owes args) =
      codes "code" ++ type_names n owes ++ codes "(" ++ texts_after c 0 (n + owes) args ++ codes ")"
  text_of c n (TCExists t) =
      if c && is_closure t then closure_text (n + 1) t
      else codes "some " ++ type_name n ++ codes ". " ++ text_of c (n + 1) t
  text_of c n (TCRef t) = codes "ref " ++ text_of c n t

  pub texts_after : (closures : Bool) → ℕ → ℕ → CTys → List ℕ
  texts_after c before n NoCTys = []
  texts_after c before n (MoreCTys t ts) = separator before ++ text_of c n t ++ texts_after c (suc before) n ts

  -- the text of a closure, of what stands behind `some`, inside the name of what is hidden too
  pub closure_text : ℕ → CTy → List ℕ
  closure_text n (TCTuple ts) = closure_fields n ts
  closure_text n _ = []

  pub closure_fields : ℕ → CTys → List ℕ
  closure_fields n NoCTys = []
  closure_fields n (MoreCTys t ts) = closure_code n t

  pub closure_code : ℕ → CTy → List ℕ
  closure_code n (TCCode owes args) =
      codes "closure" ++ type_names n owes ++ codes "(" ++ others_text (n + owes) args ++ codes ")"
  closure_code n _ = []

  -- all but the first
  pub others_text : ℕ → CTys → List ℕ
  others_text n NoCTys = []
  others_text n (MoreCTys t ts) = texts_after true 0 n ts

-- with closures
abbrev pub type_text : ℕ → CTy → List ℕ
type_text = text_of true

abbrev pub types_text : ℕ → CTys → List ℕ
types_text = texts_after true 0

-- and without
abbrev pub plain_text : ℕ → CTy → List ℕ
plain_text = text_of false

abbrev pub plain_texts : ℕ → CTys → List ℕ
plain_texts = texts_after false 0

-- what stands behind a name that is given to a value of this type, where types are shown
abbrev pub note_text : Bool → ℕ → CTy → List ℕ
note_text true n t = codes ": " ++ type_text n t
note_text false n t = []

-- what stands behind a value that is applied to types
abbrev pub applied_text : ℕ → CTys → List ℕ
applied_text n NoCTys = []
applied_text n ts = codes "[" ++ types_text n ts ++ codes "]"

-- what stands in front of a package's value, and behind it
abbrev pub pack_front : ℕ → CTy → List ℕ
pack_front n h = codes "pack [" ++ (type_text n h ++ codes ", ")

abbrev pub pack_behind : ℕ → CTy → List ℕ
pack_behind n s = codes "] as " ++ type_text n s
