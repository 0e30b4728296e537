-- The notation of types.
use Rattle.std.specs.Prelude.{ℕ, suc, ◌+◌, ◌-◌, Bool, true, false, List, [], ◌++◌, codes}
use Rattle.a_terms.specs.Tree.{ATy, AInt, AVar, ATuple, ACode, AExists, ATys, NoATys, MoreATys, AFields, NoAFields}
use Rattle.a_terms.specs.Tree.{MoreAFields}
use Rattle.page_core.specs.Names.{separator, type_name, type_names}
use Rattle.a_notation.specs.Closures.{is_of_closure}

-- behind a field that is not initialised
abbrev pub flag_text : Bool → List ℕ
flag_text true = []
flag_text false = codes "?"

-- a package inside n type names: a closure, of which code and arguments are given, or any other, of which the type
-- inside is given
abbrev pub package_text : Bool → ℕ → List ℕ → List ℕ → List ℕ
package_text true n code inside = codes "closure" ++ code
package_text false n code inside = codes "some " ++ (type_name n ++ (codes ". " ++ inside))

abbrev mutual
  -- a type inside n type names
  pub type_text : ℕ → ATy → List ℕ
  type_text n AInt = codes "int"
  type_text n (AVar i) = type_name (n - 1 - i)
  type_text n (ATuple fields) = codes "<" ++ (fields_text 0 n fields ++ codes ">")
  type_text n (ACode owes args) =
      codes "code" ++ (type_names n owes ++ (codes "(" ++ (types_text 0 (n + owes) args ++ codes ")")))
  type_text n (AExists t) = package_text (is_of_closure t) n (closure_text (n + 1) t) (type_text (n + 1) t)

  -- types, where i stand before them
  pub types_text : ℕ → ℕ → ATys → List ℕ
  types_text i n NoATys = []
  types_text i n (MoreATys t ts) = separator i ++ (type_text n t ++ types_text (suc i) n ts)

  -- fields with their flags, where i stand before them
  pub fields_text : ℕ → ℕ → AFields → List ℕ
  fields_text i n NoAFields = []
  fields_text i n (MoreAFields t flag fields) =
      separator i ++ (type_text n t ++ (flag_text flag ++ fields_text (suc i) n fields))

  -- of a closure inside n type names, that of its environment among them: the names of the types that its code owes,
  -- and the arguments but the environment
  pub closure_text : ℕ → ATy → List ℕ
  closure_text n (ATuple fields) = first_text n fields
  closure_text n _ = []

  pub first_text : ℕ → AFields → List ℕ
  first_text n NoAFields = []
  first_text n (MoreAFields t flag fields) = code_text n t

  pub code_text : ℕ → ATy → List ℕ
  code_text n (ACode owes args) = type_names n owes ++ (codes "(" ++ (others_text (n + owes) args ++ codes ")"))
  code_text n _ = []

  -- all types but the first
  pub others_text : ℕ → ATys → List ℕ
  others_text n NoATys = []
  others_text n (MoreATys t ts) = types_text 0 n ts

-- the types that a value is applied to, where there are any
abbrev pub applied_text : ℕ → ATys → List ℕ
applied_text n NoATys = []
applied_text n (MoreATys t ts) = codes "[" ++ (types_text 0 n (MoreATys t ts) ++ codes "]")
