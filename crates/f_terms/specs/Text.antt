-- The text of a type.
use Rattle.std.specs.Prelude.{ℕ, ◌+◌, ◌-◌, List, [], ◌++◌, Bool, true, false, if◌then◌else◌, codes, decimal}
use Rattle.idx_core.specs.Separator.{separator}
use Rattle.f_terms.specs.Ty.{Ty, TInt, TVar, TArrow, TAll, TTuple, TSome, TRef, Tys, NoTys, MoreTys}

-- the variable of an `all` or a `some` with d of them around it
abbrev pub name_text : ℕ → List ℕ
name_text d = codes "t" ++ decimal d

-- what takes parentheses where it is the left side of an arrow, or stands after `ref`
abbrev pub is_grouped : Ty → Bool
is_grouped (TArrow a b) = true
is_grouped (TAll t) = true
is_grouped (TSome t) = true
is_grouped TInt = false
is_grouped (TVar i) = false
is_grouped (TTuple ts) = false
is_grouped (TRef t) = false

-- the text inside d `all`s and `some`s: the variable i is that of the one with i others between
abbrev mutual
  pub text_at : ℕ → Ty → List ℕ
  text_at d TInt = codes "int"
  text_at d (TVar i) = name_text (d - 1 - i)
  text_at d (TArrow a b) =
      (if is_grouped a then codes "(" else []) ++ text_at d a ++ (if is_grouped a then codes ")" else [])
      ++ codes " -> " ++ text_at d b
  text_at d (TAll t) = codes "all " ++ name_text d ++ codes ". " ++ text_at (d + 1) t
  text_at d (TTuple ts) = codes "<" ++ texts_at d 0 ts ++ codes ">"
  text_at d (TSome t) = codes "some " ++ name_text d ++ codes ". " ++ text_at (d + 1) t
  text_at d (TRef t) =
      codes "ref " ++ (if is_grouped t then codes "(" else []) ++ text_at d t
      ++ (if is_grouped t then codes ")" else [])

  pub texts_at : ℕ → ℕ → Tys → List ℕ
  texts_at d k NoTys = []
  texts_at d k (MoreTys t ts) = separator k ++ text_at d t ++ texts_at d (k + 1) ts

-- the text of a closed type
abbrev pub type_text : Ty → List ℕ
type_text t = text_at 0 t
