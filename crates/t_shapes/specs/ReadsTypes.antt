-- What the reading functions promise, by the table.
use Rattle.std.specs.Prelude.{◌≡◌, ℕ, List, [], ◌∷◌, drop, Some, slice_get, Result, MatchResult}
use Rattle.text_core.specs.Table.{Nt, Tm}
use Rattle.text_core.specs.Table as table_of
use Rattle.text_core.specs.Going.{Stops}
use Rattle.text_core.specs.Going as going
use Rattle.t_text.specs.declared.token.Token.{Token}
use Rattle.t_text.specs.declared.token.Kind.{Kind}
use Rattle.t_text.specs.declared.wanted.Wanted.TheVariants as want
use Rattle.t_text.specs.Raw.{RawTy, Piece, ending}
use Rattle.t_text.specs.Text.{most_open}
use Rattle.t_text.specs.GrammarTable.{table, Line, LBinds, LNames, LT, LFields, LFile, LRegs, Stack, Val, OfToken}
use Rattle.t_text.specs.GrammarTable.{OfNames, OfType, OfFile, reg_of, field_of}
use Rattle.t_shapes.specs.RawTypes.{raw, raw_file, raw_reg, raw_field}
use Rattle.t_shapes.specs.declared.cursor.Stopped.{Stopped}
use Rattle.t_shapes.specs.declared.cursor.Stopped.TheVariants.{Memory, Unexpected, TooDeep}
use Rattle.t_shapes.specs.declared.names.FoundNames.{FoundNames}
use Rattle.t_shapes.specs.declared.types.FoundType.{FoundType}
use Rattle.t_shapes.specs.declared.types.FoundFile.{FoundFile}
use Rattle.t_shapes.specs.declared.types.FoundEntry.{FoundEntry}
use Rattle.t_shapes.specs.declared.types.FoundField.{FoundField}

-- what was owed has been read from the token i up to the token `next`, with these values, where d constructs are open
-- around
abbrev pub ReadsOwed : Stack → List Token → ℕ → ℕ → ℕ → List Val → Type 0
ReadsOwed owed ts d i next us = going.Reads table most_open ts d i owed [] next [] us

-- the same of a line
abbrev pub Reads : Line → List Token → ℕ → ℕ → ℕ → List Val → Type 0
Reads n ts d i next us = ReadsOwed (Nt n ∷ []) ts d i next us

-- the reading of what is owed stops: no token, or end, may stand at j; or the limit is passed there
abbrev pub Fails : List Token → ℕ → ℕ → Stack → List Val → Stopped → Type 0
Fails ts d i owed vs Memory = Unit {0}
Fails ts d i owed vs (Unexpected j) = Stops table most_open ts d i owed vs (table_of.Unexpected (drop j ts))
Fails ts d i owed vs (TooDeep j) = Stops table most_open ts d i owed vs (table_of.Passed (drop j ts))

-- reg : T
abbrev pub entry_owed : Stack
entry_owed = Tm want.Register ∷ (Tm want.Colon ∷ (Nt LT ∷ []))

pub record ReadsEntry (ts : List Token) (d i : ℕ) (f : FoundEntry) : Type 0 where
  pub reg : Token
  pub colon : Token
  pub ty : Piece RawTy
  pub is : raw_reg f.entry ≡ reg_of reg ty.tree
  pub reads : ReadsOwed entry_owed ts d i f.next (OfType ty ∷ (OfToken colon ∷ (OfToken reg ∷ [])))

-- T ^ 0 | T ^ 1
abbrev pub field_owed : Stack
field_owed = Nt LT ∷ (Tm want.Caret ∷ (Tm want.Flag ∷ []))

pub record ReadsField (ts : List Token) (d i : ℕ) (f : FoundField) : Type 0 where
  pub ty : Piece RawTy
  pub caret : Token
  pub flag : Token
  pub is : raw_field f.field ≡ field_of ty.tree flag
  pub reads : ReadsOwed field_owed ts d i f.next (OfToken flag ∷ (OfToken caret ∷ (OfType ty ∷ [])))

-- some items of a list were read, and there may be more
abbrev pub ReadsSome : Line → Stack → List Token → ℕ → ℕ → ℕ → Val → Type 0
ReadsSome n left ts d i next us = going.Reads table most_open ts d i (Nt n ∷ []) [] next left (us ∷ [])

-- The answers of the reading functions, from the token i on, where d constructs are open around.

-- the line n was read up to `next` of what was found, with the value that is made of it; or its reading stops
abbrev pub IsLine : {F : Type 0} → Line → (F → ℕ) → (F → Val) → List Token → ℕ → ℕ → Result F Stopped → Type 0
IsLine n next made ts d i r =
    MatchResult r (λ f. Reads n ts d i (next f) (made f ∷ [])) (λ e. Fails ts d i (Nt n ∷ []) [] e)

-- names in brackets, and after the opening bracket
abbrev pub AreNames : Line → List Token → ℕ → ℕ → Result FoundNames Stopped → Type 0
AreNames n ts d i r = IsLine n (λ f. f.next) (λ f. OfNames f.names.items) ts d i r

abbrev pub IsBinds : List Token → ℕ → ℕ → Result FoundNames Stopped → Type 0
IsBinds ts d i r = AreNames LBinds ts d i r

abbrev pub IsNames : List Token → ℕ → ℕ → Result FoundNames Stopped → Type 0
IsNames ts d i r = AreNames LNames ts d i r

-- a type, and a tuple type after its opening bracket
abbrev pub IsTypeLine : Line → List Token → ℕ → ℕ → Result FoundType Stopped → Type 0
IsTypeLine n ts d i r = IsLine n (λ f. f.next) (λ f. OfType (ending (raw f.ty) f.end)) ts d i r

abbrev pub IsType : List Token → ℕ → ℕ → Result FoundType Stopped → Type 0
IsType ts d i r = IsTypeLine LT ts d i r

-- a type, where the token that it begins with is of this kind
abbrev pub IsTypeFrom : Kind → List Token → ℕ → ℕ → Result FoundType Stopped → Type 0
IsTypeFrom k ts d i r = (c : Token) → slice_get ts i ≡ Some c → c.kind ≡ k → IsType ts d i r

abbrev pub IsFields : List Token → ℕ → ℕ → Result FoundType Stopped → Type 0
IsFields ts d i r = IsTypeLine LFields ts d i r

-- a register file, and one after its opening brace
abbrev pub IsFileLine : Line → List Token → ℕ → ℕ → Result FoundFile Stopped → Type 0
IsFileLine n ts d i r = IsLine n (λ f. f.next) (λ f. OfFile (ending (raw_file f.file) f.end)) ts d i r

abbrev pub IsFile : List Token → ℕ → ℕ → Result FoundFile Stopped → Type 0
IsFile ts d i r = IsFileLine LFile ts d i r

abbrev pub IsRegs : List Token → ℕ → ℕ → Result FoundFile Stopped → Type 0
IsRegs ts d i r = IsFileLine LRegs ts d i r

-- a register with its type, and a type with its flag
abbrev pub IsEntry : List Token → ℕ → ℕ → Result FoundEntry Stopped → Type 0
IsEntry ts d i r = MatchResult r (λ f. ReadsEntry ts d i f) (λ e. Fails ts d i entry_owed [] e)

abbrev pub IsField : List Token → ℕ → ℕ → Result FoundField Stopped → Type 0
IsField ts d i r = MatchResult r (λ f. ReadsField ts d i f) (λ e. Fails ts d i field_owed [] e)
