-- What the reading functions promise, by the table.
use Rattle.std.specs.Prelude.{ℕ, List, [], ◌∷◌, map, drop}
use Rattle.f_lexer.specs.declared.token.Token.{Token}
use Rattle.text_core.specs.Table.{Nt, Tm}
use Rattle.text_core.specs.Table as table_of
use Rattle.text_core.specs.Going.{Stops}
use Rattle.text_core.specs.Going as going
use Rattle.f_grammar.specs.Raw.{RawTy, TyPiece}
use Rattle.f_grammar.specs.Read.{type_of}
use Rattle.f_grammar.specs.Machine.{table, Line, Stack, Val, OfToken, OfType, OfTypes, LTypes, LParam, MoreTypes}
use Rattle.f_grammar.specs.declared.cursor.Wanted.TheVariants as want
use Rattle.f_grammar.specs.declared.cursor.Stopped.{Stopped}
use Rattle.f_grammar.specs.declared.cursor.Stopped.TheVariants.{Memory, Unexpected, TooDeep}
use Rattle.f_grammar.specs.declared.types.FoundType.{FoundType}
use Rattle.f_grammar.specs.declared.types.FoundTypes.{FoundTypes}
use Rattle.f_grammar.specs.declared.params.FoundParameter.{FoundParameter}

-- a line was read from the token i up to the token `next`, with these values, where d constructs are open around
abbrev pub Reads : Line → List Token → ℕ → ℕ → ℕ → List Val → Type 0
Reads n ts d i next us = going.Reads table 200 ts d i (Nt n ∷ []) [] next [] us

-- a type that was read
abbrev pub found_ty : FoundType → TyPiece
found_ty f = record { ty = type_of f.ty; end = f.end }

abbrev pub ReadsType : Line → List Token → ℕ → ℕ → FoundType → Type 0
ReadsType n ts d i f = Reads n ts d i f.next (OfType (found_ty f) ∷ [])

abbrev pub ReadsTypes : List Token → ℕ → ℕ → FoundTypes → Type 0
ReadsTypes ts d i f = Reads LTypes ts d i f.next (OfToken f.close ∷ (OfTypes (map type_of f.types.items) ∷ []))

-- the tokens around the name and the type are not kept, nor is the type's end
pub record ReadsParameter (ts : List Token) (d i : ℕ) (f : FoundParameter) : Type 0 where
  pub open_paren : Token
  pub colon : Token
  pub close_paren : Token
  pub type_end : ℕ
  pub reads : Reads LParam ts d i f.next
      (OfToken close_paren ∷ (OfType (record { ty = type_of f.ty; end = type_end }) ∷
      (OfToken colon ∷ (OfToken f.name ∷ (OfToken open_paren ∷ [])))))

-- the reading of what is owed stops: no token, or end, may stand at j; or the limit is passed there
abbrev pub Fails : List Token → ℕ → ℕ → Stack → List Val → Stopped → Type 0
Fails ts d i owed vs Memory = Unit {0}
Fails ts d i owed vs (Unexpected j) = Stops table 200 ts d i owed vs (table_of.Unexpected (drop j ts))
Fails ts d i owed vs (TooDeep j) = Stops table 200 ts d i owed vs (table_of.Passed (drop j ts))

-- some types were read, and there may be more
abbrev pub ReadsSome : List Token → ℕ → ℕ → ℕ → List RawTy → Type 0
ReadsSome ts d i next us = going.Reads table 200 ts d i (Nt LTypes ∷ []) [] next
    (Nt MoreTypes ∷ (Tm want.RightAngle ∷ [])) (OfTypes us ∷ [])
