-- What the reading of a term promises, by the table.
use Rattle.std.specs.Prelude.{◌≡◌, ◌<◌, ◌≤◌, ◌+◌, ℕ, nat_abs, List, [], ◌∷◌, length, slice_get, Option, Some, None}
use Rattle.idx_core.specs.declared.arith.Op.{Op}
use Rattle.idx_core.specs.declared.arith.Op.TheVariants.{Add, Sub}
use Rattle.f_lexer.specs.declared.token.Token.{Token}
use Rattle.f_lexer.specs.declared.kind.Kind.{Kind}
use Rattle.f_lexer.specs.declared.kind.Kind.TheVariants as k
use Rattle.text_core.specs.Table.{Nt, Do, Mark}
use Rattle.text_core.specs.Going.{Goes, next_of}
use Rattle.f_grammar.specs.Raw.{RawTm, Piece, raw_span, nodes}
use Rattle.f_grammar.specs.Machine.{table, Stack, OfToken, OfTerm, OfType, value_of, LE, MakeFix, MakeGen}
use Rattle.f_grammar.specs.Read.{type_of}
use Rattle.f_grammar.specs.Term.{tree_of}
use Rattle.f_grammar.specs.declared.cursor.Wanted.TheVariants as want
use Rattle.f_grammar.specs.declared.part.Kept.{Kept}
use Rattle.f_grammar.specs.declared.part.Kept.TheVariants as kept
use Rattle.f_grammar.specs.declared.part.FoundTerm.{FoundTerm}
use Rattle.f_grammar.specs.declared.heads.FoundHead.{FoundHead}
use Rattle.f_grammar.specs.declared.heads.Argument.{Argument}
use Rattle.f_grammar.specs.declared.heads.Argument.TheVariants.{Part, Bracket}

-- what is kept of the tree t
abbrev pub Keeps : Kept → RawTm → Type 0
Keeps (kept.Term e) t = (tree_of e ≡ t) × (nodes t ≤ 100000)
Keeps (kept.TooMany s) t = (raw_span t ≡ s) × (100000 < nodes t)

-- from the first token on a term was read, up to a token
pub record ReadsTerm (ts : List Token) (f : FoundTerm) : Type 0 where
  pub piece : Piece
  pub keeps : Keeps f.kept piece.tree
  pub same : Goes table 200 ts 0 0 (Nt LE ∷ []) [] f.next [] (OfTerm piece ∷ [])

-- what a token begins that may follow on a part: another part, or a type in brackets
abbrev pub argument_of : Kind → Option Argument
argument_of k.LeftBracket = Some Bracket
argument_of k.Name = Some Part
argument_of (k.Plain z) = Some Part
argument_of (k.Negative z) = Some Part
argument_of k.LeftParen = Some Part
argument_of k.LeftAngle = Some Part
argument_of k.Hash = Some Part
argument_of k.If0 = Some Part
argument_of k.Ref = Some Part
argument_of k.Bang = Some Part
argument_of _ = None

abbrev pub argument_next : Option Token → Option Argument
argument_next None = None
argument_next (Some c) = argument_of c.kind

abbrev pub sign_of : Kind → Option Op
sign_of k.Plus = Some Add
sign_of k.Minus = Some Sub
sign_of _ = None

abbrev pub sign_next : Option Token → Option Op
sign_next None = None
sign_next (Some c) = sign_of c.kind

-- what is owed after the head of a function, and of a type abstraction
abbrev pub fix_body : Stack
fix_body = Nt LE ∷ (Mark ∷ (Do MakeFix ∷ []))

abbrev pub gen_body : Stack
gen_body = Nt LE ∷ (Mark ∷ (Do MakeGen ∷ []))

-- fix name ( name : T ) : T .
pub record ReadsHead (ts : List Token) (d i : ℕ) (f : FoundHead) : Type 0 where
  pub word : Token
  pub name : Token
  pub left : Token
  pub parameter : Token
  pub colon : Token
  pub right : Token
  pub colon_again : Token
  pub dot : Token
  pub takes_end : ℕ
  pub gives_end : ℕ
  pub word_is : f.head.word ≡ word.span
  pub name_is : f.head.name ≡ name.span
  pub parameter_is : f.head.parameter ≡ parameter.span
  pub room : d < 200
  pub forward : i < f.next
  pub in_range : f.next ≤ length ts
  pub same : Goes table 200 ts d i (Nt LE ∷ []) [] f.next fix_body
      (OfToken dot ∷ (OfType (record { ty = type_of f.head.gives; end = gives_end }) ∷
      (OfToken colon_again ∷ (OfToken right ∷ (OfType (record { ty = type_of f.head.takes; end = takes_end }) ∷
      (OfToken colon ∷ (OfToken parameter ∷ (OfToken left ∷ (OfToken name ∷ (OfToken word ∷ []))))))))))

-- gen name .
pub record ReadsGenHead (ts : List Token) (d i : ℕ) (word : Token) (name : Token) : Type 0 where
  pub dot : Token
  pub room : d < 200
  pub in_range : i + 3 ≤ length ts
  pub same : Goes table 200 ts d i (Nt LE ∷ []) [] (i + 3) gen_body (OfToken dot ∷ (OfToken name ∷ (OfToken word ∷ [])))

-- a plain number of this value stands there
pub record IsFieldNumber (ts : List Token) (i n : ℕ) : Type 0 where
  pub token : Token
  pub is : next_of table want.Number (slice_get ts i) ≡ Some token
  pub value : n ≡ nat_abs (value_of token.kind)
