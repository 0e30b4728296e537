-- What a frame owes and holds, by the table's machine, and how far a reading has come.
use Rattle.std.specs.Prelude.{◌≡◌, ℕ, ◌+◌, ◌*◌, ◌-◌, ◌<◌, ◌≤◌, nat_abs, List, [], ◌∷◌, ◌++◌, length, Result, Ok, Err}
use Rattle.calc_core.specs.Stack.{Chain}
use Rattle.idx_core.specs.declared.span.Span.{Span}
use Rattle.f_lexer.specs.declared.token.Token.{Token}
use Rattle.f_lexer.specs.declared.kind.Kind.{Kind}
use Rattle.f_lexer.specs.declared.kind.Kind.TheVariants as k
use Rattle.f_grammar.specs.declared.raw.RawShape.{RawShape}
use Rattle.f_grammar.specs.declared.raw.RawShape.TheVariants as shape
use Rattle.text_core.specs.Table.{Tm, Nt, Do, Mark, State}
use Rattle.text_core.specs.Going.{Goes}
use Rattle.f_grammar.specs.Raw.{RawTm, Piece}
use Rattle.f_grammar.specs.Read.{type_of}
use Rattle.f_grammar.specs.Reads.{Fails}
use Rattle.f_grammar.specs.Machine.{table, Act, Stack, Val, OfToken, OfTerm, OfTerms, OfType, LE, LP, MoreParts}
use Rattle.f_grammar.specs.Machine.{MoreFactors, MoreSums, MoreFields, MakeParen, MakeTuple, MakeProj, MakeIf0}
use Rattle.f_grammar.specs.Machine.{MakeFix, MakeGen}
use Rattle.f_grammar.specs.Machine.{MakeCall, MakeArith, MakeFirst, MakeNext, MakeLet, MakePack, MakeOpen, MakeRef}
use Rattle.f_grammar.specs.Machine.{MakeDeref, MakeAssign, MoreAssign, LT, value_of, marks}
use Rattle.f_grammar.specs.declared.cursor.Wanted.TheVariants as want
use Rattle.f_grammar.specs.declared.cursor.Stopped.{Stopped}
use Rattle.f_grammar.specs.Forest.{Stores, AreTrees, Counted}
use Rattle.f_grammar.specs.declared.forest.Forest.{Forest}
use Rattle.f_grammar.specs.declared.part.Part.{Part}
use Rattle.f_grammar.specs.declared.frame.Head.{Head}
use Rattle.f_grammar.specs.declared.frame.Frame.{Frame}
use Rattle.f_grammar.specs.declared.frame.Frame.TheVariants as frame
use Rattle.f_grammar.specs.declared.frame.Control.{Control}
use Rattle.f_grammar.specs.declared.frame.Control.TheVariants as control
use Rattle.f_grammar.specs.declared.frame.Reader.{Reader}

-- what is owed after the term that a frame waits for
abbrev pub fields_owed : Stack
fields_owed = Nt MoreFields ∷ (Tm want.RightAngle ∷ (Mark ∷ (Do MakeTuple ∷ [])))

abbrev pub other_owed : Stack
other_owed = Tm want.RightParen ∷ (Mark ∷ (Do MakeIf0 ∷ []))

abbrev pub zero_owed : Stack
zero_owed = Tm want.Comma ∷ (Nt LE ∷ other_owed)

abbrev pub in_owed : Act → Stack
in_owed a = Tm want.In ∷ (Mark ∷ (Nt LE ∷ (Do a ∷ [])))

abbrev pub shape_owed : Stack
shape_owed = Tm want.As ∷ (Nt LT ∷ (Do MakePack ∷ []))

abbrev pub owes : Frame → Stack
owes (frame.Paren l) = Tm want.RightParen ∷ (Mark ∷ (Do MakeParen ∷ []))
owes (frame.First l) = Do MakeFirst ∷ fields_owed
owes (frame.Next l fs) = Do MakeNext ∷ fields_owed
owes (frame.Proj h n) = Mark ∷ (Do MakeProj ∷ [])
owes (frame.Test w) = Tm want.Comma ∷ (Nt LE ∷ zero_owed)
owes (frame.Zero w a) = zero_owed
owes (frame.Other w a z) = other_owed
owes (frame.Fix h) = Mark ∷ (Do MakeFix ∷ [])
owes (frame.Gen w n) = Mark ∷ (Do MakeGen ∷ [])
owes (frame.Let w n) = in_owed MakeLet
owes (frame.LetBody w n a) = Do MakeLet ∷ []
owes (frame.Pack w t) = Tm want.RightBracket ∷ (Mark ∷ shape_owed)
owes (frame.Open w t n) = in_owed MakeOpen
owes (frame.OpenBody o) = Do MakeOpen ∷ []
owes (frame.Ref w) = Mark ∷ (Do MakeRef ∷ [])
owes (frame.Deref w) = Mark ∷ (Do MakeDeref ∷ [])
owes (frame.Argument f) = Do MakeCall ∷ []
owes (frame.Right op l) = Do (MakeArith op) ∷ []
owes (frame.Assigned a) = Do MakeAssign ∷ []
owes frame.MoreParts = Nt MoreParts ∷ []
owes frame.MoreFactors = Nt MoreFactors ∷ []
owes frame.MoreSums = Nt MoreSums ∷ []
owes frame.MoreAssign = Nt MoreAssign ∷ []

-- the values of a function's head
pub record HeadIs (h : Head) (vs : List Val) : Type 0 where
  pub word : Token
  pub name : Token
  pub left : Token
  pub parameter : Token
  pub colon : Token
  pub right : Token
  pub colon_again : Token
  pub dot : Token
  pub takes_end : ℕ
  pub gives_end : ℕ
  pub word_is : h.word ≡ word.span
  pub name_is : h.name ≡ name.span
  pub parameter_is : h.parameter ≡ parameter.span
  pub are : vs ≡ OfToken dot ∷ (OfType (record { ty = type_of h.gives; end = gives_end }) ∷
      (OfToken colon_again ∷ (OfToken right ∷ (OfType (record { ty = type_of h.takes; end = takes_end }) ∷
      (OfToken colon ∷ (OfToken parameter ∷ (OfToken left ∷ (OfToken name ∷ (OfToken word ∷ [])))))))))

-- the tokens open [ name , name ] =
pub record Opened : Type 0 where
  pub word : Token
  pub left : Token
  pub ty : Token
  pub comma : Token
  pub name : Token
  pub right : Token
  pub equals : Token

abbrev pub opened_values : Opened → List Val
opened_values h = OfToken h.equals ∷ (OfToken h.right ∷ (OfToken h.name ∷ (OfToken h.comma ∷ (OfToken h.ty ∷
    (OfToken h.left ∷ (OfToken h.word ∷ []))))))

-- the values that a frame holds
abbrev pub Held : Forest → Frame → List Val → Type 0
Held b (frame.Paren l) vs = (o : Token) × (l ≡ o.span) × (vs ≡ OfToken o ∷ [])
Held b (frame.First l) vs = (o : Token) × (l ≡ o.span) × (vs ≡ OfToken o ∷ [])
Held b (frame.Next l fs) vs = (o : Token) × (c : Token) × (ts : List RawTm) × (l ≡ o.span) × AreTrees b fs.items ts
    × (vs ≡ OfToken c ∷ (OfTerms ts ∷ (OfToken o ∷ [])))
Held b (frame.Proj h n) vs = (t : Token) × (m : Token) × (h ≡ t.span) × (n ≡ nat_abs (value_of m.kind))
    × (vs ≡ OfToken m ∷ (OfToken t ∷ []))
Held b (frame.Test w) vs = (t : Token) × (o : Token) × (w ≡ t.span) × (vs ≡ OfToken o ∷ (OfToken t ∷ []))
Held b (frame.Zero w a) vs = (t : Token) × (o : Token) × (c : Token) × (p : Piece) × (w ≡ t.span) × Stores b a p
    × (vs ≡ OfToken c ∷ (OfTerm p ∷ (OfToken o ∷ (OfToken t ∷ []))))
Held b (frame.Other w a z) vs = (t : Token) × (o : Token) × (c : Token) × (d : Token) × (p : Piece) × (q : Piece)
    × (w ≡ t.span) × Stores b a p × Stores b z q
    × (vs ≡ OfToken d ∷ (OfTerm q ∷ (OfToken c ∷ (OfTerm p ∷ (OfToken o ∷ (OfToken t ∷ []))))))
Held b (frame.Fix h) vs = HeadIs h vs
Held b (frame.Gen w n) vs = (t : Token) × (a : Token) × (d : Token) × (w ≡ t.span) × (n ≡ a.span)
    × (vs ≡ OfToken d ∷ (OfToken a ∷ (OfToken t ∷ [])))
Held b (frame.Let w n) vs = (l : Token) × (m : Token) × (q : Token) × (w ≡ l.span) × (n ≡ m.span)
    × (vs ≡ OfToken q ∷ (OfToken m ∷ (OfToken l ∷ [])))
Held b (frame.LetBody w n a) vs = (l : Token) × (m : Token) × (q : Token) × (i : Token) × (p : Piece) × (w ≡ l.span)
    × (n ≡ m.span) × Stores b a p
    × (vs ≡ OfToken i ∷ (OfTerm p ∷ (OfToken q ∷ (OfToken m ∷ (OfToken l ∷ [])))))
Held b (frame.Pack w t) vs = (p : Token) × (o : Token) × (c : Token) × (end : ℕ) × (w ≡ p.span)
    × (vs ≡ OfToken c ∷ (OfType (record { ty = type_of t; end = end }) ∷ (OfToken o ∷ (OfToken p ∷ []))))
Held b (frame.Open w t n) vs = (h : Opened) × (w ≡ h.word.span) × (t ≡ h.ty.span) × (n ≡ h.name.span)
    × (vs ≡ opened_values h)
Held b (frame.OpenBody o) vs = (h : Opened) × (i : Token) × (p : Piece) × (o.word ≡ h.word.span)
    × (o.ty ≡ h.ty.span) × (o.name ≡ h.name.span) × Stores b o.first p × (vs ≡ OfToken i ∷ (OfTerm p ∷ opened_values h))
Held b (frame.Ref w) vs = (t : Token) × (w ≡ t.span) × (vs ≡ OfToken t ∷ [])
Held b (frame.Deref w) vs = (t : Token) × (w ≡ t.span) × (vs ≡ OfToken t ∷ [])
Held b (frame.Argument f) vs = (p : Piece) × Stores b f p × (vs ≡ OfTerm p ∷ [])
Held b (frame.Right op l) vs = (s : Token) × (p : Piece) × Stores b l p × (vs ≡ OfToken s ∷ (OfTerm p ∷ []))
Held b (frame.Assigned a) vs = (s : Token) × (p : Piece) × Stores b a p × (vs ≡ OfToken s ∷ (OfTerm p ∷ []))
Held b frame.MoreParts vs = vs ≡ []
Held b frame.MoreFactors vs = vs ≡ []
Held b frame.MoreSums vs = vs ≡ []
Held b frame.MoreAssign vs = vs ≡ []

-- what is owed and made inside a frame, by what is owed and made around it
abbrev pub Around : Forest → Frame → State table → State table → Type 0
Around b f inner outer = (vs : List Val) × Held b f vs × (inner.owed ≡ owes f ++ outer.owed)
    × (inner.made ≡ vs ++ outer.made)

abbrev pub nothing : State table
nothing = record { owed = []; made = [] }

-- From the first token on, the machine has come to the token `at`: the goal is owed before what the frames owe, and
-- these values are made above those that the frames hold.
pub record Reached (ts : List Token) (fs : List Frame) (b : Forest) (depth at : ℕ) (goal : Stack)
    (got : List Val) : Type 0 where
  pub around : State table
  pub framed : Chain (Around b) fs around nothing
  pub goes : Goes table 200 ts 0 0 (Nt LE ∷ []) [] at (goal ++ around.owed) (got ++ around.made)
  pub counted : Counted b (got ++ around.made)
  pub counts : depth ≡ marks (goal ++ around.owed)
  pub room : depth ≤ 200
  pub in_range : at ≤ length ts

abbrev pub Stays : List Token → Reader → Stack → List Val → Type 0
Stays ts r goal got = Reached ts r.frames.items r.forest r.depth r.at goal got

-- what is next
abbrev pub Leads : List Token → Reader → Control → Type 0
Leads ts r control.Term = Stays ts r (Nt LE ∷ []) []
Leads ts r control.Part = Stays ts r (Nt LP ∷ []) []
Leads ts r (control.Give p) = (q : Piece) × Stores r.forest p q × Stays ts r [] (OfTerm q ∷ [])

-- a term was read for which the frame waits
abbrev pub Offered : List Token → Reader → Frame → Part → Type 0
Offered ts r f p = (q : Piece) × (vs : List Val) × Stores r.forest p q × Held r.forest f vs
    × Stays ts r (owes f) (OfTerm q ∷ vs)

-- a name or a number, and its form
abbrev pub IsLeaf : Kind → RawShape → Type 0
IsLeaf k.Name shape.Var = Unit {0}
IsLeaf (k.Plain z) (shape.Num y) = y ≡ z
IsLeaf (k.Negative z) (shape.Num y) = y ≡ z
IsLeaf _ _ = ⊥

-- some fields of a tuple were read
abbrev pub Listed : List Token → Reader → Span → List ℕ → Type 0
Listed ts r l fs = (o : Token) × (us : List RawTm) × (l ≡ o.span) × AreTrees r.forest fs us
    × Stays ts r fields_owed (OfTerms us ∷ (OfToken o ∷ []))

-- the first token that may not stand there, or the limit
abbrev pub IsStop : List Token → Stopped → Type 0
IsStop ts e = Fails ts 0 0 (Nt LE ∷ []) [] e

-- the steps that are left, at most
abbrev pub weight : Control → ℕ
weight control.Term = 5
weight control.Part = 0
weight (control.Give p) = 3

abbrev pub left : List Token → Reader → ℕ
left ts r = 8 * (length ts - r.at) + length r.frames.items

abbrev pub work : List Token → Reader → Control → ℕ
work ts r c = left ts r + weight c

-- after a term was read for which a frame waited
abbrev pub after : List Token → Reader → ℕ
after ts r = 4 + left ts r

-- a step: the reading has come further, and less is left; or it stops
abbrev pub Went : List Token → Reader → ℕ → Result Control Stopped → Type 0
Went ts r m (Ok c) = (r.tokens.now ≡ ts) × Leads ts r c × (work ts r c < m)
Went ts r m (Err e) = IsStop ts e
