-- The table of the grammar: how it is read one token ahead.
use Rattle.std.specs.Prelude.{ℕ, ℤ, pos, nat_abs, List, [], ◌∷◌, ◌++◌, Option, Some, None, Bool, true, false}
use Rattle.idx_core.specs.declared.arith.Op.{Op}
use Rattle.idx_core.specs.declared.arith.Op.TheVariants.{Add, Sub, Mul}
use Rattle.f_lexer.specs.declared.token.Token.{Token}
use Rattle.f_lexer.specs.declared.kind.Kind.{Kind}
use Rattle.f_lexer.specs.declared.kind.Kind.TheVariants as k
use Rattle.f_grammar.specs.declared.cursor.Wanted.{Wanted}
use Rattle.f_grammar.specs.declared.cursor.Wanted.TheVariants as want
use Rattle.text_core.specs.Table as table_of
use Rattle.text_core.specs.Table.{Sym, Tm, Nt, Do, Mark, Table, then_more}
use Rattle.f_grammar.specs.Grammar.{E, open_E}
use Rattle.f_grammar.specs.declared.types.Quantifier.{Quantifier}
use Rattle.f_grammar.specs.declared.types.Quantifier.TheVariants.{All, Exists}
use Rattle.f_grammar.specs.Raw.{RawTy, TyPiece, int_ty, name_ty, tuple_ty, arrow_ty, bound_ty, ref_ty, paren_ty, RawTm}
use Rattle.f_grammar.specs.Raw.{Piece, within, var, number, func, gen, call, inst, tuple, proj, arith, if0, let_in}
use Rattle.f_grammar.specs.Raw.{pack, open_in, cell, deref, assign}

-- the tokens that may be owed
abbrev pub Class : Type 0
Class = Wanted

-- the lines: those of the grammar, what stands in brackets of its forms, and what may follow on an operand
pub data Line : Type 0 where
  LE : Line
  LP : Line
  LParam : Line
  LBranches : Line
  LFields : Line
  LHidden : Line
  LNames : Line
  MoreParts : Line
  MoreFactors : Line
  MoreSums : Line
  MoreAssign : Line
  MoreFields : Line
  LT : Line
  LU : Line
  LTypes : Line
  MoreArrow : Line
  MoreTypes : Line

-- what is made where a form is whole
pub data Act : Type 0 where
  MakeVar : Act
  MakeNumber : Act
  MakeFix : Act
  MakeGen : Act
  MakeParen : Act
  MakeUnit : Act
  MakeTuple : Act
  MakeProj : Act
  MakeIf0 : Act
  MakeCall : Act
  MakeInst : Act
  MakeArith : Op → Act
  MakeLet : Act
  MakePack : Act
  MakeOpen : Act
  MakeRef : Act
  MakeDeref : Act
  MakeAssign : Act
  MakeFirst : Act
  MakeNext : Act
  TypeInt : Act
  TypeName : Act
  TypeParen : Act
  TypeUnit : Act
  TypeTuple : Act
  TypeBound : Quantifier → Act
  TypeArrow : Act
  TypeRef : Act
  TypeFirst : Act
  TypeNext : Act

abbrev pub Stack : Type 0
Stack = List (Sym Class Line Act)

-- the values: tokens, and the trees made of them
pub data Val : Type 0 where
  OfToken : Token → Val
  OfTerm : Piece → Val
  OfTerms : List RawTm → Val
  OfType : TyPiece → Val
  OfTypes : List RawTy → Val

abbrev pub fits : Class → Kind → Bool
fits want.Name k.Name = true
fits want.Number (k.Plain z) = true
fits want.LeftParen k.LeftParen = true
fits want.RightParen k.RightParen = true
fits want.RightAngle k.RightAngle = true
fits want.LeftBracket k.LeftBracket = true
fits want.RightBracket k.RightBracket = true
fits want.Comma k.Comma = true
fits want.Dot k.Dot = true
fits want.Colon k.Colon = true
fits want.Equals k.Equals = true
fits want.In k.In = true
fits want.As k.As = true
fits want.Assign k.Assign = true
fits want.Arrow k.Arrow = true
fits want.Star k.Star = true
fits want.Fix k.Fix = true
fits want.Gen k.Gen = true
fits want.Let k.Let = true
fits want.Pack k.Pack = true
fits want.Open k.Open = true
fits _ _ = false

-- the value of a number
abbrev pub value_of : Kind → ℤ
value_of (k.Plain z) = z
value_of (k.Negative z) = z
value_of _ = pos 0

abbrev pub act : Act → List Val → List Val
act MakeVar (OfToken n ∷ vs) = OfTerm (var n.span) ∷ vs
act MakeNumber (OfToken n ∷ vs) = OfTerm (number (value_of n.kind) n.span) ∷ vs
act MakeFix (OfTerm e ∷ OfToken s ∷ OfType r ∷ OfToken d ∷ OfToken p ∷ OfType t ∷ OfToken c ∷ OfToken x ∷ OfToken o ∷
    OfToken n ∷ OfToken f ∷ vs) =
    OfTerm (func f.span n.span x.span t.ty r.ty e) ∷ vs
act MakeGen (OfTerm e ∷ OfToken d ∷ OfToken a ∷ OfToken g ∷ vs) = OfTerm (gen g.span a.span e) ∷ vs
act MakeParen (OfToken c ∷ OfTerm e ∷ OfToken o ∷ vs) = OfTerm (within o.span.start c.span.end e) ∷ vs
act MakeUnit (OfToken c ∷ vs) = OfToken c ∷ (OfTerms [] ∷ vs)
act MakeTuple (OfToken c ∷ OfTerms ts ∷ OfToken o ∷ vs) = OfTerm (tuple o.span ts c.span) ∷ vs
act MakeProj (OfTerm e ∷ OfToken n ∷ OfToken h ∷ vs) = OfTerm (proj h.span (nat_abs (value_of n.kind)) e) ∷ vs
act MakeIf0 (OfToken l ∷ OfTerm c ∷ OfToken q ∷ OfTerm b ∷ OfToken p ∷ OfTerm a ∷ OfToken o ∷ OfToken i ∷ vs) =
    OfTerm (if0 i.span a b c l.span) ∷ vs
act MakeCall (OfTerm b ∷ OfTerm a ∷ vs) = OfTerm (call a b) ∷ vs
act MakeInst (OfToken c ∷ OfType t ∷ OfToken o ∷ OfTerm a ∷ vs) = OfTerm (inst a t.ty c.span) ∷ vs
act (MakeArith op) (OfTerm b ∷ OfToken p ∷ OfTerm a ∷ vs) = OfTerm (arith op a b) ∷ vs
act MakeLet (OfTerm b ∷ OfToken i ∷ OfTerm a ∷ OfToken q ∷ OfToken n ∷ OfToken l ∷ vs) =
    OfTerm (let_in l.span n.span a b) ∷ vs
act MakePack (OfType r ∷ OfToken s ∷ OfToken q ∷ OfTerm e ∷ OfToken c ∷ OfType t ∷ OfToken o ∷ OfToken p ∷ vs) =
    OfTerm (pack p.span t e r) ∷ vs
act MakeOpen (OfTerm b ∷ OfToken i ∷ OfTerm a ∷ OfToken q ∷ OfToken r ∷ OfToken x ∷ OfToken c ∷ OfToken n ∷
    OfToken o ∷ OfToken p ∷ vs) =
    OfTerm (open_in p.span n.span x.span a b) ∷ vs
act MakeRef (OfTerm e ∷ OfToken r ∷ vs) = OfTerm (cell r.span e) ∷ vs
act MakeDeref (OfTerm e ∷ OfToken r ∷ vs) = OfTerm (deref r.span e) ∷ vs
act MakeAssign (OfTerm b ∷ OfToken s ∷ OfTerm a ∷ vs) = OfTerm (assign a b) ∷ vs
act MakeFirst (OfTerm e ∷ vs) = OfTerms (e.tree ∷ []) ∷ vs
act MakeNext (OfTerm e ∷ OfToken c ∷ OfTerms ts ∷ vs) = OfTerms (ts ++ e.tree ∷ []) ∷ vs
act TypeInt (OfToken i ∷ vs) = OfType (int_ty i.span) ∷ vs
act TypeName (OfToken n ∷ vs) = OfType (name_ty n.span) ∷ vs
act TypeParen (OfToken c ∷ OfType t ∷ OfToken o ∷ vs) = OfType (paren_ty t c.span) ∷ vs
act TypeUnit (OfToken c ∷ vs) = OfToken c ∷ (OfTypes [] ∷ vs)
act TypeTuple (OfToken c ∷ OfTypes ts ∷ OfToken o ∷ vs) = OfType (tuple_ty ts c.span) ∷ vs
act (TypeBound q) (OfType t ∷ OfToken d ∷ OfToken n ∷ OfToken a ∷ vs) = OfType (bound_ty q n.span t) ∷ vs
act TypeArrow (OfType b ∷ OfToken s ∷ OfType a ∷ vs) = OfType (arrow_ty a b) ∷ vs
act TypeRef (OfType t ∷ OfToken r ∷ vs) = OfType (ref_ty t) ∷ vs
act TypeFirst (OfType t ∷ vs) = OfTypes (t.ty ∷ []) ∷ vs
act TypeNext (OfType t ∷ OfToken c ∷ OfTypes ts ∷ vs) = OfTypes (ts ++ t.ty ∷ []) ∷ vs
act _ vs = vs

-- what is still owed of a line after its first token, or none where it cannot begin with it
abbrev pub part_after : Kind → Option Stack
part_after k.Name = Some (Do MakeVar ∷ [])
part_after (k.Plain z) = Some (Do MakeNumber ∷ [])
part_after (k.Negative z) = Some (Do MakeNumber ∷ [])
part_after k.LeftParen = Some (Nt LE ∷ (Tm want.RightParen ∷ (Mark ∷ (Do MakeParen ∷ []))))
part_after k.LeftAngle = Some (Nt LFields ∷ (Mark ∷ (Do MakeTuple ∷ [])))
part_after k.Hash = Some (Tm want.Number ∷ (Nt LP ∷ (Mark ∷ (Do MakeProj ∷ []))))
part_after k.If0 = Some (Nt LBranches ∷ (Do MakeIf0 ∷ []))
part_after k.Ref = Some (Nt LP ∷ (Mark ∷ (Do MakeRef ∷ [])))
part_after k.Bang = Some (Nt LP ∷ (Mark ∷ (Do MakeDeref ∷ [])))
part_after _ = None

abbrev pub sum_tail : Stack
sum_tail = Nt MoreParts ∷ (Nt MoreFactors ∷ (Nt MoreSums ∷ (Nt MoreAssign ∷ [])))

-- what is owed after the sign or the names before it
abbrev pub body_owed : Act → Stack
body_owed a = Tm want.Equals ∷ (Nt LE ∷ (Tm want.In ∷ (Mark ∷ (Nt LE ∷ (Do a ∷ [])))))

abbrev pub expr_after : Kind → Option Stack
expr_after k.Fix = Some (Tm want.Name ∷
    (Nt LParam ∷ (Tm want.Colon ∷ (Nt LT ∷ (Tm want.Dot ∷ (Nt LE ∷ (Mark ∷ (Do MakeFix ∷ []))))))))
expr_after k.Gen = Some (Tm want.Name ∷ (Tm want.Dot ∷ (Nt LE ∷ (Mark ∷ (Do MakeGen ∷ [])))))
expr_after k.Let = Some (Tm want.Name ∷ body_owed MakeLet)
expr_after k.Pack = Some (Nt LHidden ∷ (Tm want.As ∷ (Nt LT ∷ (Do MakePack ∷ []))))
expr_after k.Open = Some (Nt LNames ∷ body_owed MakeOpen)
expr_after c = then_more (part_after c) sum_tail

abbrev pub param_after : Kind → Option Stack
param_after k.LeftParen = Some (Tm want.Name ∷ (Tm want.Colon ∷ (Nt LT ∷ (Tm want.RightParen ∷ (Mark ∷ [])))))
param_after _ = None

abbrev pub branches_after : Kind → Option Stack
branches_after k.LeftParen = Some
    (Nt LE ∷ (Tm want.Comma ∷ (Nt LE ∷ (Tm want.Comma ∷ (Nt LE ∷ (Tm want.RightParen ∷ (Mark ∷ [])))))))
branches_after _ = None

abbrev pub hidden_after : Kind → Option Stack
hidden_after k.LeftBracket = Some
    (Nt LT ∷ (Tm want.Comma ∷ (Nt LE ∷ (Tm want.RightBracket ∷ (Mark ∷ [])))))
hidden_after _ = None

abbrev pub two_names_after : Kind → Option Stack
two_names_after k.LeftBracket = Some
    (Tm want.Name ∷ (Tm want.Comma ∷ (Tm want.Name ∷ (Tm want.RightBracket ∷ (Mark ∷ [])))))
two_names_after _ = None

abbrev pub fields_tail : Stack
fields_tail = Do MakeFirst ∷ (Nt MoreFields ∷ (Tm want.RightAngle ∷ []))

abbrev pub fields_after : Kind → Option Stack
fields_after k.RightAngle = Some (Do MakeUnit ∷ [])
fields_after c = then_more (expr_after c) fields_tail

abbrev pub parts_tail : Stack
parts_tail = Do MakeCall ∷ (Nt MoreParts ∷ [])

abbrev pub parts_after : Kind → Option Stack
parts_after k.LeftBracket = Some (Nt LT ∷ (Tm want.RightBracket ∷ (Mark ∷ (Do MakeInst ∷ (Nt MoreParts ∷ [])))))
parts_after c = then_more (part_after c) parts_tail

abbrev pub factors_after : Kind → Option Stack
factors_after k.Star = Some (Nt LP ∷ (Nt MoreParts ∷ (Do (MakeArith Mul) ∷ (Nt MoreFactors ∷ []))))
factors_after _ = None

abbrev pub term_owed : Op → Stack
term_owed op = Nt LP ∷ (Nt MoreParts ∷ (Nt MoreFactors ∷ (Do (MakeArith op) ∷ (Nt MoreSums ∷ []))))

abbrev pub sums_after : Kind → Option Stack
sums_after k.Plus = Some (term_owed Add)
sums_after k.Minus = Some (term_owed Sub)
sums_after _ = None

abbrev pub assign_owed : Stack
assign_owed = Nt LP ∷ (Nt MoreParts ∷ (Nt MoreFactors ∷ (Nt MoreSums ∷ (Do MakeAssign ∷ []))))

abbrev pub assign_after : Kind → Option Stack
assign_after k.Assign = Some assign_owed
assign_after _ = None

abbrev pub commas_after : Kind → Option Stack
commas_after k.Comma = Some (Nt LE ∷ (Do MakeNext ∷ (Nt MoreFields ∷ [])))
commas_after _ = None

abbrev pub unit_after : Kind → Option Stack
unit_after k.Int = Some (Do TypeInt ∷ [])
unit_after k.Name = Some (Do TypeName ∷ [])
unit_after k.LeftAngle = Some (Nt LTypes ∷ (Mark ∷ (Do TypeTuple ∷ [])))
unit_after k.LeftParen = Some (Nt LT ∷ (Tm want.RightParen ∷ (Mark ∷ (Do TypeParen ∷ []))))
unit_after k.Ref = Some (Nt LU ∷ (Mark ∷ (Do TypeRef ∷ [])))
unit_after _ = None

abbrev pub type_tail : Stack
type_tail = Nt MoreArrow ∷ []

-- the binder that a token is, if it is one
abbrev pub binder_of : Kind → Option Quantifier
binder_of k.All = Some All
binder_of k.Some = Some Exists
binder_of _ = None

abbrev pub binder_next : Option Token → Option Quantifier
binder_next None = None
binder_next (Some t) = binder_of t.kind

abbrev pub bound_owed : Quantifier → Stack
bound_owed q = Tm want.Name ∷ (Tm want.Dot ∷ (Nt LT ∷ (Mark ∷ (Do (TypeBound q) ∷ []))))

abbrev pub type_after : Kind → Option Stack
type_after k.All = Some (bound_owed All)
type_after k.Some = Some (bound_owed Exists)
type_after c = then_more (unit_after c) type_tail

abbrev pub types_tail : Stack
types_tail = Do TypeFirst ∷ (Nt MoreTypes ∷ (Tm want.RightAngle ∷ []))

abbrev pub types_after : Kind → Option Stack
types_after k.RightAngle = Some (Do TypeUnit ∷ [])
types_after c = then_more (type_after c) types_tail

abbrev pub arrow_after : Kind → Option Stack
arrow_after k.Arrow = Some (Nt LT ∷ (Mark ∷ (Do TypeArrow ∷ [])))
arrow_after _ = None

abbrev pub type_commas_after : Kind → Option Stack
type_commas_after k.Comma = Some (Nt LT ∷ (Do TypeNext ∷ (Nt MoreTypes ∷ [])))
type_commas_after _ = None

abbrev pub after : Line → Kind → Option Stack
after LE c = expr_after c
after LP c = part_after c
after LParam c = param_after c
after LBranches c = branches_after c
after LFields c = fields_after c
after LHidden c = hidden_after c
after LNames c = two_names_after c
after MoreParts c = parts_after c
after MoreFactors c = factors_after c
after MoreSums c = sums_after c
after MoreAssign c = assign_after c
after MoreFields c = commas_after c
after LT c = type_after c
after LU c = unit_after c
after LTypes c = types_after c
after MoreArrow c = arrow_after c
after MoreTypes c = type_commas_after c

abbrev pub may_end : Line → Bool
may_end MoreParts = true
may_end MoreFactors = true
may_end MoreSums = true
may_end MoreAssign = true
may_end MoreFields = true
may_end MoreArrow = true
may_end MoreTypes = true
may_end _ = false

abbrev pub table : Table
table = record {
  Tok = Token;
  Tree = Piece;
  Shape = λ w t. E w t;
  opens = λ w t e. open_E e 0;
  Class = Class;
  Line = Line;
  Act = Act;
  Val = Val;
  fits = λ c t. fits c t.kind;
  value = λ t. OfToken t;
  after = λ n t. after n t.kind;
  may_end = may_end;
  act = act;
  tree = λ t. OfTerm t;
  first = LE;
}

abbrev pub Outcome : Type 0
Outcome = table_of.Outcome table

abbrev pub marks : Stack → ℕ
marks = table_of.marks table

abbrev pub seen : List ℕ → Outcome → Outcome
seen = table_of.seen table

abbrev pub exec : List Token → Stack → List Val → Outcome
exec = table_of.exec table
