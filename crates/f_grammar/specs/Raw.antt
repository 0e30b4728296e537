-- Terms and types before names are resolved: a name is the place where it stands. And pieces: a tree and the extent of
-- its tokens, or a type and their end.
use Rattle.std.specs.Prelude.{ℕ, ℤ, ◌+◌, List, [], ◌∷◌}
use Rattle.idx_core.specs.declared.span.Span.{Span}
use Rattle.idx_core.specs.declared.arith.Op.{Op}
use Rattle.f_grammar.specs.declared.types.Quantifier.{Quantifier}
use Rattle.f_grammar.specs.declared.types.Quantifier.TheVariants.{All, Exists}

mutual
  pub data RawTy : Type 0 where
    RInt : RawTy
    RName : Span → RawTy
    RTuple : RawTys → RawTy
    RArrow : RawTy → RawTy → RawTy
    -- the name that is bound, the body
    RAll : Span → RawTy → RawTy
    RSome : Span → RawTy → RawTy
    RRef : RawTy → RawTy

  pub data RawTys : Type 0 where
    NoRawTys : RawTys
    MoreRawTys : RawTy → RawTys → RawTys

-- the place of each form comes first
mutual
  pub data RawTm : Type 0 where
    RVar : Span → RawTm
    RNum : Span → ℤ → RawTm
    -- its name, its parameter, the parameter's type, the body's type, the body
    RFix : Span → Span → Span → RawTy → RawTy → RawTm → RawTm
    -- the name that is bound, the body
    RGen : Span → Span → RawTm → RawTm
    RApp : Span → RawTm → RawTm → RawTm
    RInst : Span → RawTm → RawTy → RawTm
    RFields : Span → RawTms → RawTm
    RProj : Span → ℕ → RawTm → RawTm
    RArith : Span → Op → RawTm → RawTm → RawTm
    RIf0 : Span → RawTm → RawTm → RawTm → RawTm
    -- the name that is bound, its part, the body
    RLet : Span → Span → RawTm → RawTm → RawTm
    -- the hidden type, the part, the shape
    RPack : Span → RawTy → RawTm → RawTy → RawTm
    -- the type name and the value name that are bound, their part, the body
    ROpen : Span → Span → Span → RawTm → RawTm → RawTm
    RCell : Span → RawTm → RawTm
    RDeref : Span → RawTm → RawTm
    RAssign : Span → RawTm → RawTm → RawTm

  pub data RawTms : Type 0 where
    NoRawTms : RawTms
    MoreRawTms : RawTm → RawTms → RawTms

abbrev pub raw_tys : List RawTy → RawTys
raw_tys [] = NoRawTys
raw_tys (t ∷ ts) = MoreRawTys t (raw_tys ts)

abbrev pub raw_tms : List RawTm → RawTms
raw_tms [] = NoRawTms
raw_tms (e ∷ es) = MoreRawTms e (raw_tms es)

-- the place of the whole form
abbrev pub raw_span : RawTm → Span
raw_span (RVar s) = s
raw_span (RNum s z) = s
raw_span (RFix s f x t r e) = s
raw_span (RGen s n e) = s
raw_span (RApp s a b) = s
raw_span (RInst s e t) = s
raw_span (RFields s es) = s
raw_span (RProj s n e) = s
raw_span (RArith s op a b) = s
raw_span (RIf0 s a b c) = s
raw_span (RLet s n a b) = s
raw_span (RPack s t e r) = s
raw_span (ROpen s n x a b) = s
raw_span (RCell s e) = s
raw_span (RDeref s e) = s
raw_span (RAssign s a b) = s

-- the nodes of a term
abbrev mutual
  pub nodes : RawTm → ℕ
  nodes (RVar s) = 1
  nodes (RNum s z) = 1
  nodes (RFix s f x t r e) = 1 + nodes e
  nodes (RGen s n e) = 1 + nodes e
  nodes (RApp s a b) = 1 + nodes a + nodes b
  nodes (RInst s e t) = 1 + nodes e
  nodes (RFields s es) = 1 + nodes_all es
  nodes (RProj s n e) = 1 + nodes e
  nodes (RArith s op a b) = 1 + nodes a + nodes b
  nodes (RIf0 s a b c) = 1 + nodes a + nodes b + nodes c
  nodes (RLet s n a b) = 1 + nodes a + nodes b
  nodes (RPack s t e r) = 1 + nodes e
  nodes (ROpen s n x a b) = 1 + nodes a + nodes b
  nodes (RCell s e) = 1 + nodes e
  nodes (RDeref s e) = 1 + nodes e
  nodes (RAssign s a b) = 1 + nodes a + nodes b

  pub nodes_all : RawTms → ℕ
  nodes_all NoRawTms = 0
  nodes_all (MoreRawTms e es) = nodes e + nodes_all es

-- a type, with the place at which its last token ends
pub record TyPiece : Type 0 where
  pub ty : RawTy
  pub end : ℕ

abbrev pub int_ty : Span → TyPiece
int_ty s = record { ty = RInt; end = s.end }

abbrev pub name_ty : Span → TyPiece
name_ty s = record { ty = RName s; end = s.end }

abbrev pub tuple_ty : List RawTy → Span → TyPiece
tuple_ty ts c = record { ty = RTuple (raw_tys ts); end = c.end }

abbrev pub arrow_ty : TyPiece → TyPiece → TyPiece
arrow_ty a b = record { ty = RArrow a.ty b.ty; end = b.end }

-- a name bound in a type
abbrev pub bound : Quantifier → Span → RawTy → RawTy
bound All n t = RAll n t
bound Exists n t = RSome n t

abbrev pub bound_ty : Quantifier → Span → TyPiece → TyPiece
bound_ty q n t = record { ty = bound q n t.ty; end = t.end }

abbrev pub ref_ty : TyPiece → TyPiece
ref_ty t = record { ty = RRef t.ty; end = t.end }

-- in parentheses
abbrev pub paren_ty : TyPiece → Span → TyPiece
paren_ty t c = record { ty = t.ty; end = c.end }

-- a tree, with the place at which its first token begins and the one at which its last token ends
pub record Piece : Type 0 where
  pub tree : RawTm
  pub start : ℕ
  pub end : ℕ

-- a form from `start` to `end`
abbrev pub form : (Span → RawTm) → ℕ → ℕ → Piece
form f s e = record { tree = f (record { start = s; end = e }); start = s; end = e }

-- the same tree with another extent: in parentheses
abbrev pub within : ℕ → ℕ → Piece → Piece
within s e p = record { tree = p.tree; start = s; end = e }

abbrev pub var : Span → Piece
var s = form (λ i. RVar i) s.start s.end

abbrev pub number : ℤ → Span → Piece
number z s = form (λ i. RNum i z) s.start s.end

abbrev pub func : Span → Span → Span → RawTy → RawTy → Piece → Piece
func f n x t r e = form (λ i. RFix i n x t r e.tree) f.start e.end

abbrev pub gen : Span → Span → Piece → Piece
gen g a e = form (λ i. RGen i a e.tree) g.start e.end

abbrev pub call : Piece → Piece → Piece
call a b = form (λ i. RApp i a.tree b.tree) a.start b.end

abbrev pub inst : Piece → RawTy → Span → Piece
inst a t c = form (λ i. RInst i a.tree t) a.start c.end

abbrev pub tuple : Span → List RawTm → Span → Piece
tuple o ts c = form (λ i. RFields i (raw_tms ts)) o.start c.end

abbrev pub proj : Span → ℕ → Piece → Piece
proj h n e = form (λ i. RProj i n e.tree) h.start e.end

abbrev pub arith : Op → Piece → Piece → Piece
arith op a b = form (λ i. RArith i op a.tree b.tree) a.start b.end

abbrev pub if0 : Span → Piece → Piece → Piece → Span → Piece
if0 i a b c k = form (λ s. RIf0 s a.tree b.tree c.tree) i.start k.end

abbrev pub let_in : Span → Span → Piece → Piece → Piece
let_in l n a b = form (λ i. RLet i n a.tree b.tree) l.start b.end

abbrev pub pack : Span → TyPiece → Piece → TyPiece → Piece
pack p t e r = form (λ i. RPack i t.ty e.tree r.ty) p.start r.end

abbrev pub open_in : Span → Span → Span → Piece → Piece → Piece
open_in p n x a b = form (λ i. ROpen i n x a.tree b.tree) p.start b.end

abbrev pub cell : Span → Piece → Piece
cell r e = form (λ i. RCell i e.tree) r.start e.end

abbrev pub deref : Span → Piece → Piece
deref r e = form (λ i. RDeref i e.tree) r.start e.end

abbrev pub assign : Piece → Piece → Piece
assign a b = form (λ i. RAssign i a.tree b.tree) a.start b.end
