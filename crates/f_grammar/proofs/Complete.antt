-- Each shape is read whole.
use Rattle.std.proofs.Common.{◌≡◌, ℕ, suc, List, [], ◌∷◌, ◌++◌, refl, ◌∙◌, ap, append_assoc, Option, Some}
use Rattle.std.proofs.lemmas.List.{append-nil}
use Rattle.f_lexer.specs.declared.token.Token.{Token}
use Rattle.f_lexer.specs.declared.kind.Kind.{Kind}
use Rattle.f_lexer.specs.declared.kind.Kind.TheVariants as k
use Rattle.f_grammar.specs.declared.cursor.Wanted.TheVariants as want
use Rattle.f_grammar.specs.declared.types.Quantifier.TheVariants.{All, Exists}
use Rattle.idx_core.specs.declared.span.Span.{Span}
use Rattle.idx_core.specs.declared.arith.Op.TheVariants.{Add, Sub, Mul}
use Rattle.f_grammar.specs.Raw.{RawTy, TyPiece, Piece, RawTm}
use Rattle.f_grammar.specs.Grammar.{tok, T, U, Ts, t_all, t_some, t_arrow, t_part, u_int, u_name, u_unit, u_tuple}
use Rattle.f_grammar.specs.Grammar.{u_paren, u_ref, ts_one, ts_more, E, S, M, A, P, Es, e_fix, e_gen, e_let, e_pack}
use Rattle.f_grammar.specs.Grammar.{e_open, e_assign, e_sum, s_plus, s_minus, s_product, m_star, m_call, a_call}
use Rattle.f_grammar.specs.Grammar.{a_inst, a_part, p_name, p_plain, p_negative, p_paren, p_unit, p_tuple, p_proj}
use Rattle.f_grammar.specs.Grammar.{p_if0, p_ref, p_deref, es_one, es_more, open_T, open_U, open_Ts, open_E, open_S}
use Rattle.f_grammar.specs.Grammar.{open_M, open_A, open_P, open_Es}
use Rattle.text_core.specs.Table.{Tm, Nt, Do, Mark, Done, Seen, then_more}
use Rattle.text_core.proofs.Reading as reading
use Rattle.text_core.proofs.Reading.{Opens, opens}
use Rattle.f_grammar.specs.Machine.{table, Line, LE, LP, LFields, MoreParts, MoreFactors, MoreSums, MoreAssign}
use Rattle.f_grammar.specs.Machine.{MoreFields, LT, LU, LTypes, MoreArrow, MoreTypes, Act, MakeVar, MakeNumber}
use Rattle.f_grammar.specs.Machine.{MakeFix, MakeGen, MakeParen, MakeUnit, MakeTuple, MakeProj, MakeIf0, MakeCall}
use Rattle.f_grammar.specs.Machine.{MakeInst, MakeArith, MakeLet, MakePack, MakeOpen, MakeRef, MakeDeref, MakeAssign}
use Rattle.f_grammar.specs.Machine.{MakeFirst, MakeNext, TypeInt, TypeName, TypeParen, TypeUnit, TypeTuple, TypeBound}
use Rattle.f_grammar.specs.Machine.{TypeArrow, TypeRef, TypeFirst, TypeNext, Stack, Val, OfToken, OfTerm, OfTerms}
use Rattle.f_grammar.specs.Machine.{OfType, OfTypes, act, part_after, sum_tail, expr_after, fields_after, fields_tail}
use Rattle.f_grammar.specs.Machine.{parts_after, parts_tail, unit_after, type_after, type_tail, types_after}
use Rattle.f_grammar.specs.Machine.{types_tail, Outcome, marks, seen, exec}

pub do_now : (w : List Token) (a : Act) (s : Stack) (vs : List Val) → exec w (Do a ∷ s) vs ≡ exec w s (act a vs)
do_now w a s vs = reading.do_now table w a s vs

pub mark_now : (w : List Token) (s : Stack) (vs : List Val) → exec w (Mark ∷ s) vs ≡ exec w s vs
mark_now w s vs = reading.mark_now table w s vs

marked : (w : List Token) (a : Act) (s : Stack) (vs : List Val) → exec w (Mark ∷ (Do a ∷ s)) vs ≡ exec w s (act a vs)
marked w a s vs = reading.marked table w a s vs

seen_append : (a b : List ℕ) (o : Outcome) → seen (a ++ b) o ≡ seen a (seen b o)
seen_append a b o = reading.seen_append table a b o

under : (a : List ℕ) {x y : Outcome} → x ≡ y → seen a x ≡ seen a y
under a e = reading.under table a e

pub next : (n : ℕ) {x y : Outcome} → x ≡ y → Seen n x ≡ Seen n y
next n e = reading.next table n e

abbrev pub Leaves : Line → List Token → Type 0
Leaves n w = reading.Leaves table n w

-- no term goes on with these tokens
pub record Free (w : List Token) : Type 0 where
  pub parts : Leaves MoreParts w
  pub factors : Leaves MoreFactors w
  pub sums : Leaves MoreSums w
  pub assign : Leaves MoreAssign w
  pub arrow : Leaves MoreArrow w

free_end : Free []
free_end = record {
  parts = λ _ _. refl;
  factors = λ _ _. refl;
  sums = λ _ _. refl;
  assign = λ _ _. refl;
  arrow = λ _ _. refl;
}

free_paren : (s : Span) (w : List Token) → Free (tok k.RightParen s ∷ w)
free_paren s w =
    record {
      parts = λ _ _. refl;
      factors = λ _ _. refl;
      sums = λ _ _. refl;
      assign = λ _ _. refl;
      arrow = λ _ _. refl;
    }

free_angle : (s : Span) (w : List Token) → Free (tok k.RightAngle s ∷ w)
free_angle s w =
    record {
      parts = λ _ _. refl;
      factors = λ _ _. refl;
      sums = λ _ _. refl;
      assign = λ _ _. refl;
      arrow = λ _ _. refl;
    }

free_bracket : (s : Span) (w : List Token) → Free (tok k.RightBracket s ∷ w)
free_bracket s w =
    record {
      parts = λ _ _. refl;
      factors = λ _ _. refl;
      sums = λ _ _. refl;
      assign = λ _ _. refl;
      arrow = λ _ _. refl;
    }

free_comma : (s : Span) (w : List Token) → Free (tok k.Comma s ∷ w)
free_comma s w =
    record {
      parts = λ _ _. refl;
      factors = λ _ _. refl;
      sums = λ _ _. refl;
      assign = λ _ _. refl;
      arrow = λ _ _. refl;
    }

free_in : (s : Span) (w : List Token) → Free (tok k.In s ∷ w)
free_in s w =
    record {
      parts = λ _ _. refl;
      factors = λ _ _. refl;
      sums = λ _ _. refl;
      assign = λ _ _. refl;
      arrow = λ _ _. refl;
    }

-- lines that go on as others do
pub expr_part : (c : Kind) (r : Stack) → part_after c ≡ Some r → expr_after c ≡ Some (r ++ sum_tail)
expr_part k.Fix r e = absurd (cc)
expr_part k.Gen r e = absurd (cc)
expr_part k.Let r e = absurd (cc)
expr_part k.Pack r e = absurd (cc)
expr_part k.Open r e = absurd (cc)
expr_part _ r e = ap (λ (o : Option Stack). then_more o sum_tail) e

pub parts_part : (c : Kind) (r : Stack) → part_after c ≡ Some r → parts_after c ≡ Some (r ++ parts_tail)
parts_part k.LeftBracket r e = absurd (cc)
parts_part _ r e = ap (λ (o : Option Stack). then_more o parts_tail) e

pub fields_expr : (c : Kind) (r : Stack) → expr_after c ≡ Some r → fields_after c ≡ Some (r ++ fields_tail)
fields_expr k.RightAngle r e = absurd (cc)
fields_expr _ r e = ap (λ (o : Option Stack). then_more o fields_tail) e

type_unit : (c : Kind) (r : Stack) → unit_after c ≡ Some r → type_after c ≡ Some (r ++ type_tail)
type_unit k.All r e = absurd (cc)
type_unit k.Some r e = absurd (cc)
type_unit _ r e = ap (λ (o : Option Stack). then_more o type_tail) e

types_type : (c : Kind) (r : Stack) → type_after c ≡ Some r → types_after c ≡ Some (r ++ types_tail)
types_type k.RightAngle r e = absurd (cc)
types_type _ r e = ap (λ (o : Option Stack). then_more o types_tail) e

expr_as_part : {w : List Token} → Opens table LP w → (s : Stack) (vs : List Val) →
    exec w (Nt LE ∷ s) vs ≡ exec w (Nt LP ∷ (sum_tail ++ s)) vs
expr_as_part o s vs = reading.as_line table LP LE sum_tail (λ c r e. expr_part c.kind r e) o s vs

parts_as_part : {w : List Token} → Opens table LP w → (s : Stack) (vs : List Val) →
    exec w (Nt MoreParts ∷ s) vs ≡ exec w (Nt LP ∷ (parts_tail ++ s)) vs
parts_as_part o s vs = reading.as_line table LP MoreParts parts_tail (λ c r e. parts_part c.kind r e) o s vs

fields_as_expr : {w : List Token} → Opens table LE w → (s : Stack) (vs : List Val) →
    exec w (Nt LFields ∷ s) vs ≡ exec w (Nt LE ∷ (fields_tail ++ s)) vs
fields_as_expr o s vs = reading.as_line table LE LFields fields_tail (λ c r e. fields_expr c.kind r e) o s vs

type_as_unit : {w : List Token} → Opens table LU w → (s : Stack) (vs : List Val) →
    exec w (Nt LT ∷ s) vs ≡ exec w (Nt LU ∷ (type_tail ++ s)) vs
type_as_unit o s vs = reading.as_line table LU LT type_tail (λ c r e. type_unit c.kind r e) o s vs

types_as_type : {w : List Token} → Opens table LT w → (s : Stack) (vs : List Val) →
    exec w (Nt LTypes ∷ s) vs ≡ exec w (Nt LT ∷ (types_tail ++ s)) vs
types_as_type o s vs = reading.as_line table LT LTypes types_tail (λ c r e. types_type c.kind r e) o s vs

-- what begins with a form begins its line
more : (n : Line) {u : List Token} (w : List Token) → Opens table n u → Opens table n (u ++ w)
more n w o = reading.opens_more table n w o

first_U : {w : List Token} {t : TyPiece} → U w t → Opens table LU w
first_U (u_int s) = opens _ _ _ refl
first_U (u_name s) = opens _ _ _ refl
first_U (u_unit o c) = opens _ _ _ refl
first_U (u_tuple o c x) = opens _ _ _ refl
first_U (u_paren o c x) = opens _ _ _ refl
first_U (u_ref r x) = opens _ _ _ refl

unit_opens : {w : List Token} → Opens table LU w → Opens table LT w
unit_opens o = reading.opens_as table LU LT type_tail (λ c r e. type_unit c.kind r e) o

first_T : {w : List Token} {t : TyPiece} → T w t → Opens table LT w
first_T (t_all a n d x) = opens _ _ _ refl
first_T (t_some a n d x) = opens _ _ _ refl
first_T (t_arrow {u} {v} s x y) = more LT (tok k.Arrow s ∷ v) (unit_opens (first_U x))
first_T (t_part x) = unit_opens (first_U x)

first_Ts : {w : List Token} {ts : (List RawTy)} → Ts w ts → Opens table LT w
first_Ts (ts_one x) = first_T x
first_Ts (ts_more {u} {v} c x y) = more LT (tok k.Comma c ∷ v) (first_Ts x)

first_P : {w : List Token} {e : Piece} → P w e → Opens table LP w
first_P (p_name s) = opens _ _ _ refl
first_P (p_plain n s) = opens _ _ _ refl
first_P (p_negative n s) = opens _ _ _ refl
first_P (p_paren o c x) = opens _ _ _ refl
first_P (p_unit o c) = opens _ _ _ refl
first_P (p_tuple o c x) = opens _ _ _ refl
first_P (p_proj h n s x) = opens _ _ _ refl
first_P (p_if0 i o p q l a b c) = opens _ _ _ refl
first_P (p_ref r x) = opens _ _ _ refl
first_P (p_deref r x) = opens _ _ _ refl

first_A : {w : List Token} {e : Piece} → A w e → Opens table LP w
first_A (a_call {u} {v} a p) = more LP v (first_A a)
first_A (a_inst {u} {v} o c a t) = more LP (tok k.LeftBracket o ∷ (v ++ tok k.RightBracket c ∷ [])) (first_A a)
first_A (a_part p) = first_P p

first_M : {w : List Token} {e : Piece} → M w e → Opens table LP w
first_M (m_star {u} {v} s m a) = more LP (tok k.Star s ∷ v) (first_M m)
first_M (m_call a) = first_A a

first_S : {w : List Token} {e : Piece} → S w e → Opens table LP w
first_S (s_plus {u} {v} s x m) = more LP (tok k.Plus s ∷ v) (first_S x)
first_S (s_minus {u} {v} s x m) = more LP (tok k.Minus s ∷ v) (first_S x)
first_S (s_product m) = first_M m

sum_opens : {w : List Token} → Opens table LP w → Opens table LE w
sum_opens o = reading.opens_as table LP LE sum_tail (λ c r e. expr_part c.kind r e) o

first_E : {w : List Token} {e : Piece} → E w e → Opens table LE w
first_E (e_fix f n o x c p d s t r e) = opens _ _ _ refl
first_E (e_gen g a d e) = opens _ _ _ refl
first_E (e_let l n q i a b) = opens _ _ _ refl
first_E (e_pack p o c q s t e r) = opens _ _ _ refl
first_E (e_open p o n c x r q i a b) = opens _ _ _ refl
first_E (e_assign {u} {v} s x y) = sum_opens (more LP (tok k.Assign s ∷ v) (first_S x))
first_E (e_sum s) = sum_opens (first_S s)

first_Es : {w : List Token} {ts : (List RawTm)} → Es w ts → Opens table LE w
first_Es (es_one e) = first_E e
first_Es (es_more {u} {v} c x e) = more LE (tok k.Comma c ∷ v) (first_Es x)

mutual
  pub read_T : {w : List Token} {t : TyPiece} (x : T w t) (s : Stack) (vs : List Val) (rest : List Token) →
      Leaves MoreArrow rest →
      exec (w ++ rest) (Nt LT ∷ s) vs ≡ seen (open_T x (marks s)) (exec rest s (OfType t ∷ vs))
  read_T (t_all a n d x) s vs rest g = next (suc (marks s)) (next (suc (marks s)) (next (suc (marks s))
      (read_T x (Mark ∷ (Do (TypeBound All) ∷ s))
      (OfToken (tok k.Dot d) ∷ (OfToken (tok k.Name n) ∷ (OfToken (tok k.All a) ∷ vs))) rest g
      ∙ under (open_T x (suc (marks s))) (marked rest (TypeBound All) s _))))
  read_T (t_some a n d x) s vs rest g = next (suc (marks s)) (next (suc (marks s)) (next (suc (marks s))
      (read_T x (Mark ∷ (Do (TypeBound Exists) ∷ s))
      (OfToken (tok k.Dot d) ∷ (OfToken (tok k.Name n) ∷ (OfToken (tok k.Some a) ∷ vs))) rest g
      ∙ under (open_T x (suc (marks s))) (marked rest (TypeBound Exists) s _))))
  read_T (t_arrow {u} {v} {a} p x y) s vs rest g =
      rw (append_assoc, seen_append (open_U x (marks s)) (suc (marks s) ∷ open_T y (suc (marks s))))
      (type_as_unit (more LU (tok k.Arrow p ∷ (v ++ rest)) (first_U x)) s vs
      ∙ (read_U x (Nt MoreArrow ∷ s) vs (tok k.Arrow p ∷ (v ++ rest))
      ∙ under (open_U x (marks s)) (next (suc (marks s))
      (read_T y (Mark ∷ (Do TypeArrow ∷ s)) (OfToken (tok k.Arrow p) ∷ (OfType a ∷ vs)) rest g
      ∙ under (open_T y (suc (marks s))) (marked rest TypeArrow s _)))))
  read_T (t_part x) s vs rest g = type_as_unit (more LU rest (first_U x)) s vs
      ∙ (read_U x (Nt MoreArrow ∷ s) vs rest ∙ under (open_U x (marks s)) (g s _))

  pub read_U : {w : List Token} {t : TyPiece} (x : U w t) (s : Stack) (vs : List Val) (rest : List Token) →
      exec (w ++ rest) (Nt LU ∷ s) vs ≡ seen (open_U x (marks s)) (exec rest s (OfType t ∷ vs))
  read_U (u_int p) s vs rest = next (marks s) (do_now rest TypeInt s _)
  read_U (u_name p) s vs rest = next (marks s) (do_now rest TypeName s _)
  read_U (u_unit o c) s vs rest =
      next (suc (marks s)) (next (suc (marks s)) (do_now rest TypeUnit _ _ ∙ marked rest TypeTuple s _))
  read_U (u_tuple {w} o c x) s vs rest = next (suc (marks s))
      (rw (append_assoc w (tok k.RightAngle c ∷ []) rest, seen_append (open_Ts x (suc (marks s))) (suc (marks s) ∷ []))
      (types_as_type (more LT (tok k.RightAngle c ∷ rest) (first_Ts x)) (Mark ∷ (Do TypeTuple ∷ s))
      (OfToken (tok k.LeftAngle o) ∷ vs) ∙
      (read_Ts x (Tm want.RightAngle ∷ (Mark ∷ (Do TypeTuple ∷ s))) (OfToken (tok k.LeftAngle o) ∷ vs)
      (tok k.RightAngle c ∷ rest) (λ _ _. refl) ∙
      under (open_Ts x (suc (marks s))) (next (suc (marks s)) (marked rest TypeTuple s _)))))
  read_U (u_paren {w} o c x) s vs rest = next (suc (marks s))
      (rw (append_assoc w (tok k.RightParen c ∷ []) rest, seen_append (open_T x (suc (marks s))) (suc (marks s) ∷ []))
      (read_T x (Tm want.RightParen ∷ (Mark ∷ (Do TypeParen ∷ s))) (OfToken (tok k.LeftParen o) ∷ vs)
      (tok k.RightParen c ∷ rest) (λ _ _. refl) ∙
      under (open_T x (suc (marks s))) (next (suc (marks s)) (marked rest TypeParen s _))))
  read_U (u_ref r x) s vs rest = next (suc (marks s))
      (read_U x (Mark ∷ (Do TypeRef ∷ s)) (OfToken (tok k.Ref r) ∷ vs) rest
      ∙ under (open_U x (suc (marks s))) (marked rest TypeRef s _))

  pub read_Ts : {w : List Token} {ts : (List RawTy)} (x : Ts w ts) (s : Stack) (vs : List Val) (rest : List Token) →
      Leaves MoreArrow rest →
      exec (w ++ rest) (Nt LT ∷ (Do TypeFirst ∷ (Nt MoreTypes ∷ s))) vs
      ≡ seen (open_Ts x (marks s)) (exec rest (Nt MoreTypes ∷ s) (OfTypes ts ∷ vs))
  read_Ts (ts_one x) s vs rest g =
      read_T x (Do TypeFirst ∷ (Nt MoreTypes ∷ s)) vs rest g ∙ under (open_T x (marks s)) (do_now rest TypeFirst _ _)
  read_Ts (ts_more {u} {v} {ts} c x y) s vs rest g =
      rw (append_assoc, seen_append (open_Ts x (marks s)) (marks s ∷ open_T y (marks s)))
      (read_Ts x s vs (tok k.Comma c ∷ (v ++ rest)) (λ _ _. refl) ∙
      under (open_Ts x (marks s))
      (next (marks s)
      (read_T y (Do TypeNext ∷ (Nt MoreTypes ∷ s)) (OfToken (tok k.Comma c) ∷ (OfTypes ts ∷ vs)) rest g ∙
      under (open_T y (marks s)) (do_now rest TypeNext _ _))))

mutual
  pub read_E : {w : List Token} {e : Piece} (x : E w e) (s : Stack) (vs : List Val) (rest : List Token) → Free rest →
      exec (w ++ rest) (Nt LE ∷ s) vs ≡ seen (open_E x (marks s)) (exec rest s (OfTerm e ∷ vs))
  read_E (e_fix {u} {v} {w} {t} {r} f n o x c p d b y z e) s vs rest g =
      let m = marks s in
      let us = OfToken (tok k.Colon c)
      ∷ (OfToken (tok k.Name x)
      ∷ (OfToken (tok k.LeftParen o) ∷ (OfToken (tok k.Name n) ∷ (OfToken (tok k.Fix f) ∷ vs)))) in
      next (suc m) (next (suc m) (next (suc (suc m)) (next (suc (suc m)) (next (suc (suc m))
      (rw (
        append_assoc u (tok k.RightParen p ∷ (tok k.Colon d ∷ (v ++ tok k.Dot b ∷ w))) rest,
        append_assoc v (tok k.Dot b ∷ w) rest,
        seen_append (open_T y (suc (suc m))) (suc (suc m) ∷ (suc m ∷ (open_T z (suc m) ++ suc m ∷ open_E e (suc m)))),
        seen_append (open_T z (suc m)) (suc m ∷ open_E e (suc m)),
      )
      (read_T y (Tm want.RightParen
      ∷ (Mark ∷ (Tm want.Colon ∷ (Nt LT ∷ (Tm want.Dot ∷ (Nt LE ∷ (Mark ∷ (Do MakeFix ∷ s)))))))) us
      (tok k.RightParen p ∷ (tok k.Colon d ∷ (v ++ tok k.Dot b ∷ (w ++ rest)))) (λ _ _. refl) ∙
      under (open_T y (suc (suc m))) (next (suc (suc m)) (next (suc m)
      (read_T z (Tm want.Dot ∷ (Nt LE ∷ (Mark ∷ (Do MakeFix ∷ s))))
      (OfToken (tok k.Colon d) ∷ (OfToken (tok k.RightParen p) ∷ (OfType t ∷ us))) (tok k.Dot b ∷ (w ++ rest))
      (λ _ _. refl) ∙
      under (open_T z (suc m)) (next (suc m)
      (read_E e (Mark ∷ (Do MakeFix ∷ s))
      (OfToken (tok k.Dot b)
      ∷ (OfType r ∷ (OfToken (tok k.Colon d) ∷ (OfToken (tok k.RightParen p) ∷ (OfType t ∷ us))))) rest g ∙
      under (open_E e (suc m)) (marked rest MakeFix s _))))))))))))
  read_E (e_gen b a d e) s vs rest g = next (suc (marks s)) (next (suc (marks s)) (next (suc (marks s))
      (read_E e (Mark ∷ (Do MakeGen ∷ s))
      (OfToken (tok k.Dot d) ∷ (OfToken (tok k.Name a) ∷ (OfToken (tok k.Gen b) ∷ vs))) rest g
      ∙ under (open_E e (suc (marks s))) (marked rest MakeGen s _))))
  read_E (e_let {u} {v} {a} l n q i x y) s vs rest g =
      let m = marks s in
      let us = OfToken (tok k.Equals q) ∷ (OfToken (tok k.Name n) ∷ (OfToken (tok k.Let l) ∷ vs)) in
      next (suc m) (next (suc m) (next (suc m)
      (rw (append_assoc u (tok k.In i ∷ v) rest, seen_append (open_E x (suc m)) (suc m ∷ open_E y m))
      (read_E x (Tm want.In ∷ (Mark ∷ (Nt LE ∷ (Do MakeLet ∷ s)))) us (tok k.In i ∷ (v ++ rest))
      (free_in i (v ++ rest)) ∙
      under (open_E x (suc m)) (next (suc m) (mark_now (v ++ rest) (Nt LE ∷ (Do MakeLet ∷ s)) _ ∙
      (read_E y (Do MakeLet ∷ s) (OfToken (tok k.In i) ∷ (OfTerm a ∷ us)) rest g
      ∙ under (open_E y m) (do_now rest MakeLet s _))))))))
  read_E (e_pack {u} {v} {w} {t} {r} {e} p o c q z x y d) s vs rest g =
      let m = marks s in
      let us = OfToken (tok k.LeftBracket o) ∷ (OfToken (tok k.Pack p) ∷ vs) in
      let after_y = Tm want.RightBracket ∷ (Mark ∷ (Tm want.As ∷ (Nt LT ∷ (Do MakePack ∷ s)))) in
      let ys = OfToken (tok k.Comma c) ∷ (OfType t ∷ us) in
      next m (next (suc m)
      (rw (
        append_assoc u (tok k.Comma c ∷ (v ++ tok k.RightBracket q ∷ (tok k.As z ∷ w))) rest,
        append_assoc v (tok k.RightBracket q ∷ (tok k.As z ∷ w)) rest,
        seen_append (open_T x (suc m)) (suc m ∷ (open_E y (suc m) ++ suc m ∷ (m ∷ open_T d m))),
        seen_append (open_E y (suc m)) (suc m ∷ (m ∷ open_T d m)),
      )
      (read_T x (Tm want.Comma ∷ (Nt LE ∷ after_y)) us
      (tok k.Comma c ∷ (v ++ tok k.RightBracket q ∷ (tok k.As z ∷ (w ++ rest)))) (λ _ _. refl) ∙
      under (open_T x (suc m)) (next (suc m)
      (read_E y after_y ys (tok k.RightBracket q ∷ (tok k.As z ∷ (w ++ rest)))
      (free_bracket q (tok k.As z ∷ (w ++ rest))) ∙
      under (open_E y (suc m)) (next (suc m) (next m
      (read_T d (Do MakePack ∷ s) (OfToken (tok k.As z) ∷ (OfToken (tok k.RightBracket q) ∷ (OfTerm e ∷ ys))) rest
      g.arrow ∙
      under (open_T d m) (do_now rest MakePack s _)))))))))
  read_E (e_open {u} {v} {a} p o n c x r q i y z) s vs rest g =
      let m = marks s in
      let us = OfToken (tok k.RightBracket r)
      ∷ (OfToken (tok k.Name x)
      ∷ (OfToken (tok k.Comma c)
      ∷ (OfToken (tok k.Name n) ∷ (OfToken (tok k.LeftBracket o) ∷ (OfToken (tok k.Open p) ∷ vs))))) in
      let ys = OfToken (tok k.Equals q) ∷ us in
      next (suc m)
      (next (suc (suc m))
      (next (suc (suc m)) (next (suc (suc m)) (next (suc (suc m)) (next (suc (suc m)) (next (suc m)
      (rw (append_assoc u (tok k.In i ∷ v) rest, seen_append (open_E y (suc m)) (suc m ∷ open_E z m))
      (read_E y (Tm want.In ∷ (Mark ∷ (Nt LE ∷ (Do MakeOpen ∷ s)))) ys (tok k.In i ∷ (v ++ rest))
      (free_in i (v ++ rest)) ∙
      under (open_E y (suc m)) (next (suc m) (mark_now (v ++ rest) (Nt LE ∷ (Do MakeOpen ∷ s)) _ ∙
      (read_E z (Do MakeOpen ∷ s) (OfToken (tok k.In i) ∷ (OfTerm a ∷ ys)) rest g
      ∙ under (open_E z m) (do_now rest MakeOpen s _))))))))))))
  read_E (e_assign {u} {v} {a} p x y) s vs rest g =
      rw (append_assoc, seen_append (open_S x (marks s)) (marks s ∷ open_S y (marks s)))
      (expr_as_part (more LP (tok k.Assign p ∷ (v ++ rest)) (first_S x)) s vs ∙
      (read_S x (Nt MoreAssign ∷ s) vs (tok k.Assign p ∷ (v ++ rest)) (λ _ _. refl) (λ _ _. refl) ∙
      under (open_S x (marks s))
      (next (marks s)
      (read_S y (Do MakeAssign ∷ s) (OfToken (tok k.Assign p) ∷ (OfTerm a ∷ vs)) rest g.parts g.factors ∙
      under (open_S y (marks s)) (g.sums _ _ ∙ do_now rest MakeAssign s _)))))
  read_E (e_sum x) s vs rest g = expr_as_part (more LP rest (first_S x)) s vs
      ∙ (read_S x (Nt MoreAssign ∷ s) vs rest g.parts g.factors
      ∙ under (open_S x (marks s)) (g.sums (Nt MoreAssign ∷ s) _ ∙ g.assign s _))

  pub read_S : {w : List Token} {e : Piece} (x : S w e) (s : Stack) (vs : List Val) (rest : List Token) →
      Leaves MoreParts rest → Leaves MoreFactors rest →
      exec (w ++ rest) (Nt LP ∷ (Nt MoreParts ∷ (Nt MoreFactors ∷ (Nt MoreSums ∷ s)))) vs
      ≡ seen (open_S x (marks s)) (exec rest (Nt MoreSums ∷ s) (OfTerm e ∷ vs))
  read_S (s_plus {u} {v} {a} p x y) s vs rest g h =
      rw (append_assoc, seen_append (open_S x (marks s)) (marks s ∷ open_M y (marks s)))
      (read_S x s vs (tok k.Plus p ∷ (v ++ rest)) (λ _ _. refl) (λ _ _. refl) ∙
      under (open_S x (marks s))
      (next (marks s)
      (read_M y (Do (MakeArith Add) ∷ (Nt MoreSums ∷ s)) (OfToken (tok k.Plus p) ∷ (OfTerm a ∷ vs)) rest g ∙
      under (open_M y (marks s)) (h _ _ ∙ do_now rest (MakeArith Add) _ _))))
  read_S (s_minus {u} {v} {a} p x y) s vs rest g h =
      rw (append_assoc, seen_append (open_S x (marks s)) (marks s ∷ open_M y (marks s)))
      (read_S x s vs (tok k.Minus p ∷ (v ++ rest)) (λ _ _. refl) (λ _ _. refl) ∙
      under (open_S x (marks s))
      (next (marks s)
      (read_M y (Do (MakeArith Sub) ∷ (Nt MoreSums ∷ s)) (OfToken (tok k.Minus p) ∷ (OfTerm a ∷ vs)) rest g ∙
      under (open_M y (marks s)) (h _ _ ∙ do_now rest (MakeArith Sub) _ _))))
  read_S (s_product x) s vs rest g h = read_M x (Nt MoreSums ∷ s) vs rest g ∙ under (open_M x (marks s)) (h _ _)

  pub read_M : {w : List Token} {e : Piece} (x : M w e) (s : Stack) (vs : List Val) (rest : List Token) →
      Leaves MoreParts rest →
      exec (w ++ rest) (Nt LP ∷ (Nt MoreParts ∷ (Nt MoreFactors ∷ s))) vs
      ≡ seen (open_M x (marks s)) (exec rest (Nt MoreFactors ∷ s) (OfTerm e ∷ vs))
  read_M (m_star {u} {v} {a} p x y) s vs rest g =
      rw (append_assoc, seen_append (open_M x (marks s)) (marks s ∷ open_A y (marks s)))
      (read_M x s vs (tok k.Star p ∷ (v ++ rest)) (λ _ _. refl) ∙
      under (open_M x (marks s))
      (next (marks s)
      (read_A y (Do (MakeArith Mul) ∷ (Nt MoreFactors ∷ s)) (OfToken (tok k.Star p) ∷ (OfTerm a ∷ vs)) rest ∙
      under (open_A y (marks s)) (g _ _ ∙ do_now rest (MakeArith Mul) _ _))))
  read_M (m_call x) s vs rest g = read_A x (Nt MoreFactors ∷ s) vs rest ∙ under (open_A x (marks s)) (g _ _)

  pub read_A : {w : List Token} {e : Piece} (x : A w e) (s : Stack) (vs : List Val) (rest : List Token) →
      exec (w ++ rest) (Nt LP ∷ (Nt MoreParts ∷ s)) vs
      ≡ seen (open_A x (marks s)) (exec rest (Nt MoreParts ∷ s) (OfTerm e ∷ vs))
  read_A (a_call {u} {v} {a} x p) s vs rest =
      rw (append_assoc, seen_append (open_A x (marks s)) (open_P p (marks s)))
      (read_A x s vs (v ++ rest) ∙ under (open_A x (marks s))
      (parts_as_part (more LP rest (first_P p)) s (OfTerm a ∷ vs) ∙
      (read_P p (Do MakeCall ∷ (Nt MoreParts ∷ s)) (OfTerm a ∷ vs) rest
      ∙ under (open_P p (marks s)) (do_now rest MakeCall _ _))))
  read_A (a_inst {u} {v} {a} o c x y) s vs rest =
      rw (
        append_assoc u (tok k.LeftBracket o ∷ (v ++ tok k.RightBracket c ∷ [])) rest,
        append_assoc v (tok k.RightBracket c ∷ []) rest,
        seen_append (open_A x (marks s)) (suc (marks s) ∷ (open_T y (suc (marks s)) ++ suc (marks s) ∷ [])),
        seen_append (open_T y (suc (marks s))) (suc (marks s) ∷ []),
      )
      (read_A x s vs (tok k.LeftBracket o ∷ (v ++ tok k.RightBracket c ∷ rest))
      ∙ under (open_A x (marks s)) (next (suc (marks s))
      (read_T y (Tm want.RightBracket ∷ (Mark ∷ (Do MakeInst ∷ (Nt MoreParts ∷ s))))
      (OfToken (tok k.LeftBracket o) ∷ (OfTerm a ∷ vs)) (tok k.RightBracket c ∷ rest) (λ _ _. refl) ∙
      under (open_T y (suc (marks s))) (next (suc (marks s)) (marked rest MakeInst (Nt MoreParts ∷ s) _)))))
  read_A (a_part p) s vs rest = read_P p (Nt MoreParts ∷ s) vs rest

  pub read_P : {w : List Token} {e : Piece} (x : P w e) (s : Stack) (vs : List Val) (rest : List Token) →
      exec (w ++ rest) (Nt LP ∷ s) vs ≡ seen (open_P x (marks s)) (exec rest s (OfTerm e ∷ vs))
  read_P (p_name p) s vs rest = next (marks s) (do_now rest MakeVar s _)
  read_P (p_plain n p) s vs rest = next (marks s) (do_now rest MakeNumber s _)
  read_P (p_negative n p) s vs rest = next (marks s) (do_now rest MakeNumber s _)
  read_P (p_paren {w} o c e) s vs rest = next (suc (marks s))
      (rw (append_assoc w (tok k.RightParen c ∷ []) rest, seen_append (open_E e (suc (marks s))) (suc (marks s) ∷ []))
      (read_E e (Tm want.RightParen ∷ (Mark ∷ (Do MakeParen ∷ s))) (OfToken (tok k.LeftParen o) ∷ vs)
      (tok k.RightParen c ∷ rest) (free_paren c rest) ∙
      under (open_E e (suc (marks s))) (next (suc (marks s)) (marked rest MakeParen s _))))
  read_P (p_unit o c) s vs rest =
      next (suc (marks s)) (next (suc (marks s)) (do_now rest MakeUnit _ _ ∙ marked rest MakeTuple s _))
  read_P (p_tuple {w} o c x) s vs rest = next (suc (marks s))
      (rw (append_assoc w (tok k.RightAngle c ∷ []) rest, seen_append (open_Es x (suc (marks s))) (suc (marks s) ∷ []))
      (fields_as_expr (more LE (tok k.RightAngle c ∷ rest) (first_Es x)) (Mark ∷ (Do MakeTuple ∷ s))
      (OfToken (tok k.LeftAngle o) ∷ vs) ∙
      (read_Es x (Tm want.RightAngle ∷ (Mark ∷ (Do MakeTuple ∷ s))) (OfToken (tok k.LeftAngle o) ∷ vs)
      (tok k.RightAngle c ∷ rest) (free_angle c rest) ∙
      under (open_Es x (suc (marks s))) (next (suc (marks s)) (marked rest MakeTuple s _)))))
  read_P (p_proj h n p x) s vs rest = next (suc (marks s)) (next (suc (marks s))
      (read_P x (Mark ∷ (Do MakeProj ∷ s)) (OfToken (tok (k.Plain n) p) ∷ (OfToken (tok k.Hash h) ∷ vs)) rest
      ∙ under (open_P x (suc (marks s))) (marked rest MakeProj s _)))
  read_P (p_if0 {u} {v} {w} {a} {b} i o p q l x y z) s vs rest =
      let m = marks s in
      let after_z = Tm want.RightParen ∷ (Mark ∷ (Do MakeIf0 ∷ s)) in
      let after_y = Tm want.Comma ∷ (Nt LE ∷ after_z) in
      let after_x = Tm want.Comma ∷ (Nt LE ∷ after_y) in
      let us = OfToken (tok k.LeftParen o) ∷ (OfToken (tok k.If0 i) ∷ vs) in
      next m (next (suc m)
      (rw (
        append_assoc u (tok k.Comma p ∷ (v ++ tok k.Comma q ∷ (w ++ tok k.RightParen l ∷ []))) rest,
        append_assoc v (tok k.Comma q ∷ (w ++ tok k.RightParen l ∷ [])) rest,
        append_assoc w (tok k.RightParen l ∷ []) rest,
        seen_append (open_E x (suc m)) (suc m ∷ (open_E y (suc m) ++ suc m ∷ (open_E z (suc m) ++ suc m ∷ []))),
        seen_append (open_E y (suc m)) (suc m ∷ (open_E z (suc m) ++ suc m ∷ [])),
        seen_append (open_E z (suc m)) (suc m ∷ []),
      )
      (read_E x after_x us (tok k.Comma p ∷ (v ++ tok k.Comma q ∷ (w ++ tok k.RightParen l ∷ rest)))
      (free_comma p (v ++ tok k.Comma q ∷ (w ++ tok k.RightParen l ∷ rest))) ∙
      under (open_E x (suc m)) (next (suc m)
      (read_E y after_y (OfToken (tok k.Comma p) ∷ (OfTerm a ∷ us)) (tok k.Comma q ∷ (w ++ tok k.RightParen l ∷ rest))
      (free_comma q (w ++ tok k.RightParen l ∷ rest)) ∙
      under (open_E y (suc m)) (next (suc m)
      (read_E z after_z (OfToken (tok k.Comma q) ∷ (OfTerm b ∷ (OfToken (tok k.Comma p) ∷ (OfTerm a ∷ us))))
      (tok k.RightParen l ∷ rest) (free_paren l rest) ∙
      under (open_E z (suc m)) (next (suc m) (marked rest MakeIf0 s _)))))))))
  read_P (p_ref r x) s vs rest = next (suc (marks s))
      (read_P x (Mark ∷ (Do MakeRef ∷ s)) (OfToken (tok k.Ref r) ∷ vs) rest
      ∙ under (open_P x (suc (marks s))) (marked rest MakeRef s _))
  read_P (p_deref r x) s vs rest = next (suc (marks s))
      (read_P x (Mark ∷ (Do MakeDeref ∷ s)) (OfToken (tok k.Bang r) ∷ vs) rest
      ∙ under (open_P x (suc (marks s))) (marked rest MakeDeref s _))

  pub read_Es : {w : List Token} {ts : (List RawTm)} (x : Es w ts) (s : Stack) (vs : List Val) (rest : List Token) →
      Free rest →
      exec (w ++ rest) (Nt LE ∷ (Do MakeFirst ∷ (Nt MoreFields ∷ s))) vs
      ≡ seen (open_Es x (marks s)) (exec rest (Nt MoreFields ∷ s) (OfTerms ts ∷ vs))
  read_Es (es_one e) s vs rest g =
      read_E e (Do MakeFirst ∷ (Nt MoreFields ∷ s)) vs rest g ∙ under (open_E e (marks s)) (do_now rest MakeFirst _ _)
  read_Es (es_more {u} {v} {ts} c x e) s vs rest g =
      rw (append_assoc, seen_append (open_Es x (marks s)) (marks s ∷ open_E e (marks s)))
      (read_Es x s vs (tok k.Comma c ∷ (v ++ rest)) (free_comma c (v ++ rest)) ∙
      under (open_Es x (marks s))
      (next (marks s)
      (read_E e (Do MakeNext ∷ (Nt MoreFields ∷ s)) (OfToken (tok k.Comma c) ∷ (OfTerms ts ∷ vs)) rest g ∙
      under (open_E e (marks s)) (do_now rest MakeNext _ _))))

pub read_shape : {w : List Token} {t : Piece} (e : E w t) →
    exec w (Nt LE ∷ []) [] ≡ seen (open_E e 0) (Done (OfTerm t ∷ []))
read_shape {w} {t} e =
    let h : exec (w ++ []) (Nt LE ∷ []) [] ≡ seen (open_E e 0) (Done (OfTerm t ∷ [])) = read_E e [] [] [] free_end in
    rw append-nil at h
