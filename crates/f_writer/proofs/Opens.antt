-- Tokens of a line of the grammar, at which at most so many constructs are open beside those around them.
use Rattle.std.proofs.Common.{◌≡◌, ◌≤◌, ℕ, ℤ, suc, ◌+◌, max, List, [], ◌∷◌, ◌++◌, Bool, true, false, refl, arith}
use Rattle.std.specs.Prelude.{nat_abs}
use Rattle.idx_core.specs.declared.span.Span.{Span}
use Rattle.idx_core.specs.declared.arith.Op.TheVariants.{Add, Sub, Mul}
use Rattle.f_lexer.specs.declared.kind.Kind.TheVariants as k
use Rattle.f_lexer.specs.declared.token.Token.{Token}
use Rattle.f_grammar.specs.declared.types.Quantifier.TheVariants.{All, Exists}
use Rattle.f_grammar.specs.Raw.{RawTy, TyPiece, int_ty, name_ty, tuple_ty, arrow_ty, bound_ty, ref_ty, paren_ty}
use Rattle.f_grammar.specs.Raw.{RawTm, Piece, within, var, number, func, gen, call, inst, tuple, proj}
use Rattle.f_grammar.specs.Raw.{arith as operation, if0, let_in, pack, open_in, cell, deref, assign}
use Rattle.f_grammar.specs.Grammar.{tok, T, t_all, t_some, t_arrow, t_part, U, u_int, u_name, u_unit, u_tuple}
use Rattle.f_grammar.specs.Grammar.{u_paren}
use Rattle.f_grammar.specs.Grammar.{u_ref, Ts, ts_one, ts_more, E, e_fix, e_gen, e_let, e_pack, e_open, e_assign}
use Rattle.f_grammar.specs.Grammar.{e_sum, S, s_plus, s_minus, s_product, M, m_star, m_call, A, a_call, a_inst}
use Rattle.f_grammar.specs.Grammar.{a_part}
use Rattle.f_grammar.specs.Grammar.{P, p_name, p_plain, p_negative, p_paren, p_unit, p_tuple, p_proj, p_if0, p_ref}
use Rattle.f_grammar.specs.Grammar.{p_deref, Es, es_one, es_more, open_T, open_U, open_Ts, open_E, open_S, open_M}
use Rattle.f_grammar.specs.Grammar.{open_A, open_P, open_Es}
use Rattle.f_writer.specs.declared.line.Line.{Line}
use Rattle.f_writer.specs.declared.line.Line.TheVariants.{Expression, Sum, Product, Call, Primary}
use Rattle.f_writer.specs.Lines.{is_loose}

-- each number is within the limit
abbrev pub Most : List ℕ → Type 0
Most [] = Unit {0}
Most (n ∷ ns) = (n ≤ 200) × Most ns

pub most_append : (xs ys : List ℕ) → Most xs → Most ys → Most (xs ++ ys)
most_append [] ys h g = g
most_append (x ∷ xs) ys h g = (h.0, most_append xs ys h.1 g)

-- the line of the grammar that a type is of
abbrev pub OfType : Bool → List Token → TyPiece → Type 0
OfType true w t = T w t
OfType false w t = U w t

abbrev pub open_type : (b : Bool) (w : List Token) (t : TyPiece) → OfType b w t → ℕ → List ℕ
open_type true w t x d = open_T x d
open_type false w t x d = open_U x d

pub record OpensType (b : Bool) (w : List Token) (t : TyPiece) (n : ℕ) : Type 0 where
  pub shape : OfType b w t
  pub few : (d : ℕ) → d + n ≤ 200 → Most (open_type b w t shape d)

pub record OpensTypes (w : List Token) (ts : List RawTy) (n : ℕ) : Type 0 where
  pub shape : Ts w ts
  pub few : (d : ℕ) → d + n ≤ 200 → Most (open_Ts shape d)

pub to_type : (b : Bool) (w : List Token) (t : TyPiece) (n : ℕ) → OpensType b w t n → OpensType true w t n
to_type true w t n x = x
to_type false w t n x = record { shape = t_part x.shape; few = x.few }

module _ (w : List Token) (t : TyPiece) (n : ℕ) (x : OpensType true w t n) where
  pub opens_paren_type : (o c : Span) →
      OpensType false (tok k.LeftParen o ∷ (w ++ tok k.RightParen c ∷ [])) (paren_ty t c) (suc n)
  opens_paren_type o c = record {
    shape = u_paren o c x.shape;
    few = λ d h. (omega arith, most_append _ _ (x.few (suc d) (omega arith)) (omega arith, tt));
  }

  pub opens_all : (a s d : Span) →
      OpensType true (tok k.All a ∷ (tok k.Name s ∷ (tok k.Dot d ∷ w))) (bound_ty All s t) (suc n)
  opens_all a s e = record {
    shape = t_all a s e x.shape;
    few = λ d h. (omega arith, (omega arith, (omega arith, x.few (suc d) (omega arith))));
  }

  pub opens_some : (a s d : Span) →
      OpensType true (tok k.Some a ∷ (tok k.Name s ∷ (tok k.Dot d ∷ w))) (bound_ty Exists s t) (suc n)
  opens_some a s e = record {
    shape = t_some a s e x.shape;
    few = λ d h. (omega arith, (omega arith, (omega arith, x.few (suc d) (omega arith))));
  }

  pub opens_one_type : (m : ℕ) → n ≤ m → OpensTypes w (t.ty ∷ []) m
  opens_one_type m le = record { shape = ts_one x.shape; few = λ d h. x.few d (omega arith) }

pub opens_arrow : (u v : List Token) (a b : TyPiece) (n m : ℕ) (s : Span) → OpensType false u a n →
    OpensType true v b m → OpensType true (u ++ tok k.Arrow s ∷ v) (arrow_ty a b) (max n (suc m))
opens_arrow u v a b n m s x y = record {
  shape = t_arrow s x.shape y.shape;
  few = λ d h. most_append _ _ (x.few d (omega arith)) (omega arith, y.few (suc d) (omega arith));
}

pub opens_ref_type : (w : List Token) (t : TyPiece) (n : ℕ) (r : Span) → OpensType false w t n →
    OpensType false (tok k.Ref r ∷ w) (ref_ty t) (suc n)
opens_ref_type w t n r x = record {
  shape = u_ref r x.shape;
  few = λ d h. (omega arith, x.few (suc d) (omega arith));
}

pub opens_int : (s : Span) → OpensType false (tok k.Int s ∷ []) (int_ty s) 0
opens_int s = record { shape = u_int s; few = λ d h. (omega arith, tt) }

pub opens_type_name : (s : Span) → OpensType false (tok k.Name s ∷ []) (name_ty s) 0
opens_type_name s = record { shape = u_name s; few = λ d h. (omega arith, tt) }

pub opens_unit_type : (o c : Span) → OpensType false (tok k.LeftAngle o ∷ (tok k.RightAngle c ∷ [])) (tuple_ty [] c) 1
opens_unit_type o c = record { shape = u_unit o c; few = λ d h. (omega arith, (omega arith, tt)) }

pub opens_tuple_type : (w : List Token) (ts : List RawTy) (n : ℕ) (o c : Span) → OpensTypes w ts n →
    OpensType false (tok k.LeftAngle o ∷ (w ++ tok k.RightAngle c ∷ [])) (tuple_ty ts c) (suc n)
opens_tuple_type w ts n o c x = record {
  shape = u_tuple o c x.shape;
  few = λ d h. (omega arith, most_append _ _ (x.few (suc d) (omega arith)) (omega arith, tt));
}

pub opens_more_types : (u v : List Token) (ts : List RawTy) (t : TyPiece) (n m : ℕ) (c : Span) → m ≤ n →
    OpensTypes u ts n → OpensType true v t m → OpensTypes (u ++ tok k.Comma c ∷ v) (ts ++ t.ty ∷ []) n
opens_more_types u v ts t n m c le x y = record {
  shape = ts_more c x.shape y.shape;
  few = λ d h. most_append _ _ (x.few d h) (omega arith, y.few d (omega arith));
}

-- terms

-- what is of a line of the grammar
abbrev pub Of : Line → List Token → Piece → Type 0
Of Expression w e = E w e
Of Sum w e = S w e
Of Product w e = M w e
Of Call w e = A w e
Of Primary w e = P w e

abbrev pub open_of : (l : Line) (w : List Token) (e : Piece) → Of l w e → ℕ → List ℕ
open_of Expression w e x d = open_E x d
open_of Sum w e x d = open_S x d
open_of Product w e x d = open_M x d
open_of Call w e x d = open_A x d
open_of Primary w e x d = open_P x d

pub record Opens (l : Line) (w : List Token) (e : Piece) (n : ℕ) : Type 0 where
  pub shape : Of l w e
  pub few : (d : ℕ) → d + n ≤ 200 → Most (open_of l w e shape d)

pub record OpensFields (w : List Token) (es : List RawTm) (n : ℕ) : Type 0 where
  pub shape : Es w es
  pub few : (d : ℕ) → d + n ≤ 200 → Most (open_Es shape d)

module _ (w : List Token) (e : Piece) (n : ℕ) where
  -- what binds closer may stand where less is asked for
  pub lift : (l q : Line) → is_loose l q ≡ false → Opens l w e n → Opens q w e n
  lift Expression Expression h x = x
  lift Expression Sum h x = absurd (cc)
  lift Expression Product h x = absurd (cc)
  lift Expression Call h x = absurd (cc)
  lift Expression Primary h x = absurd (cc)
  lift Sum Expression h x = record { shape = e_sum x.shape; few = x.few }
  lift Sum Sum h x = x
  lift Sum Product h x = absurd (cc)
  lift Sum Call h x = absurd (cc)
  lift Sum Primary h x = absurd (cc)
  lift Product Expression h x = record { shape = e_sum (s_product x.shape); few = x.few }
  lift Product Sum h x = record { shape = s_product x.shape; few = x.few }
  lift Product Product h x = x
  lift Product Call h x = absurd (cc)
  lift Product Primary h x = absurd (cc)
  lift Call Expression h x = record { shape = e_sum (s_product (m_call x.shape)); few = x.few }
  lift Call Sum h x = record { shape = s_product (m_call x.shape); few = x.few }
  lift Call Product h x = record { shape = m_call x.shape; few = x.few }
  lift Call Call h x = x
  lift Call Primary h x = absurd (cc)
  lift Primary Expression h x = record { shape = e_sum (s_product (m_call (a_part x.shape))); few = x.few }
  lift Primary Sum h x = record { shape = s_product (m_call (a_part x.shape)); few = x.few }
  lift Primary Product h x = record { shape = m_call (a_part x.shape); few = x.few }
  lift Primary Call h x = record { shape = a_part x.shape; few = x.few }
  lift Primary Primary h x = x

  pub whole_term : (l : Line) → Opens l w e n → Opens Expression w e n
  whole_term Expression x = x
  whole_term Sum x = lift Sum Expression refl x
  whole_term Product x = lift Product Expression refl x
  whole_term Call x = lift Call Expression refl x
  whole_term Primary x = lift Primary Expression refl x

  pub from_part : (q : Line) → Opens Primary w e n → Opens q w e n
  from_part Expression x = lift Primary Expression refl x
  from_part Sum x = lift Primary Sum refl x
  from_part Product x = lift Primary Product refl x
  from_part Call x = lift Primary Call refl x
  from_part Primary x = x

-- a form of one part
module _ (w : List Token) (e : Piece) (n : ℕ) where
  pub opens_paren : (o c : Span) → Opens Expression w e n →
      Opens Primary (tok k.LeftParen o ∷ (w ++ tok k.RightParen c ∷ [])) (within o.start c.end e) (suc n)
  opens_paren o c x = record {
    shape = p_paren o c x.shape;
    few = λ d h. (omega arith, most_append _ _ (x.few (suc d) (omega arith)) (omega arith, tt));
  }

  pub opens_gen : (g a s : Span) → Opens Expression w e n →
      Opens Expression (tok k.Gen g ∷ (tok k.Name a ∷ (tok k.Dot s ∷ w))) (gen g a e) (suc n)
  opens_gen g a s x = record {
    shape = e_gen g a s x.shape;
    few = λ d h. (omega arith, (omega arith, (omega arith, x.few (suc d) (omega arith))));
  }

  pub opens_proj : (h : Span) (z : ℤ) (s : Span) → Opens Primary w e n →
      Opens Primary (tok k.Hash h ∷ (tok (k.Plain z) s ∷ w)) (proj h (nat_abs z) e) (suc n)
  opens_proj o z s x = record {
    shape = p_proj o z s x.shape;
    few = λ d h. (omega arith, (omega arith, x.few (suc d) (omega arith)));
  }

  pub opens_ref : (r : Span) → Opens Primary w e n → Opens Primary (tok k.Ref r ∷ w) (cell r e) (suc n)
  opens_ref r x = record { shape = p_ref r x.shape; few = λ d h. (omega arith, x.few (suc d) (omega arith)) }

  pub opens_deref : (r : Span) → Opens Primary w e n → Opens Primary (tok k.Bang r ∷ w) (deref r e) (suc n)
  opens_deref r x = record { shape = p_deref r x.shape; few = λ d h. (omega arith, x.few (suc d) (omega arith)) }

  pub opens_inst : (v : List Token) (t : TyPiece) (m : ℕ) (o c : Span) → Opens Call w e n → OpensType true v t m →
      Opens Call (w ++ tok k.LeftBracket o ∷ (v ++ tok k.RightBracket c ∷ [])) (inst e t.ty c) (max n (suc m))
  opens_inst v t m o c x y = record {
    shape = a_inst o c x.shape y.shape;
    few = λ d h.
        most_append _ _ (x.few d (omega arith))
        (omega arith, most_append _ _ (y.few (suc d) (omega arith)) (omega arith, tt));
  }

  pub opens_one : (m : ℕ) → n ≤ m → Opens Expression w e n → OpensFields w (e.tree ∷ []) m
  opens_one m le x = record { shape = es_one x.shape; few = λ d h. x.few d (omega arith) }

  pub opens_fix : (u v : List Token) (t r : TyPiece) (i j : ℕ) (f s o x c p q z : Span) → OpensType true u t i →
      OpensType true v r j → Opens Expression w e n →
      Opens Expression
      (tok k.Fix f ∷ (tok k.Name s ∷
      (tok k.LeftParen o ∷ (tok k.Name x ∷
      (tok k.Colon c ∷ (u ++ tok k.RightParen p ∷ (tok k.Colon q ∷ (v ++ tok k.Dot z ∷ w))))))))
      (func f s x t.ty r.ty e) (max (suc (suc i)) (max (suc j) (suc n)))
  opens_fix u v t r i j f s o x c p q z a b y = record {
    shape = e_fix f s o x c p q z a.shape b.shape y.shape;
    few = λ d h. (
      omega arith,
      (
        omega arith,
        (
          omega arith,
          (
            omega arith,
            (
              omega arith,
              most_append _ _ (a.few (suc (suc d)) (omega arith)) (
                omega arith,
                (
                  omega arith,
                  most_append _ _ (b.few (suc d) (omega arith)) (omega arith, y.few (suc d) (omega arith)),
                ),
              ),
            ),
          ),
        ),
      ),
    );
  }

  pub opens_pack : (u v : List Token) (t r : TyPiece) (i j : ℕ) (p o c q s : Span) → OpensType true u t i →
      Opens Expression w e n → OpensType true v r j →
      Opens Expression
      (tok k.Pack p ∷ (tok k.LeftBracket o ∷
      (u ++ tok k.Comma c ∷ (w ++ tok k.RightBracket q ∷ (tok k.As s ∷ v))))) (pack p t e r)
      (max (suc i) (max (suc n) j))
  opens_pack u v t r i j p o c q s a y b = record {
    shape = e_pack p o c q s a.shape y.shape b.shape;
    few = λ d h. (
      omega arith,
      (
        omega arith,
        most_append _ _ (a.few (suc d) (omega arith)) (
          omega arith,
          most_append _ _ (y.few (suc d) (omega arith)) (omega arith, (omega arith, b.few d (omega arith))),
        ),
      ),
    );
  }

-- a form of two parts
module _ (u v : List Token) (a b : Piece) (n m : ℕ) where
  pub opens_app : Opens Call u a n → Opens Primary v b m → Opens Call (u ++ v) (call a b) (max n m)
  opens_app x y = record {
    shape = a_call x.shape y.shape;
    few = λ d h. most_append _ _ (x.few d (omega arith)) (y.few d (omega arith));
  }

  pub opens_plus : (s : Span) → Opens Sum u a n → Opens Product v b m →
      Opens Sum (u ++ tok k.Plus s ∷ v) (operation Add a b) (max n m)
  opens_plus s x y = record {
    shape = s_plus s x.shape y.shape;
    few = λ d h. most_append _ _ (x.few d (omega arith)) (omega arith, y.few d (omega arith));
  }

  pub opens_minus : (s : Span) → Opens Sum u a n → Opens Product v b m →
      Opens Sum (u ++ tok k.Minus s ∷ v) (operation Sub a b) (max n m)
  opens_minus s x y = record {
    shape = s_minus s x.shape y.shape;
    few = λ d h. most_append _ _ (x.few d (omega arith)) (omega arith, y.few d (omega arith));
  }

  pub opens_star : (s : Span) → Opens Product u a n → Opens Call v b m →
      Opens Product (u ++ tok k.Star s ∷ v) (operation Mul a b) (max n m)
  opens_star s x y = record {
    shape = m_star s x.shape y.shape;
    few = λ d h. most_append _ _ (x.few d (omega arith)) (omega arith, y.few d (omega arith));
  }

  pub opens_assign : (s : Span) → Opens Sum u a n → Opens Sum v b m →
      Opens Expression (u ++ tok k.Assign s ∷ v) (assign a b) (max n m)
  opens_assign s x y = record {
    shape = e_assign s x.shape y.shape;
    few = λ d h. most_append _ _ (x.few d (omega arith)) (omega arith, y.few d (omega arith));
  }

  pub opens_let : (l s q i : Span) → Opens Expression u a n → Opens Expression v b m →
      Opens Expression (tok k.Let l ∷ (tok k.Name s ∷ (tok k.Equals q ∷ (u ++ tok k.In i ∷ v)))) (let_in l s a b)
      (max (suc n) m)
  opens_let l s q i x y = record {
    shape = e_let l s q i x.shape y.shape;
    few = λ d h. (
      omega arith,
      (
        omega arith,
        (omega arith, most_append _ _ (x.few (suc d) (omega arith)) (omega arith, y.few d (omega arith))),
      ),
    );
  }

  pub opens_open : (p o s c x r q i : Span) → Opens Expression u a n → Opens Expression v b m →
      Opens Expression
      (tok k.Open p ∷ (tok k.LeftBracket o ∷
      (tok k.Name s ∷ (tok k.Comma c ∷ (tok k.Name x ∷
      (tok k.RightBracket r ∷ (tok k.Equals q ∷ (u ++ tok k.In i ∷ v)))))))) (open_in p s x a b)
      (max 2 (max (suc n) m))
  opens_open p o s c x r q i y z = record {
    shape = e_open p o s c x r q i y.shape z.shape;
    few = λ d h. (
      omega arith,
      (
        omega arith,
        (
          omega arith,
          (
            omega arith,
            (
              omega arith,
              (
                omega arith,
                (omega arith, most_append _ _ (y.few (suc d) (omega arith)) (omega arith, z.few d (omega arith))),
              ),
            ),
          ),
        ),
      ),
    );
  }

pub opens_if : (u v w : List Token) (a b c : Piece) (n m j : ℕ) (i o p q l : Span) → Opens Expression u a n →
    Opens Expression v b m → Opens Expression w c j →
    Opens Primary
    (tok k.If0 i ∷ (tok k.LeftParen o ∷
    (u ++ tok k.Comma p ∷ (v ++ tok k.Comma q ∷ (w ++ tok k.RightParen l ∷ []))))) (if0 i a b c l)
    (suc (max n (max m j)))
opens_if u v w a b c n m j i o p q l x y z = record {
  shape = p_if0 i o p q l x.shape y.shape z.shape;
  few = λ d h. (
    omega arith,
    (
      omega arith,
      most_append _ _ (x.few (suc d) (omega arith)) (
        omega arith,
        most_append _ _ (y.few (suc d) (omega arith))
            (omega arith, most_append _ _ (z.few (suc d) (omega arith)) (omega arith, tt)),
      ),
    ),
  );
}

pub opens_name : (s : Span) → Opens Primary (tok k.Name s ∷ []) (var s) 0
opens_name s = record { shape = p_name s; few = λ d h. (omega arith, tt) }

pub opens_plain : (z : ℤ) (s : Span) → Opens Primary (tok (k.Plain z) s ∷ []) (number z s) 0
opens_plain z s = record { shape = p_plain z s; few = λ d h. (omega arith, tt) }

pub opens_negative : (z : ℤ) (s : Span) → Opens Primary (tok (k.Negative z) s ∷ []) (number z s) 0
opens_negative z s = record { shape = p_negative z s; few = λ d h. (omega arith, tt) }

pub opens_unit : (o c : Span) → Opens Primary (tok k.LeftAngle o ∷ (tok k.RightAngle c ∷ [])) (tuple o [] c) 1
opens_unit o c = record { shape = p_unit o c; few = λ d h. (omega arith, (omega arith, tt)) }

pub opens_tuple : (w : List Token) (es : List RawTm) (n : ℕ) (o c : Span) → OpensFields w es n →
    Opens Primary (tok k.LeftAngle o ∷ (w ++ tok k.RightAngle c ∷ [])) (tuple o es c) (suc n)
opens_tuple w es n o c x = record {
  shape = p_tuple o c x.shape;
  few = λ d h. (omega arith, most_append _ _ (x.few (suc d) (omega arith)) (omega arith, tt));
}

pub opens_more : (u v : List Token) (es : List RawTm) (e : Piece) (n m : ℕ) (c : Span) → m ≤ n →
    OpensFields u es n → Opens Expression v e m → OpensFields (u ++ tok k.Comma c ∷ v) (es ++ e.tree ∷ []) n
opens_more u v es e n m c le x y = record {
  shape = es_more c x.shape y.shape;
  few = λ d h. most_append _ _ (x.few d h) (omega arith, y.few d (omega arith));
}
