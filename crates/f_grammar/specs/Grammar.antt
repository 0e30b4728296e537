-- The grammar: one family for each line, one constructor for each alternative. Binding plays no part in it.
use Rattle.std.specs.Prelude.{ℕ, ℤ, suc, nat_abs, List, [], ◌∷◌, ◌++◌}
use Rattle.idx_core.specs.declared.span.Span.{Span}
use Rattle.idx_core.specs.declared.arith.Op.TheVariants.{Add, Sub, Mul}
use Rattle.f_lexer.specs.declared.token.Token.{Token}
use Rattle.f_lexer.specs.declared.kind.Kind.{Kind}
use Rattle.f_lexer.specs.declared.kind.Kind.TheVariants as k
use Rattle.f_grammar.specs.declared.types.Quantifier.TheVariants.{All, Exists}
use Rattle.f_grammar.specs.Raw.{RawTy, TyPiece, int_ty, name_ty, tuple_ty, arrow_ty, bound_ty, ref_ty, paren_ty, RawTm}
use Rattle.f_grammar.specs.Raw.{Piece, within, var, number, func, gen, call, inst, tuple, proj, arith, if0, let_in}
use Rattle.f_grammar.specs.Raw.{pack, open_in, cell, deref, assign}

-- a token of this kind at this place
abbrev pub tok : Kind → Span → Token
tok k s = record { kind = k; span = s }

mutual
  pub data T : List Token → TyPiece → Type 0 where
    -- T ::= all name . T
    t_all : {w : List Token} {t : TyPiece} (a n d : Span) → T w t →
        T (tok k.All a ∷ (tok k.Name n ∷ (tok k.Dot d ∷ w))) (bound_ty All n t)
    -- T ::= some name . T
    t_some : {w : List Token} {t : TyPiece} (a n d : Span) → T w t →
        T (tok k.Some a ∷ (tok k.Name n ∷ (tok k.Dot d ∷ w))) (bound_ty Exists n t)
    -- T ::= U -> T
    t_arrow : {u v : List Token} {a b : TyPiece} (s : Span) → U u a → T v b → T (u ++ tok k.Arrow s ∷ v) (arrow_ty a b)
    -- T ::= U
    t_part : {w : List Token} {t : TyPiece} → U w t → T w t

  pub data U : List Token → TyPiece → Type 0 where
    -- U ::= int
    u_int : (s : Span) → U (tok k.Int s ∷ []) (int_ty s)
    -- U ::= name
    u_name : (s : Span) → U (tok k.Name s ∷ []) (name_ty s)
    -- U ::= < >
    u_unit : (o c : Span) → U (tok k.LeftAngle o ∷ (tok k.RightAngle c ∷ [])) (tuple_ty [] c)
    -- U ::= < T , .. , T >
    u_tuple : {w : List Token} {ts : List RawTy} (o c : Span) → Ts w ts →
        U (tok k.LeftAngle o ∷ (w ++ tok k.RightAngle c ∷ [])) (tuple_ty ts c)
    -- U ::= ( T )
    u_paren : {w : List Token} {t : TyPiece} (o c : Span) → T w t →
        U (tok k.LeftParen o ∷ (w ++ tok k.RightParen c ∷ [])) (paren_ty t c)
    -- U ::= ref U
    u_ref : {w : List Token} {t : TyPiece} (r : Span) → U w t → U (tok k.Ref r ∷ w) (ref_ty t)

  -- T , .. , T
  pub data Ts : List Token → List RawTy → Type 0 where
    ts_one : {w : List Token} {t : TyPiece} → T w t → Ts w (t.ty ∷ [])
    ts_more : {u v : List Token} {ts : List RawTy} {t : TyPiece} (c : Span) → Ts u ts → T v t →
        Ts (u ++ tok k.Comma c ∷ v) (ts ++ t.ty ∷ [])

mutual
  pub data E : List Token → Piece → Type 0 where
    -- E ::= fix name ( name : T ) : T . E
    e_fix : {u v w : List Token} {t r : TyPiece} {e : Piece} (f n o x c p d s : Span) → T u t → T v r → E w e →
        E (tok k.Fix f ∷ (tok k.Name n ∷
        (tok k.LeftParen o ∷ (tok k.Name x ∷
        (tok k.Colon c ∷ (u ++ tok k.RightParen p ∷ (tok k.Colon d ∷ (v ++ tok k.Dot s ∷ w))))))))
        (func f n x t.ty r.ty e)
    -- E ::= gen name . E
    e_gen : {w : List Token} {e : Piece} (g a d : Span) → E w e →
        E (tok k.Gen g ∷ (tok k.Name a ∷ (tok k.Dot d ∷ w))) (gen g a e)
    -- E ::= let name = E in E
    e_let : {u v : List Token} {a b : Piece} (l n q i : Span) → E u a → E v b →
        E (tok k.Let l ∷ (tok k.Name n ∷ (tok k.Equals q ∷ (u ++ tok k.In i ∷ v)))) (let_in l n a b)
    -- E ::= pack [ T , E ] as T
    e_pack : {u v w : List Token} {t r : TyPiece} {e : Piece} (p o c q s : Span) → T u t → E v e → T w r →
        E (tok k.Pack p ∷ (tok k.LeftBracket o ∷
        (u ++ tok k.Comma c ∷ (v ++ tok k.RightBracket q ∷ (tok k.As s ∷ w)))))
        (pack p t e r)
    -- E ::= open [ name , name ] = E in E
    e_open : {u v : List Token} {a b : Piece} (p o n c x r q i : Span) → E u a → E v b →
        E (tok k.Open p ∷ (tok k.LeftBracket o ∷
        (tok k.Name n ∷ (tok k.Comma c ∷ (tok k.Name x ∷
        (tok k.RightBracket r ∷ (tok k.Equals q ∷ (u ++ tok k.In i ∷ v))))))))
        (open_in p n x a b)
    -- E ::= S := S
    e_assign : {u v : List Token} {a b : Piece} (s : Span) → S u a → S v b → E (u ++ tok k.Assign s ∷ v) (assign a b)
    -- E ::= S
    e_sum : {w : List Token} {e : Piece} → S w e → E w e

  pub data S : List Token → Piece → Type 0 where
    -- S ::= S + M
    s_plus : {u v : List Token} {a b : Piece} (s : Span) → S u a → M v b → S (u ++ tok k.Plus s ∷ v) (arith Add a b)
    -- S ::= S - M
    s_minus : {u v : List Token} {a b : Piece} (s : Span) → S u a → M v b → S (u ++ tok k.Minus s ∷ v) (arith Sub a b)
    -- S ::= M
    s_product : {w : List Token} {e : Piece} → M w e → S w e

  pub data M : List Token → Piece → Type 0 where
    -- M ::= M * A
    m_star : {u v : List Token} {a b : Piece} (s : Span) → M u a → A v b → M (u ++ tok k.Star s ∷ v) (arith Mul a b)
    -- M ::= A
    m_call : {w : List Token} {e : Piece} → A w e → M w e

  pub data A : List Token → Piece → Type 0 where
    -- A ::= A P
    a_call : {u v : List Token} {a b : Piece} → A u a → P v b → A (u ++ v) (call a b)
    -- A ::= A [ T ]
    a_inst : {u v : List Token} {a : Piece} {t : TyPiece} (o c : Span) → A u a → T v t →
        A (u ++ tok k.LeftBracket o ∷ (v ++ tok k.RightBracket c ∷ [])) (inst a t.ty c)
    -- A ::= P
    a_part : {w : List Token} {e : Piece} → P w e → A w e

  pub data P : List Token → Piece → Type 0 where
    -- P ::= name
    p_name : (s : Span) → P (tok k.Name s ∷ []) (var s)
    -- P ::= number
    p_plain : (z : ℤ) (s : Span) → P (tok (k.Plain z) s ∷ []) (number z s)
    p_negative : (z : ℤ) (s : Span) → P (tok (k.Negative z) s ∷ []) (number z s)
    -- P ::= ( E )
    p_paren : {w : List Token} {e : Piece} (o c : Span) → E w e →
        P (tok k.LeftParen o ∷ (w ++ tok k.RightParen c ∷ [])) (within o.start c.end e)
    -- P ::= < >
    p_unit : (o c : Span) → P (tok k.LeftAngle o ∷ (tok k.RightAngle c ∷ [])) (tuple o [] c)
    -- P ::= < E , .. , E >
    p_tuple : {w : List Token} {ts : List RawTm} (o c : Span) → Es w ts →
        P (tok k.LeftAngle o ∷ (w ++ tok k.RightAngle c ∷ [])) (tuple o ts c)
    -- P ::= # number P, where the number is a plain one, so that it is its own absolute value
    p_proj : {w : List Token} {e : Piece} (h : Span) (z : ℤ) (s : Span) → P w e →
        P (tok k.Hash h ∷ (tok (k.Plain z) s ∷ w)) (proj h (nat_abs z) e)
    -- P ::= if0 ( E , E , E )
    p_if0 : {u v w : List Token} {a b c : Piece} (i o p q l : Span) → E u a → E v b → E w c →
        P (tok k.If0 i ∷ (tok k.LeftParen o ∷
        (u ++ tok k.Comma p ∷ (v ++ tok k.Comma q ∷ (w ++ tok k.RightParen l ∷ []))))) (if0 i a b c l)
    -- P ::= ref P
    p_ref : {w : List Token} {e : Piece} (r : Span) → P w e → P (tok k.Ref r ∷ w) (cell r e)
    -- P ::= ! P
    p_deref : {w : List Token} {e : Piece} (r : Span) → P w e → P (tok k.Bang r ∷ w) (deref r e)

  -- E , .. , E
  pub data Es : List Token → List RawTm → Type 0 where
    es_one : {w : List Token} {e : Piece} → E w e → Es w (e.tree ∷ [])
    es_more : {u v : List Token} {ts : List RawTm} {e : Piece} (c : Span) → Es u ts → E v e →
        Es (u ++ tok k.Comma c ∷ v) (ts ++ e.tree ∷ [])

-- For each token of a form, how many constructs are open at it, where d are open around the form: a bracket up to and
-- with the closing one, `fix`, `gen`, `all`, `some` to the end of the body, `let` and `open` up to and with their `in`,
-- `#`, `ref`, `!` to the end of their part, `->` to the end of the type on its right.
abbrev mutual
  pub open_T : {w : List Token} {t : TyPiece} → T w t → ℕ → List ℕ
  open_T (t_all a n s t) d = suc d ∷ (suc d ∷ (suc d ∷ open_T t (suc d)))
  open_T (t_some a n s t) d = suc d ∷ (suc d ∷ (suc d ∷ open_T t (suc d)))
  open_T (t_arrow s u t) d = open_U u d ++ suc d ∷ open_T t (suc d)
  open_T (t_part u) d = open_U u d

  pub open_U : {w : List Token} {t : TyPiece} → U w t → ℕ → List ℕ
  open_U (u_int s) d = d ∷ []
  open_U (u_name s) d = d ∷ []
  open_U (u_unit o c) d = suc d ∷ (suc d ∷ [])
  open_U (u_tuple o c x) d = suc d ∷ (open_Ts x (suc d) ++ suc d ∷ [])
  open_U (u_paren o c t) d = suc d ∷ (open_T t (suc d) ++ suc d ∷ [])
  open_U (u_ref r u) d = suc d ∷ open_U u (suc d)

  pub open_Ts : {w : List Token} {ts : List RawTy} → Ts w ts → ℕ → List ℕ
  open_Ts (ts_one t) d = open_T t d
  open_Ts (ts_more c x t) d = open_Ts x d ++ d ∷ open_T t d

abbrev mutual
  pub open_E : {w : List Token} {e : Piece} → E w e → ℕ → List ℕ
  open_E (e_fix f n o x c p k s t r e) d =
      suc d ∷ (suc d ∷ (suc (suc d) ∷
      (suc (suc d) ∷ (suc (suc d) ∷ (open_T t (suc (suc d)) ++ suc (suc d) ∷
      (suc d ∷ (open_T r (suc d) ++ suc d ∷ open_E e (suc d))))))))
  open_E (e_gen g a s e) d = suc d ∷ (suc d ∷ (suc d ∷ open_E e (suc d)))
  open_E (e_let l n q i a b) d = suc d ∷ (suc d ∷ (suc d ∷ (open_E a (suc d) ++ suc d ∷ open_E b d)))
  open_E (e_pack p o c q s t e r) d =
      d ∷ (suc d ∷ (open_T t (suc d) ++ suc d ∷ (open_E e (suc d) ++ suc d ∷ (d ∷ open_T r d))))
  open_E (e_open p o n c x r q i a b) d =
      suc d ∷ (suc (suc d) ∷ (suc (suc d) ∷
      (suc (suc d) ∷ (suc (suc d) ∷ (suc (suc d) ∷ (suc d ∷ (open_E a (suc d) ++ suc d ∷ open_E b d)))))))
  open_E (e_assign s a b) d = open_S a d ++ d ∷ open_S b d
  open_E (e_sum s) d = open_S s d

  pub open_S : {w : List Token} {e : Piece} → S w e → ℕ → List ℕ
  open_S (s_plus s a b) d = open_S a d ++ d ∷ open_M b d
  open_S (s_minus s a b) d = open_S a d ++ d ∷ open_M b d
  open_S (s_product m) d = open_M m d

  pub open_M : {w : List Token} {e : Piece} → M w e → ℕ → List ℕ
  open_M (m_star s a b) d = open_M a d ++ d ∷ open_A b d
  open_M (m_call a) d = open_A a d

  pub open_A : {w : List Token} {e : Piece} → A w e → ℕ → List ℕ
  open_A (a_call a p) d = open_A a d ++ open_P p d
  open_A (a_inst o c a t) d = open_A a d ++ suc d ∷ (open_T t (suc d) ++ suc d ∷ [])
  open_A (a_part p) d = open_P p d

  pub open_P : {w : List Token} {e : Piece} → P w e → ℕ → List ℕ
  open_P (p_name s) d = d ∷ []
  open_P (p_plain z s) d = d ∷ []
  open_P (p_negative z s) d = d ∷ []
  open_P (p_paren o c e) d = suc d ∷ (open_E e (suc d) ++ suc d ∷ [])
  open_P (p_unit o c) d = suc d ∷ (suc d ∷ [])
  open_P (p_tuple o c x) d = suc d ∷ (open_Es x (suc d) ++ suc d ∷ [])
  open_P (p_proj h z s p) d = suc d ∷ (suc d ∷ open_P p (suc d))
  open_P (p_if0 i o p q l a b c) d =
      d ∷ (suc d ∷ (open_E a (suc d) ++ suc d ∷ (open_E b (suc d) ++ suc d ∷ (open_E c (suc d) ++ suc d ∷ []))))
  open_P (p_ref r p) d = suc d ∷ open_P p (suc d)
  open_P (p_deref r p) d = suc d ∷ open_P p (suc d)

  pub open_Es : {w : List Token} {ts : List RawTm} → Es w ts → ℕ → List ℕ
  open_Es (es_one e) d = open_E e d
  open_Es (es_more c x e) d = open_Es x d ++ d ∷ open_E e d
