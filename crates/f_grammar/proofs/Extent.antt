-- The place of a piece begins with its first token and ends with its last.
use Rattle.std.proofs.Common.{◌≡◌, ℕ, List, [], ◌∷◌, ◌++◌, refl, subst, append_assoc}
use Rattle.f_lexer.specs.declared.token.Token.{Token}
use Rattle.f_lexer.specs.declared.kind.Kind.TheVariants as k
use Rattle.f_grammar.specs.Raw.{Piece, TyPiece}
use Rattle.f_grammar.specs.Grammar.{tok, T, U, t_all, t_some, t_arrow, t_part, u_int, u_name, u_unit, u_tuple, u_paren}
use Rattle.f_grammar.specs.Grammar.{u_ref, E, S, M, A, P, e_fix, e_gen, e_let, e_pack, e_open, e_assign, e_sum, s_plus}
use Rattle.f_grammar.specs.Grammar.{s_minus, s_product, m_star, m_call, a_call, a_inst, a_part, p_name, p_plain}
use Rattle.f_grammar.specs.Grammar.{p_negative, p_paren, p_unit, p_tuple, p_proj, p_if0, p_ref, p_deref}

pub data Starts : List Token → ℕ → Type 0 where
  starts : (c : Token) (w : List Token) (n : ℕ) → n ≡ c.span.start → Starts (c ∷ w) n

pub data Ends : List Token → ℕ → Type 0 where
  ends : (w : List Token) (c : Token) (n : ℕ) → n ≡ c.span.end → Ends (w ++ c ∷ []) n

starts_more : {u : List Token} {n : ℕ} (v : List Token) → Starts u n → Starts (u ++ v) n
starts_more v (starts c w n e) = starts c (w ++ v) n e

ends_more : (u : List Token) {v : List Token} {n : ℕ} → Ends v n → Ends (u ++ v) n
ends_more u (ends w c n e) = subst (λ (x : List Token). Ends x n) (append_assoc u w (c ∷ [])) (ends (u ++ w) c n e)

mutual
  pub start_S : {w : List Token} {e : Piece} → S w e → Starts w e.start
  start_S (s_plus s a b) = starts_more _ (start_S a)
  start_S (s_minus s a b) = starts_more _ (start_S a)
  start_S (s_product m) = start_M m

  pub start_M : {w : List Token} {e : Piece} → M w e → Starts w e.start
  start_M (m_star s a b) = starts_more _ (start_M a)
  start_M (m_call a) = start_A a

  pub start_A : {w : List Token} {e : Piece} → A w e → Starts w e.start
  start_A (a_call a p) = starts_more _ (start_A a)
  start_A (a_inst o c a t) = starts_more _ (start_A a)
  start_A (a_part p) = start_P p

  pub start_P : {w : List Token} {e : Piece} → P w e → Starts w e.start
  start_P (p_name s) = starts _ _ _ refl
  start_P (p_plain n s) = starts _ _ _ refl
  start_P (p_negative n s) = starts _ _ _ refl
  start_P (p_paren o c e) = starts _ _ _ refl
  start_P (p_unit o c) = starts _ _ _ refl
  start_P (p_tuple o c x) = starts _ _ _ refl
  start_P (p_proj h n s p) = starts _ _ _ refl
  start_P (p_if0 i o p q l a b c) = starts _ _ _ refl
  start_P (p_ref r p) = starts _ _ _ refl
  start_P (p_deref r p) = starts _ _ _ refl

mutual
  end_T : {w : List Token} {t : TyPiece} → T w t → Ends w t.end
  end_T (t_all a n d t) = ends_more (tok k.All a ∷ (tok k.Name n ∷ (tok k.Dot d ∷ []))) (end_T t)
  end_T (t_some a n d t) = ends_more (tok k.Some a ∷ (tok k.Name n ∷ (tok k.Dot d ∷ []))) (end_T t)
  end_T (t_arrow {u} s a b) = ends_more u (ends_more (tok k.Arrow s ∷ []) (end_T b))
  end_T (t_part u) = end_U u

  end_U : {w : List Token} {t : TyPiece} → U w t → Ends w t.end
  end_U (u_int s) = ends [] _ _ refl
  end_U (u_name s) = ends [] _ _ refl
  end_U (u_unit o c) = ends (tok k.LeftAngle o ∷ []) (tok k.RightAngle c) _ refl
  end_U (u_tuple {w} o c x) = ends (tok k.LeftAngle o ∷ w) (tok k.RightAngle c) _ refl
  end_U (u_paren {w} o c t) = ends (tok k.LeftParen o ∷ w) (tok k.RightParen c) _ refl
  end_U (u_ref r u) = ends_more (tok k.Ref r ∷ []) (end_U u)

mutual
  pub end_E : {w : List Token} {e : Piece} → E w e → Ends w e.end
  end_E (e_fix {u} {v} f n o x c p d s t r e) =
      ends_more (tok k.Fix f ∷ (tok k.Name n ∷ (tok k.LeftParen o ∷ (tok k.Name x ∷ (tok k.Colon c ∷ [])))))
      (ends_more u
      (ends_more (tok k.RightParen p ∷ (tok k.Colon d ∷ []))
      (ends_more v (ends_more (tok k.Dot s ∷ []) (end_E e)))))
  end_E (e_gen g a d e) = ends_more (tok k.Gen g ∷ (tok k.Name a ∷ (tok k.Dot d ∷ []))) (end_E e)
  end_E (e_let {u} l n q i a b) =
      ends_more (tok k.Let l ∷ (tok k.Name n ∷ (tok k.Equals q ∷ [])))
      (ends_more u (ends_more (tok k.In i ∷ []) (end_E b)))
  end_E (e_pack {u} {v} p o c q s t e r) =
      ends_more (tok k.Pack p ∷ (tok k.LeftBracket o ∷ []))
      (ends_more u
      (ends_more (tok k.Comma c ∷ [])
      (ends_more v (ends_more (tok k.RightBracket q ∷ (tok k.As s ∷ [])) (end_T r)))))
  end_E (e_open {u} p o n c x r q i a b) =
      ends_more (tok k.Open p
      ∷ (tok k.LeftBracket o
      ∷ (tok k.Name n ∷ (tok k.Comma c ∷ (tok k.Name x ∷ (tok k.RightBracket r ∷ (tok k.Equals q ∷ [])))))))
      (ends_more u (ends_more (tok k.In i ∷ []) (end_E b)))
  end_E (e_assign {u} s a b) = ends_more u (ends_more (tok k.Assign s ∷ []) (end_S b))
  end_E (e_sum s) = end_S s

  pub end_S : {w : List Token} {e : Piece} → S w e → Ends w e.end
  end_S (s_plus {u} s a b) = ends_more u (ends_more (tok k.Plus s ∷ []) (end_M b))
  end_S (s_minus {u} s a b) = ends_more u (ends_more (tok k.Minus s ∷ []) (end_M b))
  end_S (s_product m) = end_M m

  pub end_M : {w : List Token} {e : Piece} → M w e → Ends w e.end
  end_M (m_star {u} s a b) = ends_more u (ends_more (tok k.Star s ∷ []) (end_A b))
  end_M (m_call a) = end_A a

  pub end_A : {w : List Token} {e : Piece} → A w e → Ends w e.end
  end_A (a_call {u} a p) = ends_more u (end_P p)
  end_A (a_inst {u} {v} o c a t) =
      ends_more u (ends_more (tok k.LeftBracket o ∷ v) (ends [] (tok k.RightBracket c) _ refl))
  end_A (a_part p) = end_P p

  pub end_P : {w : List Token} {e : Piece} → P w e → Ends w e.end
  end_P (p_name s) = ends [] _ _ refl
  end_P (p_plain n s) = ends [] _ _ refl
  end_P (p_negative n s) = ends [] _ _ refl
  end_P (p_paren {w} o c e) = ends (tok k.LeftParen o ∷ w) (tok k.RightParen c) _ refl
  end_P (p_unit o c) = ends (tok k.LeftAngle o ∷ []) (tok k.RightAngle c) _ refl
  end_P (p_tuple {w} o c x) = ends (tok k.LeftAngle o ∷ w) (tok k.RightAngle c) _ refl
  end_P (p_proj h n s p) = ends_more (tok k.Hash h ∷ (tok (k.Plain n) s ∷ [])) (end_P p)
  end_P (p_if0 {u} {v} {w} i o p q l a b c) =
      ends_more (tok k.If0 i ∷ (tok k.LeftParen o ∷ []))
      (ends_more u (ends_more (tok k.Comma p ∷ v) (ends (tok k.Comma q ∷ w) (tok k.RightParen l) _ refl)))
  end_P (p_ref r p) = ends_more (tok k.Ref r ∷ []) (end_P p)
  end_P (p_deref r p) = ends_more (tok k.Bang r ∷ []) (end_P p)
