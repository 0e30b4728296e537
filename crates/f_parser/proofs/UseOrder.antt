-- The uses of names in a text's tree stand in the order of the text.
use Rattle.std.proofs.Common.{◌≡◌, ◌≤◌, ℕ, ◌+◌, List, [], ◌∷◌, ◌++◌, refl, sym, ap, ◌∙◌, subst, arith}
use Rattle.std.proofs.Common.{append_assoc}
use Rattle.std.proofs.lemmas.List.{append-nil}
use Rattle.idx_core.specs.declared.span.Span.{Span}
use Rattle.idx_core.specs.Names.{Name}
use Rattle.text_core.specs.Tokens.{Cut, c_end, c_gap, c_token}
use Rattle.f_lexer.specs.declared.token.Token.{Token}
use Rattle.f_lexer.specs.Source.{source}
use Rattle.f_grammar.specs.Raw.{RawTy, TyPiece, RawTm, Piece, raw_tys, raw_tms}
use Rattle.f_lexer.specs.declared.kind.Kind.TheVariants as k
use Rattle.f_grammar.specs.Grammar.{tok, T, U, Ts, t_all, t_some, t_arrow, t_part, u_int, u_name, u_unit, u_tuple}
use Rattle.f_grammar.specs.Grammar.{u_paren, u_ref, ts_one, ts_more, E, S, M, A, P, Es, e_fix, e_gen, e_let, e_pack}
use Rattle.f_grammar.specs.Grammar.{e_open, e_assign, e_sum, s_plus, s_minus, s_product, m_star, m_call, a_call}
use Rattle.f_grammar.specs.Grammar.{a_inst, a_part, p_name, p_plain, p_negative, p_paren, p_unit, p_tuple, p_proj}
use Rattle.f_grammar.specs.Grammar.{p_if0, p_ref, p_deref, es_one, es_more}
use Rattle.f_grammar.specs.Scope.{spelled, Use, type_uses, types_uses, uses, all_uses, Ascends}
use Rattle.f_grammar.specs.Text.{UsesInTextOrder}
use Rattle.f_parser.proofs.Resolving.{types_uses_append}

-- the places of the uses are those of some tokens, in order
data Sub : List Use → List Token → Type 0 where
  s_end : Sub [] []
  s_skip : {us : List Use} {w : List Token} (c : Token) → Sub us w → Sub us (c ∷ w)
  s_take : {us : List Use} {w : List Token} (u : Use) (c : Token) → u.at ≡ c.span → Sub us w → Sub (u ∷ us) (c ∷ w)

none : (w : List Token) → Sub [] w
none [] = s_end
none (c ∷ w) = s_skip c (none w)

join : {us vs : List Use} {w z : List Token} → Sub us w → Sub vs z → Sub (us ++ vs) (w ++ z)
join s_end y = y
join (s_skip c x) y = s_skip c (join x y)
join (s_take u c e x) y = s_take u c e (join x y)

more : {us : List Use} {w : List Token} (z : List Token) → Sub us w → Sub us (w ++ z)
more {us} {w} z x = subst (λ (xs : List Use). Sub xs (w ++ z)) (append-nil us) (join x (none z))

module _ (text : List ℕ) where
  mutual
    of_T : {w : List Token} {t : TyPiece} → T w t → (a : List Name) → Sub (type_uses text a t.ty) w
    of_T (t_all b n d x) a = s_skip _ (s_skip _ (s_skip _ (of_T x (spelled text n ∷ a))))
    of_T (t_some b n d x) a = s_skip _ (s_skip _ (s_skip _ (of_T x (spelled text n ∷ a))))
    of_T (t_arrow s x y) a = join (of_U x a) (s_skip _ (of_T y a))
    of_T (t_part x) a = of_U x a

    of_U : {w : List Token} {t : TyPiece} → U w t → (a : List Name) → Sub (type_uses text a t.ty) w
    of_U (u_int s) a = s_skip _ s_end
    of_U (u_name s) a = s_take _ _ refl s_end
    of_U (u_unit o c) a = s_skip _ (s_skip _ s_end)
    of_U (u_tuple o c x) a = s_skip _ (more _ (of_Ts x a))
    of_U (u_paren o c x) a = s_skip _ (more _ (of_T x a))
    of_U (u_ref r x) a = s_skip _ (of_U x a)

    of_Ts : {w : List Token} {ts : List RawTy} → Ts w ts → (a : List Name) → Sub (types_uses text a (raw_tys ts)) w
    of_Ts (ts_one {w} {t} x) a =
        subst (λ (us : List Use). Sub us w) (sym (append-nil (type_uses text a t.ty))) (of_T x a)
    of_Ts (ts_more {u} {v} {ts} {t} c x y) a =
        let z = subst (λ (us : List Use). Sub us v) (sym (append-nil (type_uses text a t.ty))) (of_T y a) in
        subst (λ (us : List Use). Sub us (u ++ tok k.Comma c ∷ v)) (sym (types_uses_append text a ts (t.ty ∷ [])))
        (join (of_Ts x a) (s_skip (tok k.Comma c) z))

  all_uses_append : (v a : List Name) (us vs : List RawTm) →
      all_uses text v a (raw_tms (us ++ vs)) ≡ all_uses text v a (raw_tms us) ++ all_uses text v a (raw_tms vs)
  all_uses_append v a [] vs = refl
  all_uses_append v a (u ∷ us) vs = ap (λ (x : List Use). uses text v a u ++ x) (all_uses_append v a us vs)
      ∙ sym (append_assoc (uses text v a u) (all_uses text v a (raw_tms us)) (all_uses text v a (raw_tms vs)))

  mutual
    of_E : {w : List Token} {p : Piece} → E w p → (v a : List Name) → Sub (uses text v a p.tree) w
    of_E (e_fix f n o x c p d s y z e) v a =
        s_skip _ (s_skip _
        (s_skip _ (s_skip _
        (s_skip _ (join (of_T y a)
        (s_skip _ (s_skip _
        (join (of_T z a) (s_skip _ (of_E e (spelled text x ∷ (spelled text n ∷ v)) a))))))))))
    of_E (e_gen g n d e) v a = s_skip _ (s_skip _ (s_skip _ (of_E e v (spelled text n ∷ a))))
    of_E (e_let l n q i x y) v a =
        s_skip _ (s_skip _ (s_skip _ (join (of_E x v a) (s_skip _ (of_E y (spelled text n ∷ v) a)))))
    of_E (e_pack p o c q z x y d) v a =
        s_skip _ (s_skip _ (join (of_T x a) (s_skip _ (join (of_E y v a) (s_skip _ (s_skip _ (of_T d a)))))))
    of_E (e_open p o n c x r q i y z) v a =
        s_skip _ (s_skip _
        (s_skip _ (s_skip _
        (s_skip _ (s_skip _
        (s_skip _ (join (of_E y v a) (s_skip _ (of_E z (spelled text x ∷ v) (spelled text n ∷ a))))))))))
    of_E (e_assign s x y) v a = join (of_S x v a) (s_skip _ (of_S y v a))
    of_E (e_sum x) v a = of_S x v a

    of_S : {w : List Token} {p : Piece} → S w p → (v a : List Name) → Sub (uses text v a p.tree) w
    of_S (s_plus s x y) v a = join (of_S x v a) (s_skip _ (of_M y v a))
    of_S (s_minus s x y) v a = join (of_S x v a) (s_skip _ (of_M y v a))
    of_S (s_product x) v a = of_M x v a

    of_M : {w : List Token} {p : Piece} → M w p → (v a : List Name) → Sub (uses text v a p.tree) w
    of_M (m_star s x y) v a = join (of_M x v a) (s_skip _ (of_A y v a))
    of_M (m_call x) v a = of_A x v a

    of_A : {w : List Token} {p : Piece} → A w p → (v a : List Name) → Sub (uses text v a p.tree) w
    of_A (a_call x y) v a = join (of_A x v a) (of_P y v a)
    of_A (a_inst o c x y) v a = join (of_A x v a) (s_skip _ (more _ (of_T y a)))
    of_A (a_part x) v a = of_P x v a

    of_P : {w : List Token} {p : Piece} → P w p → (v a : List Name) → Sub (uses text v a p.tree) w
    of_P (p_name s) v a = s_take _ _ refl s_end
    of_P (p_plain z s) v a = s_skip _ s_end
    of_P (p_negative z s) v a = s_skip _ s_end
    of_P (p_paren o c e) v a = s_skip _ (more _ (of_E e v a))
    of_P (p_unit o c) v a = s_skip _ (s_skip _ s_end)
    of_P (p_tuple o c x) v a = s_skip _ (more _ (of_Es x v a))
    of_P (p_proj h z s x) v a = s_skip _ (s_skip _ (of_P x v a))
    of_P (p_if0 i o p q l x y z) v a =
        s_skip _ (s_skip _ (join (of_E x v a) (s_skip _ (join (of_E y v a) (s_skip _ (more _ (of_E z v a)))))))
    of_P (p_ref r x) v a = s_skip _ (of_P x v a)
    of_P (p_deref r x) v a = s_skip _ (of_P x v a)

    of_Es : {w : List Token} {ts : List RawTm} → Es w ts → (v a : List Name) → Sub (all_uses text v a (raw_tms ts)) w
    of_Es (es_one {w} {e} x) v a =
        subst (λ (us : List Use). Sub us w) (sym (append-nil (uses text v a e.tree))) (of_E x v a)
    of_Es (es_more {u} {v = w} {ts} {e} c x y) v a =
        let z = subst (λ (us : List Use). Sub us w) (sym (append-nil (uses text v a e.tree))) (of_E y v a) in
        subst (λ (us : List Use). Sub us (u ++ tok k.Comma c ∷ w)) (sym (all_uses_append v a ts (e.tree ∷ [])))
        (join (of_Es x v a) (s_skip (tok k.Comma c) z))

-- the tokens stand one after the other, from the place i on
abbrev InOrder : ℕ → List Token → Type 0
InOrder i [] = Unit {0}
InOrder i (c ∷ w) = (i ≤ c.span.start) × (c.span.start ≤ c.span.end) × InOrder c.span.end w

earlier : (i j : ℕ) (w : List Token) → i ≤ j → InOrder j w → InOrder i w
earlier i j [] l h = tt
earlier i j (c ∷ w) l h = (omega (arith, l, h.0), h.1, h.2)

in_order : {i : ℕ} {s : List ℕ} {w : List Token} → Cut source i s w → InOrder i w
in_order c_end = tt
in_order (c_gap {i} {n} {s} {w} g x) = earlier i (i + n) w (omega arith) (in_order x)
in_order (c_token {i} {n} g k x) = (omega arith, omega arith, in_order x)

ascends : (i : ℕ) {us : List Use} {w : List Token} → Sub us w → InOrder i w → Ascends i us
ascends i s_end h = tt
ascends i (s_skip {us} {w} c x) h = ascends i x (earlier i c.span.end w (omega (arith, h.0, h.1)) h.2)
ascends i (s_take {us} u c e x) h =
    let s = ap (λ (y : Span). y.start) e in
    (omega (arith, h.0, s), subst (λ (y : Span). Ascends y.end us) (sym e) (ascends c.span.end x h.2))

pub uses_in_text_order : UsesInTextOrder
uses_in_text_order text w p c e = ascends 0 (of_E text e [] []) (in_order c)
