-- The term for which a text stands can be written: its numbers are those of tokens, and each name around a place is a
-- token before it.
use Rattle.std.proofs.Common.{◌≡◌, ◌≤◌, ◌<◌, ◌^◌, ◌≤ℤ◌, ℕ, ℤ, zero, suc, ◌+◌, pos, negsuc, neg_ℤ, List, [], ◌∷◌, ◌++◌}
use Rattle.std.proofs.Common.{length, Bool, true, false, Some, None, sym, arith}
use Rattle.std.proofs.Common.{subst, length-append, if◌then◌else◌, ◌==◌, ◌&&◌}
use Rattle.std.specs.Prelude.{nat_abs, bytes_eq}
use Rattle.std.proofs.lemmas.Int.{ints}
use Rattle.std.proofs.lemmas.List.{length-drop}
use Rattle.idx_core.specs.Names.{Name}
use Rattle.idx_core.specs.Over.{IsWord, BelowAt}
use Rattle.text_core.specs.Byte.{value}
use Rattle.text_core.specs.Tokens.{Spells, s_word, s_plain, s_negative, s_sign, s_pair, Item, Spelling}
use Rattle.text_core.specs.Tokens.{Next, n_gap, n_spelling, n_nothing, Cut, c_end, c_gap, c_token, look}
use Rattle.text_core.proofs.Once.{spelling_long}
use Rattle.f_terms.specs.Ty.{Ty, Tys, each_all}
use Rattle.f_terms.specs.Tm.{Tm, Tms, plain, plain_all}
use Rattle.f_lexer.specs.declared.kind.Kind.{Kind}
use Rattle.f_lexer.specs.declared.kind.Kind.TheVariants as k
use Rattle.f_lexer.specs.declared.token.Token.{Token}
use Rattle.f_lexer.specs.Source.{source, Keeps, words, word_in, signs, pair}
use Rattle.f_grammar.specs.Raw.{RawTy, RInt, RName, RTuple, RArrow, RAll, RSome, RRef, RawTys, NoRawTys, MoreRawTys}
use Rattle.f_grammar.specs.Raw.{raw_tys, TyPiece}
use Rattle.f_grammar.specs.Raw.{RawTm, RVar, RNum, RFix, RGen, RApp, RInst, RFields, RProj, RArith, RIf0, RLet, RPack}
use Rattle.f_grammar.specs.Raw.{ROpen, RCell, RDeref, RAssign, RawTms, NoRawTms, MoreRawTms, raw_tms, Piece}
use Rattle.f_grammar.specs.Grammar.{T, t_all, t_some, t_arrow, t_part, U, u_int, u_name, u_unit, u_tuple, u_paren}
use Rattle.f_grammar.specs.Grammar.{u_ref, Ts, ts_one, ts_more}
use Rattle.f_grammar.specs.Grammar.{E, e_fix, e_gen, e_let, e_pack, e_open, e_assign, e_sum, S, s_plus, s_minus}
use Rattle.f_grammar.specs.Grammar.{s_product, M, m_star, m_call, A, a_call, a_inst, a_part, P, p_name}
use Rattle.f_grammar.specs.Grammar.{p_plain as p_natural, p_negative as p_minus, p_paren, p_unit, p_tuple, p_proj}
use Rattle.f_grammar.specs.Grammar.{p_if0, p_ref, p_deref, Es, es_one, es_more}
use Rattle.f_grammar.specs.Scope.{spelled, TypeOf, of_int, of_name, of_tuple, of_arrow, of_all, of_some, of_ref}
use Rattle.f_grammar.specs.Scope.{TypesOf, of_no_types, of_more_types}
use Rattle.f_grammar.specs.Scope.{TermOf, of_var, of_num, of_fix, of_gen, of_app, of_inst, of_fields, of_proj}
use Rattle.f_grammar.specs.Scope.{of_arith, of_if0, of_let, of_pack, of_open, of_cell, of_deref, of_assign, TermsOf}
use Rattle.f_grammar.specs.Scope.{of_no_terms, of_more_terms}
use Rattle.f_writer.specs.Fits.{TypeFits, Fits, AllFit}
use Rattle.f_writer.specs.Laws.{ReadTermsCanBeWritten}
use Rattle.f_grammar.proofs.Closed.{place_below}

-- the numbers of tokens

abbrev pub most : ℕ
most = 9223372036854775807

abbrev Sound : Kind → Type 0
Sound (k.Plain z) = (pos 0 ≤ℤ z) × (z ≤ℤ pos 9223372036854775807)
Sound (k.Negative z) = (negsuc 9223372036854775807 ≤ℤ z) × (z ≤ℤ pos 0)
Sound _ = Unit {0}

-- no number
abbrev NoNumber : Kind → Type 0
NoNumber (k.Plain z) = ⊥
NoNumber (k.Negative z) = ⊥
NoNumber _ = Unit {0}

sound : (x : Kind) → NoNumber x → Sound x
sound (k.Plain z) h = absurd h
sound (k.Negative z) h = absurd h
sound _ h = tt

abbrev NoNumbers : {X : Type 0} → List (X × Kind) → Type 0
NoNumbers [] = Unit {0}
NoNumbers (e ∷ t) = NoNumber e.1 × NoNumbers t

no_word : (t : List (List ℕ × Kind)) (u : List ℕ) → NoNumbers t → NoNumber (word_in t u)
no_word [] u h = tt
no_word (e ∷ t) u h = go (bytes_eq u e.0) (no_word t u h.1)
  where
    go : (b : Bool) → NoNumber (word_in t u) → NoNumber (if b then e.1 else word_in t u)
    go true x = h.0
    go false x = x

no_sign : (t : List (ℕ × Kind)) (b : ℕ) (x : Kind) → NoNumbers t → look t b ≡ Some x → NoNumber x
no_sign [] b x h e = absurd (cc)
no_sign (p ∷ t) b x h e = go (b == p.0) (no_sign t b x h.1) e
  where
    go : (c : Bool) → (look t b ≡ Some x → NoNumber x) → (if c then Some p.1 else look t b) ≡ Some x → NoNumber x
    go true f q = let r : p.1 ≡ x = cc in subst NoNumber r h.0
    go false f q = f q

no_pair : (a b : ℕ) (x : Kind) → pair a b ≡ Some x → NoNumber x
no_pair a b x e = go (a == 45 && b == 62) (a == 58 && b == 61) e
  where
    go : (p q : Bool) → (if p then Some k.Arrow else if q then Some k.Assign else None) ≡ Some x → NoNumber x
    go true q e = let r : k.Arrow ≡ x = cc in subst NoNumber r tt
    go false true e = let r : k.Assign ≡ x = cc in subst NoNumber r tt
    go false false e = absurd (cc)

-- a negative number is at most 0
not_above : (n : ℕ) → neg_ℤ (pos n) ≤ℤ pos 0
not_above zero = omega (arith, ints)
not_above (suc n) = omega (arith, ints)

spelled_sound : {u : List ℕ} {x : Kind} → Spells source u x → Keeps x → Sound x
spelled_sound (s_word b s l h) q = sound (word_in words (b ∷ s))
    (no_word words (b ∷ s) (tt, (tt, (tt, (tt, (tt, (tt, (tt, (tt, (tt, (tt, (tt, (tt, tt)))))))))))))
spelled_sound (s_plain b s h) q = (omega (arith, ints), q)
spelled_sound (s_negative b s h) q = (q, not_above (value (b ∷ s)))
spelled_sound (s_sign b x e) q = sound x (no_sign signs b x
    (tt, (tt, (tt, (tt, (tt, (tt, (tt, (tt, (tt, (tt, (tt, (tt, (tt, (tt, (tt, tt))))))))))))))) e)
spelled_sound (s_pair a b x e) q = sound x (no_pair a b x e)

-- a token has some bytes, and a sound kind
abbrev Right : List ℕ → Item Kind → Type 0
Right s (Spelling x n) = (1 ≤ n) × (n ≤ length s) × (Keeps x → Sound x)
Right s _ = Unit {0}

next_right : {s : List ℕ} {x : Item Kind} → Next source s x → Right s x
next_right (n_gap h) = tt
next_right (n_spelling {u} {r} {k = x} h l) =
    let p : 0 < length u = spelling_long source u x l.spells in
    (omega arith, omega (arith, length-append u r), λ q. spelled_sound l.spells q)
next_right (n_nothing z h f) = tt

abbrev AllSound : List Token → Type 0
AllSound [] = Unit {0}
AllSound (t ∷ w) = Sound t.kind × AllSound w

sound_tokens : {i : ℕ} {s : List ℕ} {w : List Token} → Cut source i s w → AllSound w
sound_tokens c_end = tt
sound_tokens (c_gap h c) = sound_tokens c
sound_tokens (c_token h q c) = ((next_right h).2 q, sound_tokens c)

few_tokens : {i : ℕ} {s : List ℕ} {w : List Token} → Cut source i s w → length w ≤ length s
few_tokens c_end = omega arith
few_tokens (c_gap {n} {s} h c) = let p = few_tokens c in omega (arith, length-drop n s)
few_tokens (c_token {n} {s} h q c) =
    let p = few_tokens c in
    let r = next_right h in
    let a : 1 ≤ n = r.0 in
    let b : n ≤ length s = r.1 in
    omega (arith, length-drop n s)

sound_parts : (u v : List Token) → AllSound (u ++ v) → AllSound u × AllSound v
sound_parts [] v h = (tt, h)
sound_parts (t ∷ u) v h = let p = sound_parts u v h.1 in ((h.0, p.0), p.1)

-- the depths of names in a tree of the grammar

abbrev mutual
  RawTypeFits : ℕ → RawTy → Type 0
  RawTypeFits d RInt = Unit {0}
  RawTypeFits d (RName s) = Unit {0}
  RawTypeFits d (RTuple ts) = RawTypesFit d ts
  RawTypeFits d (RArrow a b) = RawTypeFits d a × RawTypeFits d b
  RawTypeFits d (RAll s t) = IsWord (d + 1) × RawTypeFits (d + 1) t
  RawTypeFits d (RSome s t) = IsWord (d + 1) × RawTypeFits (d + 1) t
  RawTypeFits d (RRef t) = RawTypeFits d t

  RawTypesFit : ℕ → RawTys → Type 0
  RawTypesFit d NoRawTys = Unit {0}
  RawTypesFit d (MoreRawTys t ts) = RawTypeFits d t × RawTypesFit d ts

abbrev mutual
  RawFits : ℕ → ℕ → RawTm → Type 0
  RawFits n m (RVar s) = Unit {0}
  RawFits n m (RNum s z) = (negsuc 9223372036854775807 ≤ℤ z) × (z ≤ℤ pos 9223372036854775807)
  RawFits n m (RFix s f x t r e) = RawTypeFits n t × RawTypeFits n r × IsWord (m + 2) × RawFits n (m + 2) e
  RawFits n m (RGen s x e) = IsWord (n + 1) × RawFits (n + 1) m e
  RawFits n m (RApp s a b) = RawFits n m a × RawFits n m b
  RawFits n m (RInst s e t) = RawFits n m e × RawTypeFits n t
  RawFits n m (RFields s es) = AllRawFit n m es
  RawFits n m (RProj s i e) = (i ≤ 9223372036854775807) × RawFits n m e
  RawFits n m (RArith s op a b) = RawFits n m a × RawFits n m b
  RawFits n m (RIf0 s a b c) = RawFits n m a × RawFits n m b × RawFits n m c
  RawFits n m (RLet s x a b) = RawFits n m a × IsWord (m + 1) × RawFits n (m + 1) b
  RawFits n m (RPack s t e r) = RawTypeFits n t × RawFits n m e × RawTypeFits n r
  RawFits n m (ROpen s x y a b) = RawFits n m a × IsWord (n + 1) × IsWord (m + 1) × RawFits (n + 1) (m + 1) b
  RawFits n m (RCell s e) = RawFits n m e
  RawFits n m (RDeref s e) = RawFits n m e
  RawFits n m (RAssign s a b) = RawFits n m a × RawFits n m b

  AllRawFit : ℕ → ℕ → RawTms → Type 0
  AllRawFit n m NoRawTms = Unit {0}
  AllRawFit n m (MoreRawTms e es) = RawFits n m e × AllRawFit n m es

types_push : (d : ℕ) (ts : List RawTy) (t : RawTy) → RawTypesFit d (raw_tys ts) → RawTypeFits d t →
    RawTypesFit d (raw_tys (ts ++ t ∷ []))
types_push d [] t h x = (x, tt)
types_push d (u ∷ ts) t h x = (h.0, types_push d ts t h.1 x)

terms_push : (n m : ℕ) (es : List RawTm) (e : RawTm) → AllRawFit n m (raw_tms es) → RawFits n m e →
    AllRawFit n m (raw_tms (es ++ e ∷ []))
terms_push n m [] e h x = (x, tt)
terms_push n m (u ∷ es) e h x = (h.0, terms_push n m es e h.1 x)

-- there is room for as many names more as there are tokens
abbrev Room : ℕ → List Token → Type 0
Room d w = d + length w < 2 ^ 64

mutual
  fits_T : {w : List Token} {t : TyPiece} (d : ℕ) → T w t → Room d w → RawTypeFits d t.ty
  fits_T d (t_all {w} a n s t) h = (omega arith, fits_T (d + 1) t (omega arith))
  fits_T d (t_some {w} a n s t) h = (omega arith, fits_T (d + 1) t (omega arith))
  fits_T d (t_arrow {u} {v} s a b) h =
      let l = length-append u (record { kind = k.Arrow; span = s } ∷ v) in
      (fits_U d a (omega arith), fits_T d b (omega arith))
  fits_T d (t_part u) h = fits_U d u h

  fits_U : {w : List Token} {t : TyPiece} (d : ℕ) → U w t → Room d w → RawTypeFits d t.ty
  fits_U d (u_int s) h = tt
  fits_U d (u_name s) h = tt
  fits_U d (u_unit o c) h = tt
  fits_U d (u_tuple {w} o c x) h = let l = length-append w (record { kind = k.RightAngle; span = c } ∷ []) in fits_Ts
      d x (omega arith)
  fits_U d (u_paren {w} o c t) h = let l = length-append w (record { kind = k.RightParen; span = c } ∷ []) in fits_T d
      t (omega arith)
  fits_U d (u_ref r u) h = fits_U d u (omega arith)

  fits_Ts : {w : List Token} {ts : List RawTy} (d : ℕ) → Ts w ts → Room d w → RawTypesFit d (raw_tys ts)
  fits_Ts d (ts_one t) h = (fits_T d t h, tt)
  fits_Ts d (ts_more {u} {v} {ts} {t} c x y) h =
      let l = length-append u (record { kind = k.Comma; span = c } ∷ v) in types_push d ts t.ty
      (fits_Ts d x (omega arith)) (fits_T d y (omega arith))

field_small : (z : ℤ) → pos 0 ≤ℤ z → z ≤ℤ pos 9223372036854775807 → nat_abs z ≤ 9223372036854775807
field_small (pos i) l h = omega (arith, ints, h)
field_small (negsuc i) l h = absurd (omega (arith, ints, l))

-- two parts with a token between them
record Split (n m : ℕ) (u v : List Token) : Type 0 where
  types_left : Room n u
  values_left : Room m u
  types_right : Room n v
  values_right : Room m v
  sound_left : AllSound u
  sound_right : AllSound v

split : (n m : ℕ) (u : List Token) (t : Token) (v : List Token) → Room n (u ++ t ∷ v) → Room m (u ++ t ∷ v) →
    AllSound (u ++ t ∷ v) → Split n m u v
split n m u t v a b s =
    let l = length-append u (t ∷ v) in
    let p = sound_parts u (t ∷ v) s in
    record {
      types_left = omega arith;
      values_left = omega arith;
      types_right = omega arith;
      values_right = omega
          arith;
      sound_left = p.0;
      sound_right = p.1.1;
    }

mutual
  fits_E : {w : List Token} {p : Piece} (n m : ℕ) → E w p → Room n w → Room m w → AllSound w → RawFits n m p.tree
  fits_E n m (e_fix {u} {v} {w} f x o y c p d s t r e) a b h =
      let q = split n m u (record { kind = k.RightParen; span = p })
      (record { kind = k.Colon; span = d } ∷ (v ++ record { kind = k.Dot; span = s } ∷ w)) (omega arith) (omega arith)
      h.1.1.1.1.1 in
      let z = split n m v (record { kind = k.Dot; span = s }) w (omega (arith, q.types_right))
      (omega (arith, q.values_right)) q.sound_right.1 in
      let i = length-append u (record { kind = k.RightParen; span = p } ∷
      (record { kind = k.Colon; span = d } ∷ (v ++ record { kind = k.Dot; span = s } ∷ w))) in
      let j = length-append v (record { kind = k.Dot; span = s } ∷ w) in (
        fits_T n t q.types_left,
        fits_T n r z.types_left,
        omega arith,
        fits_E n (m + 2) e z.types_right (omega arith)
            z.sound_right,
      )
  fits_E n m (e_gen g x d e) a b h = (omega arith, fits_E (n + 1) m e (omega arith) (omega arith) h.1.1.1)
  fits_E n m (e_let {u} {v} l x q i c d) a b h =
      let z = split n m u (record { kind = k.In; span = i }) v (omega arith) (omega arith) h.1.1.1 in
      let j = length-append u (record { kind = k.In; span = i } ∷ v) in (
        fits_E n m c z.types_left z.values_left z.sound_left,
        omega arith,
        fits_E n (m + 1) d z.types_right
            (omega arith) z.sound_right,
      )
  fits_E n m (e_pack {u} {v} {w} p o c q s t e r) a b h =
      let z = split n m u (record { kind = k.Comma; span = c })
      (v ++ record { kind = k.RightBracket; span = q } ∷ (record { kind = k.As; span = s } ∷ w)) (omega arith)
      (omega arith) h.1.1 in
      let y = split n m v (record { kind = k.RightBracket; span = q }) (record { kind = k.As; span = s } ∷ w)
      z.types_right z.values_right z.sound_right in (
        fits_T n t z.types_left,
        fits_E n m e y.types_left y.values_left y.sound_left,
        fits_T n r
            (omega (arith, y.types_right)),
      )
  fits_E n m (e_open {u} {v} p o x c y r q i d e) a b h =
      let z = split n m u (record { kind = k.In; span = i }) v (omega arith) (omega arith) h.1.1.1.1.1.1.1 in
      let j = length-append u (record { kind = k.In; span = i } ∷ v) in (
        fits_E n m d z.types_left z.values_left z.sound_left,
        omega arith,
        omega arith,
        fits_E (n + 1) (m + 1) e
            (omega arith) (omega arith) z.sound_right,
      )
  fits_E n m (e_assign {u} {v} s c d) a b h =
      let z = split n m u (record { kind = k.Assign; span = s }) v a b h in
      (fits_S n m c z.types_left z.values_left z.sound_left, fits_S n m d z.types_right z.values_right z.sound_right)
  fits_E n m (e_sum s) a b h = fits_S n m s a b h

  fits_S : {w : List Token} {p : Piece} (n m : ℕ) → S w p → Room n w → Room m w → AllSound w → RawFits n m p.tree
  fits_S n m (s_plus {u} {v} s c d) a b h =
      let z = split n m u (record { kind = k.Plus; span = s }) v a b h in
      (fits_S n m c z.types_left z.values_left z.sound_left, fits_M n m d z.types_right z.values_right z.sound_right)
  fits_S n m (s_minus {u} {v} s c d) a b h =
      let z = split n m u (record { kind = k.Minus; span = s }) v a b h in
      (fits_S n m c z.types_left z.values_left z.sound_left, fits_M n m d z.types_right z.values_right z.sound_right)
  fits_S n m (s_product x) a b h = fits_M n m x a b h

  fits_M : {w : List Token} {p : Piece} (n m : ℕ) → M w p → Room n w → Room m w → AllSound w → RawFits n m p.tree
  fits_M n m (m_star {u} {v} s c d) a b h =
      let z = split n m u (record { kind = k.Star; span = s }) v a b h in
      (fits_M n m c z.types_left z.values_left z.sound_left, fits_A n m d z.types_right z.values_right z.sound_right)
  fits_M n m (m_call x) a b h = fits_A n m x a b h

  fits_A : {w : List Token} {p : Piece} (n m : ℕ) → A w p → Room n w → Room m w → AllSound w → RawFits n m p.tree
  fits_A n m (a_call {u} {v} c d) a b h =
      let l = length-append u v in
      let s = sound_parts u v h in
      (fits_A n m c (omega arith) (omega arith) s.0, fits_P n m d (omega arith) (omega arith) s.1)
  fits_A n m (a_inst {u} {v} o c x t) a b h =
      let z = split n m u (record { kind = k.LeftBracket; span = o })
      (v ++ record { kind = k.RightBracket; span = c } ∷ []) a b h in
      let y = split n m v (record { kind = k.RightBracket; span = c }) [] z.types_right z.values_right
      z.sound_right in
      (fits_A n m x z.types_left z.values_left z.sound_left, fits_T n t y.types_left)
  fits_A n m (a_part x) a b h = fits_P n m x a b h

  fits_P : {w : List Token} {p : Piece} (n m : ℕ) → P w p → Room n w → Room m w → AllSound w → RawFits n m p.tree
  fits_P n m (p_name s) a b h = tt
  fits_P n m (p_natural z s) a b h = let l = h.0.0 in (omega (arith, ints, l), h.0.1)
  fits_P n m (p_minus z s) a b h = let l = h.0.1 in (h.0.0, omega (arith, ints, l))
  fits_P n m (p_paren {w} o c e) a b h =
      let z = split n m w (record { kind = k.RightParen; span = c }) [] (omega arith) (omega arith) h.1 in fits_E n m
      e z.types_left z.values_left z.sound_left
  fits_P n m (p_unit o c) a b h = tt
  fits_P n m (p_tuple {w} o c x) a b h =
      let z = split n m w (record { kind = k.RightAngle; span = c }) [] (omega arith) (omega arith) h.1 in fits_Es n m
      x z.types_left z.values_left z.sound_left
  fits_P n m (p_proj o z s x) a b h = (field_small z h.1.0.0 h.1.0.1, fits_P n m x (omega arith) (omega arith) h.1.1)
  fits_P n m (p_if0 {u} {v} {w} i o p q l c d e) a b h =
      let x = split n m u (record { kind = k.Comma; span = p })
      (v ++ record { kind = k.Comma; span = q } ∷ (w ++ record { kind = k.RightParen; span = l } ∷ [])) (omega arith)
      (omega arith) h.1.1 in
      let y = split n m v (record { kind = k.Comma; span = q }) (w ++ record { kind = k.RightParen; span = l } ∷ [])
      x.types_right x.values_right x.sound_right in
      let z = split n m w (record { kind = k.RightParen; span = l }) [] y.types_right y.values_right y.sound_right in (
        fits_E n m c x.types_left x.values_left x.sound_left,
        fits_E n m d y.types_left y.values_left y.sound_left,
        fits_E n m e z.types_left z.values_left z.sound_left,
      )
  fits_P n m (p_ref r x) a b h = fits_P n m x (omega arith) (omega arith) h.1
  fits_P n m (p_deref r x) a b h = fits_P n m x (omega arith) (omega arith) h.1

  fits_Es : {w : List Token} {es : List RawTm} (n m : ℕ) → Es w es → Room n w → Room m w → AllSound w →
      AllRawFit n m (raw_tms es)
  fits_Es n m (es_one e) a b h = (fits_E n m e a b h, tt)
  fits_Es n m (es_more {u} {v} {ts} {e} c x y) a b h =
      let z = split n m u (record { kind = k.Comma; span = c }) v a b h in
      terms_push n m ts e.tree (fits_Es n m x z.types_left z.values_left z.sound_left)
      (fits_E n m y z.types_right z.values_right z.sound_right)

-- and in the term, where each name has a binder

longer : (x : Name) (xs : List Name) → length xs + 1 ≡ length (x ∷ xs)
longer x xs = omega arith

two_longer : (x y : Name) (xs : List Name) → length xs + 2 ≡ length (x ∷ (y ∷ xs))
two_longer x y xs = omega arith

module _ (text : List ℕ) where
  mutual
    fits_type : {a : List Name} {r : RawTy} {t : Ty} → TypeOf text a r t → RawTypeFits (length a) r →
        TypeFits (length a) t
    fits_type of_int h = tt
    fits_type {a} (of_name s i p) h = place_below _ a i p
    fits_type (of_tuple x) h = fits_types x h
    fits_type (of_arrow x y) h = (fits_type x h.0, fits_type y h.1)
    fits_type {a} (of_all {t} {u} n x) h = (
      h.0,
      subst (λ d. TypeFits d u) (sym (longer (spelled text n) a))
          (fits_type x (subst (λ d. RawTypeFits d t) (longer (spelled text n) a) h.1)),
    )
    fits_type {a} (of_some {t} {u} n x) h = (
      h.0,
      subst (λ d. TypeFits d u) (sym (longer (spelled text n) a))
          (fits_type x (subst (λ d. RawTypeFits d t) (longer (spelled text n) a) h.1)),
    )
    fits_type (of_ref x) h = fits_type x h

    fits_types : {a : List Name} {rs : RawTys} {ts : Tys} → TypesOf text a rs ts → RawTypesFit (length a) rs →
        each_all BelowAt IsWord (length a) ts
    fits_types of_no_types h = tt
    fits_types (of_more_types x y) h = (fits_type x h.0, fits_types y h.1)

  mutual
    fits_term : {v a : List Name} {r : RawTm} {e : Tm} → TermOf text v a r e → RawFits (length a) (length v) r →
        Fits (plain e) (length a) (length v)
    fits_term {v} (of_var s i p) h = place_below _ v i p
    fits_term (of_num s z) h = h
    fits_term {v} {a} (of_fix {e} {e'} s f x p q b) h = (
      fits_type p h.0,
      fits_type q h.1,
      h.2,
      subst (λ d. Fits (plain e') (length a) d) (sym (two_longer (spelled text x) (spelled text f) v))
          (fits_term b (subst (λ d. RawFits (length a) d e) (two_longer (spelled text x) (spelled text f) v) h.3)),
    )
    fits_term {v} {a} (of_gen {e} {e'} s n b) h = (
      h.0,
      subst (λ d. Fits (plain e') d (length v)) (sym (longer (spelled text n) a))
          (fits_term b (subst (λ d. RawFits d (length v) e) (longer (spelled text n) a) h.1)),
    )
    fits_term (of_app s x y) h = (fits_term x h.0, fits_term y h.1)
    fits_term (of_inst s x t) h = (fits_term x h.0, fits_type t h.1)
    fits_term (of_fields s xs) h = fits_terms xs h
    fits_term (of_proj s n x) h = (h.0, fits_term x h.1)
    fits_term (of_arith s op x y) h = (fits_term x h.0, fits_term y h.1)
    fits_term (of_if0 s x y z) h = (fits_term x h.0, fits_term y h.1, fits_term z h.2)
    fits_term {v} {a} (of_let {e} {e'} s n x b) h = (
      fits_term x h.0,
      h.1,
      subst (λ d. Fits (plain e') (length a) d) (sym (longer (spelled text n) v))
          (fits_term b (subst (λ d. RawFits (length a) d e) (longer (spelled text n) v) h.2)),
    )
    fits_term (of_pack s t x r) h = (fits_type t h.0, fits_term x h.1, fits_type r h.2)
    fits_term {v} {a} (of_open {e} {e'} s n x y b) h =
        let p = longer (spelled text n) a in
        let q = longer (spelled text x) v in
        let raw = subst (λ d. RawFits (length (spelled text n ∷ a)) d e) q
        (subst (λ d. RawFits d (length v + 1) e) p h.3) in
        let done = fits_term b raw in (
          fits_term y h.0,
          h.1,
          h.2,
          subst (λ d. Fits (plain e') (length a + 1) d) (sym q)
              (subst (λ d. Fits (plain e') d (length (spelled text x ∷ v))) (sym p) done),
        )
    fits_term (of_cell s x) h = fits_term x h
    fits_term (of_deref s x) h = fits_term x h
    fits_term (of_assign s x y) h = (fits_term x h.0, fits_term y h.1)

    fits_terms : {v a : List Name} {rs : RawTms} {es : Tms} → TermsOf text v a rs es →
        AllRawFit (length a) (length v) rs → AllFit (plain_all es) (length a) (length v)
    fits_terms of_no_terms h = tt
    fits_terms (of_more_terms x xs) h = (fits_term x h.0, fits_terms xs h.1)

pub can_be_written : ReadTermsCanBeWritten
can_be_written text a few s =
    let l = few_tokens s.cut in
    let room : Room 0 s.tokens = omega arith in
    fits_term text s.bound (fits_E 0 0 s.is_shape room room (sound_tokens s.cut))
