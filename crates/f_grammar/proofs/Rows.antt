-- What is read stands in the grammar: one row for each production.
use Rattle.std.proofs.Common.{ℤ, ◌≡◌, List, [], ◌∷◌, ◌++◌, refl, ◌∙◌, ap, append_assoc, true}
use Rattle.std.proofs.lemmas.List.{append-nil}
use Rattle.idx_core.specs.declared.span.Span.{Span}
use Rattle.f_lexer.specs.declared.token.Token.{Token}
use Rattle.f_lexer.specs.declared.kind.Kind.{Kind}
use Rattle.f_lexer.specs.declared.kind.Kind.TheVariants as k
use Rattle.f_grammar.specs.declared.cursor.Wanted.TheVariants as want
use Rattle.f_grammar.specs.declared.types.Quantifier.TheVariants.{All, Exists}
use Rattle.idx_core.specs.declared.arith.Op.{Op}
use Rattle.idx_core.specs.declared.arith.Op.TheVariants.{Add, Sub, Mul}
use Rattle.f_grammar.specs.Raw.{RawTy, TyPiece, arrow_ty, Piece, arith, assign, RawTm}
use Rattle.f_grammar.specs.Grammar.{tok, T, U, Ts, t_all, t_some, t_arrow, t_part, u_int, u_name, u_unit, u_tuple}
use Rattle.f_grammar.specs.Grammar.{u_paren, u_ref, ts_one, ts_more, E, S, M, A, P, Es, e_fix, e_gen, e_let, e_pack}
use Rattle.f_grammar.specs.Grammar.{e_open, e_assign, e_sum, s_plus, s_minus, s_product, m_star, m_call, a_call}
use Rattle.f_grammar.specs.Grammar.{a_inst, a_part, p_name, p_plain, p_negative, p_paren, p_unit, p_tuple, p_proj}
use Rattle.f_grammar.specs.Grammar.{p_if0, p_ref, p_deref, es_one, es_more}
use Rattle.text_core.specs.Table.{Tm, Nt, Do, Mark}
use Rattle.text_core.proofs.Rules as rules
use Rattle.text_core.proofs.Rules.{Meaning, Matches, m_tm, m_nt, m_do, m_mark, Row, Made, Extends}
use Rattle.f_grammar.specs.Machine.{table, Class, Line, LE, LP, LParam, LBranches, LFields, LHidden, LNames, MoreParts}
use Rattle.f_grammar.specs.Machine.{MoreFactors, MoreSums, MoreAssign, MoreFields, LT, LU, LTypes, MoreArrow}
use Rattle.f_grammar.specs.Machine.{MoreTypes, MakeVar, MakeNumber, MakeFix, MakeGen, MakeParen, MakeUnit, MakeTuple}
use Rattle.f_grammar.specs.Machine.{MakeProj, MakeIf0, MakeCall, MakeInst, MakeArith, MakeLet, MakePack, MakeOpen}
use Rattle.f_grammar.specs.Machine.{MakeRef, MakeDeref, MakeAssign, MakeNext, TypeInt, TypeName, TypeParen, TypeUnit}
use Rattle.f_grammar.specs.Machine.{TypeTuple, TypeArrow, TypeRef, TypeNext, Stack, Val, OfToken, OfTerm, OfTerms}
use Rattle.f_grammar.specs.Machine.{OfType, OfTypes, fits, act, part_after, sum_tail, expr_after, fields_after}
use Rattle.f_grammar.specs.Machine.{fields_tail, parts_after, parts_tail, unit_after, type_after, type_tail}
use Rattle.f_grammar.specs.Machine.{types_after, types_tail, term_owed, body_owed, assign_owed, bound_owed, may_end}
use Rattle.f_grammar.specs.Machine.{after}

-- tokens of a class
pub data Is : Class → Token → Type 0 where
  is_name : (s : Span) → Is want.Name (tok k.Name s)
  is_plain : (n : ℤ) (s : Span) → Is want.Number (tok (k.Plain n) s)
  is_left_paren : (s : Span) → Is want.LeftParen (tok k.LeftParen s)
  is_right_paren : (s : Span) → Is want.RightParen (tok k.RightParen s)
  is_right_angle : (s : Span) → Is want.RightAngle (tok k.RightAngle s)
  is_left_bracket : (s : Span) → Is want.LeftBracket (tok k.LeftBracket s)
  is_right_bracket : (s : Span) → Is want.RightBracket (tok k.RightBracket s)
  is_comma : (s : Span) → Is want.Comma (tok k.Comma s)
  is_dot : (s : Span) → Is want.Dot (tok k.Dot s)
  is_colon : (s : Span) → Is want.Colon (tok k.Colon s)
  is_equals : (s : Span) → Is want.Equals (tok k.Equals s)
  is_in : (s : Span) → Is want.In (tok k.In s)
  is_as : (s : Span) → Is want.As (tok k.As s)
  is_assign : (s : Span) → Is want.Assign (tok k.Assign s)
  is_arrow : (s : Span) → Is want.Arrow (tok k.Arrow s)
  is_star : (s : Span) → Is want.Star (tok k.Star s)
  is_fix : (s : Span) → Is want.Fix (tok k.Fix s)
  is_gen : (s : Span) → Is want.Gen (tok k.Gen s)
  is_let : (s : Span) → Is want.Let (tok k.Let s)
  is_pack : (s : Span) → Is want.Pack (tok k.Pack s)
  is_open : (s : Span) → Is want.Open (tok k.Open s)

pub is_of : (c : Class) (t : Kind) (s : Span) → fits c t ≡ true → Is c (tok t s)
is_of want.Name k.Name s e = is_name s
is_of want.Number (k.Plain n) s e = is_plain n s
is_of want.LeftParen k.LeftParen s e = is_left_paren s
is_of want.RightParen k.RightParen s e = is_right_paren s
is_of want.RightAngle k.RightAngle s e = is_right_angle s
is_of want.LeftBracket k.LeftBracket s e = is_left_bracket s
is_of want.RightBracket k.RightBracket s e = is_right_bracket s
is_of want.Comma k.Comma s e = is_comma s
is_of want.Dot k.Dot s e = is_dot s
is_of want.Colon k.Colon s e = is_colon s
is_of want.Equals k.Equals s e = is_equals s
is_of want.In k.In s e = is_in s
is_of want.As k.As s e = is_as s
is_of want.Assign k.Assign s e = is_assign s
is_of want.Arrow k.Arrow s e = is_arrow s
is_of want.Star k.Star s e = is_star s
is_of want.Fix k.Fix s e = is_fix s
is_of want.Gen k.Gen s e = is_gen s
is_of want.Let k.Let s e = is_let s
is_of want.Pack k.Pack s e = is_pack s
is_of want.Open k.Open s e = is_open s
is_of _ _ s e = absurd (cc)

abbrev piece : Piece → Val
piece p = OfTerm p

abbrev pieces : (List RawTm) → Val
pieces ts = OfTerms ts

abbrev type : TyPiece → Val
type t = OfType t

abbrev types : (List RawTy) → Val
types ts = OfTypes ts

-- the tokens w are of this line, and take these values to those
pub data Sem : Line → List Val → List Token → List Val → Type 0 where
  sem_E : {vs : List Val} {w : List Token} {e : Piece} → E w e → Sem LE vs w (OfTerm e ∷ vs)
  sem_P : {vs : List Val} {w : List Token} {e : Piece} → P w e → Sem LP vs w (OfTerm e ∷ vs)
  sem_param : {vs : List Val} {w : List Token} {t : TyPiece} (o x c p : Span) → T w t →
      Sem LParam vs (tok k.LeftParen o ∷ (tok k.Name x ∷ (tok k.Colon c ∷ (w ++ tok k.RightParen p ∷ []))))
      (OfToken (tok k.RightParen p)
      ∷ (OfType t ∷ (OfToken (tok k.Colon c) ∷ (OfToken (tok k.Name x) ∷ (OfToken (tok k.LeftParen o) ∷ vs)))))
  sem_branches : {vs : List Val} {u v w : List Token} {a b c : Piece} (o p q l : Span) → E u a → E v b → E w c →
      Sem LBranches vs
      (tok k.LeftParen o ∷ (u ++ tok k.Comma p ∷ (v ++ tok k.Comma q ∷ (w ++ tok k.RightParen l ∷ []))))
      (OfToken (tok k.RightParen l)
      ∷ (OfTerm c ∷ (OfToken (tok k.Comma q)
      ∷ (OfTerm b ∷ (OfToken (tok k.Comma p) ∷ (OfTerm a ∷ (OfToken (tok k.LeftParen o) ∷ vs)))))))
  sem_hidden : {vs : List Val} {u v : List Token} {t : TyPiece} {e : Piece} (o c q : Span) → T u t → E v e →
      Sem LHidden vs (tok k.LeftBracket o ∷ (u ++ tok k.Comma c ∷ (v ++ tok k.RightBracket q ∷ [])))
      (OfToken (tok k.RightBracket q)
      ∷ (OfTerm e ∷ (OfToken (tok k.Comma c) ∷ (OfType t ∷ (OfToken (tok k.LeftBracket o) ∷ vs)))))
  sem_names : {vs : List Val} (o n c x q : Span) →
      Sem LNames vs
      (tok k.LeftBracket o ∷ (tok k.Name n ∷ (tok k.Comma c ∷ (tok k.Name x ∷ (tok k.RightBracket q ∷ [])))))
      (OfToken (tok k.RightBracket q)
      ∷ (OfToken (tok k.Name x)
      ∷ (OfToken (tok k.Comma c) ∷ (OfToken (tok k.Name n) ∷ (OfToken (tok k.LeftBracket o) ∷ vs)))))
  sem_no_fields : {vs : List Val} (c : Span) →
      Sem LFields vs (tok k.RightAngle c ∷ []) (OfToken (tok k.RightAngle c) ∷ (OfTerms [] ∷ vs))
  sem_fields : {vs : List Val} {w : List Token} {ts : (List RawTm)} (c : Span) → Es w ts →
      Sem LFields vs (w ++ tok k.RightAngle c ∷ []) (OfToken (tok k.RightAngle c) ∷ (OfTerms ts ∷ vs))
  sem_parts : {vs us : List Val} {w : List Token} → Extends table piece A A w vs us → Sem MoreParts vs w us
  sem_factors : {vs us : List Val} {w : List Token} → Extends table piece M M w vs us → Sem MoreFactors vs w us
  sem_sums : {vs us : List Val} {w : List Token} → Extends table piece S S w vs us → Sem MoreSums vs w us
  sem_assign : {vs us : List Val} {w : List Token} → Extends table piece S E w vs us → Sem MoreAssign vs w us
  sem_commas : {vs us : List Val} {w : List Token} → Extends table pieces Es Es w vs us → Sem MoreFields vs w us
  sem_T : {vs : List Val} {w : List Token} {t : TyPiece} → T w t → Sem LT vs w (OfType t ∷ vs)
  sem_U : {vs : List Val} {w : List Token} {t : TyPiece} → U w t → Sem LU vs w (OfType t ∷ vs)
  sem_no_types : {vs : List Val} (c : Span) →
      Sem LTypes vs (tok k.RightAngle c ∷ []) (OfToken (tok k.RightAngle c) ∷ (OfTypes [] ∷ vs))
  sem_types : {vs : List Val} {w : List Token} {ts : (List RawTy)} (c : Span) → Ts w ts →
      Sem LTypes vs (w ++ tok k.RightAngle c ∷ []) (OfToken (tok k.RightAngle c) ∷ (OfTypes ts ∷ vs))
  sem_arrow : {vs us : List Val} {w : List Token} → Extends table type U T w vs us → Sem MoreArrow vs w us
  sem_type_commas : {vs us : List Val} {w : List Token} → Extends table types Ts Ts w vs us → Sem MoreTypes vs w us

abbrev pub meaning : Meaning table
meaning = record { Is = λ c t. Is c t; Sem = λ n vs w us. Sem n vs w us }

abbrev Meets : Stack → List Val → List Token → List Val → Type 0
Meets s vs w r = Matches table meaning s vs w r

along : {s : Stack} {vs r : List Val} {u w : List Token} → Meets s vs u r → u ≡ w → Meets s vs w r
along m e = rules.along table meaning e m

-- the values are those
with_values : {s : Stack} {vs us r : List Val} {w : List Token} → vs ≡ us → Meets s vs w r → Meets s us w r
with_values e m = rules.with_values table meaning e m

abbrev Begun : Line → Kind → Stack → Span → Type 0
Begun n c rhs o = (s : Stack) (vs r : List Val) (w : List Token) → Meets (rhs ++ s) (OfToken (tok c o) ∷ vs) w r →
    Meets (Nt n ∷ s) vs (tok c o ∷ w) r

-- types
row_int : (o : Span) → Begun LU k.Int (Do TypeInt ∷ []) o
row_int o s vs r w (m_do m) = m_nt (sem_U (u_int o)) m

row_type_name : (o : Span) → Begun LU k.Name (Do TypeName ∷ []) o
row_type_name o s vs r w (m_do m) = m_nt (sem_U (u_name o)) m

row_type_tuple : (o : Span) → Begun LU k.LeftAngle (Nt LTypes ∷ (Mark ∷ (Do TypeTuple ∷ []))) o
row_type_tuple o s vs r _ (m_nt (sem_no_types c) (m_mark (m_do m))) = m_nt (sem_U (u_unit o c)) m
row_type_tuple o s vs r _ (m_nt (sem_types c d) (m_mark (m_do m))) = m_nt (sem_U (u_tuple o c d)) m

row_type_paren : (o : Span) → Begun LU k.LeftParen (Nt LT ∷ (Tm want.RightParen ∷ (Mark ∷ (Do TypeParen ∷ [])))) o
row_type_paren o s vs r _ (m_nt (sem_T d) (m_tm (is_right_paren c) (m_mark (m_do m)))) =
    along (m_nt (sem_U (u_paren o c d)) m) (simp append_assoc)

row_ref_type : (o : Span) → Begun LU k.Ref (Nt LU ∷ (Mark ∷ (Do TypeRef ∷ []))) o
row_ref_type o s vs r _ (m_nt (sem_U d) (m_mark (m_do m))) = m_nt (sem_U (u_ref o d)) m

row_some : (o : Span) → Begun LT k.Some (bound_owed Exists) o
row_some o s vs r _ (m_tm (is_name n) (m_tm (is_dot d) (m_nt (sem_T t) (m_mark (m_do m))))) =
    m_nt (sem_T (t_some o n d t)) m

row_all : (o : Span) → Begun LT k.All (bound_owed All) o
row_all o s vs r _ (m_tm (is_name n) (m_tm (is_dot d) (m_nt (sem_T t) (m_mark (m_do m))))) =
    m_nt (sem_T (t_all o n d t)) m

row_unit : (s : Stack) (vs r : List Val) (w : List Token) → Meets (Nt LU ∷ (Nt MoreArrow ∷ s)) vs w r →
    Meets (Nt LT ∷ s) vs w r
row_unit s vs r _ (m_nt (sem_U d) (m_nt (sem_arrow f) m)) =
    let h = f _ _ vs refl d in along (m_nt (sem_T h.whole) (with_values h.is m)) (simp append_assoc)

row_arrow : (o : Span) → Begun MoreArrow k.Arrow (Nt LT ∷ (Mark ∷ (Do TypeArrow ∷ []))) o
row_arrow o s vs r _ (m_nt {u} (sem_T {t} d) (m_mark (m_do m))) =
    m_nt {u = tok k.Arrow o ∷ u}
    (sem_arrow (λ x a below q h.
    record {
      value = arrow_ty a t;
      whole = t_arrow o h d;
      is = ap (λ (l : List Val). act TypeArrow (OfType t ∷ (OfToken (tok k.Arrow o) ∷ l))) q;
    })) m

row_no_types : (o : Span) → Begun LTypes k.RightAngle (Do TypeUnit ∷ []) o
row_no_types o s vs r w (m_do m) = m_nt (sem_no_types o) m

row_types : (s : Stack) (vs r : List Val) (w : List Token) → Meets (Nt LT ∷ (types_tail ++ s)) vs w r →
    Meets (Nt LTypes ∷ s) vs w r
row_types s vs r _ (m_nt (sem_T d) (m_do (m_nt (sem_type_commas f) (m_tm (is_right_angle c) m)))) =
    let h = f _ _ vs refl (ts_one d) in
    along (m_nt (sem_types c h.whole) (with_values (ap (λ (l : List Val). OfToken (tok k.RightAngle c) ∷ l) h.is) m))
    (simp append_assoc)

row_type_comma : (o : Span) → Begun MoreTypes k.Comma (Nt LT ∷ (Do TypeNext ∷ (Nt MoreTypes ∷ []))) o
row_type_comma o s vs r _ (m_nt {u} (sem_T {t} d) (m_do (m_nt {u = v} (sem_type_commas f) m))) =
    along (m_nt {u = tok k.Comma o ∷ (u ++ v)} (sem_type_commas (λ x a below q h.
    rules.moved table types Ts
    (f _ _ below (ap (λ (l : List Val). act TypeNext (OfType t ∷ (OfToken (tok k.Comma o) ∷ l))) q)
    (ts_more o h d)) (simp append_assoc))) m) (simp append_assoc)

-- terms
row_name : (o : Span) → Begun LP k.Name (Do MakeVar ∷ []) o
row_name o s vs r w (m_do m) = m_nt (sem_P (p_name o)) m

row_plain : (n : ℤ) (o : Span) → Begun LP (k.Plain n) (Do MakeNumber ∷ []) o
row_plain n o s vs r w (m_do m) = m_nt (sem_P (p_plain n o)) m

row_negative : (n : ℤ) (o : Span) → Begun LP (k.Negative n) (Do MakeNumber ∷ []) o
row_negative n o s vs r w (m_do m) = m_nt (sem_P (p_negative n o)) m

row_paren : (o : Span) → Begun LP k.LeftParen (Nt LE ∷ (Tm want.RightParen ∷ (Mark ∷ (Do MakeParen ∷ [])))) o
row_paren o s vs r _ (m_nt (sem_E d) (m_tm (is_right_paren c) (m_mark (m_do m)))) =
    along (m_nt (sem_P (p_paren o c d)) m) (simp append_assoc)

row_tuple : (o : Span) → Begun LP k.LeftAngle (Nt LFields ∷ (Mark ∷ (Do MakeTuple ∷ []))) o
row_tuple o s vs r _ (m_nt (sem_no_fields c) (m_mark (m_do m))) = m_nt (sem_P (p_unit o c)) m
row_tuple o s vs r _ (m_nt (sem_fields c d) (m_mark (m_do m))) = m_nt (sem_P (p_tuple o c d)) m

row_proj : (o : Span) → Begun LP k.Hash (Tm want.Number ∷ (Nt LP ∷ (Mark ∷ (Do MakeProj ∷ [])))) o
row_proj o s vs r _ (m_tm (is_plain n i) (m_nt (sem_P d) (m_mark (m_do m)))) = m_nt (sem_P (p_proj o n i d)) m

row_if0 : (o : Span) → Begun LP k.If0 (Nt LBranches ∷ (Do MakeIf0 ∷ [])) o
row_if0 i s vs r _ (m_nt (sem_branches o p q l a b c) (m_do m)) = m_nt (sem_P (p_if0 i o p q l a b c)) m

row_branches : (o : Span) →
    Begun LBranches k.LeftParen
    (Nt LE ∷ (Tm want.Comma ∷ (Nt LE ∷ (Tm want.Comma ∷ (Nt LE ∷ (Tm want.RightParen ∷ (Mark ∷ []))))))) o
row_branches o s vs r _
    (m_nt (sem_E a)
    (m_tm (is_comma p) (m_nt (sem_E b) (m_tm (is_comma q) (m_nt (sem_E c) (m_tm (is_right_paren l) (m_mark m))))))) =
    along (m_nt (sem_branches o p q l a b c) m) (simp append_assoc)

row_ref : (o : Span) → Begun LP k.Ref (Nt LP ∷ (Mark ∷ (Do MakeRef ∷ []))) o
row_ref o s vs r _ (m_nt (sem_P d) (m_mark (m_do m))) = m_nt (sem_P (p_ref o d)) m

row_deref : (o : Span) → Begun LP k.Bang (Nt LP ∷ (Mark ∷ (Do MakeDeref ∷ []))) o
row_deref o s vs r _ (m_nt (sem_P d) (m_mark (m_do m))) = m_nt (sem_P (p_deref o d)) m

row_hidden : (o : Span) →
    Begun LHidden k.LeftBracket (Nt LT ∷ (Tm want.Comma ∷ (Nt LE ∷ (Tm want.RightBracket ∷ (Mark ∷ []))))) o
row_hidden o s vs r _ (m_nt (sem_T t) (m_tm (is_comma c) (m_nt (sem_E e) (m_tm (is_right_bracket q) (m_mark m))))) =
    along (m_nt (sem_hidden o c q t e) m) (simp append_assoc)

row_names : (o : Span) →
    Begun LNames k.LeftBracket (Tm want.Name ∷ (Tm want.Comma ∷ (Tm want.Name ∷ (Tm want.RightBracket ∷ (Mark ∷ [])))))
    o
row_names o s vs r _ (m_tm (is_name n) (m_tm (is_comma c) (m_tm (is_name x) (m_tm (is_right_bracket q) (m_mark m))))) =
    m_nt (sem_names o n c x q) m

row_let : (o : Span) → Begun LE k.Let (Tm want.Name ∷ body_owed MakeLet) o
row_let l s vs r _
    (m_tm (is_name n) (m_tm (is_equals q) (m_nt (sem_E a) (m_tm (is_in i) (m_mark (m_nt (sem_E b) (m_do m))))))) =
    along (m_nt (sem_E (e_let l n q i a b)) m) (simp append_assoc)

row_pack : (o : Span) → Begun LE k.Pack (Nt LHidden ∷ (Tm want.As ∷ (Nt LT ∷ (Do MakePack ∷ [])))) o
row_pack p s vs r _ (m_nt (sem_hidden o c q t e) (m_tm (is_as z) (m_nt (sem_T y) (m_do m)))) =
    along (m_nt (sem_E (e_pack p o c q z t e y)) m) (simp append_assoc)

row_open : (o : Span) → Begun LE k.Open (Nt LNames ∷ body_owed MakeOpen) o
row_open p s vs r _
    (m_nt (sem_names o n c x z)
    (m_tm (is_equals q) (m_nt (sem_E a) (m_tm (is_in i) (m_mark (m_nt (sem_E b) (m_do m))))))) =
    along (m_nt (sem_E (e_open p o n c x z q i a b)) m) (simp append_assoc)

row_param : (o : Span) →
    Begun LParam k.LeftParen (Tm want.Name ∷ (Tm want.Colon ∷ (Nt LT ∷ (Tm want.RightParen ∷ (Mark ∷ []))))) o
row_param o s vs r _ (m_tm (is_name x) (m_tm (is_colon c) (m_nt (sem_T t) (m_tm (is_right_paren p) (m_mark m))))) =
    along (m_nt (sem_param o x c p t) m) (simp append_assoc)

row_fix : (o : Span) →
    Begun LE k.Fix
    (Tm want.Name ∷ (Nt LParam ∷ (Tm want.Colon ∷ (Nt LT ∷ (Tm want.Dot ∷ (Nt LE ∷ (Mark ∷ (Do MakeFix ∷ [])))))))) o
row_fix f s vs r _
    (m_tm (is_name n)
    (m_nt (sem_param o x c p t)
    (m_tm (is_colon d) (m_nt (sem_T y) (m_tm (is_dot b) (m_nt (sem_E e) (m_mark (m_do m)))))))) =
    along (m_nt (sem_E (e_fix f n o x c p d b t y e)) m) (simp append_assoc)

row_gen : (o : Span) → Begun LE k.Gen (Tm want.Name ∷ (Tm want.Dot ∷ (Nt LE ∷ (Mark ∷ (Do MakeGen ∷ []))))) o
row_gen o s vs r _ (m_tm (is_name n) (m_tm (is_dot d) (m_nt (sem_E e) (m_mark (m_do m))))) =
    m_nt (sem_E (e_gen o n d e)) m

chain_A : {b : Piece} {u v : List Token} {vs us : List Val} → P u b → Sem MoreParts (OfTerm b ∷ vs) v us →
    Made table piece A (u ++ v) vs us
chain_A {u} {vs} d (sem_parts f) = f u _ vs refl (a_part d)

chain_M : {b : Piece} {u v x : List Token} {vs us ws : List Val} → P u b → Sem MoreParts (OfTerm b ∷ vs) v us →
    Sem MoreFactors us x ws → Made table piece M ((u ++ v) ++ x) vs ws
chain_M {u} {v} {vs} d p (sem_factors f) = let h = chain_A d p in f (u ++ v) h.value vs h.is (m_call h.whole)

chain_S : {b : Piece} {u v x y : List Token} {vs us ws zs : List Val} → P u b → Sem MoreParts (OfTerm b ∷ vs) v us →
    Sem MoreFactors us x ws → Sem MoreSums ws y zs →
    Made table piece S (((u ++ v) ++ x) ++ y) vs zs
chain_S {u} {v} {x} {vs} d p q (sem_sums f) =
    let h = chain_M d p q in f ((u ++ v) ++ x) h.value vs h.is (s_product h.whole)

row_sum : (s : Stack) (vs r : List Val) (w : List Token) → Meets (Nt LP ∷ (sum_tail ++ s)) vs w r →
    Meets (Nt LE ∷ s) vs w r
row_sum s vs r _ (m_nt (sem_P d) (m_nt p (m_nt q (m_nt z (m_nt (sem_assign f) m))))) =
    let h = chain_S d p q z in
    let i = f _ h.value vs h.is h.whole in along (m_nt (sem_E i.whole) (with_values i.is m)) (simp append_assoc)

row_assign : (o : Span) → Begun MoreAssign k.Assign assign_owed o
row_assign o s vs r _ (m_nt {u} (sem_P d) (m_nt {u = v} p (m_nt {u = y} g (m_nt {u = x} z (m_do m))))) =
    let b = chain_S d p g z in
    along (m_nt {u = tok k.Assign o ∷ (((u ++ v) ++ y) ++ x)} (sem_assign (λ i a below q h. record {
      value = assign a b.value;
      whole = e_assign o h b.whole;
      is = ap (λ (l : List Val). act MakeAssign l) b.is
          ∙ ap (λ (l : List Val). act MakeAssign (OfTerm b.value ∷ (OfToken (tok k.Assign o) ∷ l))) q;
    })) m) (simp append_assoc)

row_call : (s : Stack) (vs r : List Val) (w : List Token) → Meets (Nt LP ∷ (parts_tail ++ s)) vs w r →
    Meets (Nt MoreParts ∷ s) vs w r
row_call s vs r _ (m_nt {u} (sem_P {e} d) (m_do (m_nt {u = v} (sem_parts f) m))) =
    along (m_nt {u = u ++ v} (sem_parts (λ x a below q h.
    rules.moved table piece A (f _ _ below (ap (λ (l : List Val). act MakeCall (OfTerm e ∷ l)) q) (a_call h d))
    (simp append_assoc))) m) (simp append_assoc)

row_inst : (o : Span) →
    Begun MoreParts k.LeftBracket (Nt LT ∷ (Tm want.RightBracket ∷ (Mark ∷ (Do MakeInst ∷ (Nt MoreParts ∷ []))))) o
row_inst o s vs r _
    (m_nt {u} (sem_T {t} d) (m_tm (is_right_bracket c) (m_mark (m_do (m_nt {u = v} (sem_parts f) m))))) =
    along (m_nt {u = tok k.LeftBracket o ∷ (u ++ tok k.RightBracket c ∷ v)} (sem_parts (λ x a below q h.
    rules.moved table piece A
    (f _ _ below
    (ap (λ (l : List Val).
    act MakeInst (OfToken (tok k.RightBracket c) ∷ (OfType t ∷ (OfToken (tok k.LeftBracket o) ∷ l)))) q)
    (a_inst o c h d)) (simp append_assoc))) m) (simp append_assoc)

row_times : (o : Span) →
    Begun MoreFactors k.Star (Nt LP ∷ (Nt MoreParts ∷ (Do (MakeArith Mul) ∷ (Nt MoreFactors ∷ [])))) o
row_times o s vs r _ (m_nt {u} (sem_P d) (m_nt {us} {u = v} p (m_do (m_nt {u = x} (sem_factors f) m)))) =
    let b = chain_A d p in
    along (m_nt {u = tok k.Star o ∷ (u ++ (v ++ x))} (sem_factors (λ y a below q h.
    rules.moved table piece M
    (f _ _ below
    (ap (λ (l : List Val). act (MakeArith Mul) l) b.is
    ∙ ap (λ (l : List Val). act (MakeArith Mul) (OfTerm b.value ∷ (OfToken (tok k.Star o) ∷ l))) q)
    (m_star o h b.whole)) (simp append_assoc))) m) (simp append_assoc)

row_term : (op : Op) (c : Kind) →
    ((u v : List Token) (a b : Piece) (s : Span) → S u a → M v b → S (u ++ tok c s ∷ v) (arith op a b)) → (o : Span) →
    Begun MoreSums c (term_owed op) o
row_term op c z o s vs r _ (m_nt {u} (sem_P d) (m_nt {u = v} p (m_nt {u = y} g (m_do (m_nt {u = x} (sem_sums f) m))))) =
    let b = chain_M d p g in
    along (m_nt {u = tok c o ∷ (u ++ (v ++ (y ++ x)))} (sem_sums (λ i a below q h.
    rules.moved table piece S
    (f _ _ below
    (ap (λ (l : List Val). act (MakeArith op) l) b.is
    ∙ ap (λ (l : List Val). act (MakeArith op) (OfTerm b.value ∷ (OfToken (tok c o) ∷ l))) q)
    (z _ _ _ _ o h b.whole)) (simp append_assoc))) m) (simp append_assoc)

row_no_fields : (o : Span) → Begun LFields k.RightAngle (Do MakeUnit ∷ []) o
row_no_fields o s vs r w (m_do m) = m_nt (sem_no_fields o) m

row_fields : (s : Stack) (vs r : List Val) (w : List Token) → Meets (Nt LE ∷ (fields_tail ++ s)) vs w r →
    Meets (Nt LFields ∷ s) vs w r
row_fields s vs r _ (m_nt (sem_E d) (m_do (m_nt (sem_commas f) (m_tm (is_right_angle c) m)))) =
    let h = f _ _ vs refl (es_one d) in
    along (m_nt (sem_fields c h.whole) (with_values (ap (λ (l : List Val). OfToken (tok k.RightAngle c) ∷ l) h.is) m))
    (simp append_assoc)

row_comma : (o : Span) → Begun MoreFields k.Comma (Nt LE ∷ (Do MakeNext ∷ (Nt MoreFields ∷ []))) o
row_comma o s vs r _ (m_nt {u} (sem_E {e} d) (m_do (m_nt {u = v} (sem_commas f) m))) =
    along (m_nt {u = tok k.Comma o ∷ (u ++ v)} (sem_commas (λ x a below q h.
    rules.moved table pieces Es
    (f _ _ below (ap (λ (l : List Val). act MakeNext (OfTerm e ∷ (OfToken (tok k.Comma o) ∷ l))) q)
    (es_more o h d)) (simp append_assoc))) m) (simp append_assoc)

-- the rows of each line
part_row : (c : Kind) (p : Span) → Row table meaning LP (tok c p) (part_after c)
part_row k.Name p = row_name p
part_row (k.Plain n) p = row_plain n p
part_row (k.Negative n) p = row_negative n p
part_row k.LeftParen p = row_paren p
part_row k.LeftAngle p = row_tuple p
part_row k.Hash p = row_proj p
part_row k.If0 p = row_if0 p
part_row k.Ref p = row_ref p
part_row k.Bang p = row_deref p
part_row _ p = tt

expr_row : (c : Kind) (p : Span) → Row table meaning LE (tok c p) (expr_after c)
expr_row k.Fix p = row_fix p
expr_row k.Gen p = row_gen p
expr_row k.Let p = row_let p
expr_row k.Pack p = row_pack p
expr_row k.Open p = row_open p
expr_row c p = rules.more_row table meaning LP LE (tok c p) sum_tail row_sum (part_after c) (part_row c p)

parts_row : (c : Kind) (p : Span) → Row table meaning MoreParts (tok c p) (parts_after c)
parts_row k.LeftBracket p = row_inst p
parts_row c p = rules.more_row table meaning LP MoreParts (tok c p) parts_tail row_call (part_after c) (part_row c p)

fields_row : (c : Kind) (p : Span) → Row table meaning LFields (tok c p) (fields_after c)
fields_row k.RightAngle p = row_no_fields p
fields_row c p = rules.more_row table meaning LE LFields (tok c p) fields_tail row_fields (expr_after c) (expr_row c p)

unit_row : (c : Kind) (p : Span) → Row table meaning LU (tok c p) (unit_after c)
unit_row k.Int p = row_int p
unit_row k.Name p = row_type_name p
unit_row k.LeftAngle p = row_type_tuple p
unit_row k.LeftParen p = row_type_paren p
unit_row k.Ref p = row_ref_type p
unit_row _ p = tt

type_row : (c : Kind) (p : Span) → Row table meaning LT (tok c p) (type_after c)
type_row k.All p = row_all p
type_row k.Some p = row_some p
type_row c p = rules.more_row table meaning LU LT (tok c p) type_tail row_unit (unit_after c) (unit_row c p)

types_row : (c : Kind) (p : Span) → Row table meaning LTypes (tok c p) (types_after c)
types_row k.RightAngle p = row_no_types p
types_row c p = rules.more_row table meaning LT LTypes (tok c p) types_tail row_types (type_after c) (type_row c p)

pub row : (n : Line) (c : Kind) (p : Span) → Row table meaning n (tok c p) (after n c)
row LE c p = expr_row c p
row LP c p = part_row c p
row LParam k.LeftParen p = row_param p
row LParam _ p = tt
row LBranches k.LeftParen p = row_branches p
row LBranches _ p = tt
row LFields c p = fields_row c p
row LHidden k.LeftBracket p = row_hidden p
row LHidden _ p = tt
row LNames k.LeftBracket p = row_names p
row LNames _ p = tt
row MoreParts c p = parts_row c p
row MoreFactors k.Star p = row_times p
row MoreFactors _ p = tt
row MoreSums k.Plus p = row_term Add k.Plus (λ u v a b s x y. s_plus s x y) p
row MoreSums k.Minus p = row_term Sub k.Minus (λ u v a b s x y. s_minus s x y) p
row MoreSums _ p = tt
row MoreAssign k.Assign p = row_assign p
row MoreAssign _ p = tt
row MoreFields k.Comma p = row_comma p
row MoreFields _ p = tt
row LT c p = type_row c p
row LU c p = unit_row c p
row LTypes c p = types_row c p
row MoreArrow k.Arrow p = row_arrow p
row MoreArrow _ p = tt
row MoreTypes k.Comma p = row_type_comma p
row MoreTypes _ p = tt

-- a line that may end takes no token
pub empty : (n : Line) → may_end n ≡ true → (vs : List Val) → Sem n vs [] vs
empty MoreParts e vs = sem_parts (λ u a below q h. record { value = a; whole = rw append-nil h; is = q })
empty MoreFactors e vs = sem_factors (λ u a below q h. record { value = a; whole = rw append-nil h; is = q })
empty MoreSums e vs = sem_sums (λ u a below q h. record { value = a; whole = rw append-nil h; is = q })
empty MoreAssign e vs = sem_assign (λ u a below q h. record { value = a; whole = rw append-nil (e_sum h); is = q })
empty MoreFields e vs = sem_commas (λ u a below q h. record { value = a; whole = rw append-nil h; is = q })
empty MoreArrow e vs = sem_arrow (λ u a below q h. record { value = a; whole = rw append-nil (t_part h); is = q })
empty MoreTypes e vs = sem_type_commas (λ u a below q h. record { value = a; whole = rw append-nil h; is = q })
empty _ e vs = absurd (cc)
