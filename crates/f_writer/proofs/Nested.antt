-- A text that stands for a term has no fewer constructs open than the canonical text of the term.
use Rattle.std.proofs.Common.{◌≡◌, ◌≤◌, ℕ, zero, suc, ◌+◌, max, List, [], ◌∷◌, ◌++◌, length, Bool, true, false}
use Rattle.std.proofs.Common.{refl}
use Rattle.std.proofs.Common.{sym, ap, ap₂, ◌∙◌, arith, subst, append_assoc, slice_index}
use Rattle.std.specs.Prelude.{nat_lt}
use Rattle.std.proofs.lemmas.Bool.Decides.{nat_tests}
use Rattle.idx_core.specs.Names.{Name}
use Rattle.text_core.specs.Table.{Done, seen, Verdict, Unexpected, Passed, bounded}
use Rattle.text_core.specs.Verdicts.{Says}
use Rattle.f_terms.specs.Ty.{Ty, Tys}
use Rattle.f_terms.specs.Text.{is_grouped}
use Rattle.f_terms.specs.Tm.{Tm, Tms, plain, plain_all}
use Rattle.f_lexer.specs.declared.token.Token.{Token}
use Rattle.f_grammar.specs.Raw.{RawTy, RInt, RName, RTuple, RArrow, RAll, RSome, RRef, RawTys, NoRawTys, MoreRawTys}
use Rattle.f_grammar.specs.Raw.{raw_tys, TyPiece, RawTm, RVar, RNum, RFix, RGen, RApp, RInst, RFields, RProj, RArith}
use Rattle.f_grammar.specs.Raw.{RIf0, RLet, RPack, ROpen, RCell, RDeref, RAssign, RawTms, NoRawTms, MoreRawTms}
use Rattle.f_grammar.specs.Raw.{raw_tms}
use Rattle.f_grammar.specs.Raw.{Piece}
use Rattle.f_grammar.specs.Grammar.{T, t_all, t_some, t_arrow, t_part, U, u_int, u_name, u_unit, u_tuple, u_paren}
use Rattle.f_grammar.specs.Grammar.{u_ref}
use Rattle.f_grammar.specs.Grammar.{Ts, ts_one, ts_more, E, e_fix, e_gen, e_let, e_pack, e_open, e_assign, e_sum, S}
use Rattle.f_grammar.specs.Grammar.{s_plus, s_minus, s_product, M, m_star, m_call, A, a_call, a_inst, a_part, P}
use Rattle.f_grammar.specs.Grammar.{p_name}
use Rattle.f_grammar.specs.Grammar.{p_plain, p_negative, p_paren, p_unit, p_tuple, p_proj, p_if0, p_ref, p_deref, Es}
use Rattle.f_grammar.specs.Grammar.{es_one, es_more, open_T, open_U, open_Ts, open_E, open_S, open_M, open_A, open_P}
use Rattle.f_grammar.specs.Grammar.{open_Es}
use Rattle.f_grammar.specs.Machine.{table, Val}
use Rattle.f_grammar.proofs.Instance.{claims, source_exact}
use Rattle.f_grammar.specs.Scope.{TypeOf, of_int, of_name, of_tuple, of_arrow, of_all, of_some, of_ref, TypesOf}
use Rattle.f_grammar.specs.Scope.{of_no_types, of_more_types, TermOf, of_var, of_num, of_fix, of_gen, of_app, of_inst}
use Rattle.f_grammar.specs.Scope.{of_fields, of_proj, of_arith, of_if0, of_let, of_pack, of_open, of_cell, of_deref}
use Rattle.f_grammar.specs.Scope.{of_assign, TermsOf, of_no_terms, of_more_terms}
use Rattle.f_grammar.specs.Text.{Source, FewOpen}
use Rattle.f_writer.specs.declared.line.Line.{Line}
use Rattle.f_writer.specs.declared.line.Line.TheVariants.{Expression, Sum, Product, Call, Primary}
use Rattle.f_writer.specs.Lines.{is_loose, op_line, right_line, line_of}
use Rattle.f_writer.specs.Nesting.{nest_if, type_nesting, types_nesting, nesting, all_nesting}
use Rattle.f_writer.proofs.Opens.{Most}

-- tokens at which few constructs are open pass no limit

at_most : (ns : List ℕ) (i : ℕ) → Most ns → slice_index ns i ≤ 200
at_most [] i h = omega arith
at_most (n ∷ ns) zero h = h.0
at_most (n ∷ ns) (suc i) h = at_most ns i h.1

carried : (w x : List Token) (p : Piece) (e : E w p) → Most (open_E e 0) → w ≡ x → (f : E x p) × Most (open_E f 0)
carried w x p e h q = subst (λ (y : List Token). (f : E y p) × Most (open_E f 0)) q (e, h)

pub few_open : (w : List Token) (p : Piece) (e : E w p) → Most (open_E e 0) → FewOpen w
few_open w p e h u c z q passes =
    let s = carried w ((u ++ c ∷ []) ++ z) p e h (q ∙ sym (append_assoc u (c ∷ []) z)) in
    let n = passes.holds z p s.0 in
    let m = at_most (open_E s.0 0) (length u) s.1 in
    let l = passes.more in
    omega arith

-- and the other way round

data Ends (w : List Token) (ns : List ℕ) (v : Verdict table) : Type 0 where
  within : Most ns → Ends w ns v
  passed : (c : Token) (z : List Token) → v ≡ Passed (c ∷ z) → Ends w ns v
  short : v ≡ Unexpected [] → Ends w ns v

ends : (w : List Token) (ns : List ℕ) (vs : List Val) → Ends w ns (bounded table 200 w (seen table ns (Done vs)))
ends w [] vs = within tt
ends [] (n ∷ ns) vs = short refl
ends (c ∷ w) (n ∷ ns) vs = go (nat_lt 200 n) refl (ends w ns vs)
  where
    go : (b : Bool) → nat_lt 200 n ≡ b → Ends w ns (bounded table 200 w (seen table ns (Done vs))) →
        Ends (c ∷ w) (n ∷ ns) (bounded table 200 (c ∷ w) (seen table (n ∷ ns) (Done vs)))
    go true e x = passed c w (rw e refl)
    go false e (within m) = let le : n ≤ 200 = grind (arith, nat_tests) in within (le, m)
    go false e (passed d z q) = passed d z (rw e q)
    go false e (short q) = short (rw e q)

pub few_at_each : (w : List Token) (p : Piece) (e : E w p) → FewOpen w → Most (open_E e 0)
few_at_each w p e few = by_end (ends w (open_E e 0) (table.tree p ∷ []))
  where
    says : Says table 200 w (bounded table 200 w (seen table (open_E e 0) (Done (table.tree p ∷ []))))
    says = subst (λ o. Says table 200 w (bounded table 200 w o)) (claims.complete w p e) (source_exact 200 w)

    by_end : Ends w (open_E e 0) (bounded table 200 w (seen table (open_E e 0) (Done (table.tree p ∷ [])))) →
        Most (open_E e 0)
    by_end (within m) = m
    by_end (passed c z q) =
        let x = subst (λ v. Says table 200 w v) q says in absurd (few x.0 c z x.1.place x.1.passes)
    by_end (short q) = let x = subst (λ v. Says table 200 w v) q says in absurd (x.none (p, e))

most_parts : (xs ys : List ℕ) → Most (xs ++ ys) → Most xs × Most ys
most_parts [] ys h = (tt, h)
most_parts (x ∷ xs) ys h = let p = most_parts xs ys h.1 in ((h.0, p.0), p.1)

-- the same counts of trees whose names are not bound

abbrev raw_grouped : RawTy → Bool
raw_grouped RInt = false
raw_grouped (RName s) = false
raw_grouped (RTuple ts) = false
raw_grouped (RArrow a b) = true
raw_grouped (RAll s t) = true
raw_grouped (RSome s t) = true
raw_grouped (RRef t) = false

abbrev mutual
  type_depth : RawTy → ℕ
  type_depth RInt = 0
  type_depth (RName s) = 0
  type_depth (RTuple ts) = suc (types_depth ts)
  type_depth (RArrow a b) = max (nest_if (raw_grouped a) (type_depth a)) (suc (type_depth b))
  type_depth (RAll s t) = suc (type_depth t)
  type_depth (RSome s t) = suc (type_depth t)
  type_depth (RRef t) = suc (nest_if (raw_grouped t) (type_depth t))

  types_depth : RawTys → ℕ
  types_depth NoRawTys = 0
  types_depth (MoreRawTys t ts) = max (type_depth t) (types_depth ts)

abbrev raw_line : RawTm → Line
raw_line (RVar s) = Primary
raw_line (RNum s z) = Primary
raw_line (RFix s f x t r e) = Expression
raw_line (RGen s x e) = Expression
raw_line (RApp s a b) = Call
raw_line (RInst s e t) = Call
raw_line (RFields s es) = Primary
raw_line (RProj s i e) = Primary
raw_line (RArith s op a b) = op_line op
raw_line (RIf0 s a b c) = Primary
raw_line (RLet s x a b) = Expression
raw_line (RPack s t e r) = Expression
raw_line (ROpen s x y a b) = Expression
raw_line (RCell s e) = Primary
raw_line (RDeref s e) = Primary
raw_line (RAssign s a b) = Expression

abbrev mutual
  depth : RawTm → ℕ
  depth (RVar s) = 0
  depth (RNum s z) = 0
  depth (RFix s f x t r e) = max (suc (suc (type_depth t))) (max (suc (type_depth r)) (suc (depth e)))
  depth (RGen s x e) = suc (depth e)
  depth (RApp s a b) =
      max (nest_if (is_loose (raw_line a) Call) (depth a)) (nest_if (is_loose (raw_line b) Primary) (depth b))
  depth (RInst s e t) = max (nest_if (is_loose (raw_line e) Call) (depth e)) (suc (type_depth t))
  depth (RFields s es) = suc (all_depth es)
  depth (RProj s i e) = suc (nest_if (is_loose (raw_line e) Primary) (depth e))
  depth (RArith s op a b) =
      max (nest_if (is_loose (raw_line a) (op_line op)) (depth a))
      (nest_if (is_loose (raw_line b) (right_line op)) (depth b))
  depth (RIf0 s a b c) = suc (max (depth a) (max (depth b) (depth c)))
  depth (RLet s x a b) = max (suc (depth a)) (depth b)
  depth (RPack s t e r) = max (suc (type_depth t)) (max (suc (depth e)) (type_depth r))
  depth (ROpen s x y a b) = max 2 (max (suc (depth a)) (depth b))
  depth (RCell s e) = suc (nest_if (is_loose (raw_line e) Primary) (depth e))
  depth (RDeref s e) = suc (nest_if (is_loose (raw_line e) Primary) (depth e))
  depth (RAssign s a b) =
      max (nest_if (is_loose (raw_line a) Sum) (depth a)) (nest_if (is_loose (raw_line b) Sum) (depth b))

  all_depth : RawTms → ℕ
  all_depth NoRawTms = 0
  all_depth (MoreRawTms e es) = max (depth e) (all_depth es)

types_push : (ts : List RawTy) (t : RawTy) → types_depth (raw_tys (ts ++ t ∷ [])) ≡
    max (types_depth (raw_tys ts)) (type_depth t)
types_push [] t = omega arith
types_push (u ∷ ts) t = let p = types_push ts t in omega arith

terms_push : (es : List RawTm) (e : RawTm) → all_depth (raw_tms (es ++ e ∷ [])) ≡ max (all_depth (raw_tms es))
    (depth e)
terms_push [] e = omega arith
terms_push (u ∷ es) e = let p = terms_push es e in omega arith

-- parentheses that may be there, and that need not

bare : (b : Bool) (d n : ℕ) → d + nest_if b n ≤ 200 → d + n ≤ 200
bare true d n h = omega (arith, h)
bare false d n h = h

in_parens : (b : Bool) (d n : ℕ) → suc d + n ≤ 200 → d + nest_if b n ≤ 200
in_parens true d n h = omega (arith, h)
in_parens false d n h = omega (arith, h)

of_product : (l : Line) (d n : ℕ) → d + nest_if (is_loose l Product) n ≤ 200 → d + nest_if (is_loose l Sum) n ≤ 200
of_product Expression d n h = h
of_product Sum d n h = omega (arith, h)
of_product Product d n h = h
of_product Call d n h = h
of_product Primary d n h = h

of_call : (l : Line) (d n : ℕ) → d + nest_if (is_loose l Call) n ≤ 200 → d + nest_if (is_loose l Product) n ≤ 200
of_call Expression d n h = h
of_call Sum d n h = h
of_call Product d n h = omega (arith, h)
of_call Call d n h = h
of_call Primary d n h = h

of_part : (l : Line) (d n : ℕ) → d + nest_if (is_loose l Primary) n ≤ 200 → d + nest_if (is_loose l Call) n ≤ 200
of_part Expression d n h = h
of_part Sum d n h = h
of_part Product d n h = h
of_part Call d n h = omega (arith, h)
of_part Primary d n h = h

mutual
  nested_T : {w : List Token} {t : TyPiece} (d : ℕ) (x : T w t) → Most (open_T x d) → d + type_depth t.ty ≤ 200
  nested_T d (t_all a n s t) h = let p = nested_T (suc d) t h.1.1.1 in omega arith
  nested_T d (t_some a n s t) h = let p = nested_T (suc d) t h.1.1.1 in omega arith
  nested_T d (t_arrow s u t) h =
      let q = most_parts (open_U u d) (suc d ∷ open_T t (suc d)) h in
      let a = nested_U d u q.0 in
      let b = nested_T (suc d) t q.1.1 in
      omega arith
  nested_T d (t_part {t} u) h = bare (raw_grouped t.ty) d (type_depth t.ty) (nested_U d u h)

  nested_U : {w : List Token} {t : TyPiece} (d : ℕ) (x : U w t) → Most (open_U x d) →
      d + nest_if (raw_grouped t.ty) (type_depth t.ty) ≤ 200
  nested_U d (u_int s) h = omega (arith, h.0)
  nested_U d (u_name s) h = omega (arith, h.0)
  nested_U d (u_unit o c) h = omega (arith, h.0)
  nested_U d (u_tuple o c x) h =
      let q = most_parts (open_Ts x (suc d)) (suc d ∷ []) h.1 in
      let p = nested_Ts (suc d) x q.0 in
      omega arith
  nested_U d (u_paren {t} o c x) h =
      let q = most_parts (open_T x (suc d)) (suc d ∷ []) h.1 in
      in_parens (raw_grouped t.ty) d (type_depth t.ty) (nested_T (suc d) x q.0)
  nested_U d (u_ref r u) h = let p = nested_U (suc d) u h.1 in omega arith

  nested_Ts : {w : List Token} {ts : List RawTy} (d : ℕ) (x : Ts w ts) → Most (open_Ts x d) →
      d + types_depth (raw_tys ts) ≤ 200
  nested_Ts d (ts_one t) h = let p = nested_T d t h in omega arith
  nested_Ts d (ts_more {ts} {t} c x y) h =
      let q = most_parts (open_Ts x d) (d ∷ open_T y d) h in
      let a = nested_Ts d x q.0 in
      let b = nested_T d y q.1.1 in
      let e = types_push ts t.ty in
      omega arith

mutual
  nested_E : {w : List Token} {p : Piece} (d : ℕ) (x : E w p) → Most (open_E x d) → d + depth p.tree ≤ 200
  nested_E d (e_fix f n o x c p q s t r e) h =
      let i = most_parts (open_T t (suc (suc d))) (suc (suc d) ∷
      (suc d ∷ (open_T r (suc d) ++ suc d ∷ open_E e (suc d))))
      h.1.1.1.1.1 in
      let j = most_parts (open_T r (suc d)) (suc d ∷ open_E e (suc d)) i.1.1.1 in
      let a = nested_T (suc (suc d)) t i.0 in
      let b = nested_T (suc d) r j.0 in
      let y = nested_E (suc d) e j.1.1 in
      omega arith
  nested_E d (e_gen g a s e) h = let p = nested_E (suc d) e h.1.1.1 in omega arith
  nested_E d (e_let l n q i a b) h =
      let j = most_parts (open_E a (suc d)) (suc d ∷ open_E b d) h.1.1.1 in
      let x = nested_E (suc d) a j.0 in
      let y = nested_E d b j.1.1 in
      omega arith
  nested_E d (e_pack p o c q s t e r) h =
      let i = most_parts (open_T t (suc d)) (suc d ∷ (open_E e (suc d) ++ suc d ∷ (d ∷ open_T r d))) h.1.1 in
      let j = most_parts (open_E e (suc d)) (suc d ∷ (d ∷ open_T r d)) i.1.1 in
      let a = nested_T (suc d) t i.0 in
      let b = nested_E (suc d) e j.0 in
      let y = nested_T d r j.1.1.1 in
      omega arith
  nested_E d (e_open p o n c x r q i a b) h =
      let j = most_parts (open_E a (suc d)) (suc d ∷ open_E b d) h.1.1.1.1.1.1.1 in
      let two = h.1.0 in
      let y = nested_E (suc d) a j.0 in
      let z = nested_E d b j.1.1 in
      omega arith
  nested_E d (e_assign s a b) h =
      let j = most_parts (open_S a d) (d ∷ open_S b d) h in
      let x = nested_S d a j.0 in
      let y = nested_S d b j.1.1 in
      omega arith
  nested_E d (e_sum {e} s) h = bare (is_loose (raw_line e.tree) Sum) d (depth e.tree) (nested_S d s h)

  nested_S : {w : List Token} {p : Piece} (d : ℕ) (x : S w p) → Most (open_S x d) →
      d + nest_if (is_loose (raw_line p.tree) Sum) (depth p.tree) ≤ 200
  nested_S d (s_plus s a b) h =
      let j = most_parts (open_S a d) (d ∷ open_M b d) h in
      let x = nested_S d a j.0 in
      let y = nested_M d b j.1.1 in
      omega arith
  nested_S d (s_minus s a b) h =
      let j = most_parts (open_S a d) (d ∷ open_M b d) h in
      let x = nested_S d a j.0 in
      let y = nested_M d b j.1.1 in
      omega arith
  nested_S d (s_product {e} x) h = of_product (raw_line e.tree) d (depth e.tree) (nested_M d x h)

  nested_M : {w : List Token} {p : Piece} (d : ℕ) (x : M w p) → Most (open_M x d) →
      d + nest_if (is_loose (raw_line p.tree) Product) (depth p.tree) ≤ 200
  nested_M d (m_star s a b) h =
      let j = most_parts (open_M a d) (d ∷ open_A b d) h in
      let x = nested_M d a j.0 in
      let y = nested_A d b j.1.1 in
      omega arith
  nested_M d (m_call {e} x) h = of_call (raw_line e.tree) d (depth e.tree) (nested_A d x h)

  nested_A : {w : List Token} {p : Piece} (d : ℕ) (x : A w p) → Most (open_A x d) →
      d + nest_if (is_loose (raw_line p.tree) Call) (depth p.tree) ≤ 200
  nested_A d (a_call a p) h =
      let j = most_parts (open_A a d) (open_P p d) h in
      let x = nested_A d a j.0 in
      let y = nested_P d p j.1 in
      omega arith
  nested_A d (a_inst o c a t) h =
      let i = most_parts (open_A a d) (suc d ∷ (open_T t (suc d) ++ suc d ∷ [])) h in
      let j = most_parts (open_T t (suc d)) (suc d ∷ []) i.1.1 in
      let x = nested_A d a i.0 in
      let y = nested_T (suc d) t j.0 in
      omega arith
  nested_A d (a_part {e} x) h = of_part (raw_line e.tree) d (depth e.tree) (nested_P d x h)

  nested_P : {w : List Token} {p : Piece} (d : ℕ) (x : P w p) → Most (open_P x d) →
      d + nest_if (is_loose (raw_line p.tree) Primary) (depth p.tree) ≤ 200
  nested_P d (p_name s) h = omega (arith, h.0)
  nested_P d (p_plain z s) h = omega (arith, h.0)
  nested_P d (p_negative z s) h = omega (arith, h.0)
  nested_P d (p_paren {e} o c x) h =
      let j = most_parts (open_E x (suc d)) (suc d ∷ []) h.1 in
      in_parens (is_loose (raw_line e.tree) Primary) d (depth e.tree) (nested_E (suc d) x j.0)
  nested_P d (p_unit o c) h = omega (arith, h.0)
  nested_P d (p_tuple o c x) h =
      let j = most_parts (open_Es x (suc d)) (suc d ∷ []) h.1 in
      let y = nested_Es (suc d) x j.0 in
      omega arith
  nested_P d (p_proj o z s x) h = let y = nested_P (suc d) x h.1.1 in omega arith
  nested_P d (p_if0 i o p q l a b c) h =
      let t = suc d ∷ [] in
      let j = most_parts (open_E a (suc d)) (suc d ∷ (open_E b (suc d) ++ suc d ∷ (open_E c (suc d) ++ t))) h.1.1 in
      let m = most_parts (open_E b (suc d)) (suc d ∷ (open_E c (suc d) ++ t)) j.1.1 in
      let n = most_parts (open_E c (suc d)) t m.1.1 in
      let x = nested_E (suc d) a j.0 in
      let y = nested_E (suc d) b m.0 in
      let z = nested_E (suc d) c n.0 in
      omega arith
  nested_P d (p_ref r x) h = let y = nested_P (suc d) x h.1 in omega arith
  nested_P d (p_deref r x) h = let y = nested_P (suc d) x h.1 in omega arith

  nested_Es : {w : List Token} {es : List RawTm} (d : ℕ) (x : Es w es) → Most (open_Es x d) →
      d + all_depth (raw_tms es) ≤ 200
  nested_Es d (es_one e) h = let p = nested_E d e h in omega arith
  nested_Es d (es_more {ts} {e} c x y) h =
      let q = most_parts (open_Es x d) (d ∷ open_E y d) h in
      let a = nested_Es d x q.0 in
      let b = nested_E d y q.1.1 in
      let z = terms_push ts e.tree in
      omega arith

-- the binding of names keeps the counts

module _ (text : List ℕ) where
  same_grouped : {a : List Name} {r : RawTy} {t : Ty} → TypeOf text a r t → raw_grouped r ≡ is_grouped t
  same_grouped of_int = refl
  same_grouped (of_name s i p) = refl
  same_grouped (of_tuple x) = refl
  same_grouped (of_arrow x y) = refl
  same_grouped (of_all n x) = refl
  same_grouped (of_some n x) = refl
  same_grouped (of_ref x) = refl

  mutual
    same_type : {a : List Name} {r : RawTy} {t : Ty} → TypeOf text a r t → type_depth r ≡ type_nesting t
    same_type of_int = refl
    same_type (of_name s i p) = refl
    same_type (of_tuple x) = ap (λ n. suc n) (same_types x)
    same_type (of_arrow x y) =
        ap₂ (λ m n. max m (suc n)) (ap₂ nest_if (same_grouped x) (same_type x)) (same_type y)
    same_type (of_all n x) = ap (λ n. suc n) (same_type x)
    same_type (of_some n x) = ap (λ n. suc n) (same_type x)
    same_type (of_ref x) = ap (λ n. suc n) (ap₂ nest_if (same_grouped x) (same_type x))

    same_types : {a : List Name} {rs : RawTys} {ts : Tys} → TypesOf text a rs ts → types_depth rs ≡ types_nesting ts
    same_types of_no_types = refl
    same_types (of_more_types x y) = ap₂ max (same_type x) (same_types y)

  same_line : {v a : List Name} {r : RawTm} {e : Tm} → TermOf text v a r e → raw_line r ≡ line_of (plain e)
  same_line (of_var s i p) = refl
  same_line (of_num s z) = refl
  same_line (of_fix s f x p q b) = refl
  same_line (of_gen s n b) = refl
  same_line (of_app s x y) = refl
  same_line (of_inst s x t) = refl
  same_line (of_fields s xs) = refl
  same_line (of_proj s n x) = refl
  same_line (of_arith s op x y) = refl
  same_line (of_if0 s x y z) = refl
  same_line (of_let s n x b) = refl
  same_line (of_pack s t x r) = refl
  same_line (of_open s n x y b) = refl
  same_line (of_cell s x) = refl
  same_line (of_deref s x) = refl
  same_line (of_assign s x y) = refl

  loose_same : (q : Line) {v a : List Name} {r : RawTm} {e : Tm} → TermOf text v a r e → depth r ≡ nesting (plain e) →
      nest_if (is_loose (raw_line r) q) (depth r) ≡ nest_if (is_loose (line_of (plain e)) q) (nesting (plain e))
  loose_same q x e = ap₂ (λ l n. nest_if (is_loose l q) n) (same_line x) e

  mutual
    same_term : {v a : List Name} {r : RawTm} {e : Tm} → TermOf text v a r e → depth r ≡ nesting (plain e)
    same_term (of_var s i p) = refl
    same_term (of_num s z) = refl
    same_term (of_fix s f x p q b) =
        ap₂ (λ m n. max (suc (suc m)) n) (same_type p) (ap₂ (λ m n. max (suc m) (suc n)) (same_type q) (same_term b))
    same_term (of_gen s n b) = ap (λ n. suc n) (same_term b)
    same_term (of_app s x y) = ap₂ max (loose_same Call x (same_term x)) (loose_same Primary y (same_term y))
    same_term (of_inst s x t) = ap₂ (λ m n. max m (suc n)) (loose_same Call x (same_term x)) (same_type t)
    same_term (of_fields s xs) = ap (λ n. suc n) (same_terms xs)
    same_term (of_proj s n x) = ap (λ n. suc n) (loose_same Primary x (same_term x))
    same_term (of_arith s op x y) =
        ap₂ max (loose_same (op_line op) x (same_term x)) (loose_same (right_line op) y (same_term y))
    same_term (of_if0 s x y z) =
        ap₂ (λ m n. suc (max m n)) (same_term x) (ap₂ max (same_term y) (same_term z))
    same_term (of_let s n x b) = ap₂ (λ m n. max (suc m) n) (same_term x) (same_term b)
    same_term (of_pack s t x r) =
        ap₂ (λ m n. max (suc m) n) (same_type t) (ap₂ (λ m n. max (suc m) n) (same_term x) (same_type r))
    same_term (of_open s n x y b) = ap₂ (λ m n. max 2 (max (suc m) n)) (same_term y) (same_term b)
    same_term (of_cell s x) = ap (λ n. suc n) (loose_same Primary x (same_term x))
    same_term (of_deref s x) = ap (λ n. suc n) (loose_same Primary x (same_term x))
    same_term (of_assign s x y) = ap₂ max (loose_same Sum x (same_term x)) (loose_same Sum y (same_term y))

    same_terms : {v a : List Name} {rs : RawTms} {es : Tms} → TermsOf text v a rs es →
        all_depth rs ≡ all_nesting (plain_all es)
    same_terms of_no_terms = refl
    same_terms (of_more_terms x xs) = ap₂ max (same_term x) (same_terms xs)

pub nests_within : (text : List ℕ) (a : Tm) (s : Source text a) → FewOpen s.tokens → nesting (plain a) ≤ 200
nests_within text a s few =
    let n = nested_E 0 s.is_shape (few_at_each s.tokens s.shape s.is_shape few) in
    let e = same_term text s.bound in
    omega (arith, n, e)
