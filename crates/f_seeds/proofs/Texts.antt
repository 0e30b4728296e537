-- Each item stands for its term, wherever it stands in a text: its tokens, its shape, and the binders of its names.
use Rattle.std.proofs.Common.{◌≡◌, ◌≢◌, ◌<◌, ℕ, ◌+◌, ◌-◌, List, [], ◌∷◌, ◌++◌, length, take, drop, Bool, true, false}
use Rattle.std.proofs.Common.{nat_le, refl, sym, ◌∙◌, ap, subst, append_assoc, arith, lit<, pos}
use Rattle.std.specs.Prelude.{codes}
use Rattle.std.specs.List.{list_all}
use Rattle.std.proofs.lemmas.List.{length-append, drop-drop, drop_at}
use Rattle.idx_core.specs.declared.arith.Op.TheVariants.{Add, Sub, Mul}
use Rattle.text_core.specs.Byte.{digit}
use Rattle.text_core.specs.Tokens.{Cut}
use Rattle.f_terms.specs.Tm.{Tm, Term, plain}
use Rattle.f_lexer.specs.declared.token.Token.{Token}
use Rattle.f_lexer.specs.Source.{source}
use Rattle.f_grammar.specs.Raw.{Piece}
use Rattle.f_grammar.specs.Grammar.{E, M, P, t_arrow, t_part, u_int, u_name, e_fix, e_gen, e_sum, s_plus, s_minus}
use Rattle.f_grammar.specs.Grammar.{s_product, m_star, m_call, a_call, a_inst, a_part, p_name, p_plain, p_paren}
use Rattle.f_grammar.specs.Grammar.{p_unit, p_tuple, p_proj, p_if0, es_one, es_more, open_M}
use Rattle.f_grammar.specs.Scope.{spelled, of_int, of_name, of_arrow, TermOf, of_var, of_num, of_fix, of_gen, of_app}
use Rattle.f_grammar.specs.Scope.{of_inst, of_fields, of_proj, of_arith, of_if0, of_no_terms, of_more_terms}
use Rattle.f_seeds.specs.declared.item.Kind.{Kind}
use Rattle.f_seeds.specs.declared.item.Kind.TheVariants.{Number, Factorial, Field, Identity, Branch, Twice}
use Rattle.f_seeds.specs.Source.{item}
use Rattle.f_seeds.proofs.Meaning.{item_term}
use Rattle.f_seeds.proofs.Numerals.{Spelled, numeral}
use Rattle.f_seeds.proofs.Running.{at, tokens, run, number_at, run_number}

abbrev pub few : ℕ → Bool
few n = nat_le n 200

-- the bytes, which stand at the place i of the text, are a product of the grammar, and stand for the term e
pub record Denotes (text : List ℕ) (i : ℕ) (bytes : List ℕ) (e : Term) : Type 0 where
  pub tokens_of : List Token
  pub shape : Piece
  pub product : M tokens_of shape
  pub few_open : list_all few (open_M product 0) ≡ true
  pub cut : (b : ℕ) (r : List ℕ) (v : List Token) → digit b ≡ false → Cut source (i + length bytes) (b ∷ r) v →
      Cut source i (bytes ++ b ∷ r) (tokens_of ++ v)
  pub term : Tm
  pub bound : TermOf text [] [] shape.tree term
  pub is : plain term ≡ e

-- an expression of one part
abbrev just : {w : List Token} {e : Piece} → P w e → E w e
just p = e_sum (s_product (m_call (a_part p)))

-- names

-- the bytes from a to b, counted from the place where these bytes begin
named : (text : List ℕ) (i a b : ℕ) (bytes u : List ℕ) → drop i text ≡ bytes → take (b - a) (drop a bytes) ≡ u →
    spelled text (at i a b) ≡ u
named text i a b bytes u e f =
    let n : i + b - (i + a) ≡ b - a = omega arith in
    let d : drop (i + a) text ≡ drop a bytes = sym (drop-drop a i text) ∙ ap (λ (s : List ℕ). drop a s) e in
    ap (λ (m : ℕ). take m (drop (i + a) text)) n ∙ (ap (λ (s : List ℕ). take (b - a) s) d ∙ f)

abbrev first : List ℕ → ℕ
first [] = 0
first (b ∷ s) = b

apart : (x y u v : List ℕ) → x ≡ u → y ≡ v → first u < first v → x ≢ y
apart x y u v p q h e = let f : first u ≡ first v = ap first (sym p ∙ (e ∙ q)) in omega arith

-- what stands after some bytes
onward : (text : List ℕ) (i n : ℕ) (u r : List ℕ) → drop i text ≡ u ++ r → length u ≡ n → drop (i + n) text ≡ r
onward text i n u r e h = sym (drop-drop n i text) ∙ (ap (λ (s : List ℕ). drop n s) e ∙ drop_at u r n h)

-- pieces joined
regroup_two : (a d b t : List ℕ) → (a ++ d ++ b) ++ t ≡ a ++ (d ++ (b ++ t))
regroup_two a d b t = simp append_assoc

regroup_four : (a d b e f t : List ℕ) → (a ++ d ++ b ++ e ++ f) ++ t ≡ a ++ (d ++ (b ++ (e ++ (f ++ t))))
regroup_four a d b e f t = simp append_assoc

place_one : (i n : ℕ) (a d : List ℕ) → length a ≡ n → i + length (a ++ d) ≡ i + n + length d
place_one i n a d h = omega (arith, length-append a d)

place_two : (i n m : ℕ) (a d b : List ℕ) → length a ≡ n → length b ≡ m → i + length (a ++ d ++ b) ≡ i + n + length d + m
place_two i n m a d b h k = omega (arith, length-append (a ++ d) b, length-append a d)

place_four : (i n m l : ℕ) (a d b e f : List ℕ) → length a ≡ n → length b ≡ m → length f ≡ l →
    i + length (a ++ d ++ b ++ e ++ f) ≡ i + n + length d + m + length e + l
place_four i n m l a d b e f h j k =
    omega (
      arith,
      length-append (a ++ d ++ b ++ e) f,
      length-append (a ++ d ++ b) e,
      length-append (a ++ d) b,
      length-append a d,
    )

-- C
number : (text : List ℕ) (i c d : ℕ) (ds : List ℕ) → c < 20 → Spelled c d ds →
    Denotes text i (d ∷ ds) (item_term Number c)
number text i c d ds low h = record {
  tokens_of = number_at c i (length (d ∷ ds)) ∷ [];
  shape = _;
  product = m_call (a_part (p_plain (pos c) (number_at c i (length (d ∷ ds))).span));
  few_open = refl {a = true};
  cut = λ b r v s cut. run_number c d ds i b r v low h s cut;
  term = _;
  bound = of_num _ _;
  is = refl;
}

-- (fix f(n:int):int. if0(n, 1, n * f(n - 1))) C
factorial : (text : List ℕ) (i c d : ℕ) (ds rest : List ℕ) → c < 20 → Spelled c d ds →
    drop i text ≡ (codes "(fix f(n:int):int. if0(n, 1, n * f(n - 1))) " ++ (d ∷ ds)) ++ rest →
    Denotes text i (codes "(fix f(n:int):int. if0(n, 1, n * f(n - 1))) " ++ (d ∷ ds)) (item_term Factorial c)
factorial text i c d ds rest low h here =
    let bytes = codes "(fix f(n:int):int. if0(n, 1, n * f(n - 1))) " in
    let number = number_at c (i + 44) (length (d ∷ ds)) in
    let same : (a b x y : ℕ) (u : List ℕ) → take (b - a) (drop a ((bytes ++ (d ∷ ds)) ++ rest)) ≡ u →
    take (y - x) (drop x ((bytes ++ (d ∷ ds)) ++ rest)) ≡ u → spelled text (at i a b) ≡ spelled text (at i x y) =
    λ a b x y u p q. named text i a b ((bytes ++ (d ∷ ds)) ++ rest) u here p
    ∙ sym (named text i x y ((bytes ++ (d ∷ ds)) ++ rest) u here q) in
    record {
      tokens_of = tokens 36 i 0 (bytes ++ (d ∷ ds)) ++ number ∷ [];
      shape = _;
      product = m_call
          (a_call (a_part
          (p_paren (at i 0 1) (at i 42 43)
          (e_fix (at i 1 4) (at i 5 6) (at i 6 7) (at i 7 8) (at i 8 9) (at i 12 13) (at i 13 14) (at i 17 18)
          (t_part (u_int (at i 9 12))) (t_part (u_int (at i 14 17)))
          (just (p_if0 (at i 19 22) (at i 22 23) (at i 24 25) (at i 27 28) (at i 41 42) (just (p_name (at i 23 24)))
          (just (p_plain (pos 1) (at i 26 27)))
          (e_sum (s_product
          (m_star (at i 31 32) (m_call (a_part (p_name (at i 29 30)))) (a_call (a_part (p_name (at i 33 34)))
          (p_paren (at i 34 35) (at i 40 41)
          (e_sum (s_minus (at i 37 38) (s_product (m_call (a_part (p_name (at i 35 36)))))
          (m_call (a_part (p_plain (pos 1) (at i 39 40)))))))))))))))) (p_plain (pos c) number.span));
      few_open = refl {a = true};
      cut = λ b r v s cut.
          subst (λ (t : List ℕ). Cut source i t ((tokens 36 i 0 (bytes ++ (d ∷ ds)) ++ number ∷ []) ++ v))
          (sym (append_assoc bytes (d ∷ ds) (b ∷ r)))
          (run 36 i (bytes ++ (d ∷ (ds ++ b ∷ r))) (number ∷ v) refl
          (run_number c d ds (i + 44) b r v low h s
          (subst (λ (j : ℕ). Cut source j (b ∷ r) v) (place_one i 44 bytes (d ∷ ds) refl) cut)));
      term = _;
      bound = of_app _
          (of_fix _ _ _ of_int of_int (of_if0 _ (of_var _ 0 (same 23 24 7 8 (codes "n") refl refl)) (of_num _ _)
          (of_arith _ Mul (of_var _ 0 (same 29 30 7 8 (codes "n") refl refl))
          (of_app _ (of_var _ 1 (
            (apart _ _ (codes "f") (codes "n")
                (named text i 33 34 ((bytes ++ (d ∷ ds)) ++ rest) (codes "f") here refl)
                (named text i 7 8 ((bytes ++ (d ∷ ds)) ++ rest) (codes "n") here refl) (lit< tt)),
            (same 33 34 5 6 (codes "f") refl refl),
          ))
          (of_arith _ Sub (of_var _ 0 (same 35 36 7 8 (codes "n") refl refl)) (of_num _ _)))))) (of_num _ _);
      is = refl;
    }

-- (gen a. fix i(x:a):a. x)[int] C
identity : (text : List ℕ) (i c d : ℕ) (ds rest : List ℕ) → c < 20 → Spelled c d ds →
    drop i text ≡ (codes "(gen a. fix i(x:a):a. x)[int] " ++ (d ∷ ds)) ++ rest →
    Denotes text i (codes "(gen a. fix i(x:a):a. x)[int] " ++ (d ∷ ds)) (item_term Identity c)
identity text i c d ds rest low h here =
    let bytes = codes "(gen a. fix i(x:a):a. x)[int] " in
    let number = number_at c (i + 30) (length (d ∷ ds)) in
    let same : (a b x y : ℕ) (u : List ℕ) → take (b - a) (drop a ((bytes ++ (d ∷ ds)) ++ rest)) ≡ u →
    take (y - x) (drop x ((bytes ++ (d ∷ ds)) ++ rest)) ≡ u → spelled text (at i a b) ≡ spelled text (at i x y) =
    λ a b x y u p q. named text i a b ((bytes ++ (d ∷ ds)) ++ rest) u here p
    ∙ sym (named text i x y ((bytes ++ (d ∷ ds)) ++ rest) u here q) in
    record {
      tokens_of = tokens 24 i 0 (bytes ++ (d ∷ ds)) ++ number ∷ [];
      shape = _;
      product = m_call
          (a_call (a_inst (at i 24 25) (at i 28 29)
          (a_part (p_paren (at i 0 1) (at i 23 24) (e_gen (at i 1 4) (at i 5 6) (at i 6 7)
          (e_fix (at i 8 11) (at i 12 13) (at i 13 14) (at i 14 15) (at i 15 16) (at i 17 18) (at i 18 19) (at i 20 21)
          (t_part (u_name (at i 16 17))) (t_part (u_name (at i 19 20))) (just (p_name (at i 22 23)))))))
          (t_part (u_int (at i 25 28)))) (p_plain (pos c) number.span));
      few_open = refl {a = true};
      cut = λ b r v s cut.
          subst (λ (t : List ℕ). Cut source i t ((tokens 24 i 0 (bytes ++ (d ∷ ds)) ++ number ∷ []) ++ v))
          (sym (append_assoc bytes (d ∷ ds) (b ∷ r)))
          (run 24 i (bytes ++ (d ∷ (ds ++ b ∷ r))) (number ∷ v) refl
          (run_number c d ds (i + 30) b r v low h s
          (subst (λ (j : ℕ). Cut source j (b ∷ r) v) (place_one i 30 bytes (d ∷ ds) refl) cut)));
      term = _;
      bound = of_app _
          (of_inst _ (of_gen _ _
          (of_fix _ _ _ (of_name _ 0 (same 16 17 5 6 (codes "a") refl refl))
          (of_name _ 0 (same 19 20 5 6 (codes "a") refl refl))
          (of_var _ 0 (same 22 23 14 15 (codes "x") refl refl)))) of_int) (of_num _ _);
      is = refl;
    }

-- if0(C, 1, 2)
branch : (text : List ℕ) (i c d : ℕ) (ds : List ℕ) → c < 20 → Spelled c d ds →
    Denotes text i (codes "if0(" ++ (d ∷ ds) ++ codes ", 1, 2)") (item_term Branch c)
branch text i c d ds low h =
    let before = codes "if0(" in
    let after = codes ", 1, 2)" in
    let number = number_at c (i + 4) (length (d ∷ ds)) in
    let place = i + 4 + length (d ∷ ds) in
    record {
      tokens_of = tokens 2 i 0 (before ++ (d ∷ ds)) ++ number ∷ tokens 7 place 0 (after ++ 10 ∷ []);
      shape = _;
      product = m_call
          (a_part (p_if0 (at i 0 3) (at i 3 4) (at place 0 1) (at place 3 4) (at place 6 7)
          (just (p_plain (pos c) number.span)) (just (p_plain (pos 1) (at place 2 3)))
          (just (p_plain (pos 2) (at place 5 6)))));
      few_open = refl {a = true};
      cut = λ b r v s cut.
          subst (λ (t : List ℕ).
          Cut source i t
          ((tokens 2 i 0 (before ++ (d ∷ ds)) ++ number ∷ tokens 7 place 0 (after ++ 10 ∷ [])) ++ v))
          (sym (regroup_two before (d ∷ ds) after (b ∷ r)))
          (run 2 i (before ++ (d ∷ (ds ++ (after ++ b ∷ r)))) (number ∷ (tokens 7 place 0 (after ++ b ∷ r) ++ v)) refl
          (run_number c d ds (i + 4) 44 _ (tokens 7 place 0 (after ++ b ∷ r) ++ v) low h refl
          (run 7 place (after ++ b ∷ r) v refl
          (subst (λ (j : ℕ). Cut source j (b ∷ r) v) (place_two i 4 7 before (d ∷ ds) after refl refl) cut))));
      term = _;
      bound = of_if0 _ (of_num _ _) (of_num _ _) (of_num _ _);
      is = refl;
    }

-- (fix t(g:int -> int):int. g (g C)) (fix s(y:int):int. y * 3)
twice : (text : List ℕ) (i c d : ℕ) (ds rest : List ℕ) → c < 20 → Spelled c d ds →
    drop i text ≡ (codes "(fix t(g:int -> int):int. g (g " ++ (d ∷ ds) ++ codes ")) (fix s(y:int):int. y * 3)")
    ++ rest →
    Denotes text i (codes "(fix t(g:int -> int):int. g (g " ++ (d ∷ ds) ++ codes ")) (fix s(y:int):int. y * 3)")
    (item_term Twice c)
twice text i c d ds rest low h here =
    let before = codes "(fix t(g:int -> int):int. g (g " in
    let after = codes ")) (fix s(y:int):int. y * 3)" in
    let number = number_at c (i + 31) (length (d ∷ ds)) in
    let place = i + 31 + length (d ∷ ds) in
    let whole : drop i text ≡ before ++ (d ∷ (ds ++ (after ++ rest))) = here ∙ regroup_two before (d ∷ ds) after rest in
    let end : drop place text ≡ after ++ rest =
    onward text (i + 31) (length (d ∷ ds)) (d ∷ ds) (after ++ rest)
    (onward text i 31 before (d ∷ (ds ++ (after ++ rest))) whole refl) refl in
    record {
      tokens_of = tokens 22 i 0 (before ++ (d ∷ ds)) ++ number ∷ tokens 22 place 0 (after ++ 10 ∷ []);
      shape = _;
      product = m_call
          (a_call (a_part
          (p_paren (at i 0 1) (at place 1 2)
          (e_fix (at i 1 4) (at i 5 6) (at i 6 7) (at i 7 8) (at i 8 9) (at i 19 20) (at i 20 21) (at i 24 25)
          (t_arrow (at i 13 15) (u_int (at i 9 12)) (t_part (u_int (at i 16 19)))) (t_part (u_int (at i 21 24)))
          (e_sum (s_product
          (m_call (a_call (a_part (p_name (at i 26 27)))
          (p_paren (at i 28 29) (at place 0 1)
          (e_sum (s_product
          (m_call (a_call (a_part (p_name (at i 29 30))) (p_plain (pos c) number.span)))))))))))))
          (p_paren (at place 3 4) (at place 27 28)
          (e_fix (at place 4 7) (at place 8 9) (at place 9 10) (at place 10 11) (at place 11 12) (at place 15 16)
          (at place 16 17) (at place 20 21) (t_part (u_int (at place 12 15))) (t_part (u_int (at place 17 20)))
          (e_sum (s_product
          (m_star (at place 24 25) (m_call (a_part (p_name (at place 22 23))))
          (a_part (p_plain (pos 3) (at place 26 27)))))))));
      few_open = refl {a = true};
      cut = λ b r v s cut.
          subst (λ (t : List ℕ).
          Cut source i t
          ((tokens 22 i 0 (before ++ (d ∷ ds)) ++ number ∷ tokens 22 place 0 (after ++ 10 ∷ [])) ++ v))
          (sym (regroup_two before (d ∷ ds) after (b ∷ r)))
          (run 22 i (before ++ (d ∷ (ds ++ (after ++ b ∷ r)))) (number ∷ (tokens 22 place 0 (after ++ b ∷ r) ++ v)) refl
          (run_number c d ds (i + 31) 41 _ (tokens 22 place 0 (after ++ b ∷ r) ++ v) low h refl
          (run 22 place (after ++ b ∷ r) v refl
          (subst (λ (j : ℕ). Cut source j (b ∷ r) v) (place_two i 31 28 before (d ∷ ds) after refl refl) cut))));
      term = _;
      bound = of_app _ (of_fix _ _ _ (of_arrow of_int of_int) of_int
          (of_app _ (of_var _ 0 (named text i 26 27 (before ++ (d ∷ (ds ++ (after ++ rest)))) (codes "g") whole refl
          ∙ sym (named text i 7 8 (before ++ (d ∷ (ds ++ (after ++ rest)))) (codes "g") whole refl)))
          (of_app _ (of_var _ 0 (named text i 29 30 (before ++ (d ∷ (ds ++ (after ++ rest)))) (codes "g") whole refl
          ∙ sym (named text i 7 8 (before ++ (d ∷ (ds ++ (after ++ rest)))) (codes "g") whole refl)))
          (of_num _ _))))
          (of_fix _ _ _ of_int of_int
          (of_arith _ Mul
          (of_var _ 0 (named text place 22 23 (after ++ rest) (codes "y") end refl
          ∙ sym (named text place 10 11 (after ++ rest) (codes "y") end refl))) (of_num _ _)));
      is = refl;
    }

-- #2 <C, C + 1, <>>
field : (text : List ℕ) (i c d : ℕ) (ds : List ℕ) → c < 20 → Spelled c d ds →
    Denotes text i (codes "#2 <" ++ (d ∷ ds) ++ codes ", " ++ (d ∷ ds) ++ codes " + 1, <>>") (item_term Field c)
field text i c d ds low h =
    let before = codes "#2 <" in
    let comma = codes ", " in
    let after = codes " + 1, <>>" in
    let number = number_at c (i + 4) (length (d ∷ ds)) in
    let middle = i + 4 + length (d ∷ ds) in
    let again = number_at c (middle + 2) (length (d ∷ ds)) in
    let place = middle + 2 + length (d ∷ ds) in
    record {
      tokens_of = tokens 4 i 0 (before ++ (d ∷ ds)) ++ number
          ∷ (tokens 2 middle 0 (comma ++ (d ∷ ds)) ++ again ∷ tokens 9 place 0 (after ++ 10 ∷ []));
      shape = _;
      product = m_call
          (a_part (p_proj (at i 0 1) (pos 2) (at i 1 2)
          (p_tuple (at i 3 4) (at place 8 9)
          (es_more (at place 4 5) (es_more (at middle 0 1) (es_one (just (p_plain (pos c) number.span)))
          (e_sum (s_plus (at place 1 2) (s_product (m_call (a_part (p_plain (pos c) again.span))))
          (m_call (a_part (p_plain (pos 1) (at place 3 4)))))))
          (just (p_unit (at place 6 7) (at place 7 8)))))));
      few_open = refl {a = true};
      cut = λ b r v s cut.
          subst (λ (t : List ℕ).
          Cut source i t
          ((tokens 4 i 0 (before ++ (d ∷ ds)) ++ number
          ∷ (tokens 2 middle 0 (comma ++ (d ∷ ds)) ++ again ∷ tokens 9 place 0 (after ++ 10 ∷ []))) ++ v))
          (sym (regroup_four before (d ∷ ds) comma (d ∷ ds) after (b ∷ r)))
          (run 4 i (before ++ (d ∷ (ds ++ (comma ++ (d ∷ (ds ++ (after ++ b ∷ r)))))))
          (number ∷ (tokens 2 middle 0 (comma ++ (d ∷ ds)) ++ again ∷ (tokens 9 place 0 (after ++ b ∷ r) ++ v)))
          refl
          (run_number c d ds (i + 4) 44 _
          (tokens 2 middle 0 (comma ++ (d ∷ ds)) ++ again ∷ (tokens 9 place 0 (after ++ b ∷ r) ++ v)) low h refl
          (run 2 middle (comma ++ (d ∷ (ds ++ (after ++ b ∷ r)))) (again ∷ (tokens 9 place 0 (after ++ b ∷ r) ++ v))
          refl
          (run_number c d ds (middle + 2) 32 _ (tokens 9 place 0 (after ++ b ∷ r) ++ v) low h refl
          (run 9 place (after ++ b ∷ r) v refl
          (subst (λ (j : ℕ). Cut source j (b ∷ r) v)
          (place_four i 4 2 9 before (d ∷ ds) comma (d ∷ ds) after refl refl refl) cut))))));
      term = _;
      bound = of_proj _ 2
          (of_fields _
          (of_more_terms (of_num _ _)
          (of_more_terms (of_arith _ Add (of_num _ _) (of_num _ _))
          (of_more_terms (of_fields _ of_no_terms) of_no_terms))));
      is = refl;
    }

-- any item
pub denotes : (kind : Kind) (text : List ℕ) (i c : ℕ) (rest : List ℕ) → c < 20 → drop i text ≡ item kind c ++ rest →
    Denotes text i (item kind c) (item_term kind c)
denotes Number text i c rest low here =
    let n = numeral c low in
    subst (λ (s : List ℕ). Denotes text i s (item_term Number c)) (sym n.text) (number text i c n.d n.ds low n.spelled)
denotes Factorial text i c rest low here =
    let n = numeral c low in
    let form : List ℕ → List ℕ = λ s. codes "(fix f(n:int):int. if0(n, 1, n * f(n - 1))) " ++ s in
    subst (λ (s : List ℕ). Denotes text i (form s) (item_term Factorial c)) (sym n.text)
    (factorial text i c n.d n.ds rest low n.spelled (here ∙ ap (λ (s : List ℕ). form s ++ rest) n.text))
denotes Field text i c rest low here =
    let n = numeral c low in
    subst (λ (s : List ℕ). Denotes text i (codes "#2 <" ++ s ++ codes ", " ++ s ++ codes " + 1, <>>")
    (item_term Field c)) (sym n.text)
    (field text i c n.d n.ds low n.spelled)
denotes Identity text i c rest low here =
    let n = numeral c low in
    let form : List ℕ → List ℕ = λ s. codes "(gen a. fix i(x:a):a. x)[int] " ++ s in
    subst (λ (s : List ℕ). Denotes text i (form s) (item_term Identity c)) (sym n.text)
    (identity text i c n.d n.ds rest low n.spelled (here ∙ ap (λ (s : List ℕ). form s ++ rest) n.text))
denotes Branch text i c rest low here =
    let n = numeral c low in
    subst (λ (s : List ℕ). Denotes text i (codes "if0(" ++ s ++ codes ", 1, 2)") (item_term Branch c)) (sym n.text)
    (branch text i c n.d n.ds low n.spelled)
denotes Twice text i c rest low here =
    let n = numeral c low in
    let form : List ℕ → List ℕ =
    λ s. codes "(fix t(g:int -> int):int. g (g " ++ s ++ codes ")) (fix s(y:int):int. y * 3)" in
    subst (λ (s : List ℕ). Denotes text i (form s) (item_term Twice c)) (sym n.text)
    (twice text i c n.d n.ds rest low n.spelled (here ∙ ap (λ (s : List ℕ). form s ++ rest) n.text))
