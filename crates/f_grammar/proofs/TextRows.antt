-- Worked rows: which term a text stands for, which name is bound where, and first faults.
use Rattle.std.specs.Prelude.{codes}
use Rattle.std.proofs.Common.{◌≡◌, ◌≢◌, ℕ, List, [], ◌∷◌, ◌<◌, pos, refl, ap, arith, lit≤, lit<, false}
use Rattle.idx_core.specs.declared.span.Span.{Span}
use Rattle.text_core.specs.Tokens.{c_end, c_gap, c_token}
use Rattle.text_core.specs.Verdicts.{Says}
use Rattle.text_core.specs.Table.{Fine, Unexpected}
use Rattle.text_core.proofs.Items.{some_next}
use Rattle.f_terms.specs.declared.fault.Code.TheVariants.{E03, E04, E05}
use Rattle.f_terms.specs.Ty.{TInt, TVar, TAll, TArrow}
use Rattle.f_terms.specs.Tm.{SVar, SFix}
use Rattle.f_lexer.specs.declared.token.Token.{Token}
use Rattle.f_lexer.specs.declared.kind.Kind.TheVariants as k
use Rattle.f_lexer.specs.Source.{source}
use Rattle.f_lexer.proofs.Finding.{source_signs}
use Rattle.f_grammar.specs.Raw.{RVar, RFix, RInt, RName, RAll, RArrow, var}
use Rattle.f_grammar.specs.Grammar.{tok, e_sum, s_product, m_call, a_part, p_name}
use Rattle.f_grammar.specs.Machine.{table, OfTerm}
use Rattle.f_grammar.proofs.Instance.{source_exact}
use Rattle.f_grammar.specs.Scope.{TypeOf, of_int, of_name, of_arrow, of_all, TermOf, of_var, of_fix, use_at}
use Rattle.f_grammar.specs.Text.{HasTokens, HasShape, FirstFault, unexpected, cut_short, unbound}

abbrev at : ℕ → ℕ → Span
at i j = record { start = i; end = j }

abbrev first : List ℕ → ℕ
first [] = 0
first (b ∷ s) = b

-- two names that differ in their first byte
below : (a b : List ℕ) → first a < first b → a ≢ b
below a b h e = let q : first a ≡ first b = ap first e in omega arith

-- Of two binders of one name the inner one counts: in `fix f(f:int):int. f` the parameter, which is 0.
hidden : TermOf (codes "fix f(f:int):int. f") [] [] (RFix (at 0 19) (at 4 5) (at 6 7) RInt RInt (RVar (at 18 19)))
    (SFix (0, 19) TInt TInt (SVar (18, 19) 0))
hidden = of_fix (at 0 19) (at 4 5) (at 6 7) of_int of_int (of_var (at 18 19) 0 refl)

-- In `fix f(x:int):int. f` the function is 1.
itself : TermOf (codes "fix f(x:int):int. f") [] [] (RFix (at 0 19) (at 4 5) (at 6 7) RInt RInt (RVar (at 18 19)))
    (SFix (0, 19) TInt TInt (SVar (18, 19) 1))
itself = of_fix (at 0 19) (at 4 5) (at 6 7) of_int of_int (of_var (at 18 19) 1 (below _ _ (lit< tt), refl))

-- Types: in `all a. all b. a -> b` the outer name is 1.
outer : TypeOf (codes "all a. all b. a -> b") []
    (RAll (at 4 5) (RAll (at 11 12) (RArrow (RName (at 14 15)) (RName (at 19 20)))))
    (TAll (TAll (TArrow (TVar 1) (TVar 0))))
outer = of_all (at 4 5)
    (of_all (at 11 12) (of_arrow (of_name (at 14 15) 1 (below _ _ (lit< tt), refl)) (of_name (at 19 20) 0 refl)))

-- The text `x`: E05 at 0..1.
x_shape : HasShape (codes "x") (var (at 0 1))
x_shape =
    let says : Says table 200 (tok k.Name (at 0 1) ∷ []) (Fine (OfTerm (var (at 0 1)) ∷ [])) =
    source_exact 200 (tok k.Name (at 0 1) ∷ []) in
    record {
      tokens = tok k.Name (at 0 1) ∷ [];
      has_tokens = record { few_bytes = lit≤ tt; cut = c_token (some_next source source_signs 120 []) tt c_end };
      is_shape = e_sum (s_product (m_call (a_part (p_name (at 0 1)))));
      few_open = says.within;
    }

x_fault : FirstFault (codes "x") E05 (at 0 1)
x_fault = unbound (var (at 0 1)) (use_at (at 0 1) false []) x_shape (lit≤ tt)
    (record { before = []; after = []; place = refl; bound = tt; unbound = tt })

-- The text `1 )`: E03 at 2..3.
abbrev one_paren : List Token
one_paren = tok (k.Plain (pos 1)) (at 0 1) ∷ (tok k.RightParen (at 2 3) ∷ [])

one_paren_fault : FirstFault (codes "1 )") E03 (at 2 3)
one_paren_fault =
    let says : Says table 200 one_paren (Unexpected (tok k.RightParen (at 2 3) ∷ [])) = source_exact 200 one_paren in
    let has : HasTokens (codes "1 )") one_paren = record {
      few_bytes = lit≤ tt;
      cut = c_token (some_next source source_signs 49 (codes " )")) (omega arith)
          (c_gap (some_next source source_signs 32 (codes ")"))
          (c_token (some_next source source_signs 41 []) tt c_end));
    } in
    unexpected says.0 (tok k.RightParen (at 2 3)) [] has says.1

-- The text `(`: E04 at 1..1.
abbrev open_paren : List Token
open_paren = tok k.LeftParen (at 0 1) ∷ []

open_paren_fault : FirstFault (codes "(") E04 (at 1 1)
open_paren_fault =
    let says : Says table 200 open_paren (Unexpected []) = source_exact 200 open_paren in
    let has : HasTokens (codes "(") open_paren =
    record { few_bytes = lit≤ tt; cut = c_token (some_next source source_signs 40 []) tt c_end } in
    cut_short has says
