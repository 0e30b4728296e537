-- How the heads of binders are read, over plain variables.
use Rattle.std.proofs.Common.{◌≡◌, ℕ, ◌+◌, ◌<◌, ◌≤◌, List, [], ◌∷◌, slice_get, refl, Some, arith, true}
use Rattle.f_lexer.specs.declared.token.Token.{Token}
use Rattle.f_lexer.specs.declared.kind.Kind.{Kind}
use Rattle.f_lexer.specs.declared.kind.Kind.TheVariants as k
use Rattle.text_core.specs.Table.{Nt, Tm}
use Rattle.text_core.specs.Going.{next_of}
use Rattle.text_core.proofs.Going as step
use Rattle.f_grammar.specs.Raw.{TyPiece}
use Rattle.f_grammar.specs.Machine.{table, Stack, Val, OfToken, OfType, LE, LT, LParam, fits, expr_after}
use Rattle.f_grammar.specs.Read.{type_of}
use Rattle.f_grammar.specs.Reads.{Fails, Reads, ReadsParameter}
use Rattle.f_grammar.specs.declared.cursor.Wanted.TheVariants as want
use Rattle.f_grammar.specs.declared.cursor.Stopped.{Stopped}
use Rattle.f_grammar.specs.declared.cursor.Stopped.TheVariants.{TooDeep}
use Rattle.f_grammar.specs.declared.params.FoundParameter.{FoundParameter}
use Rattle.f_grammar.proofs.Typing.{Moves, by_token, by_line, fails_deep, within}
use Rattle.f_grammar.specs.ReadsTerms.{fix_body, gen_body, ReadsGenHead}

abbrev pub gen_owed : Stack
gen_owed = Tm want.Name ∷ (Tm want.Dot ∷ gen_body)

abbrev pub fix_owed : Stack
fix_owed = Tm want.Name ∷ (Nt LParam ∷ (Tm want.Colon ∷ (Nt LT ∷ (Tm want.Dot ∷ fix_body))))

after_gen : (c : Kind) → fits want.Gen c ≡ true → expr_after c ≡ Some gen_owed
after_gen k.Gen e = refl
after_gen _ e = absurd (cc)

after_fix : (c : Kind) → fits want.Fix c ≡ true → expr_after c ≡ Some fix_owed
after_fix k.Fix e = refl
after_fix _ e = absurd (cc)

module _ (ts : List Token) (d i : ℕ) (w : Token) where
  -- gen name .
  module _ (e : next_of table want.Gen (slice_get ts i) ≡ Some w) where
    pub gen_deep : (s : Stopped) → (s ≡ TooDeep i) × (200 ≤ d) → Fails ts d i (Nt LE ∷ []) [] s
    gen_deep s h =
        fails_deep ts d i w LE gen_owed [] [] s h (step.is_next table ts i want.Gen w e)
        (after_gen w.kind (step.is_of table ts i want.Gen w e)) refl

    module _ (h : d < 200) where
      pub gen_1 : Moves ts d i (Nt LE ∷ []) [] (i + 1) gen_owed (OfToken w ∷ [])
      gen_1 = step.line_goes table 200 ts d i w LE gen_owed [] [] (step.is_next table ts i want.Gen w e)
          (after_gen w.kind (step.is_of table ts i want.Gen w e)) (omega arith)

      pub gen_2 : (n : Token) → next_of table want.Name (slice_get ts (i + 1)) ≡ Some n →
          Moves ts d i (Nt LE ∷ []) [] (i + 2) (Tm want.Dot ∷ gen_body) (OfToken n ∷ (OfToken w ∷ []))
      gen_2 n f = step.goes_to table 200 ts d (omega arith)
          (by_token ts d want.Name n (Tm want.Dot ∷ gen_body) (OfToken w ∷ []) gen_1 f (omega arith))

      pub gen_read : (n s : Token) → next_of table want.Name (slice_get ts (i + 1)) ≡ Some n →
          next_of table want.Dot (slice_get ts (i + 2)) ≡ Some s → ReadsGenHead ts d i w n
      gen_read n s f g = record {
        dot = s;
        room = h;
        in_range = (let l = within ts (i + 2) want.Dot s g in omega arith);
        same = step.goes_to table 200 ts d (omega arith)
            (by_token ts d want.Dot s gen_body (OfToken n ∷ (OfToken w ∷ [])) (gen_2 n f) g (omega arith));
      }

  -- fix name ( name : T ) : T .
  module _ (e : next_of table want.Fix (slice_get ts i) ≡ Some w) where
    pub fix_deep : (s : Stopped) → (s ≡ TooDeep i) × (200 ≤ d) → Fails ts d i (Nt LE ∷ []) [] s
    fix_deep s h =
        fails_deep ts d i w LE fix_owed [] [] s h (step.is_next table ts i want.Fix w e)
        (after_fix w.kind (step.is_of table ts i want.Fix w e)) refl

    module _ (h : d < 200) where
      pub fix_1 : Moves ts d i (Nt LE ∷ []) [] (i + 1) fix_owed (OfToken w ∷ [])
      fix_1 = step.line_goes table 200 ts d i w LE fix_owed [] [] (step.is_next table ts i want.Fix w e)
          (after_fix w.kind (step.is_of table ts i want.Fix w e)) (omega arith)

      module _ (n : Token) (f : next_of table want.Name (slice_get ts (i + 1)) ≡ Some n) where
        pub fix_2 : Moves ts d i (Nt LE ∷ []) [] (i + 2)
            (Nt LParam ∷ (Tm want.Colon ∷ (Nt LT ∷ (Tm want.Dot ∷ fix_body)))) (OfToken n ∷ (OfToken w ∷ []))
        fix_2 = step.goes_to table 200 ts d (omega arith)
            (by_token ts d want.Name n (Nt LParam ∷ (Tm want.Colon ∷ (Nt LT ∷ (Tm want.Dot ∷ fix_body))))
            (OfToken w ∷ []) fix_1 f (omega arith))

        module _ (m : ℕ) (q : m ≡ d + 1) (p : FoundParameter) (r : ReadsParameter ts m (i + 2) p) where
          abbrev param_values : List Val
          param_values =
              OfToken r.close_paren
              ∷ (OfType (record { ty = type_of p.ty; end = r.type_end })
              ∷ (OfToken r.colon ∷ (OfToken p.name ∷ (OfToken r.open_paren ∷ (OfToken n ∷ (OfToken w ∷ []))))))

          pub fix_3 : Moves ts d i (Nt LE ∷ []) [] p.next (Tm want.Colon ∷ (Nt LT ∷ (Tm want.Dot ∷ fix_body)))
              param_values
          fix_3 = by_line ts d m (Tm want.Colon ∷ (Nt LT ∷ (Tm want.Dot ∷ fix_body))) (OfToken n ∷ (OfToken w ∷ []))
              fix_2 (omega (arith, q)) r.reads.same

          module _ (c : Token) (g : next_of table want.Colon (slice_get ts p.next) ≡ Some c) where
            pub fix_4 : Moves ts d i (Nt LE ∷ []) [] (p.next + 1) (Nt LT ∷ (Tm want.Dot ∷ fix_body))
                (OfToken c ∷ param_values)
            fix_4 = by_token ts d want.Colon c (Nt LT ∷ (Tm want.Dot ∷ fix_body)) param_values fix_3 g (omega arith)

            module _ (j : ℕ) (t : TyPiece) (x : Reads LT ts m (p.next + 1) j (OfType t ∷ [])) where
              pub fix_5 : Moves ts d i (Nt LE ∷ []) [] j (Tm want.Dot ∷ fix_body)
                  (OfType t ∷ (OfToken c ∷ param_values))
              fix_5 = by_line ts d m (Tm want.Dot ∷ fix_body) (OfToken c ∷ param_values) fix_4 (omega (arith, q)) x.same

              pub fix_6 : (s : Token) → next_of table want.Dot (slice_get ts j) ≡ Some s →
                  Moves ts d i (Nt LE ∷ []) [] (j + 1) fix_body (OfToken s ∷ (OfType t ∷ (OfToken c ∷ param_values)))
              fix_6 s y =
                  by_token ts d want.Dot s fix_body (OfType t ∷ (OfToken c ∷ param_values)) fix_5 y (omega arith)
