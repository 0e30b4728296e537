-- Where a term or a part begins: what was reached before its first inner term.
use Rattle.std.proofs.Common.{◌≡◌, ◌<◌, ℕ, ◌+◌, List, [], ◌∷◌, ◌++◌, slice_get, map, Vec, Global, refl, ap, Some, None}
use Rattle.std.proofs.Common.{arith}
use Rattle.f_lexer.specs.declared.token.Token.{Token}
use Rattle.f_lexer.specs.declared.kind.Kind.{Kind}
use Rattle.f_lexer.specs.declared.kind.Kind.TheVariants as k
use Rattle.text_core.specs.Table.{Tm, Nt, Do, Mark}
use Rattle.text_core.specs.Going.{at_the_end, other, next_of}
use Rattle.text_core.proofs.Going as step
use Rattle.f_grammar.specs.Raw.{RFields, var, number, tuple, raw_tms}
use Rattle.f_grammar.specs.Read.{type_of}
use Rattle.f_grammar.specs.declared.cursor.Stopped.{Stopped}
use Rattle.f_grammar.specs.declared.cursor.Stopped.TheVariants.{Unexpected}
use Rattle.f_grammar.specs.Reads.{found_ty, ReadsType}
use Rattle.f_grammar.specs.Machine.{table, LE, LP, LFields, LBranches, LT, MoreParts, MoreFactors, MoreSums, Stack}
use Rattle.f_grammar.specs.Machine.{Val, OfToken, OfTerm, OfTerms, OfType, MakeVar, MakeNumber, MakeParen, MakeTuple}
use Rattle.f_grammar.specs.Machine.{MakeUnit, MakeProj, MakeIf0, MakeLet, MakeOpen, MakeRef, MakeDeref}
use Rattle.f_grammar.specs.Machine.{LHidden, LNames, body_owed, fields_tail, sum_tail, part_after}
use Rattle.f_grammar.proofs.Typing.{not_fits}
use Rattle.f_grammar.specs.declared.cursor.Wanted.TheVariants as want
use Rattle.f_grammar.specs.declared.raw.RawShape.{RawShape}
use Rattle.f_grammar.specs.declared.raw.RawShape.TheVariants as shape
use Rattle.f_grammar.specs.declared.types.FoundType.{FoundType}
use Rattle.f_grammar.specs.declared.heads.FoundHead.{FoundHead}
use Rattle.f_grammar.specs.declared.forest.Forest.{Forest}
use Rattle.f_grammar.specs.declared.part.Part as parts
use Rattle.f_grammar.specs.declared.frame.Frame.{Frame}
use Rattle.f_grammar.specs.declared.frame.Frame.TheVariants as frame
use Rattle.f_grammar.specs.ReadsTerms.{fix_body, gen_body, ReadsHead, ReadsGenHead, IsFieldNumber}
use Rattle.f_grammar.specs.Forest.{span_from, tree_in, Puts}
use Rattle.f_grammar.specs.Frames.{shape_owed, Opened, opened_values, Reached, IsLeaf, IsStop}
use Rattle.f_grammar.proofs.Follows.{after_more, not_more, as_sum, branches_owed, after_paren, not_paren, after_let}
use Rattle.f_grammar.proofs.Follows.{pack_owed, after_pack, after_open, hidden_owed, after_bracket, not_bracket}
use Rattle.f_grammar.proofs.Follows.{names_owed, after_names, not_names}
use Rattle.f_grammar.proofs.Keeping.{new_stands}
use Rattle.f_grammar.proofs.Reaching.{token, line, as_line, closed, done, made, called, enter, stops_line}
use Rattle.f_grammar.proofs.Steps.{Given}

module _ (ts : List Token) {fs : List Frame} {b : Forest} {depth at : ℕ} where
  -- E
  pub sum_begun : {es gs hs is : List Frame} → next_of table want.Fix (slice_get ts at) ≡ None →
      next_of table want.Gen (slice_get ts at) ≡ None →
      next_of table want.Let (slice_get ts at) ≡ None → next_of table want.Pack (slice_get ts at) ≡ None →
      next_of table want.Open (slice_get ts at) ≡ None →
      es ≡ fs ++ frame.MoreAssign ∷ [] → gs ≡ es ++ frame.MoreSums ∷ [] → hs ≡ gs ++ frame.MoreFactors ∷ [] →
      is ≡ hs ++ frame.MoreParts ∷ [] →
      Reached ts fs b depth at (Nt LE ∷ []) [] → Reached ts is b depth at (Nt LP ∷ []) []
  sum_begun f g h i j w x y z r =
      let s = as_line ts LP LE sum_tail refl refl refl
      (λ c q. as_sum c.kind (not_fits want.Fix (slice_get ts at) c f q) (not_fits want.Gen (slice_get ts at) c g q)
      (not_fits want.Let (slice_get ts at) c h q) (not_fits want.Pack (slice_get ts at) c i q)
      (not_fits want.Open (slice_get ts at) c j q)) r in
      enter ts (Nt LP ∷ []) [] frame.MoreParts [] z refl
      (enter ts (Nt LP ∷ (Nt MoreParts ∷ [])) [] frame.MoreFactors [] y refl
      (enter ts (Nt LP ∷ (Nt MoreParts ∷ (Nt MoreFactors ∷ []))) [] frame.MoreSums [] x refl
      (enter ts (Nt LP ∷ (Nt MoreParts ∷ (Nt MoreFactors ∷ (Nt MoreSums ∷ [])))) [] frame.MoreAssign [] w refl s)))

  pub fix_begun : {gs : List Frame} (f : FoundHead) → gs ≡ fs ++ frame.Fix f.head ∷ [] → ReadsHead ts depth at f →
      Reached ts fs b depth at (Nt LE ∷ []) [] → Reached ts gs b (depth + 1) f.next (Nt LE ∷ []) []
  fix_begun f e h r =
      let vs = OfToken h.dot
      ∷ (OfType (record { ty = type_of f.head.gives; end = h.gives_end })
      ∷ (OfToken h.colon_again
      ∷ (OfToken h.right
      ∷ (OfType (record { ty = type_of f.head.takes; end = h.takes_end })
      ∷ (OfToken h.colon
      ∷ (OfToken h.parameter ∷ (OfToken h.left ∷ (OfToken h.name ∷ (OfToken h.word ∷ []))))))))) in
      enter ts (Nt LE ∷ []) [] (frame.Fix f.head) vs e
      (record {
        word = h.word;
        name = h.name;
        left = h.left;
        parameter = h.parameter;
        colon = h.colon;
        right = h.right;
        colon_again = h.colon_again;
        dot = h.dot;
        takes_end = h.takes_end;
        gives_end = h.gives_end;
        word_is = h.word_is;
        name_is = h.name_is;
        parameter_is = h.parameter_is;
        are = refl;
      })
      (called ts [] (Nt LE ∷ []) fix_body vs f.next (depth + 1) refl (omega arith) (omega (arith, h.room)) h.in_range
      (λ below. refl) h.same r)

  pub gen_begun : {gs : List Frame} (w n : Token) → gs ≡ fs ++ frame.Gen w.span n.span ∷ [] →
      ReadsGenHead ts depth at w n → Reached ts fs b depth at (Nt LE ∷ []) [] →
      Reached ts gs b (depth + 1) (at + 3) (Nt LE ∷ []) []
  gen_begun w n e h r =
      let vs = OfToken h.dot ∷ (OfToken n ∷ (OfToken w ∷ [])) in
      enter ts (Nt LE ∷ []) [] (frame.Gen w.span n.span) vs e (w, n, h.dot, refl, refl, refl)
      (called ts [] (Nt LE ∷ []) gen_body vs (at + 3) (depth + 1) refl (omega arith) (omega (arith, h.room)) h.in_range
      (λ below. refl) h.same r)

  module _ (c : Token) (is : next_of table want.Let (slice_get ts at) ≡ Some c)
      (r : Reached ts fs b depth at (Nt LE ∷ []) []) where
    pub let_word : slice_get ts at ≡ Some c
    let_word = step.is_next table ts at want.Let c is

    pub let_owes : table.after LE c ≡ Some (Tm want.Name ∷ body_owed MakeLet)
    let_owes = after_let c.kind (step.is_of table ts at want.Let c is)

    module _ (inner : ℕ) (d : (inner ≡ depth + 1) × (depth < 200)) where
      pub let_open : Reached ts fs b inner (at + 1) (Tm want.Name ∷ body_owed MakeLet) (OfToken c ∷ [])
      let_open = line ts LE c (Tm want.Name ∷ body_owed MakeLet) inner r let_word let_owes (omega (arith, d.0))
          (omega (arith, d.0, d.1))

      module _ (n : Token) (f : next_of table want.Name (slice_get ts (at + 1)) ≡ Some n) where
        pub let_named : Reached ts fs b inner (at + 1 + 1) (body_owed MakeLet) (OfToken n ∷ (OfToken c ∷ []))
        let_named = token ts want.Name n let_open f

        pub let_begun : {gs : List Frame} (q : Token) → next_of table want.Equals (slice_get ts (at + 1 + 1))
            ≡ Some q → gs ≡ fs ++ frame.Let c.span n.span ∷ [] → Reached ts gs b inner (at + 1 + 1 + 1) (Nt LE ∷ []) []
        let_begun q g e =
            enter ts (Nt LE ∷ []) [] (frame.Let c.span n.span) (OfToken q ∷ (OfToken n ∷ (OfToken c ∷ []))) e
            (c, n, q, refl, refl, refl) (token ts want.Equals q let_named g)

  module _ (c : Token) (is : next_of table want.Pack (slice_get ts at) ≡ Some c)
      (r : Reached ts fs b depth at (Nt LE ∷ []) []) where
    pub pack_open : Reached ts fs b depth (at + 1) pack_owed (OfToken c ∷ [])
    pack_open = line ts LE c pack_owed depth r (step.is_next table ts at want.Pack c is)
        (after_pack c.kind (step.is_of table ts at want.Pack c is)) (omega arith) r.room

    module _ (o : Token) (g : next_of table want.LeftBracket (slice_get ts (at + 1)) ≡ Some o) where
      pub hidden_word : slice_get ts (at + 1) ≡ Some o
      hidden_word = step.is_next table ts (at + 1) want.LeftBracket o g

      pub hidden_owes : table.after LHidden o ≡ Some hidden_owed
      hidden_owes = after_bracket o.kind (step.is_of table ts (at + 1) want.LeftBracket o g)

      module _ (inner : ℕ) (d : (inner ≡ depth + 1) × (depth < 200)) where
        pub hidden_open : Reached ts fs b inner (at + 1 + 1) (hidden_owed ++ shape_owed) (OfToken o ∷ (OfToken c ∷ []))
        hidden_open =
            line ts LHidden o hidden_owed inner pack_open hidden_word hidden_owes (omega (arith, d.0))
            (omega (arith, d.0, d.1))

        module _ (f : FoundType) (h : ReadsType LT ts inner (at + 1 + 1) f) where
          pub hidden_typed : Reached ts fs b inner f.next
              (Tm want.Comma ∷ (Nt LE ∷ (Tm want.RightBracket ∷ (Mark ∷ shape_owed))))
              (OfType (found_ty f) ∷ (OfToken o ∷ (OfToken c ∷ [])))
          hidden_typed =
              called ts (Tm want.Comma ∷ (Nt LE ∷ (Tm want.RightBracket ∷ (Mark ∷ shape_owed)))) (Nt LT ∷ []) []
              (OfType (found_ty f) ∷ []) f.next inner refl (omega arith) (omega (arith, d.0, d.1)) h.in_range
              (λ below. refl) h.same hidden_open

          pub pack_begun : {gs : List Frame} (m : Token) → next_of table want.Comma (slice_get ts f.next) ≡ Some m →
              gs ≡ fs ++ frame.Pack c.span f.ty ∷ [] → Reached ts gs b inner (f.next + 1) (Nt LE ∷ []) []
          pack_begun m k e =
              enter ts (Nt LE ∷ []) [] (frame.Pack c.span f.ty)
              (OfToken m ∷ (OfType (found_ty f) ∷ (OfToken o ∷ (OfToken c ∷ [])))) e (c, o, m, f.end, refl, refl)
              (token ts want.Comma m hidden_typed k)

  module _ (c : Token) (is : next_of table want.Open (slice_get ts at) ≡ Some c)
      (r : Reached ts fs b depth at (Nt LE ∷ []) []) where
    pub open_word : slice_get ts at ≡ Some c
    open_word = step.is_next table ts at want.Open c is

    pub open_owes : table.after LE c ≡ Some (Nt LNames ∷ body_owed MakeOpen)
    open_owes = after_open c.kind (step.is_of table ts at want.Open c is)

    module _ (inner : ℕ) (d : (inner ≡ depth + 1) × (depth < 200)) where
      pub open_open : Reached ts fs b inner (at + 1) (Nt LNames ∷ body_owed MakeOpen) (OfToken c ∷ [])
      open_open = line ts LE c (Nt LNames ∷ body_owed MakeOpen) inner r open_word open_owes (omega (arith, d.0))
          (omega (arith, d.0, d.1))

      module _ (o : Token) (g : next_of table want.LeftBracket (slice_get ts (at + 1)) ≡ Some o) where
        pub names_word : slice_get ts (at + 1) ≡ Some o
        names_word = step.is_next table ts (at + 1) want.LeftBracket o g

        pub names_owes : table.after LNames o ≡ Some names_owed
        names_owes = after_names o.kind (step.is_of table ts (at + 1) want.LeftBracket o g)

        module _ (deep : ℕ) (m : (deep ≡ inner + 1) × (inner < 200)) where
          pub open_1 : Reached ts fs b deep (at + 1 + 1) (names_owed ++ body_owed MakeOpen)
              (OfToken o ∷ (OfToken c ∷ []))
          open_1 = line ts LNames o names_owed deep open_open names_word names_owes (omega (arith, m.0))
              (omega (arith, m.0, m.1))

          module _ (t : Token) (f : next_of table want.Name (slice_get ts (at + 1 + 1)) ≡ Some t) where
            pub open_2 : Reached ts fs b deep (at + 1 + 1 + 1)
                (Tm want.Comma ∷ (Tm want.Name ∷ (Tm want.RightBracket ∷ (Mark ∷ body_owed MakeOpen))))
                (OfToken t ∷ (OfToken o ∷ (OfToken c ∷ [])))
            open_2 = token ts want.Name t open_1 f

            module _ (k : Token) (h : next_of table want.Comma (slice_get ts (at + 1 + 1 + 1)) ≡ Some k) where
              pub open_3 : Reached ts fs b deep (at + 1 + 1 + 1 + 1)
                  (Tm want.Name ∷ (Tm want.RightBracket ∷ (Mark ∷ body_owed MakeOpen)))
                  (OfToken k ∷ (OfToken t ∷ (OfToken o ∷ (OfToken c ∷ []))))
              open_3 = token ts want.Comma k open_2 h

              module _ (x : Token) (i : next_of table want.Name (slice_get ts (at + 1 + 1 + 1 + 1)) ≡ Some x) where
                pub open_4 : Reached ts fs b deep (at + 1 + 1 + 1 + 1 + 1)
                    (Tm want.RightBracket ∷ (Mark ∷ body_owed MakeOpen))
                    (OfToken x ∷ (OfToken k ∷ (OfToken t ∷ (OfToken o ∷ (OfToken c ∷ [])))))
                open_4 = token ts want.Name x open_3 i

                module _ (z : Token)
                    (j : next_of table want.RightBracket (slice_get ts (at + 1 + 1 + 1 + 1 + 1)) ≡ Some z) (outer : ℕ)
                    (l : deep ≡ outer + 1) where
                  pub open_5 : Reached ts fs b outer (at + 1 + 1 + 1 + 1 + 1 + 1) (body_owed MakeOpen)
                      (OfToken z ∷ (OfToken x ∷ (OfToken k ∷ (OfToken t ∷ (OfToken o ∷ (OfToken c ∷ []))))))
                  open_5 = closed ts outer l (token ts want.RightBracket z open_4 j)

                  pub open_begun : {gs : List Frame} (q : Token) →
                      next_of table want.Equals (slice_get ts (at + 1 + 1 + 1 + 1 + 1 + 1)) ≡ Some q →
                      gs ≡ fs ++ frame.Open c.span t.span x.span ∷ [] →
                      Reached ts gs b outer (at + 1 + 1 + 1 + 1 + 1 + 1 + 1) (Nt LE ∷ []) []
                  open_begun q y e =
                      let vs : Opened =
                      record { word = c; left = o; ty = t; comma = k; name = x; right = z; equals = q } in
                      enter ts (Nt LE ∷ []) [] (frame.Open c.span t.span x.span) (opened_values vs) e
                      (vs, refl, refl, refl, refl) (token ts want.Equals q open_5 y)

  -- P
  module _ (c : Token) (is : slice_get ts at ≡ Some c) (r : Reached ts fs b depth at (Nt LP ∷ []) []) where
    leaf_by : (kind : Kind) (form : RawShape) {new : Forest} {p : parts.Part} → c.kind ≡ kind → IsLeaf kind form →
        Puts b new form (span_from c.span.start c.span.end) p → Given ts fs new depth (at + 1) p
    leaf_by k.Name shape.Var e h puts = record {
      piece = var c.span;
      stands = new_stands puts (var c.span) refl refl refl (λ x. refl);
      reached = made ts MakeVar (OfTerm (var c.span) ∷ []) (λ below. refl) (λ below. refl) puts
          (line ts LP c (Do MakeVar ∷ []) depth r is (rw e refl) (omega arith) r.room);
    }
    leaf_by (k.Plain z) (shape.Num y) e h puts = record {
      piece = number z c.span;
      stands = new_stands puts (number z c.span) refl refl refl (λ x. rw h refl);
      reached = made ts MakeNumber (OfTerm (number z c.span) ∷ []) (λ below. rw e refl) (λ below. refl) puts
          (line ts LP c (Do MakeNumber ∷ []) depth r is (rw e refl) (omega arith) r.room);
    }
    leaf_by (k.Negative z) (shape.Num y) e h puts = record {
      piece = number z c.span;
      stands = new_stands puts (number z c.span) refl refl refl (λ x. rw h refl);
      reached = made ts MakeNumber (OfTerm (number z c.span) ∷ []) (λ below. rw e refl) (λ below. refl) puts
          (line ts LP c (Do MakeNumber ∷ []) depth r is (rw e refl) (omega arith) r.room);
    }
    leaf_by _ _ e h puts = absurd h

    pub leaf_given : {form : RawShape} {new : Forest} {p : parts.Part} → IsLeaf c.kind form →
        Puts b new form (span_from c.span.start c.span.end) p → Given ts fs new depth (at + 1) p
    leaf_given {form} h puts = leaf_by c.kind form refl h puts

    pub paren_begun : {gs : List Frame} {inner : ℕ} → c.kind ≡ k.LeftParen → (inner ≡ depth + 1) × (depth < 200) →
        gs ≡ fs ++ frame.Paren c.span ∷ [] → Reached ts gs b inner (at + 1) (Nt LE ∷ []) []
    paren_begun e d f =
        enter ts (Nt LE ∷ []) [] (frame.Paren c.span) (OfToken c ∷ []) f (c, refl, refl)
        (line ts LP c (Nt LE ∷ (Tm want.RightParen ∷ (Mark ∷ (Do MakeParen ∷ [])))) _ r is (rw e refl)
        (omega (arith, d.0)) (omega (arith, d.0, d.1)))

    tuple_open : (inner : ℕ) → c.kind ≡ k.LeftAngle → (inner ≡ depth + 1) × (depth < 200) →
        Reached ts fs b inner (at + 1) (Nt LFields ∷ (Mark ∷ (Do MakeTuple ∷ []))) (OfToken c ∷ [])
    tuple_open inner e d =
        line ts LP c (Nt LFields ∷ (Mark ∷ (Do MakeTuple ∷ []))) inner r is (rw e refl) (omega (arith, d.0))
        (omega (arith, d.0, d.1))

    pub unit_given : {inner : ℕ} (s : Token) (es : Vec ℕ Global) {new : Forest} {p : parts.Part} →
        c.kind ≡ k.LeftAngle → (inner ≡ depth + 1) × (depth < 200) →
        next_of table want.RightAngle (slice_get ts (at + 1)) ≡ Some s →
        es.items ≡ [] → Puts b new (shape.Tuple es) (span_from c.span.start s.span.end) p →
        Given ts fs new depth (at + 1 + 1) p
    unit_given {inner} s es e d f none puts =
        let o = line ts LFields s (Do MakeUnit ∷ []) inner (tuple_open inner e d)
        (step.is_next table ts (at + 1) want.RightAngle s f)
        (after_more s.kind (step.is_of table ts (at + 1) want.RightAngle s f)) (omega arith)
        (omega (arith, d.0, d.1)) in
        let u =
        done ts MakeUnit (OfToken s ∷ (OfTerms [] ∷ (OfToken c ∷ []))) (λ below. refl) (λ below. omega arith) o in
        record {
          piece = tuple c.span [] s.span;
          stands = new_stands puts (tuple c.span [] s.span) refl refl refl
              (λ x. ap (λ (xs : List ℕ). RFields (span_from c.span.start s.span.end) (raw_tms (map (tree_in b) xs)))
              none);
          reached = made ts MakeTuple (OfTerm (tuple c.span [] s.span) ∷ []) (λ below. refl)
              (λ below. omega arith) puts (closed ts depth d.0 u);
        }

    pub first_begun : {gs : List Frame} {inner : ℕ} → c.kind ≡ k.LeftAngle → (inner ≡ depth + 1) × (depth < 200) →
        next_of table want.RightAngle (slice_get ts (at + 1)) ≡ None → gs ≡ fs ++ frame.First c.span ∷ [] →
        Reached ts gs b inner (at + 1) (Nt LE ∷ []) []
    first_begun {gs} {inner} e d f g =
        enter ts (Nt LE ∷ []) [] (frame.First c.span) (OfToken c ∷ []) g (c, refl, refl)
        (as_line ts LE LFields fields_tail refl refl refl
        (λ t q. not_more t.kind (not_fits want.RightAngle (slice_get ts (at + 1)) t f q)) (tuple_open inner e d))

    pub proj_open : (inner : ℕ) → c.kind ≡ k.Hash → (inner ≡ depth + 1) × (depth < 200) →
        Reached ts fs b inner (at + 1) (Tm want.Number ∷ (Nt LP ∷ (Mark ∷ (Do MakeProj ∷ [])))) (OfToken c ∷ [])
    proj_open inner e d =
        line ts LP c (Tm want.Number ∷ (Nt LP ∷ (Mark ∷ (Do MakeProj ∷ [])))) inner r is (rw e refl)
        (omega (arith, d.0)) (omega (arith, d.0, d.1))

    pub proj_begun : {gs : List Frame} {inner n : ℕ} → c.kind ≡ k.Hash → (inner ≡ depth + 1) × (depth < 200) →
        IsFieldNumber ts (at + 1) n → gs ≡ fs ++ frame.Proj c.span n ∷ [] →
        Reached ts gs b inner (at + 1 + 1) (Nt LP ∷ []) []
    proj_begun {gs} {inner} {n} e d g f =
        enter ts (Nt LP ∷ []) [] (frame.Proj c.span n) (OfToken g.token ∷ (OfToken c ∷ [])) f
        (c, g.token, refl, g.value, refl)
        (token ts want.Number g.token (proj_open inner e d) g.is)

    pub ref_begun : {gs : List Frame} {inner : ℕ} → c.kind ≡ k.Ref → (inner ≡ depth + 1) × (depth < 200) →
        gs ≡ fs ++ frame.Ref c.span ∷ [] → Reached ts gs b inner (at + 1) (Nt LP ∷ []) []
    ref_begun {inner} e d f =
        enter ts (Nt LP ∷ []) [] (frame.Ref c.span) (OfToken c ∷ []) f (c, refl, refl)
        (line ts LP c (Nt LP ∷ (Mark ∷ (Do MakeRef ∷ []))) inner r is (rw e refl) (omega (arith, d.0))
        (omega (arith, d.0, d.1)))

    pub deref_begun : {gs : List Frame} {inner : ℕ} → c.kind ≡ k.Bang → (inner ≡ depth + 1) × (depth < 200) →
        gs ≡ fs ++ frame.Deref c.span ∷ [] → Reached ts gs b inner (at + 1) (Nt LP ∷ []) []
    deref_begun {inner} e d f =
        enter ts (Nt LP ∷ []) [] (frame.Deref c.span) (OfToken c ∷ []) f (c, refl, refl)
        (line ts LP c (Nt LP ∷ (Mark ∷ (Do MakeDeref ∷ []))) inner r is (rw e refl) (omega (arith, d.0))
        (omega (arith, d.0, d.1)))

    pub branches_open : c.kind ≡ k.If0 →
        Reached ts fs b depth (at + 1) (Nt LBranches ∷ (Do MakeIf0 ∷ [])) (OfToken c ∷ [])
    branches_open e = line ts LP c (Nt LBranches ∷ (Do MakeIf0 ∷ [])) depth r is (rw e refl) (omega arith) r.room

    pub test_begun : {gs : List Frame} {inner : ℕ} (o : Token) → c.kind ≡ k.If0 →
        next_of table want.LeftParen (slice_get ts (at + 1)) ≡ Some o → (inner ≡ depth + 1) × (depth < 200) →
        gs ≡ fs ++ frame.Test c.span ∷ [] →
        Reached ts gs b inner (at + 1 + 1) (Nt LE ∷ []) []
    test_begun {gs} {inner} o e g d f =
        enter ts (Nt LE ∷ []) [] (frame.Test c.span) (OfToken o ∷ (OfToken c ∷ [])) f (c, o, refl, refl)
        (line ts LBranches o branches_owed inner (branches_open e) (step.is_next table ts (at + 1) want.LeftParen o g)
        (after_paren o.kind (step.is_of table ts (at + 1) want.LeftParen o g)) (omega (arith, d.0))
        (omega (arith, d.0, d.1)))

-- where a part does not begin
pub no_part : (ts : List Token) {fs : List Frame} {b : Forest} {depth at : ℕ} (c : Token) (e : Stopped) →
    slice_get ts at ≡ Some c → part_after c.kind ≡ None → e ≡ Unexpected at →
    Reached ts fs b depth at (Nt LP ∷ []) [] → IsStop ts e
no_part ts c e is n q r = stops_line ts LP e refl q (other c is n) r

pub no_part_end : (ts : List Token) {fs : List Frame} {b : Forest} {depth at : ℕ} (e : Stopped) →
    slice_get ts at ≡ None → e ≡ Unexpected at → Reached ts fs b depth at (Nt LP ∷ []) [] → IsStop ts e
no_part_end ts e is q r = stops_line ts LP e refl q (at_the_end is) r

pub no_branches : (ts : List Token) {fs : List Frame} {b : Forest} {depth at : ℕ} {goal : Stack} {got : List Val}
    (e : Stopped) → (e ≡ Unexpected at) × (next_of table want.LeftParen (slice_get ts at) ≡ None) →
    Reached ts fs b depth at (Nt LBranches ∷ goal) got → IsStop ts e
no_branches ts {at = at} e h r =
    stops_line ts LBranches e refl h.0
    (step.lacks_all table ts at want.LeftParen LBranches (λ c q. not_paren c.kind q) h.1) r

pub no_hidden : (ts : List Token) {fs : List Frame} {b : Forest} {depth at : ℕ} {goal : Stack} {got : List Val}
    (e : Stopped) → (e ≡ Unexpected at) × (next_of table want.LeftBracket (slice_get ts at) ≡ None) →
    Reached ts fs b depth at (Nt LHidden ∷ goal) got → IsStop ts e
no_hidden ts {at = at} e h r =
    stops_line ts LHidden e refl h.0
    (step.lacks_all table ts at want.LeftBracket LHidden (λ c q. not_bracket c.kind q) h.1) r

pub no_names : (ts : List Token) {fs : List Frame} {b : Forest} {depth at : ℕ} {goal : Stack} {got : List Val}
    (e : Stopped) → (e ≡ Unexpected at) × (next_of table want.LeftBracket (slice_get ts at) ≡ None) →
    Reached ts fs b depth at (Nt LNames ∷ goal) got → IsStop ts e
no_names ts {at = at} e h r =
    stops_line ts LNames e refl h.0
    (step.lacks_all table ts at want.LeftBracket LNames (λ c q. not_names c.kind q) h.1) r
