-- What may follow on an operand: an argument, a sign, an assignment.
use Rattle.std.proofs.Common.{◌≡◌, ◌<◌, ℕ, ◌+◌, List, [], ◌∷◌, ◌++◌, slice_get, refl, sym, ◌∙◌, ap, Some, None, arith}
use Rattle.idx_core.specs.declared.span.Span.{Span}
use Rattle.idx_core.specs.declared.arith.Op.{Op}
use Rattle.idx_core.specs.declared.arith.Op.TheVariants.{Mul}
use Rattle.f_lexer.specs.declared.token.Token.{Token}
use Rattle.text_core.specs.Table.{Tm, Nt, Do, Mark}
use Rattle.text_core.specs.Going.{next_of}
use Rattle.text_core.proofs.Going as step
use Rattle.f_grammar.specs.Raw.{RawTm, RInst, Piece, inst}
use Rattle.f_grammar.specs.Read.{type_of}
use Rattle.f_grammar.specs.Reads.{found_ty, ReadsType}
use Rattle.f_grammar.specs.Machine.{table, LP, LT, MoreParts, MoreFactors, MoreSums, OfToken, OfTerm, OfType, MakeCall}
use Rattle.f_grammar.specs.Machine.{MakeInst, MakeArith, MoreAssign, assign_owed, parts_tail, term_owed}
use Rattle.f_grammar.proofs.Complete.{parts_part}
use Rattle.f_grammar.specs.declared.cursor.Wanted.TheVariants as want
use Rattle.f_grammar.specs.declared.raw.RawShape.TheVariants as shape
use Rattle.f_grammar.specs.declared.types.FoundType.{FoundType}
use Rattle.f_grammar.specs.declared.heads.Argument.TheVariants.{Part, Bracket}
use Rattle.f_grammar.specs.declared.forest.Forest.{Forest}
use Rattle.f_grammar.specs.declared.part.Part as parts
use Rattle.f_grammar.specs.declared.frame.Frame.{Frame}
use Rattle.f_grammar.specs.declared.frame.Frame.TheVariants as frame
use Rattle.f_grammar.specs.ReadsTerms.{argument_next, sign_next}
use Rattle.f_grammar.specs.Forest.{span_from, Puts, Stores}
use Rattle.f_grammar.specs.Frames.{Reached}
use Rattle.f_grammar.proofs.Follows.{argument_is, begins_part, begins_bracket, bracket_owed, argument_lacks, sign_is}
use Rattle.f_grammar.proofs.Follows.{sign_lacks, star_owed, after_star, not_star, after_assign, not_assign}
use Rattle.f_grammar.proofs.Keeping.{new_stands}
use Rattle.f_grammar.proofs.Reaching.{token, line, ends, as_begun, closed, made, called, enter}
use Rattle.f_grammar.proofs.Steps.{Given}

module _ (ts : List Token) {fs : List Frame} {b : Forest} {depth at : ℕ} where
  -- what may follow on an operand
  pub part_begun : {gs hs : List Frame} {p : parts.Part} (q : Piece) → Stores b p q →
      argument_next (slice_get ts at) ≡ Some Part → gs ≡ fs ++ frame.MoreParts ∷ [] →
      hs ≡ gs ++ frame.Argument p ∷ [] →
      Reached ts fs b depth at (Nt MoreParts ∷ []) (OfTerm q ∷ []) → Reached ts hs b depth at (Nt LP ∷ []) []
  part_begun {gs} {hs} {p} q h e x y r =
      let n = argument_is ts at Part e in
      let o = begins_part n.token.kind n.has in
      enter ts (Nt LP ∷ []) [] (frame.Argument p) (OfTerm q ∷ []) y (q, h, refl)
      (enter ts (Nt LP ∷ (Do MakeCall ∷ [])) (OfTerm q ∷ []) frame.MoreParts [] x refl
      (as_begun ts LP MoreParts parts_tail n.token o.0 refl n.is o.1 (parts_part n.token.kind o.0 o.1) r))

  pub parts_end : {q : Piece} → argument_next (slice_get ts at) ≡ None →
      Reached ts fs b depth at (Nt MoreParts ∷ []) (OfTerm q ∷ []) → Reached ts fs b depth at [] (OfTerm q ∷ [])
  parts_end e r = ends ts MoreParts refl r (argument_lacks ts at e)

  module _ {q : Piece} (e : argument_next (slice_get ts at) ≡ Some Bracket)
      (r : Reached ts fs b depth at (Nt MoreParts ∷ []) (OfTerm q ∷ [])) where
    abbrev pub bracket : Token
    bracket = (argument_is ts at Bracket e).token

    pub bracket_is : slice_get ts at ≡ Some bracket
    bracket_is = (argument_is ts at Bracket e).is

    pub bracket_owes : table.after MoreParts bracket ≡ Some bracket_owed
    bracket_owes = begins_bracket bracket.kind (argument_is ts at Bracket e).has

    pub bracket_opened : {inner : ℕ} → (inner ≡ depth + 1) × (depth < 200) →
        Reached ts fs b inner (at + 1) bracket_owed (OfToken bracket ∷ (OfTerm q ∷ []))
    bracket_opened {inner} d =
        line ts MoreParts bracket bracket_owed inner r bracket_is bracket_owes (omega (arith, d.0))
        (omega (arith, d.0, d.1))

    pub bracket_typed : {inner : ℕ} (f : FoundType) → (inner ≡ depth + 1) × (depth < 200) →
        ReadsType LT ts inner (at + 1) f →
        Reached ts fs b inner f.next (Tm want.RightBracket ∷ (Mark ∷ (Do MakeInst ∷ (Nt MoreParts ∷ []))))
        (OfType (found_ty f) ∷ (OfToken bracket ∷ (OfTerm q ∷ [])))
    bracket_typed {inner} f d h =
        called ts (Tm want.RightBracket ∷ (Mark ∷ (Do MakeInst ∷ (Nt MoreParts ∷ [])))) (Nt LT ∷ []) []
        (OfType (found_ty f) ∷ []) f.next inner refl (omega arith) (omega (arith, d.0, d.1)) h.in_range
        (λ below. refl) h.same (bracket_opened d)

    pub inst_given : {inner : ℕ} {new : Forest} {p p' : parts.Part} {gs : List Frame} (f : FoundType) (s : Token) →
        Stores b p q → (inner ≡ depth + 1) × (depth < 200) → ReadsType LT ts inner (at + 1) f →
        next_of table want.RightBracket (slice_get ts f.next) ≡ Some s →
        Puts b new (shape.Inst p.node f.ty) (span_from p.start s.span.end) p' → gs ≡ fs ++ frame.MoreParts ∷ [] →
        Given ts gs new depth (f.next + 1) p'
    inst_given {inner} {new} {p} {p'} f s h d t g puts x =
        let whole = inst q (type_of f.ty) s.span in
        let there = ap (λ (y : ℕ). span_from y s.span.end) h.starts in
        record {
          piece = whole;
          stands = new_stands puts whole (sym there) (sym h.starts) refl
              (λ y. ap (λ (u : RawTm). RInst (span_from p.start s.span.end) u (type_of f.ty)) (h.node y).1
              ∙ ap (λ (z : Span). RInst z q.tree (type_of f.ty)) there);
          reached = enter ts [] (OfTerm whole ∷ []) frame.MoreParts [] x refl
              (made ts MakeInst (OfTerm whole ∷ []) (λ below. refl) (λ below. omega arith) puts
              (closed ts depth d.0 (token ts want.RightBracket s (bracket_typed f d t) g)));
        }

  pub star_begun : {gs hs is : List Frame} {p : parts.Part} (q : Piece) (s : Token) → Stores b p q →
      next_of table want.Star (slice_get ts at) ≡ Some s →
      gs ≡ fs ++ frame.MoreFactors ∷ [] → hs ≡ gs ++ frame.Right Mul p ∷ [] → is ≡ hs ++ frame.MoreParts ∷ [] →
      Reached ts fs b depth at (Nt MoreFactors ∷ []) (OfTerm q ∷ []) → Reached ts is b depth (at + 1) (Nt LP ∷ []) []
  star_begun {p} q s h e x y z r =
      enter ts (Nt LP ∷ []) [] frame.MoreParts [] z refl
      (enter ts (Nt LP ∷ (Nt MoreParts ∷ [])) [] (frame.Right Mul p) (OfToken s ∷ (OfTerm q ∷ [])) y (s, q, h, refl)
      (enter ts (Nt LP ∷ (Nt MoreParts ∷ (Do (MakeArith Mul) ∷ []))) (OfToken s ∷ (OfTerm q ∷ [])) frame.MoreFactors
      [] x refl
      (line ts MoreFactors s star_owed depth r (step.is_next table ts at want.Star s e)
      (after_star s.kind (step.is_of table ts at want.Star s e)) (omega arith) r.room)))

  pub factors_end : {q : Piece} → next_of table want.Star (slice_get ts at) ≡ None →
      Reached ts fs b depth at (Nt MoreFactors ∷ []) (OfTerm q ∷ []) → Reached ts fs b depth at [] (OfTerm q ∷ [])
  factors_end e r =
      ends ts MoreFactors refl r (step.lacks_all table ts at want.Star MoreFactors (λ c q. not_star c.kind q) e)

  pub sign_begun : {gs hs is js : List Frame} {p : parts.Part} {op : Op} (q : Piece) → Stores b p q →
      sign_next (slice_get ts at) ≡ Some op →
      gs ≡ fs ++ frame.MoreSums ∷ [] → hs ≡ gs ++ frame.Right op p ∷ [] → is ≡ hs ++ frame.MoreFactors ∷ [] →
      js ≡ is ++ frame.MoreParts ∷ [] →
      Reached ts fs b depth at (Nt MoreSums ∷ []) (OfTerm q ∷ []) → Reached ts js b depth (at + 1) (Nt LP ∷ []) []
  sign_begun {p} {op} q h e w x y z r =
      let n = sign_is ts at op e in
      let s = n.token in
      enter ts (Nt LP ∷ []) [] frame.MoreParts [] z refl
      (enter ts (Nt LP ∷ (Nt MoreParts ∷ [])) [] frame.MoreFactors [] y refl
      (enter ts (Nt LP ∷ (Nt MoreParts ∷ (Nt MoreFactors ∷ []))) [] (frame.Right op p) (OfToken s ∷ (OfTerm q ∷ [])) x
      (s, q, h, refl)
      (enter ts (Nt LP ∷ (Nt MoreParts ∷ (Nt MoreFactors ∷ (Do (MakeArith op) ∷ [])))) (OfToken s ∷ (OfTerm q ∷ []))
      frame.MoreSums [] w refl
      (line ts MoreSums s (term_owed op) depth r n.is n.has (omega arith) r.room))))

  pub sums_end : {q : Piece} → sign_next (slice_get ts at) ≡ None →
      Reached ts fs b depth at (Nt MoreSums ∷ []) (OfTerm q ∷ []) → Reached ts fs b depth at [] (OfTerm q ∷ [])
  sums_end e r = ends ts MoreSums refl r (sign_lacks ts at e)

  pub assign_begun : {gs hs is js : List Frame} {p : parts.Part} (q : Piece) (s : Token) → Stores b p q →
      next_of table want.Assign (slice_get ts at) ≡ Some s →
      gs ≡ fs ++ frame.Assigned p ∷ [] → hs ≡ gs ++ frame.MoreSums ∷ [] → is ≡ hs ++ frame.MoreFactors ∷ [] →
      js ≡ is ++ frame.MoreParts ∷ [] →
      Reached ts fs b depth at (Nt MoreAssign ∷ []) (OfTerm q ∷ []) → Reached ts js b depth (at + 1) (Nt LP ∷ []) []
  assign_begun {p} q s h e w x y z r =
      enter ts (Nt LP ∷ []) [] frame.MoreParts [] z refl
      (enter ts (Nt LP ∷ (Nt MoreParts ∷ [])) [] frame.MoreFactors [] y refl
      (enter ts (Nt LP ∷ (Nt MoreParts ∷ (Nt MoreFactors ∷ []))) [] frame.MoreSums [] x refl
      (enter ts (Nt LP ∷ (Nt MoreParts ∷ (Nt MoreFactors ∷ (Nt MoreSums ∷ [])))) [] (frame.Assigned p)
      (OfToken s ∷ (OfTerm q ∷ [])) w (s, q, h, refl)
      (line ts MoreAssign s assign_owed depth r (step.is_next table ts at want.Assign s e)
      (after_assign s.kind (step.is_of table ts at want.Assign s e)) (omega arith) r.room))))

  pub assign_end : {q : Piece} → next_of table want.Assign (slice_get ts at) ≡ None →
      Reached ts fs b depth at (Nt MoreAssign ∷ []) (OfTerm q ∷ []) → Reached ts fs b depth at [] (OfTerm q ∷ [])
  assign_end e r =
      ends ts MoreAssign refl r (step.lacks_all table ts at want.Assign MoreAssign (λ c q. not_assign c.kind q) e)
