-- After an inner term: what begins next, and what was read at the end.
use Rattle.std.proofs.Common.{◌≡◌, ◌<◌, ℕ, ◌+◌, List, [], ◌∷◌, ◌++◌, slice_get, map, Vec, Global, refl, sym, ◌∙◌, ap}
use Rattle.std.proofs.Common.{ap₂, subst, Some, None, arith, false, All}
use Rattle.std.specs.Prelude.{nat_abs}
use Rattle.std.proofs.lemmas.List.{map-append}
use Rattle.std.proofs.lemmas.List.Elements.{All-nil, All-cons, All-push}
use Rattle.idx_core.specs.declared.span.Span.{Span}
use Rattle.idx_core.specs.declared.arith.Op.{Op}
use Rattle.f_lexer.specs.declared.token.Token.{Token}
use Rattle.text_core.specs.Table.{Tm, Nt, Do, Mark}
use Rattle.f_grammar.specs.declared.raw.RawType.{RawType}
use Rattle.text_core.specs.Going.{next_of}
use Rattle.text_core.proofs.Going as step
use Rattle.f_grammar.specs.Raw.{RawTm, RFix, RGen, RApp, RFields, RProj, RArith, RIf0, RLet, RPack, ROpen, RCell}
use Rattle.f_grammar.specs.Raw.{RDeref, RAssign, TyPiece, Piece, within, func, gen, call, tuple, proj}
use Rattle.f_grammar.specs.Raw.{arith as arith_of, if0, let_in, pack, open_in, cell, deref, assign, raw_tms}
use Rattle.f_grammar.specs.Read.{type_of}
use Rattle.f_grammar.specs.Reads.{found_ty, ReadsType}
use Rattle.f_grammar.specs.Machine.{table, LE, LT, MoreFields, Val, OfToken, OfTerm, OfTerms, OfType, MakeParen}
use Rattle.f_grammar.specs.Machine.{MakeTuple, MakeProj, MakeCall, MakeArith, MakeFirst, MakeNext, MakeIf0, MakeFix}
use Rattle.f_grammar.specs.Machine.{MakeGen, MakeLet, MakePack, MakeOpen, MakeRef, MakeDeref, MakeAssign, value_of}
use Rattle.f_grammar.specs.declared.cursor.Wanted.TheVariants as want
use Rattle.f_grammar.specs.declared.raw.RawShape.TheVariants as shape
use Rattle.f_grammar.specs.declared.types.FoundType.{FoundType}
use Rattle.f_grammar.specs.declared.forest.Forest.{Forest}
use Rattle.f_grammar.specs.declared.part.Part as parts
use Rattle.f_grammar.specs.declared.frame.Head.{Head}
use Rattle.f_grammar.specs.declared.frame.Opening.{Opening}
use Rattle.f_grammar.specs.declared.frame.Frame.{Frame}
use Rattle.f_grammar.specs.declared.frame.Frame.TheVariants as frame
use Rattle.f_grammar.specs.Forest.{span_from, size, tree_in, Puts, Stores, AreTrees}
use Rattle.f_grammar.specs.Frames.{fields_owed, other_owed, zero_owed, in_owed, shape_owed, Opened, opened_values}
use Rattle.f_grammar.specs.Frames.{HeadIs, Reached}
use Rattle.f_grammar.proofs.Follows.{after_comma, not_comma}
use Rattle.f_grammar.proofs.Keeping.{new_stands, nodes_more}
use Rattle.f_grammar.proofs.Reaching.{token, line, ends, closed, done, made, called, enter}
use Rattle.f_grammar.proofs.Steps.{Given}

abbrev packed_values : Token → Piece → Token → TyPiece → Token → Token → List Val
packed_values z q c t o p = OfToken z ∷ (OfTerm q ∷ (OfToken c ∷ (OfType t ∷ (OfToken o ∷ (OfToken p ∷ [])))))

module _ (ts : List Token) {fs : List Frame} {b : Forest} {depth at : ℕ} where
  -- after a term
  pub paren_given : {outer : ℕ} {p : parts.Part} {l : Span} (q : Piece) (o s : Token) → l ≡ o.span → Stores b p q →
      next_of table want.RightParen (slice_get ts at) ≡ Some s → depth ≡ outer + 1 →
      Reached ts fs b depth at (Tm want.RightParen ∷ (Mark ∷ (Do MakeParen ∷ []))) (OfTerm q ∷ (OfToken o ∷ [])) →
      Given ts fs b outer (at + 1) (record { node = p.node; place = p.place; start = l.start; end = s.span.end })
  paren_given {outer} {p} q o s is h e d r = record {
    piece = within o.span.start s.span.end q;
    stands = record { node = h.node; place = h.place; starts = ap (λ (x : Span). x.start) is; ends = refl };
    reached = done ts MakeParen (OfTerm (within o.span.start s.span.end q) ∷ []) (λ below. refl) (λ below. refl)
        (closed ts outer d (token ts want.RightParen s r e));
  }

  pub next_begun : {gs : List Frame} (l : Span) (es : Vec ℕ Global) (o c : Token) (us : List RawTm) → l ≡ o.span →
      AreTrees b es.items us → next_of table want.Comma (slice_get ts at) ≡ Some c → gs ≡ fs ++ frame.Next l es ∷ [] →
      Reached ts fs b depth at fields_owed (OfTerms us ∷ (OfToken o ∷ [])) →
      Reached ts gs b depth (at + 1) (Nt LE ∷ []) []
  next_begun l es o c us is trees e f r =
      enter ts (Nt LE ∷ []) [] (frame.Next l es) (OfToken c ∷ (OfTerms us ∷ (OfToken o ∷ []))) f
      (o, c, us, is, trees, refl)
      (line ts MoreFields c (Nt LE ∷ (Do MakeNext ∷ (Nt MoreFields ∷ []))) depth r
      (step.is_next table ts at want.Comma c e) (after_comma c.kind (step.is_of table ts at want.Comma c e))
      (omega arith) r.room)

  pub fields_end : (us : List RawTm) (o : Token) → next_of table want.Comma (slice_get ts at) ≡ None →
      Reached ts fs b depth at fields_owed (OfTerms us ∷ (OfToken o ∷ [])) →
      Reached ts fs b depth at (Tm want.RightAngle ∷ (Mark ∷ (Do MakeTuple ∷ []))) (OfTerms us ∷ (OfToken o ∷ []))
  fields_end us o e r =
      ends ts MoreFields refl r (step.lacks_all table ts at want.Comma MoreFields (λ c q. not_comma c.kind q) e)

  pub tuple_given : {outer : ℕ} (l : Span) (es : Vec ℕ Global) (o s : Token) (us : List RawTm) {new : Forest}
      {p : parts.Part} → l ≡ o.span → AreTrees b es.items us → next_of table want.Comma (slice_get ts at) ≡ None →
      next_of table want.RightAngle (slice_get ts at) ≡ Some s → depth ≡ outer + 1 →
      Puts b new (shape.Tuple es) (span_from l.start s.span.end) p →
      Reached ts fs b depth at fields_owed (OfTerms us ∷ (OfToken o ∷ [])) → Given ts fs new outer (at + 1) p
  tuple_given {outer} l es o s us is trees e f d puts r =
      let q = tuple o.span us s.span in
      let there = ap (λ (x : Span). span_from x.start s.span.end) is in
      record {
        piece = q;
        stands = new_stands puts q (sym there) (ap (λ (x : Span). x.start) (sym is)) refl
            (λ x. ap₂ (λ (y : Span) (ys : List RawTm). RFields y (raw_tms ys)) there (trees x).1);
        reached = made ts MakeTuple (OfTerm q ∷ []) (λ below. refl) (λ below. omega arith) puts
            (closed ts outer d (token ts want.RightAngle s (fields_end us o e r) f));
      }

  pub first_field : {p : parts.Part} (q : Piece) (o : Token) (ks : List ℕ) → Stores b p q → ks ≡ p.node ∷ [] →
      Reached ts fs b depth at (Do MakeFirst ∷ fields_owed) (OfTerm q ∷ (OfToken o ∷ [])) →
      AreTrees b ks (q.tree ∷ []) × Reached ts fs b depth at fields_owed (OfTerms (q.tree ∷ []) ∷ (OfToken o ∷ []))
  first_field {p} q o ks h e r = (
    λ f.
        let x = h.node f in
        subst (λ (xs : List ℕ). All (λ k. k < size b) xs × (map (tree_in b) xs ≡ q.tree ∷ [])) (sym e)
        (All-cons (λ k. k < size b) p.node [] x.0 (All-nil (λ k. k < size b)), ap (λ (t : RawTm). t ∷ []) x.1),
    done ts MakeFirst (OfTerms (q.tree ∷ []) ∷ (OfToken o ∷ [])) (λ below. refl) (λ below. omega arith) r,
  )

  pub next_field : {p : parts.Part} (q : Piece) (o c : Token) (us : List RawTm) (fields ks : List ℕ) → Stores b p q →
      AreTrees b fields us → (b.full ≡ false → ks ≡ fields ++ p.node ∷ []) →
      Reached ts fs b depth at (Do MakeNext ∷ fields_owed) (OfTerm q ∷ (OfToken c ∷ (OfTerms us ∷ (OfToken o ∷ [])))) →
      AreTrees b ks (us ++ q.tree ∷ [])
      × Reached ts fs b depth at fields_owed (OfTerms (us ++ q.tree ∷ []) ∷ (OfToken o ∷ []))
  next_field {p} q o c us fields ks h trees e r = (
    λ f.
        let x = h.node f in
        let y = trees f in
        subst (λ (xs : List ℕ). All (λ k. k < size b) xs × (map (tree_in b) xs ≡ us ++ q.tree ∷ [])) (sym (e f)) (
          All-push (λ k. k < size b) fields p.node y.0 x.0,
          map-append (tree_in b) fields (p.node ∷ [])
              ∙ ap₂ (λ (xs : List RawTm) (t : RawTm). xs ++ t ∷ []) y.1 x.1,
        ),
    done ts MakeNext (OfTerms (us ++ q.tree ∷ []) ∷ (OfToken o ∷ [])) (λ below. refl)
        (λ below. omega (arith, nodes_more us q.tree)) r,
  )

  pub zero_begun : {gs : List Frame} {w : Span} {a : parts.Part} (q : Piece) (t o c : Token) → w ≡ t.span →
      Stores b a q → next_of table want.Comma (slice_get ts at) ≡ Some c → gs ≡ fs ++ frame.Zero w a ∷ [] →
      Reached ts fs b depth at (Tm want.Comma ∷ (Nt LE ∷ zero_owed)) (OfTerm q ∷ (OfToken o ∷ (OfToken t ∷ []))) →
      Reached ts gs b depth (at + 1) (Nt LE ∷ []) []
  zero_begun {gs} {w} {a} q t o c is h e f r =
      enter ts (Nt LE ∷ []) [] (frame.Zero w a) (OfToken c ∷ (OfTerm q ∷ (OfToken o ∷ (OfToken t ∷ [])))) f
      (t, o, c, q, is, h, refl) (token ts want.Comma c r e)

  pub other_begun : {gs : List Frame} {w : Span} {a z : parts.Part} (p q : Piece) (t o c d : Token) → w ≡ t.span →
      Stores b a p → Stores b z q → next_of table want.Comma (slice_get ts at) ≡ Some d →
      gs ≡ fs ++ frame.Other w a z ∷ [] →
      Reached ts fs b depth at zero_owed (OfTerm q ∷ (OfToken c ∷ (OfTerm p ∷ (OfToken o ∷ (OfToken t ∷ []))))) →
      Reached ts gs b depth (at + 1) (Nt LE ∷ []) []
  other_begun {gs} {w} {a} {z} p q t o c d is h g e f r =
      enter ts (Nt LE ∷ []) [] (frame.Other w a z)
      (OfToken d ∷ (OfTerm q ∷ (OfToken c ∷ (OfTerm p ∷ (OfToken o ∷ (OfToken t ∷ [])))))) f
      (t, o, c, d, p, q, is, h, g, refl) (token ts want.Comma d r e)

  pub let_body_begun : {gs : List Frame} {outer : ℕ} {w n : Span} {a : parts.Part} (p : Piece) (t m q i : Token) →
      w ≡ t.span → n ≡ m.span → Stores b a p → next_of table want.In (slice_get ts at) ≡ Some i → depth ≡ outer + 1 →
      gs ≡ fs ++ frame.LetBody w n a ∷ [] →
      Reached ts fs b depth at (in_owed MakeLet) (OfTerm p ∷ (OfToken q ∷ (OfToken m ∷ (OfToken t ∷ [])))) →
      Reached ts gs b outer (at + 1) (Nt LE ∷ []) []
  let_body_begun {outer} {w} {n} {a} p t m q i is name h e d f r =
      enter ts (Nt LE ∷ []) [] (frame.LetBody w n a)
      (OfToken i ∷ (OfTerm p ∷ (OfToken q ∷ (OfToken m ∷ (OfToken t ∷ []))))) f (t, m, q, i, p, is, name, h, refl)
      (closed ts outer d (token ts want.In i r e))

  pub open_body_begun : {gs : List Frame} {outer : ℕ} {o : Opening} (p : Piece) (v : Opened) (i : Token) →
      o.word ≡ v.word.span → o.ty ≡ v.ty.span → o.name ≡ v.name.span → Stores b o.first p →
      next_of table want.In (slice_get ts at) ≡ Some i →
      depth ≡ outer + 1 → gs ≡ fs ++ frame.OpenBody o ∷ [] →
      Reached ts fs b depth at (in_owed MakeOpen) (OfTerm p ∷ opened_values v) →
      Reached ts gs b outer (at + 1) (Nt LE ∷ []) []
  open_body_begun {outer} {o} p v i is ty name h e d f r =
      enter ts (Nt LE ∷ []) [] (frame.OpenBody o) (OfToken i ∷ (OfTerm p ∷ opened_values v)) f
      (v, i, p, is, ty, name, h, refl) (closed ts outer d (token ts want.In i r e))

  module _ (outer : ℕ) (h : RawType) (n : ℕ) (q : Piece) (t o c : Token) (z : Token)
      (e : next_of table want.RightBracket (slice_get ts at) ≡ Some z) (d : depth ≡ outer + 1)
      (r : Reached ts fs b depth at (Tm want.RightBracket ∷ (Mark ∷ shape_owed))
      (OfTerm q ∷ (OfToken c ∷ (OfType (record { ty = type_of h; end = n }) ∷ (OfToken o ∷ (OfToken t ∷ []))))))
    where
      pub pack_closed : Reached ts fs b outer (at + 1) shape_owed
          (packed_values z q c (record { ty = type_of h; end = n }) o t)
      pack_closed = closed ts outer d (token ts want.RightBracket z r e)

      module _ (s : Token) (g : next_of table want.As (slice_get ts (at + 1)) ≡ Some s) where
        pub pack_as : Reached ts fs b outer (at + 1 + 1) (Nt LT ∷ (Do MakePack ∷ []))
            (OfToken s ∷ packed_values z q c (record { ty = type_of h; end = n }) o t)
        pack_as = token ts want.As s pack_closed g

        pub pack_given : {w : Span} {a p : parts.Part} {new : Forest} (f : FoundType) → w ≡ t.span → Stores b a q →
            ReadsType LT ts outer (at + 1 + 1) f → Puts b new (shape.Pack h a.node f.ty) (span_from w.start f.end) p →
            Given ts fs new outer f.next p
        pack_given {w} {a} {p} f is x y puts =
            let whole = pack t.span (record { ty = type_of h; end = n }) q (found_ty f) in
            let there = ap (λ (x : Span). span_from x.start f.end) is in
            record {
              piece = whole;
              stands = new_stands puts whole (sym there) (ap (λ (x : Span). x.start) (sym is)) refl
                  (λ k. ap (λ (u : RawTm). RPack (span_from w.start f.end) (type_of h) u (type_of f.ty)) (x.node k).1
                  ∙ ap (λ (y : Span). RPack y (type_of h) q.tree (type_of f.ty)) there);
              reached = made ts MakePack (OfTerm whole ∷ []) (λ below. refl) (λ below. omega arith) puts
                  (called ts (Do MakePack ∷ []) (Nt LT ∷ []) [] (OfType (found_ty f) ∷ []) f.next outer refl
                  (omega arith) pack_as.room y.in_range (λ below. refl) y.same pack_as);
            }

  module _ {new : Forest} {new_part : parts.Part} where
    pub let_given : {w n : Span} {f a : parts.Part} (p q : Piece) (t m u i : Token) → w ≡ t.span → n ≡ m.span →
        Stores b f p → Stores b a q → Puts b new (shape.Let n f.node a.node) (span_from w.start a.end) new_part →
        Reached ts fs b depth at (Do MakeLet ∷ [])
        (OfTerm q ∷ (OfToken i ∷ (OfTerm p ∷ (OfToken u ∷ (OfToken m ∷ (OfToken t ∷ [])))))) →
        Given ts fs new depth at new_part
    let_given {w} {n} {f} {a} p q t m u i is name h g puts r =
        let whole = let_in t.span m.span p q in
        let there = ap₂ (λ (x : Span) (y : ℕ). span_from x.start y) is g.ends in
        record {
          piece = whole;
          stands = new_stands puts whole (sym there) (ap (λ (x : Span). x.start) (sym is)) (sym g.ends)
              (λ x. ap₂ (λ (u v : RawTm). RLet (span_from w.start a.end) n u v) (h.node x).1 (g.node x).1
              ∙ ap₂ (λ (y z : Span). RLet y z p.tree q.tree) there name);
          reached = made ts MakeLet (OfTerm whole ∷ []) (λ below. refl) (λ below. omega arith) puts r;
        }

    pub open_given : {w t n : Span} {f a : parts.Part} (p q : Piece) (v : Opened) (i : Token) → w ≡ v.word.span →
        t ≡ v.ty.span → n ≡ v.name.span → Stores b f p → Stores b a q →
        Puts b new (shape.Open t n f.node a.node) (span_from w.start a.end) new_part →
        Reached ts fs b depth at (Do MakeOpen ∷ []) (OfTerm q ∷ (OfToken i ∷ (OfTerm p ∷ opened_values v))) →
        Given ts fs new depth at new_part
    open_given {w} {t} {n} {f} {a} p q v i is ty name h g puts r =
        let whole = open_in v.word.span v.ty.span v.name.span p q in
        let there = ap₂ (λ (x : Span) (y : ℕ). span_from x.start y) is g.ends in
        record {
          piece = whole;
          stands = new_stands puts whole (sym there) (ap (λ (x : Span). x.start) (sym is)) (sym g.ends)
              (λ x. ap₂ (λ (u v : RawTm). ROpen (span_from w.start a.end) t n u v) (h.node x).1 (g.node x).1
              ∙ (ap (λ (y : Span). ROpen y t n p.tree q.tree) there
              ∙ ap₂ (λ (y z : Span). ROpen (span_from v.word.span.start q.end) y z p.tree q.tree) ty name));
          reached = made ts MakeOpen (OfTerm whole ∷ []) (λ below. refl) (λ below. omega arith) puts r;
        }

    pub ref_given : {outer : ℕ} {w : Span} {a : parts.Part} (q : Piece) (t : Token) → w ≡ t.span → Stores b a q →
        depth ≡ outer + 1 → Puts b new (shape.Ref a.node) (span_from w.start a.end) new_part →
        Reached ts fs b depth at (Mark ∷ (Do MakeRef ∷ [])) (OfTerm q ∷ (OfToken t ∷ [])) →
        Given ts fs new outer at new_part
    ref_given {outer} {w} {a} q t is g e puts r =
        let whole = cell t.span q in
        let there = ap₂ (λ (x : Span) (y : ℕ). span_from x.start y) is g.ends in
        record {
          piece = whole;
          stands = new_stands puts whole (sym there) (ap (λ (x : Span). x.start) (sym is)) (sym g.ends)
              (λ x. ap (λ (u : RawTm). RCell (span_from w.start a.end) u) (g.node x).1
              ∙ ap (λ (y : Span). RCell y q.tree) there);
          reached =
              made ts MakeRef (OfTerm whole ∷ []) (λ below. refl) (λ below. omega arith) puts (closed ts outer e r);
        }

    pub deref_given : {outer : ℕ} {w : Span} {a : parts.Part} (q : Piece) (t : Token) → w ≡ t.span → Stores b a q →
        depth ≡ outer + 1 → Puts b new (shape.Deref a.node) (span_from w.start a.end) new_part →
        Reached ts fs b depth at (Mark ∷ (Do MakeDeref ∷ [])) (OfTerm q ∷ (OfToken t ∷ [])) →
        Given ts fs new outer at new_part
    deref_given {outer} {w} {a} q t is g e puts r =
        let whole = deref t.span q in
        let there = ap₂ (λ (x : Span) (y : ℕ). span_from x.start y) is g.ends in
        record {
          piece = whole;
          stands = new_stands puts whole (sym there) (ap (λ (x : Span). x.start) (sym is)) (sym g.ends)
              (λ x. ap (λ (u : RawTm). RDeref (span_from w.start a.end) u) (g.node x).1
              ∙ ap (λ (y : Span). RDeref y q.tree) there);
          reached =
              made ts MakeDeref (OfTerm whole ∷ []) (λ below. refl) (λ below. omega arith) puts (closed ts outer e r);
        }

    pub assign_given : {l a : parts.Part} (p q : Piece) (t : Token) → Stores b l p → Stores b a q →
        Puts b new (shape.Assign l.node a.node) (span_from l.start a.end) new_part →
        Reached ts fs b depth at (Do MakeAssign ∷ []) (OfTerm q ∷ (OfToken t ∷ (OfTerm p ∷ []))) →
        Given ts fs new depth at new_part
    assign_given {l} {a} p q t h g puts r =
        let whole = assign p q in
        let there = ap₂ (λ (x y : ℕ). span_from x y) h.starts g.ends in
        record {
          piece = whole;
          stands = new_stands puts whole (sym there) (sym h.starts) (sym g.ends)
              (λ x. ap₂ (λ (u v : RawTm). RAssign (span_from l.start a.end) u v) (h.node x).1 (g.node x).1
              ∙ ap (λ (y : Span). RAssign y p.tree q.tree) there);
          reached = made ts MakeAssign (OfTerm whole ∷ []) (λ below. refl) (λ below. omega arith) puts r;
        }

    pub if0_given : {outer : ℕ} {w : Span} {a z y : parts.Part} (p q v : Piece) (t o c d s : Token) → w ≡ t.span →
        Stores b a p → Stores b z q → Stores b y v → next_of table want.RightParen (slice_get ts at) ≡ Some s →
        depth ≡ outer + 1 →
        Puts b new (shape.If0 a.node z.node y.node) (span_from w.start s.span.end) new_part →
        Reached ts fs b depth at other_owed
        (OfTerm v ∷ (OfToken d ∷ (OfTerm q ∷ (OfToken c ∷ (OfTerm p ∷ (OfToken o ∷ (OfToken t ∷ []))))))) →
        Given ts fs new outer (at + 1) new_part
    if0_given {outer} {w} {a} {z} {y} p q v t o c d s is h g i e m puts r =
        let whole = if0 t.span p q v s.span in
        let there = ap (λ (x : Span). span_from x.start s.span.end) is in
        record {
          piece = whole;
          stands = new_stands puts whole (sym there) (ap (λ (x : Span). x.start) (sym is)) refl
              (λ x. ap (λ (u : RawTm). RIf0 (span_from w.start s.span.end) u (tree_in b z.node) (tree_in b y.node))
              (h.node x).1
              ∙ (ap₂ (λ (u u' : RawTm). RIf0 (span_from w.start s.span.end) p.tree u u') (g.node x).1 (i.node x).1
              ∙ ap (λ (u : Span). RIf0 u p.tree q.tree v.tree) there));
          reached = made ts MakeIf0 (OfTerm whole ∷ []) (λ below. refl) (λ below. omega arith) puts
              (closed ts outer m (token ts want.RightParen s r e));
        }

    pub proj_given : {outer n : ℕ} {h : Span} {a : parts.Part} (q : Piece) (t m : Token) → h ≡ t.span →
        n ≡ nat_abs (value_of m.kind) → Stores b a q → depth ≡ outer + 1 →
        Puts b new (shape.Proj n a.node) (span_from h.start a.end) new_part →
        Reached ts fs b depth at (Mark ∷ (Do MakeProj ∷ [])) (OfTerm q ∷ (OfToken m ∷ (OfToken t ∷ []))) →
        Given ts fs new outer at new_part
    proj_given {outer} {n} {h} {a} q t m is num g e puts r =
        let whole = proj t.span (nat_abs (value_of m.kind)) q in
        let there = ap₂ (λ (x : Span) (y : ℕ). span_from x.start y) is g.ends in
        record {
          piece = whole;
          stands = new_stands puts whole (sym there) (ap (λ (x : Span). x.start) (sym is)) (sym g.ends)
              (λ x. ap (λ (u : RawTm). RProj (span_from h.start a.end) n u) (g.node x).1
              ∙ ap₂ (λ (y : Span) (i : ℕ). RProj y i q.tree) there num);
          reached =
              made ts MakeProj (OfTerm whole ∷ []) (λ below. refl) (λ below. omega arith) puts (closed ts outer e r);
        }

    pub fix_given : {outer : ℕ} {a : parts.Part} (h : Head) (vs : List Val) (q : Piece) → HeadIs h vs → Stores b a q →
        depth ≡ outer + 1 →
        Puts b new (shape.Fix h.name h.parameter h.takes h.gives a.node) (span_from h.word.start a.end) new_part →
        Reached ts fs b depth at (Mark ∷ (Do MakeFix ∷ [])) (OfTerm q ∷ vs) → Given ts fs new outer at new_part
    fix_given {outer} {a} h vs q i g e puts r =
        let whole = func i.word.span i.name.span i.parameter.span (type_of h.takes) (type_of h.gives) q in
        let there = ap₂ (λ (x : Span) (y : ℕ). span_from x.start y) i.word_is g.ends in
        let held =
        subst (λ (us : List Val). Reached ts fs b depth at (Mark ∷ (Do MakeFix ∷ [])) (OfTerm q ∷ us)) i.are r in
        record {
          piece = whole;
          stands = new_stands puts whole (sym there) (ap (λ (x : Span). x.start) (sym i.word_is)) (sym g.ends)
              (λ x. ap (λ (u : RawTm). RFix (span_from h.word.start a.end) h.name h.parameter (type_of h.takes)
              (type_of h.gives) u) (g.node x).1
              ∙ (ap (λ (y : Span). RFix y h.name h.parameter (type_of h.takes) (type_of h.gives) q.tree) there
              ∙ ap₂ (λ (y z : Span). RFix (span_from i.word.span.start q.end) y z (type_of h.takes)
              (type_of h.gives) q.tree) i.name_is i.parameter_is));
          reached =
              made ts MakeFix (OfTerm whole ∷ []) (λ below. refl) (λ below. omega arith) puts (closed ts outer e held);
        }

    pub gen_given : {outer : ℕ} {w n : Span} {a : parts.Part} (q : Piece) (t m d : Token) → w ≡ t.span → n ≡ m.span →
        Stores b a q → depth ≡ outer + 1 → Puts b new (shape.Gen n a.node) (span_from w.start a.end) new_part →
        Reached ts fs b depth at (Mark ∷ (Do MakeGen ∷ [])) (OfTerm q ∷ (OfToken d ∷ (OfToken m ∷ (OfToken t ∷ [])))) →
        Given ts fs new outer at new_part
    gen_given {outer} {w} {n} {a} q t m d is name g e puts r =
        let whole = gen t.span m.span q in
        let there = ap₂ (λ (x : Span) (y : ℕ). span_from x.start y) is g.ends in
        record {
          piece = whole;
          stands = new_stands puts whole (sym there) (ap (λ (x : Span). x.start) (sym is)) (sym g.ends)
              (λ x. ap (λ (u : RawTm). RGen (span_from w.start a.end) n u) (g.node x).1
              ∙ ap₂ (λ (y z : Span). RGen y z q.tree) there name);
          reached =
              made ts MakeGen (OfTerm whole ∷ []) (λ below. refl) (λ below. omega arith) puts (closed ts outer e r);
        }

    pub call_given : {f a : parts.Part} (p q : Piece) → Stores b f p → Stores b a q →
        Puts b new (shape.App f.node a.node) (span_from f.start a.end) new_part →
        Reached ts fs b depth at (Do MakeCall ∷ []) (OfTerm q ∷ (OfTerm p ∷ [])) → Given ts fs new depth at new_part
    call_given {f} {a} p q h g puts r =
        let whole = call p q in
        let there = ap₂ (λ (x y : ℕ). span_from x y) h.starts g.ends in
        record {
          piece = whole;
          stands = new_stands puts whole (sym there) (sym h.starts) (sym g.ends)
              (λ x. ap₂ (λ (u v : RawTm). RApp (span_from f.start a.end) u v) (h.node x).1 (g.node x).1
              ∙ ap (λ (y : Span). RApp y p.tree q.tree) there);
          reached = made ts MakeCall (OfTerm whole ∷ []) (λ below. refl) (λ below. omega arith) puts r;
        }

    pub arith_given : {op : Op} {l a : parts.Part} (p q : Piece) (t : Token) → Stores b l p → Stores b a q →
        Puts b new (shape.Arith op l.node a.node) (span_from l.start a.end) new_part →
        Reached ts fs b depth at (Do (MakeArith op) ∷ []) (OfTerm q ∷ (OfToken t ∷ (OfTerm p ∷ []))) →
        Given ts fs new depth at new_part
    arith_given {op} {l} {a} p q t h g puts r =
        let whole = arith_of op p q in
        let there = ap₂ (λ (x y : ℕ). span_from x y) h.starts g.ends in
        record {
          piece = whole;
          stands = new_stands puts whole (sym there) (sym h.starts) (sym g.ends)
              (λ x. ap₂ (λ (u v : RawTm). RArith (span_from l.start a.end) op u v) (h.node x).1 (g.node x).1
              ∙ ap (λ (y : Span). RArith y op p.tree q.tree) there);
          reached = made ts (MakeArith op) (OfTerm whole ∷ []) (λ below. refl) (λ below. omega arith) puts r;
        }
