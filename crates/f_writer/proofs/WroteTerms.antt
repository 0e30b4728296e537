-- A term that is written stands for itself, where the names around it are those of its depth.
use Rattle.std.proofs.Common.{max, ◌≤◌, ◌≡◌, ℕ, ◌+◌, ◌-◌, pos, negsuc, List, [], ◌∷◌, ◌++◌, length, codes, Bool, true}
use Rattle.std.proofs.Common.{false, refl, sym, ap, ap₂, ◌∙◌, arith, append_assoc, subst}
use Rattle.std.proofs.lemmas.Int.{ints}
use Rattle.std.proofs.lemmas.List.{append-nil}
use Rattle.idx_core.specs.declared.span.Span.{Span}
use Rattle.idx_core.specs.declared.arith.Op.TheVariants.{Add, Sub, Mul}
use Rattle.idx_core.specs.Names.{Name, IsPlace}
use Rattle.idx_core.specs.Over.{IsWord}
use Rattle.f_terms.specs.Text.{is_grouped}
use Rattle.f_terms.specs.Tm.{Term, MVar, MNum, MFix, MApp, MGen, MInst, MTuple, MProj, MArith, MIf0, MLet, MPack}
use Rattle.f_terms.specs.Tm.{MOpen, MRef, MDeref, MAssign, Terms, NoTerms, MoreTerms}
use Rattle.f_terms.specs.Tm.{Tm, SVar, SNum, SFix, SApp, SGen, SInst, STuple, SProj, SArith, SIf0, SLet, SPack, SOpen}
use Rattle.f_terms.specs.Tm.{SRef, SDeref, SAssign, Tms, NoTms, MoreTms, plain, plain_all}
use Rattle.f_terms.specs.Read.{place}
use Rattle.f_lexer.specs.declared.kind.Kind.TheVariants as k
use Rattle.f_lexer.specs.declared.token.Token.{Token}
use Rattle.f_grammar.specs.Raw.{RawTm, raw_tms, Piece, within, var, number, func, gen, call, inst, tuple, proj}
use Rattle.f_grammar.specs.Raw.{arith as operation, if0, let_in, pack, open_in, cell, deref, assign}
use Rattle.f_grammar.specs.Grammar.{tok}
use Rattle.f_grammar.specs.Scope.{spelled, TermOf, of_var, of_num, of_fix, of_gen, of_app, of_inst, of_fields, of_proj}
use Rattle.f_grammar.specs.Scope.{of_arith, of_if0, of_let, of_pack, of_open, of_cell, of_deref, of_assign, TermsOf}
use Rattle.f_grammar.specs.Scope.{of_no_terms, of_more_terms}
use Rattle.f_writer.specs.declared.line.Line.{Line}
use Rattle.f_writer.specs.declared.line.Line.TheVariants.{Sum, Product, Call, Primary}
use Rattle.f_writer.specs.Lines.{is_loose, line_of}
use Rattle.f_writer.specs.Fits.{Fits, AllFit}
use Rattle.f_writer.proofs.Lexemes.{Reserved, ValueName, TypeName, Number, Sign, Pair, Spaced, Blank, bytes}
use Rattle.f_writer.proofs.Lexemes.{space, comma, open_paren, close_paren, inside, type_lexed, lexed}
use Rattle.f_writer.proofs.Lexemes.{more_lexed}
use Rattle.f_writer.specs.Nesting.{nest_if, nesting, all_nesting}
use Rattle.f_writer.proofs.Opens.{to_type, Opens, OpensFields, lift, whole_term, from_part, opens_paren, opens_gen}
use Rattle.f_writer.proofs.Opens.{opens_proj, opens_ref, opens_deref, opens_inst, opens_one, opens_fix, opens_pack}
use Rattle.f_writer.proofs.Opens.{opens_app, opens_plus, opens_minus, opens_star, opens_assign, opens_let, opens_open}
use Rattle.f_writer.proofs.Opens.{opens_if, opens_name, opens_plain, opens_negative, opens_unit, opens_tuple}
use Rattle.f_writer.proofs.Opens.{opens_more}
use Rattle.f_writer.proofs.Placed as placing
use Rattle.f_writer.proofs.Placed.{size, placed, placed_append, stops, Fine, fine_append, Written, written_append}
use Rattle.f_writer.proofs.Scopes.{value_names, type_names, names_next, names_two, in_scope}
use Rattle.f_writer.proofs.WroteTypes.{wrote_type}

stops_more : (n m : ℕ) (es : Terms) → stops (more_lexed n m es) true ≡ true
stops_more n m NoTerms = refl
stops_more n m (MoreTerms e es) = refl

-- What is written inside n type names and m value names, from the place i of the text on, stands for what it is written
-- for.
module _ (text : List ℕ) where
  pub record WroteTerm (i n m : ℕ) (e : Term) : Type 0 where
    pub piece : Piece
    pub whole : Opens (line_of e) (placed i (lexed n m e)) piece (nesting e)
    pub fine : Fine (lexed n m e) true
    pub tm : Tm
    pub bound : TermOf text (value_names m) (type_names n) piece.tree tm
    pub is : plain tm ≡ e

  -- the same at a place that asks for a line, in parentheses where b holds
  record WroteAt (q : Line) (b : Bool) (i n m : ℕ) (e : Term) : Type 0 where
    piece : Piece
    whole : Opens q (placed i (inside b (lexed n m e))) piece (nest_if b (nesting e))
    fine : Fine (inside b (lexed n m e)) true
    tm : Tm
    bound : TermOf text (value_names m) (type_names n) piece.tree tm
    is : plain tm ≡ e

  at_line : (q : Line) (b : Bool) (i n m : ℕ) (e : Term) → is_loose (line_of e) q ≡ b →
      ((j : ℕ) → Written text j (lexed n m e) → WroteTerm j n m e) →
      Written text i (inside b (lexed n m e)) → WroteAt q b i n m e
  at_line q true i n m e h f w =
      let ls = lexed n m e in
      let last = close_paren ∷ [] in
      let r = f (i + 1) (written_append text (i + 1) ls last w.1).0 in
      let o = placing.place_of i open_paren in
      let c = placing.place_of (i + 1 + size ls) close_paren in
      record {
        piece = within o.start c.end r.piece;
        whole = rw (placed_append (i + 1) ls last) (from_part _ _ _ q
            (opens_paren _ _ _ o c (whole_term _ _ _ (line_of e) r.whole)));
        fine = ((refl, refl, tt), tt, fine_append ls last true r.fine ((refl, refl, tt), tt, tt));
        tm = r.tm;
        bound = r.bound;
        is = r.is;
      }
  at_line q false i n m e h f w =
      let r = f i w in record {
        piece = r.piece;
        whole = lift _ _ _ (line_of e) q h r.whole;
        fine = r.fine;
        tm = r.tm;
        bound = r.bound;
        is = r.is;
      }

  -- fields after the first of a tuple
  record MoreFields (i n m : ℕ) (es : Terms) : Type 0 where
    raw : List RawTm
    extend : (u : List Token) (rs : List RawTm) (l : ℕ) → all_nesting es ≤ l → OpensFields u rs l →
        OpensFields (u ++ placed i (more_lexed n m es)) (rs ++ raw) l
    fine : Fine (more_lexed n m es) true
    tms : Tms
    bound : TermsOf text (value_names m) (type_names n) (raw_tms raw) tms
    is : plain_all tms ≡ es

  -- under binders
  under_value : (s : Span) (n m : ℕ) (r : RawTm) (t : Tm) → spelled text s ≡ bytes (ValueName m) →
      TermOf text (value_names (m + 1)) (type_names n) r t →
      TermOf text (spelled text s ∷ value_names m) (type_names n) r t
  under_value s n m r t e h =
      let q : value_names (m + 1) ≡ spelled text s ∷ value_names m = names_next 120 m ∙ ap
      (λ (x : Name). x ∷ value_names m) (sym e) in
      subst (λ (v : List Name). TermOf text v (type_names n) r t) q h

  under_type : (s : Span) (n : ℕ) (v : List Name) (r : RawTm) (t : Tm) → spelled text s ≡ bytes (TypeName n) →
      TermOf text v (type_names (n + 1)) r t →
      TermOf text v (spelled text s ∷ type_names n) r t
  under_type s n v r t e h =
      let q : type_names (n + 1) ≡ spelled text s ∷ type_names n = names_next 116 n ∙ ap
      (λ (x : Name). x ∷ type_names n) (sym e) in
      subst (λ (a : List Name). TermOf text v a r t) q h

  under_function : (f x : Span) (n m : ℕ) (r : RawTm) (t : Tm) → spelled text f ≡ bytes (ValueName m) →
      spelled text x ≡ bytes (ValueName (m + 1)) →
      TermOf text (value_names (m + 2)) (type_names n) r t →
      TermOf text (spelled text x ∷ (spelled text f ∷ value_names m)) (type_names n) r t
  under_function f x n m r t e g h =
      let q : value_names (m + 2) ≡ spelled text x ∷ (spelled text f ∷ value_names m) = names_two 120 m ∙ ap₂
      (λ (y z : Name). y ∷ (z ∷ value_names m)) (sym g) (sym e) in
      subst (λ (v : List Name). TermOf text v (type_names n) r t) q h

  -- what a recursive call gives of a part
  abbrev Made : ℕ → ℕ → Term → Type 0
  Made n m e = (j : ℕ) → Written text j (lexed n m e) → WroteTerm j n m e

  -- an operation, with its sign
  module _ (i n m : ℕ) (a b : Term) (f : Made n m a) (g : Made n m b) where
    sum : Written text i (lexed n m (MArith Add a b)) → WroteTerm i n m (MArith Add a b)
    sum w =
        let ls = inside (is_loose (line_of a) Sum) (lexed n m a) in
        let rest = space ∷ (Spaced 43 k.Plus ∷ inside (is_loose (line_of b) Product) (lexed n m b)) in
        let x = written_append text i ls rest w in
        let l = at_line Sum (is_loose (line_of a) Sum) i n m a refl f x.0 in
        let r = at_line Product (is_loose (line_of b) Product) (i + size ls + 1 + 2) n m b refl g x.1.1.1 in
        record {
          piece = operation Add l.piece r.piece;
          whole = rw (placed_append i ls rest) (opens_plus _ _ _ _ _ _
              (placing.place_of (i + size ls + 1) (Spaced 43 k.Plus)) l.whole
              r.whole);
          fine = fine_append ls rest true l.fine (refl, tt, ((refl, (λ s. refl), tt), tt, r.fine));
          tm = SArith (place (record { start = l.piece.start; end = r.piece.end })) Add l.tm r.tm;
          bound = of_arith _ Add l.bound r.bound;
          is = ap₂ (λ (y z : Term). MArith Add y z) l.is r.is;
        }

    difference : Written text i (lexed n m (MArith Sub a b)) → WroteTerm i n m (MArith Sub a b)
    difference w =
        let ls = inside (is_loose (line_of a) Sum) (lexed n m a) in
        let rest = space ∷ (Spaced 45 k.Minus ∷ inside (is_loose (line_of b) Product) (lexed n m b)) in
        let x = written_append text i ls rest w in
        let l = at_line Sum (is_loose (line_of a) Sum) i n m a refl f x.0 in
        let r = at_line Product (is_loose (line_of b) Product) (i + size ls + 1 + 2) n m b refl g x.1.1.1 in
        record {
          piece = operation Sub l.piece r.piece;
          whole = rw (placed_append i ls rest) (opens_minus _ _ _ _ _ _
              (placing.place_of (i + size ls + 1) (Spaced 45 k.Minus))
              l.whole r.whole);
          fine = fine_append ls rest true l.fine (refl, tt, ((refl, (λ s. refl), tt), tt, r.fine));
          tm = SArith (place (record { start = l.piece.start; end = r.piece.end })) Sub l.tm r.tm;
          bound = of_arith _ Sub l.bound r.bound;
          is = ap₂ (λ (y z : Term). MArith Sub y z) l.is r.is;
        }

    times : Written text i (lexed n m (MArith Mul a b)) → WroteTerm i n m (MArith Mul a b)
    times w =
        let ls = inside (is_loose (line_of a) Product) (lexed n m a) in
        let rest = space ∷ (Spaced 42 k.Star ∷ inside (is_loose (line_of b) Call) (lexed n m b)) in
        let x = written_append text i ls rest w in
        let l = at_line Product (is_loose (line_of a) Product) i n m a refl f x.0 in
        let r = at_line Call (is_loose (line_of b) Call) (i + size ls + 1 + 2) n m b refl g x.1.1.1 in
        record {
          piece = operation Mul l.piece r.piece;
          whole = rw (placed_append i ls rest) (opens_star _ _ _ _ _ _
              (placing.place_of (i + size ls + 1) (Spaced 42 k.Star)) l.whole
              r.whole);
          fine = fine_append ls rest true l.fine (refl, tt, ((refl, (λ s. refl), tt), tt, r.fine));
          tm = SArith (place (record { start = l.piece.start; end = r.piece.end })) Mul l.tm r.tm;
          bound = of_arith _ Mul l.bound r.bound;
          is = ap₂ (λ (y z : Term). MArith Mul y z) l.is r.is;
        }

    assignment : Written text i (lexed n m (MAssign a b)) → WroteTerm i n m (MAssign a b)
    assignment w =
        let ls = inside (is_loose (line_of a) Sum) (lexed n m a) in
        let rest = space ∷ (Pair 58 61 k.Assign ∷ (space ∷ inside (is_loose (line_of b) Sum) (lexed n m b))) in
        let x = written_append text i ls rest w in
        let l = at_line Sum (is_loose (line_of a) Sum) i n m a refl f x.0 in
        let r = at_line Sum (is_loose (line_of b) Sum) (i + size ls + 1 + 2 + 1) n m b refl g x.1.1.1.1 in
        record {
          piece = assign l.piece r.piece;
          whole = rw (placed_append i ls rest) (opens_assign _ _ _ _ _ _
              (placing.place_of (i + size ls + 1) (Pair 58 61 k.Assign))
              l.whole r.whole);
          fine = fine_append ls rest true l.fine (refl, tt, ((refl, (λ s. refl), tt), tt, (refl, tt, r.fine)));
          tm = SAssign (place (record { start = l.piece.start; end = r.piece.end })) l.tm r.tm;
          bound = of_assign _ l.bound r.bound;
          is = ap₂ (λ (y z : Term). MAssign y z) l.is r.is;
        }

    application : Written text i (lexed n m (MApp a b)) → WroteTerm i n m (MApp a b)
    application w =
        let ls = inside (is_loose (line_of a) Call) (lexed n m a) in
        let rest = space ∷ inside (is_loose (line_of b) Primary) (lexed n m b) in
        let x = written_append text i ls rest w in
        let l = at_line Call (is_loose (line_of a) Call) i n m a refl f x.0 in
        let r = at_line Primary (is_loose (line_of b) Primary) (i + size ls + 1) n m b refl g x.1.1 in
        record {
          piece = call l.piece r.piece;
          whole = rw (placed_append i ls rest) (opens_app _ _ _ _ _ _ l.whole r.whole);
          fine = fine_append ls rest true l.fine (refl, tt, r.fine);
          tm = SApp (place (record { start = l.piece.start; end = r.piece.end })) l.tm r.tm;
          bound = of_app _ l.bound r.bound;
          is = ap₂ (λ (y z : Term). MApp y z) l.is r.is;
        }

  mutual
    pub wrote_term : (i n m : ℕ) (e : Term) → IsWord n → IsWord m → Fits e n m → Written text i (lexed n m e) →
        WroteTerm i n m e
    wrote_term i n m (MVar v) hn hm h w =
        let s = placing.place_of i (ValueName (m - 1 - v)) in
        record {
          piece = var s;
          whole = opens_name s;
          fine = (omega arith, refl, tt);
          tm = SVar (place s) v;
          bound = of_var s v (subst (λ (x : Name). IsPlace x (value_names m) v) (sym w.0) (in_scope 120 m v h hm));
          is = refl;
        }
    wrote_term i n m (MNum (pos z)) hn hm h w =
        let s = placing.place_of i (Number (pos z)) in
        record {
          piece = number (pos z) s;
          whole = opens_plain (pos z) s;
          fine = (h, refl, tt);
          tm = SNum (place s)
              (pos z);
          bound = of_num s (pos z);
          is = refl;
        }
    wrote_term i n m (MNum (negsuc z)) hn hm h w =
        let s = placing.place_of i (Number (negsuc z)) in
        record {
          piece = number (negsuc z) s;
          whole = opens_negative (negsuc z) s;
          fine = (h, refl, tt);
          tm = SNum
              (place s) (negsuc z);
          bound = of_num s (negsuc z);
          is = refl;
        }
    wrote_term i n m (MFix arg res e) hn hm h w =
        let f = placing.place_of (i + 3 + 1) (ValueName m) in
        let o = i + 3 + 1 + length (bytes (ValueName m)) in
        let x = placing.place_of (o + 1) (ValueName (m + 1)) in
        let c = o + 1 + length (bytes (ValueName (m + 1))) in
        let t = type_lexed n arg in
        let u = type_lexed n res in
        let rest = Spaced 46 k.Dot ∷ lexed n (m + 2) e in
        let middle = close_paren ∷ (Spaced 58 k.Colon ∷ (u ++ rest)) in
        let p = c + 2 + size t in
        let d = p + 1 + 2 + size u in
        let y = written_append text (c + 2) t middle w.1.1.1.1.1.1 in
        let z = written_append text (p + 1 + 2) u rest y.1.1.1 in
        let a = wrote_type text (c + 2) n arg hn h.0 y.0 in
        let b = wrote_type text (p + 1 + 2) n res hn h.1 z.0 in
        let r = wrote_term (d + 2) n (m + 2) e hn h.2 h.3 z.1.1 in
        let start = placing.place_of i (Reserved (codes "fix") k.Fix) in
        record {
          piece = func start f x a.piece.ty b.piece.ty r.piece;
          whole = rw (placed_append (c + 2) t middle, placed_append (p + 1 + 2) u rest)
              (opens_fix _ _ _ _ _ _ _ _ _ start f (placing.place_of o open_paren) x
              (placing.place_of c (Spaced 58 k.Colon))
              (placing.place_of p close_paren) (placing.place_of (p + 1) (Spaced 58 k.Colon))
              (placing.place_of d (Spaced 46 k.Dot))
              (to_type (is_grouped arg) _ _ _ a.whole) (to_type (is_grouped res) _ _ _ b.whole)
              (whole_term _ _ _ (line_of e) r.whole));
          fine = (
            (refl, refl, tt),
            refl,
            (
              refl,
              tt,
              (
                hm,
                refl,
                (
                  (refl, refl, tt),
                  tt,
                  (
                    omega (arith, h.2),
                    refl,
                    (
                      (refl, (λ s. refl), tt),
                      tt,
                      fine_append t middle true a.fine (
                        (refl, refl, tt),
                        tt,
                        (
                          (refl, (λ s. refl), tt),
                          tt,
                          fine_append u rest true b.fine
                              ((refl, (λ s. refl), tt), tt, r.fine),
                        ),
                      ),
                    ),
                  ),
                ),
              ),
            ),
          );
          tm = SFix (place (record { start = i; end = r.piece.end })) arg res r.tm;
          bound = of_fix _ f x a.bound b.bound (under_function f x n m r.piece.tree r.tm w.1.1.0 w.1.1.1.1.0 r.bound);
          is = ap (λ (v : Term). MFix arg res v) r.is;
        }
    wrote_term i n m (MApp f x) hn hm h w = application i n m f x (λ j v. wrote_term j n m f hn hm h.0 v)
        (λ j v. wrote_term j n m x hn hm h.1 v) w
    wrote_term i n m (MGen e) hn hm h w =
        let s = placing.place_of (i + 3 + 1) (TypeName n) in
        let c = i + 3 + 1 + length (bytes (TypeName n)) in
        let r = wrote_term (c + 2) (n + 1) m e h.0 hm h.1 w.1.1.1.1 in
        let start = placing.place_of i (Reserved (codes "gen") k.Gen) in
        record {
          piece = gen start s r.piece;
          whole = opens_gen _ _ _ start s (placing.place_of c (Spaced 46 k.Dot))
              (whole_term _ _ _ (line_of e) r.whole);
          fine = ((refl, refl, tt), refl, (refl, tt, (hn, refl, ((refl, (λ s. refl), tt), tt, r.fine))));
          tm = SGen (place (record { start = i; end = r.piece.end })) r.tm;
          bound = of_gen _ s (under_type s n (value_names m) r.piece.tree r.tm w.1.1.0 r.bound);
          is = ap (λ (v : Term). MGen v) r.is;
        }
    wrote_term i n m (MInst e t) hn hm h w =
        let b = is_loose (line_of e) Call in
        let ls = inside b (lexed n m e) in
        let last = Sign 93 k.RightBracket ∷ [] in
        let u = type_lexed n t in
        let rest = Sign 91 k.LeftBracket ∷ (u ++ last) in
        let x = written_append text i ls rest w in
        let o = i + size ls in
        let l = at_line Call b i n m e refl (λ j v. wrote_term j n m e hn hm h.0 v) x.0 in
        let a = wrote_type text (o + 1) n t hn h.1 (written_append text (o + 1) u last x.1.1).0 in
        let c = placing.place_of (o + 1 + size u) (Sign 93 k.RightBracket) in
        record {
          piece = inst l.piece a.piece.ty c;
          whole = rw (placed_append i ls rest, placed_append (o + 1) u last)
              (opens_inst _ _ _ _ _ _ (placing.place_of o (Sign 91 k.LeftBracket)) c l.whole
              (to_type (is_grouped t) _ _ _ a.whole));
          fine = fine_append ls rest true l.fine (
            (refl, refl, tt),
            tt,
            fine_append u last true a.fine
                ((refl, refl, tt), tt, tt),
          );
          tm = SInst (place (record { start = l.piece.start; end = c.end })) l.tm t;
          bound = of_inst _ l.bound a.bound;
          is = ap (λ (v : Term). MInst v t) l.is;
        }
    wrote_term i n m (MTuple NoTerms) hn hm h w =
        let o = placing.place_of i (Sign 60 k.LeftAngle) in
        let c = placing.place_of (i + 1) (Sign 62 k.RightAngle) in
        record {
          piece = tuple o [] c;
          whole = opens_unit o c;
          fine = ((refl, refl, tt), tt, ((refl, refl, tt), tt, tt));
          tm = STuple (place (record { start = i; end = i + 1 + 1 })) NoTms;
          bound = of_fields _ of_no_terms;
          is = refl;
        }
    wrote_term i n m (MTuple (MoreTerms e es)) hn hm h w =
        let last = Sign 62 k.RightAngle ∷ [] in
        let first = lexed n m e in
        let more = more_lexed n m es in
        let ls = first ++ more in
        let v = (written_append text (i + 1) ls last w.1).0 in
        let x = written_append text (i + 1) first more v in
        let a = wrote_term (i + 1) n m e hn hm h.0 x.0 in
        let r = more_fields (i + 1 + size first) n m es hn hm h.1 x.1 in
        let o = placing.place_of i (Sign 60 k.LeftAngle) in
        let c = placing.place_of (i + 1 + size ls) (Sign 62 k.RightAngle) in
        record {
          piece = tuple o (a.piece.tree ∷ r.raw) c;
          whole = rw (placed_append (i + 1) ls last, placed_append (i + 1) first more)
              (opens_tuple _ _ _ o c (r.extend (placed (i + 1) first) (a.piece.tree ∷ [])
              (max (nesting e) (all_nesting es)) (omega arith)
              (opens_one _ _ _ (max (nesting e) (all_nesting es)) (omega arith)
              (whole_term _ _ _ (line_of e) a.whole))));
          fine = (
            (refl, refl, tt),
            tt,
            fine_append ls last true
                (fine_append first more true (rw (stops_more n m es) a.fine) r.fine) ((refl, refl, tt), tt, tt),
          );
          tm = STuple (place (record { start = i; end = c.end })) (MoreTms a.tm r.tms);
          bound = of_fields _ (of_more_terms a.bound r.bound);
          is = ap₂ (λ (y : Term) (ys : Terms). MTuple (MoreTerms y ys)) a.is r.is;
        }
    wrote_term i n m (MProj v e) hn hm h w =
        let b = is_loose (line_of e) Primary in
        let s = placing.place_of (i + 1) (Number (pos v)) in
        let j = i + 1 + length (bytes (Number (pos v))) + 1 in
        let r = at_line Primary b j n m e refl (λ j w. wrote_term j n m e hn hm h.1 w) w.1.1.1 in
        let start = placing.place_of i (Sign 35 k.Hash) in
        record {
          piece = proj start v r.piece;
          whole = opens_proj _ _ _ start (pos v) s r.whole;
          fine = ((refl, refl, tt), tt, ((omega (arith, ints), omega (arith, ints, h.0)), refl, (refl, tt, r.fine)));
          tm = SProj (place (record { start = i; end = r.piece.end })) v r.tm;
          bound = of_proj _ v r.bound;
          is = ap (λ (x : Term). MProj v x) r.is;
        }
    wrote_term i n m (MArith Add a b) hn hm h w = sum i n m a b (λ j v. wrote_term j n m a hn hm h.0 v)
        (λ j v. wrote_term j n m b hn hm h.1 v) w
    wrote_term i n m (MArith Sub a b) hn hm h w = difference i n m a b (λ j v. wrote_term j n m a hn hm h.0 v)
        (λ j v. wrote_term j n m b hn hm h.1 v) w
    wrote_term i n m (MArith Mul a b) hn hm h w = times i n m a b (λ j v. wrote_term j n m a hn hm h.0 v)
        (λ j v. wrote_term j n m b hn hm h.1 v) w
    wrote_term i n m (MIf0 c a b) hn hm h w =
        let lc = lexed n m c in
        let la = lexed n m a in
        let lb = lexed n m b in
        let last = close_paren ∷ [] in
        let second = comma ∷ (lb ++ last) in
        let rest = comma ∷ (la ++ second) in
        let o = i + 3 in
        let p = o + 1 + size lc in
        let q = p + 2 + size la in
        let l = q + 2 + size lb in
        let x = written_append text (o + 1) lc rest w.1.1 in
        let y = written_append text (p + 2) la second x.1.1 in
        let z = written_append text (q + 2) lb last y.1.1 in
        let rc = wrote_term (o + 1) n m c hn hm h.0 x.0 in
        let ra = wrote_term (p + 2) n m a hn hm h.1 y.0 in
        let rb = wrote_term (q + 2) n m b hn hm h.2 z.0 in
        let start = placing.place_of i (Reserved (codes "if0") k.If0) in
        let end = placing.place_of l close_paren in
        record {
          piece = if0 start rc.piece ra.piece rb.piece end;
          whole = rw (placed_append (o + 1) lc rest, placed_append (p + 2) la second, placed_append (q + 2) lb last)
              (opens_if _ _ _ _ _ _ _ _ _ start (placing.place_of o open_paren) (placing.place_of p comma)
              (placing.place_of q comma) end
              (whole_term _ _ _ (line_of c) rc.whole) (whole_term _ _ _ (line_of a) ra.whole)
              (whole_term _ _ _ (line_of b) rb.whole));
          fine = (
            (refl, refl, tt),
            refl,
            (
              (refl, refl, tt),
              tt,
              fine_append lc rest true rc.fine (
                (refl, (λ s. refl), tt),
                tt,
                fine_append la second true ra.fine
                    ((refl, (λ s. refl), tt), tt, fine_append lb last true rb.fine ((refl, refl, tt), tt, tt)),
              ),
            ),
          );
          tm = SIf0 (place (record { start = i; end = end.end })) rc.tm ra.tm rb.tm;
          bound = of_if0 _ rc.bound ra.bound rb.bound;
          is = ap (λ (v : Term). MIf0 v (plain ra.tm) (plain rb.tm)) rc.is ∙ ap₂ (λ (u v : Term). MIf0 c u v) ra.is
              rb.is;
        }
    wrote_term i n m (MLet a b) hn hm h w =
        let s = placing.place_of (i + 3 + 1) (ValueName m) in
        let q = i + 3 + 1 + length (bytes (ValueName m)) + 1 in
        let la = lexed n m a in
        let rest = space ∷ (Reserved (codes "in") k.In ∷ (Blank 10 ∷ lexed n (m + 1) b)) in
        let p = q + 2 + size la + 1 in
        let x = written_append text (q + 2) la rest w.1.1.1.1.1 in
        let ra = wrote_term (q + 2) n m a hn hm h.0 x.0 in
        let rb = wrote_term (p + 2 + 1) n (m + 1) b hn h.1 h.2 x.1.1.1.1 in
        let start = placing.place_of i (Reserved (codes "let") k.Let) in
        record {
          piece = let_in start s ra.piece rb.piece;
          whole = rw (placed_append (q + 2) la rest)
              (opens_let _ _ _ _ _ _ start s (placing.place_of q (Spaced 61 k.Equals))
              (placing.place_of p (Reserved (codes "in") k.In)) (whole_term _ _ _ (line_of a) ra.whole)
              (whole_term _ _ _ (line_of b) rb.whole));
          fine = (
            (refl, refl, tt),
            refl,
            (
              refl,
              tt,
              (
                hm,
                refl,
                (
                  refl,
                  tt,
                  (
                    (refl, (λ s. refl), tt),
                    tt,
                    fine_append la rest true ra.fine
                        (refl, tt, ((refl, refl, tt), refl, (refl, tt, rb.fine))),
                  ),
                ),
              ),
            ),
          );
          tm = SLet (place (record { start = i; end = rb.piece.end })) ra.tm rb.tm;
          bound = of_let _ s ra.bound (under_value s n m rb.piece.tree rb.tm w.1.1.0 rb.bound);
          is = ap₂ (λ (u v : Term). MLet u v) ra.is rb.is;
        }
    wrote_term i n m (MPack t e u) hn hm h w =
        let lt = type_lexed n t in
        let le = lexed n m e in
        let last = Sign 93 k.RightBracket ∷ (space ∷ (Reserved (codes "as") k.As ∷ (space ∷ type_lexed n u))) in
        let rest = comma ∷ (le ++ last) in
        let o = i + 4 in
        let c = o + 1 + size lt in
        let q = c + 2 + size le in
        let x = written_append text (o + 1) lt rest w.1.1 in
        let y = written_append text (c + 2) le last x.1.1 in
        let rt = wrote_type text (o + 1) n t hn h.0 x.0 in
        let re = wrote_term (c + 2) n m e hn hm h.1 y.0 in
        let ru = wrote_type text (q + 1 + 1 + 2 + 1) n u hn h.2 y.1.1.1.1.1 in
        let start = placing.place_of i (Reserved (codes "pack") k.Pack) in
        record {
          piece = pack start rt.piece re.piece ru.piece;
          whole = rw (placed_append (o + 1) lt rest, placed_append (c + 2) le last)
              (opens_pack _ _ _ _ _ _ _ _ _ start (placing.place_of o (Sign 91 k.LeftBracket))
              (placing.place_of c comma)
              (placing.place_of q (Sign 93 k.RightBracket))
              (placing.place_of (q + 1 + 1) (Reserved (codes "as") k.As))
              (to_type (is_grouped t) _ _ _ rt.whole) (whole_term _ _ _ (line_of e) re.whole)
              (to_type (is_grouped u) _ _ _ ru.whole));
          fine = (
            (refl, refl, tt),
            refl,
            (
              (refl, refl, tt),
              tt,
              fine_append lt rest true rt.fine (
                (refl, (λ s. refl), tt),
                tt,
                fine_append le last true re.fine
                    ((refl, refl, tt), tt, (refl, tt, ((refl, refl, tt), refl, (refl, tt, ru.fine)))),
              ),
            ),
          );
          tm = SPack (place (record { start = i; end = ru.piece.end })) t re.tm u;
          bound = of_pack _ rt.bound re.bound ru.bound;
          is = ap (λ (v : Term). MPack t v u) re.is;
        }
    wrote_term i n m (MOpen a b) hn hm h w =
        let s = placing.place_of (i + 4 + 1 + 1) (TypeName n) in
        let c = i + 4 + 1 + 1 + length (bytes (TypeName n)) in
        let x = placing.place_of (c + 2) (ValueName m) in
        let d = c + 2 + length (bytes (ValueName m)) in
        let q = d + 1 + 1 in
        let la = lexed n m a in
        let rest = space ∷ (Reserved (codes "in") k.In ∷ (Blank 10 ∷ lexed (n + 1) (m + 1) b)) in
        let p = q + 2 + size la + 1 in
        let y = written_append text (q + 2) la rest w.1.1.1.1.1.1.1.1.1 in
        let ra = wrote_term (q + 2) n m a hn hm h.0 y.0 in
        let rb = wrote_term (p + 2 + 1) (n + 1) (m + 1) b h.1 h.2 h.3 y.1.1.1.1 in
        let start = placing.place_of i (Reserved (codes "open") k.Open) in
        record {
          piece = open_in start s x ra.piece rb.piece;
          whole = rw (placed_append (q + 2) la rest)
              (opens_open _ _ _ _ _ _ start (placing.place_of (i + 4 + 1) (Sign 91 k.LeftBracket)) s
              (placing.place_of c comma) x
              (placing.place_of d (Sign 93 k.RightBracket)) (placing.place_of q (Spaced 61 k.Equals))
              (placing.place_of p (Reserved (codes "in") k.In))
              (whole_term _ _ _ (line_of a) ra.whole) (whole_term _ _ _ (line_of b) rb.whole));
          fine = (
            (refl, refl, tt),
            refl,
            (
              refl,
              tt,
              (
                (refl, refl, tt),
                tt,
                (
                  hn,
                  refl,
                  (
                    (refl, (λ s. refl), tt),
                    tt,
                    (
                      hm,
                      refl,
                      (
                        (refl, refl, tt),
                        tt,
                        (
                          refl,
                          tt,
                          (
                            (refl, (λ s. refl), tt),
                            tt,
                            fine_append la rest true ra.fine
                                (refl, tt, ((refl, refl, tt), refl, (refl, tt, rb.fine))),
                          ),
                        ),
                      ),
                    ),
                  ),
                ),
              ),
            ),
          );
          tm = SOpen (place (record { start = i; end = rb.piece.end })) ra.tm rb.tm;
          bound = of_open _ s x ra.bound (under_type s n (spelled text x ∷ value_names m) rb.piece.tree rb.tm
              w.1.1.1.0 (under_value x (n + 1) m rb.piece.tree rb.tm w.1.1.1.1.1.0 rb.bound));
          is = ap₂ (λ (u v : Term). MOpen u v) ra.is rb.is;
        }
    wrote_term i n m (MRef e) hn hm h w =
        let r = at_line Primary (is_loose (line_of e) Primary) (i + 3 + 1) n m e refl
        (λ j v. wrote_term j n m e hn hm h v) w.1.1 in
        let start = placing.place_of i (Reserved (codes "ref") k.Ref) in
        record {
          piece = cell start r.piece;
          whole = opens_ref _ _ _ start r.whole;
          fine = ((refl, refl, tt), refl, (refl, tt, r.fine));
          tm = SRef (place (record { start = i; end = r.piece.end })) r.tm;
          bound = of_cell _ r.bound;
          is = ap (λ (v : Term). MRef v) r.is;
        }
    wrote_term i n m (MDeref e) hn hm h w =
        let r = at_line Primary (is_loose (line_of e) Primary) (i + 1) n m e refl
        (λ j v. wrote_term j n m e hn hm h v) w.1 in
        let start = placing.place_of i (Sign 33 k.Bang) in
        record {
          piece = deref start r.piece;
          whole = opens_deref _ _ _ start r.whole;
          fine = ((refl, refl, tt), tt, r.fine);
          tm = SDeref (place (record { start = i; end = r.piece.end })) r.tm;
          bound = of_deref _ r.bound;
          is = ap (λ (v : Term). MDeref v) r.is;
        }
    wrote_term i n m (MAssign a b) hn hm h w = assignment i n m a b (λ j v. wrote_term j n m a hn hm h.0 v)
        (λ j v. wrote_term j n m b hn hm h.1 v) w

    more_fields : (i n m : ℕ) (es : Terms) → IsWord n → IsWord m → AllFit es n m →
        Written text i (more_lexed n m es) → MoreFields i n m es
    more_fields i n m NoTerms hn hm h w = record {
      raw = [];
      extend = λ u rs l le x. rw (append-nil, append-nil) x;
      fine = tt;
      tms = NoTms;
      bound = of_no_terms;
      is = refl;
    }
    more_fields i n m (MoreTerms e es) hn hm h w =
        let first = lexed n m e in
        let more = more_lexed n m es in
        let x = written_append text (i + 2) first more w.1 in
        let a = wrote_term (i + 2) n m e hn hm h.0 x.0 in
        let r = more_fields (i + 2 + size first) n m es hn hm h.1 x.1 in
        record {
          raw = a.piece.tree ∷ r.raw;
          extend = λ u rs l le y.
              let low : all_nesting es ≤ l = omega arith in
              let high : nesting e ≤ l = omega arith in
              rw (placed_append (i + 2) first more)
              (simp append_assoc at (r.extend (u ++ tok k.Comma (placing.place_of i comma) ∷ placed (i + 2) first)
              (rs ++ a.piece.tree ∷ []) l low
              (opens_more _ _ _ _ _ _ (placing.place_of i comma) high y (whole_term _ _ _ (line_of e) a.whole))));
          fine = ((refl, (λ s. refl), tt), tt, fine_append first more true (rw (stops_more n m es) a.fine) r.fine);
          tms = MoreTms a.tm r.tms;
          bound = of_more_terms a.bound r.bound;
          is = ap₂ (λ (y : Term) (ys : Terms). MoreTerms y ys) a.is r.is;
        }
