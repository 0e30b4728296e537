-- A type that is written stands for itself, where the names around it are those of its depth.
use Rattle.std.proofs.Common.{max, ◌≤◌, ◌≡◌, ℕ, ◌+◌, ◌-◌, List, [], ◌∷◌, ◌++◌, length, codes, Bool, true, false, refl}
use Rattle.std.proofs.Common.{sym}
use Rattle.std.proofs.Common.{ap, ◌∙◌, arith, append_assoc, subst}
use Rattle.std.proofs.lemmas.List.{append-nil}
use Rattle.idx_core.specs.declared.span.Span.{Span}
use Rattle.idx_core.specs.Names.{Name, IsPlace}
use Rattle.idx_core.specs.Over.{BelowAt, IsWord}
use Rattle.f_terms.specs.Ty.{Ty, TInt, TVar, TArrow, TAll, TTuple, TSome, TRef, Tys, NoTys, MoreTys, each_all}
use Rattle.f_terms.specs.Text.{is_grouped}
use Rattle.f_lexer.specs.declared.kind.Kind.TheVariants as k
use Rattle.f_lexer.specs.declared.token.Token.{Token}
use Rattle.f_grammar.specs.declared.types.Quantifier.TheVariants.{All, Exists}
use Rattle.f_grammar.specs.Raw.{RawTy, raw_tys, TyPiece, int_ty, name_ty, tuple_ty, arrow_ty, bound_ty}
use Rattle.f_grammar.specs.Raw.{ref_ty, paren_ty}
use Rattle.f_grammar.specs.Grammar.{tok}
use Rattle.f_grammar.specs.Scope.{spelled, TypeOf, of_int, of_name, of_tuple, of_arrow, of_all, of_some, of_ref}
use Rattle.f_grammar.specs.Scope.{TypesOf, of_no_types, of_more_types}
use Rattle.f_writer.specs.Fits.{TypeFits}
use Rattle.f_writer.proofs.Lexemes.{Reserved, TypeName, Sign, Pair, Spaced, bytes, space, comma}
use Rattle.f_writer.proofs.Lexemes.{open_paren, close_paren, inside, type_lexed, more_types_lexed}
use Rattle.f_writer.specs.Nesting.{nest_if, type_nesting, types_nesting}
use Rattle.f_writer.proofs.Opens.{OpensType, OpensTypes, to_type, opens_paren_type, opens_all, opens_some}
use Rattle.f_writer.proofs.Opens.{opens_one_type}
use Rattle.f_writer.proofs.Opens.{opens_arrow, opens_ref_type, opens_int, opens_type_name, opens_unit_type}
use Rattle.f_writer.proofs.Opens.{opens_tuple_type, opens_more_types}
use Rattle.f_writer.proofs.Placed as placing
use Rattle.f_writer.proofs.Placed.{size, placed, placed_append, stops, Fine, fine_append, Written, written_append}
use Rattle.f_writer.proofs.Scopes.{type_names, names_next, in_scope}

stops_more : (d : ℕ) (ts : Tys) → stops (more_types_lexed d ts) true ≡ true
stops_more d NoTys = refl
stops_more d (MoreTys t ts) = refl

-- What is written inside d type names, from the place i of the text on, stands for what it is written for.
module _ (text : List ℕ) where
  pub record WroteType (i d : ℕ) (t : Ty) : Type 0 where
    pub piece : TyPiece
    pub whole : OpensType (is_grouped t) (placed i (type_lexed d t)) piece (type_nesting t)
    pub fine : Fine (type_lexed d t) true
    pub bound : TypeOf text (type_names d) piece.ty t

  -- the same in parentheses where b holds
  record WroteUnit (b : Bool) (i d : ℕ) (t : Ty) : Type 0 where
    piece : TyPiece
    whole : OpensType false (placed i (inside b (type_lexed d t))) piece (nest_if b (type_nesting t))
    fine : Fine (inside b (type_lexed d t)) true
    bound : TypeOf text (type_names d) piece.ty t

  unit : (b : Bool) (i d : ℕ) (t : Ty) → is_grouped t ≡ b →
      ((j : ℕ) → Written text j (type_lexed d t) → WroteType j d t) → Written text i (inside b (type_lexed d t)) →
      WroteUnit b i d t
  unit true i d t e f w =
      let ls = type_lexed d t in
      let last = close_paren ∷ [] in
      let r = f (i + 1) (written_append text (i + 1) ls last w.1).0 in
      let c = placing.place_of (i + 1 + size ls) close_paren in
      record {
        piece = paren_ty r.piece c;
        whole = rw (placed_append (i + 1) ls last) (opens_paren_type _ _ _ (to_type (is_grouped t) _ _ _ r.whole)
            (placing.place_of i open_paren) c);
        fine = ((refl, refl, tt), tt, fine_append ls last true r.fine ((refl, refl, tt), tt, tt));
        bound = r.bound;
      }
  unit false i d t e f w =
      let r = f i w in
      record {
        piece = r.piece;
        whole = subst (λ b. OpensType b (placed i (type_lexed d t)) r.piece (type_nesting t)) e r.whole;
        fine = r.fine;
        bound = r.bound;
      }

  -- types after the first of a tuple
  record MoreTypes (i d : ℕ) (ts : Tys) : Type 0 where
    raw : List RawTy
    extend : (u : List Token) (rs : List RawTy) (n : ℕ) → types_nesting ts ≤ n → OpensTypes u rs n →
        OpensTypes (u ++ placed i (more_types_lexed d ts)) (rs ++ raw) n
    fine : Fine (more_types_lexed d ts) true
    bound : TypesOf text (type_names d) (raw_tys raw) ts

  -- under a binder
  under : (s : Span) (d : ℕ) (r : RawTy) (t : Ty) → spelled text s ≡ bytes (TypeName d) →
      TypeOf text (type_names (d + 1)) r t → TypeOf text (spelled text s ∷ type_names d) r t
  under s d r t e h =
      let q : type_names (d + 1) ≡ spelled text s ∷ type_names d = names_next 116 d ∙ ap
      (λ (x : Name). x ∷ type_names d) (sym e) in
      subst (λ (a : List Name). TypeOf text a r t) q h

  mutual
    pub wrote_type : (i d : ℕ) (t : Ty) → IsWord d → TypeFits d t → Written text i (type_lexed d t) → WroteType i d t
    wrote_type i d TInt n h w = record {
      piece = int_ty (placing.place_of i (Reserved (codes "int") k.Int));
      whole = opens_int _;
      fine = ((refl, refl, tt), refl, tt);
      bound = of_int;
    }
    wrote_type i d (TVar v) n h w =
        let s = placing.place_of i (TypeName (d - 1 - v)) in
        record {
          piece = name_ty s;
          whole = opens_type_name s;
          fine = (omega arith, refl, tt);
          bound = of_name s v (subst (λ (x : Name). IsPlace x (type_names d) v) (sym w.0) (in_scope 116 d v h n));
        }
    wrote_type i d (TArrow a b) n h w =
        let ls = inside (is_grouped a) (type_lexed d a) in
        let rest = space ∷ (Pair 45 62 k.Arrow ∷ (space ∷ type_lexed d b)) in
        let x = written_append text i ls rest w in
        let l = unit (is_grouped a) i d a refl (λ j v. wrote_type j d a n h.0 v) x.0 in
        let r = wrote_type (i + size ls + 1 + 2 + 1) d b n h.1 x.1.1.1.1 in
        record {
          piece = arrow_ty l.piece r.piece;
          whole = rw (placed_append i ls rest) (opens_arrow _ _ _ _ _ _
              (placing.place_of (i + size ls + 1) (Pair 45 62 k.Arrow)) l.whole
              (to_type (is_grouped b) _ _ _ r.whole));
          fine = fine_append ls rest true l.fine (refl, tt, ((refl, (λ s. refl), tt), tt, (refl, tt, r.fine)));
          bound = of_arrow l.bound r.bound;
        }
    wrote_type i d (TAll t) n h w =
        let s = placing.place_of (i + 3 + 1) (TypeName d) in
        let c = i + 3 + 1 + length (bytes (TypeName d)) in
        let r = wrote_type (c + 2) (d + 1) t h.0 h.1 w.1.1.1.1 in
        record {
          piece = bound_ty All s r.piece;
          whole = opens_all _ _ _ (to_type (is_grouped t) _ _ _ r.whole)
              (placing.place_of i (Reserved (codes "all") k.All)) s (placing.place_of c (Spaced 46 k.Dot));
          fine = ((refl, refl, tt), refl, (refl, tt, (n, refl, ((refl, (λ s. refl), tt), tt, r.fine))));
          bound = of_all s (under s d r.piece.ty t w.1.1.0 r.bound);
        }
    wrote_type i d (TTuple NoTys) n h w = record {
      piece = tuple_ty [] (placing.place_of (i + 1) (Sign 62 k.RightAngle));
      whole = opens_unit_type (placing.place_of i (Sign 60 k.LeftAngle))
          (placing.place_of (i + 1) (Sign 62 k.RightAngle));
      fine = ((refl, refl, tt), tt, ((refl, refl, tt), tt, tt));
      bound = of_tuple of_no_types;
    }
    wrote_type i d (TTuple (MoreTys t ts)) n h w =
        let last = Sign 62 k.RightAngle ∷ [] in
        let first = type_lexed d t in
        let more = more_types_lexed d ts in
        let ls = first ++ more in
        let v = (written_append text (i + 1) ls last w.1).0 in
        let x = written_append text (i + 1) first more v in
        let a = wrote_type (i + 1) d t n h.0 x.0 in
        let r = more_types (i + 1 + size first) d ts n h.1 x.1 in
        let c = placing.place_of (i + 1 + size ls) (Sign 62 k.RightAngle) in
        record {
          piece = tuple_ty (a.piece.ty ∷ r.raw) c;
          whole = rw (placed_append (i + 1) ls last, placed_append (i + 1) first more)
              (opens_tuple_type _ _ _ (placing.place_of i (Sign 60 k.LeftAngle)) c
              (r.extend (placed (i + 1) first) (a.piece.ty ∷ []) (max (type_nesting t) (types_nesting ts))
              (omega arith) (opens_one_type _ _ _ (to_type (is_grouped t) _ _ _ a.whole)
              (max (type_nesting t) (types_nesting ts)) (omega arith))));
          fine = (
            (refl, refl, tt),
            tt,
            fine_append ls last true
                (fine_append first more true (rw (stops_more d ts) a.fine) r.fine) ((refl, refl, tt), tt, tt),
          );
          bound = of_tuple (of_more_types a.bound r.bound);
        }
    wrote_type i d (TSome t) n h w =
        let s = placing.place_of (i + 4 + 1) (TypeName d) in
        let c = i + 4 + 1 + length (bytes (TypeName d)) in
        let r = wrote_type (c + 2) (d + 1) t h.0 h.1 w.1.1.1.1 in
        record {
          piece = bound_ty Exists s r.piece;
          whole = opens_some _ _ _ (to_type (is_grouped t) _ _ _ r.whole)
              (placing.place_of i (Reserved (codes "some") k.Some)) s (placing.place_of c (Spaced 46 k.Dot));
          fine = ((refl, refl, tt), refl, (refl, tt, (n, refl, ((refl, (λ s. refl), tt), tt, r.fine))));
          bound = of_some s (under s d r.piece.ty t w.1.1.0 r.bound);
        }
    wrote_type i d (TRef t) n h w =
        let r = unit (is_grouped t) (i + 3 + 1) d t refl (λ j v. wrote_type j d t n h v) w.1.1 in
        record {
          piece = ref_ty r.piece;
          whole = opens_ref_type _ _ _ (placing.place_of i (Reserved (codes "ref") k.Ref)) r.whole;
          fine = ((refl, refl, tt), refl, (refl, tt, r.fine));
          bound = of_ref r.bound;
        }

    more_types : (i d : ℕ) (ts : Tys) → IsWord d → each_all BelowAt IsWord d ts →
        Written text i (more_types_lexed d ts) → MoreTypes i d ts
    more_types i d NoTys n h w = record {
      raw = [];
      extend = λ u rs n le x. rw (append-nil, append-nil) x;
      fine = tt;
      bound = of_no_types;
    }
    more_types i d (MoreTys t ts) n h w =
        let first = type_lexed d t in
        let more = more_types_lexed d ts in
        let x = written_append text (i + 2) first more w.1 in
        let a = wrote_type (i + 2) d t n h.0 x.0 in
        let r = more_types (i + 2 + size first) d ts n h.1 x.1 in
        record {
          raw = a.piece.ty ∷ r.raw;
          extend = λ u rs n le y.
              let low : types_nesting ts ≤ n = omega arith in
              let high : type_nesting t ≤ n = omega arith in
              rw (placed_append (i + 2) first more)
              (simp append_assoc at (r.extend (u ++ tok k.Comma (placing.place_of i comma) ∷ placed (i + 2) first)
              (rs ++ a.piece.ty ∷ []) n low
              (opens_more_types _ _ _ _ _ _ (placing.place_of i comma) high y
              (to_type (is_grouped t) _ _ _ a.whole))));
          fine = ((refl, (λ s. refl), tt), tt, fine_append first more true (rw (stops_more d ts) a.fine) r.fine);
          bound = of_more_types a.bound r.bound;
        }
