-- How the reading functions of types follow one another, over plain variables.
use Rattle.std.proofs.Common.{◌≡◌, ◌≢◌, ℕ, ◌+◌, ◌<◌, ◌≤◌, List, [], ◌∷◌, ◌++◌, length, slice_get, drop, map, Vec}
use Rattle.std.proofs.Common.{Global, refl, sym, ◌∙◌, ap, subst, Option, Some, None, arith, true, false}
use Rattle.std.proofs.lemmas.Option.{slice_get_within}
use Rattle.std.proofs.Common.{Result, IsErrAnd, MatchResult}
use Rattle.std.proofs.lemmas.Result.{err_from_is_err_and}
use Rattle.std.proofs.lemmas.List.{append-nil, map-append}
use mathlib.Core.Former.{Count}
use Rattle.f_lexer.specs.declared.token.Token.{Token}
use Rattle.f_lexer.specs.declared.kind.Kind.{Kind}
use Rattle.f_lexer.specs.declared.kind.Kind.TheVariants as k
use Rattle.f_grammar.specs.declared.cursor.Wanted.{Wanted}
use Rattle.f_grammar.specs.declared.cursor.Wanted.TheVariants as want
use Rattle.f_grammar.specs.declared.types.Quantifier.{Quantifier}
use Rattle.f_grammar.specs.Raw.{RawTy, RTuple, RawTys, MoreRawTys, TyPiece}
use Rattle.f_grammar.specs.Raw.{paren_ty, raw_tys}
use Rattle.f_grammar.specs.Machine.{Act}
use Rattle.f_grammar.specs.Machine.{table, Line, LT, LU, LTypes, LParam, param_after, MoreArrow, MoreTypes, Stack, Val}
use Rattle.f_grammar.specs.Machine.{OfToken, OfType, OfTypes, TypeParen, TypeUnit, TypeTuple}
use Rattle.f_grammar.specs.Machine.{TypeBound, TypeArrow, TypeRef, TypeFirst, TypeNext, fits, unit_after, type_after}
use Rattle.f_grammar.specs.Machine.{types_after, arrow_after, type_commas_after, type_tail, types_tail, binder_of}
use Rattle.f_grammar.specs.Machine.{binder_next, bound_owed}
use Rattle.text_core.specs.Table.{Tm, Nt, Do, Mark, marks, then_more}
use Rattle.text_core.specs.Table as table_of
use Rattle.text_core.specs.Going.{Goes, Stops, at_the_end, other, next_of}
use Rattle.text_core.proofs.Going as step
use Rattle.f_grammar.specs.declared.cursor.Stopped.{Stopped}
use Rattle.f_grammar.specs.declared.cursor.Stopped.TheVariants.{Memory, Unexpected, TooDeep}
use Rattle.f_grammar.specs.declared.raw.RawType.{RawType, Row_of-RawType, end_of-RawType, more_of-RawType}
use Rattle.f_grammar.specs.declared.raw.RawType.{items-the_row-RawType, items_hidden-the_row-RawType-0}
use Rattle.f_grammar.specs.declared.raw.RawType.TheVariants.{Tuple, Tuple'}
use Rattle.f_grammar.specs.Read.{type_of, types_of}
use Rattle.f_grammar.specs.Reads.{Reads, ReadsSome, Fails}

-- the tree of a tuple
abbrev row_of : RawType → (n : Count) × Row_of-RawType n
row_of (Tuple' _ row) = (_, row)
row_of _ = (_, end_of-RawType)

types_items : (n : _) (row : Row_of-RawType n) → types_of row ≡ raw_tys (map type_of (items-the_row-RawType n row))
types_items n end_of-RawType = refl
types_items n (more_of-RawType t rest) = ap (λ (ts : RawTys). MoreRawTys (type_of t) ts) (types_items _ rest)

pub type_Tuple : (ts : Vec RawType Global) → type_of (Tuple ts) ≡ RTuple (raw_tys (map type_of ts.items))
type_Tuple ts =
    let row = row_of (Tuple ts) in
    ap RTuple (types_items row.0 row.1
    ∙ ap (λ (xs : List RawType). raw_tys (map type_of xs)) (items_hidden-the_row-RawType-0 ts))

pub types_more : (xs ys : List RawType) (t : RawType) → ys ≡ xs ++ t ∷ [] →
    map type_of ys ≡ map type_of xs ++ type_of t ∷ []
types_more xs ys t e = ap (λ (zs : List RawType). map type_of zs) e ∙ map-append type_of xs (t ∷ [])

abbrev pub Moves : List Token → ℕ → ℕ → Stack → List Val → ℕ → Stack → List Val → Type 0
Moves ts d i owed vs j left us = Goes table 200 ts d i owed vs j left us

-- what was owed goes on by a token, and by a line that is read
pub by_token : (ts : List Token) (d : ℕ) {i j : ℕ} {owed : Stack} {vs : List Val} (w : Wanted) (c : Token)
    (rest : Stack) (us : List Val) → Moves ts d i owed vs j (Tm w ∷ rest) us →
    next_of table w (slice_get ts j) ≡ Some c → marks table rest + d ≤ 200 →
    Moves ts d i owed vs (j + 1) rest (OfToken c ∷ us)
by_token ts d {j} w c rest us h e m =
    step.then_goes table 200 ts d h (step.token_taken table 200 ts d j c w rest us e m)

pub by_line : (ts : List Token) (d m : ℕ) {i j k : ℕ} {owed a : Stack} {vs ws : List Val} (rest : Stack)
    (us : List Val) → Moves ts d i owed vs j (a ++ rest) us →
    m ≡ marks table rest + d → Goes table 200 ts m j a [] k [] ws → Moves ts d i owed vs k rest (ws ++ us)
by_line ts d m rest us h e r = step.then_goes table 200 ts d h (step.call_goes table 200 ts d rest us e r)

-- faults
pub fails_after : (ts : List Token) (d i j : ℕ) (a b : Stack) (x y : List Val) (e : Stopped) → Moves ts d i a x j b y →
    Fails ts d j b y e → Fails ts d i a x e
fails_after ts d i j a b x y Memory h f = tt
fails_after ts d i j a b x y (Unexpected n) h f = step.then_stops table 200 ts d h f
fails_after ts d i j a b x y (TooDeep n) h f = step.then_stops table 200 ts d h f

pub fails_call : (ts : List Token) (n d i : ℕ) (owed rest : Stack) (vs : List Val) (e : Stopped) →
    n ≡ marks table rest + d → Fails ts n i owed [] e → Fails ts d i (owed ++ rest) vs e
fails_call ts n d i owed rest vs Memory q f = tt
fails_call ts n d i owed rest vs (Unexpected j) q f = step.call_stops table 200 ts d rest vs q f
fails_call ts n d i owed rest vs (TooDeep j) q f = step.call_stops table 200 ts d rest vs q f

pub fails_expect : (ts : List Token) (d i : ℕ) (w : Wanted) (rest : Stack) (vs : List Val) (e : Stopped) →
    (e ≡ Unexpected i) × (next_of table w (slice_get ts i) ≡ None) → Fails ts d i (Tm w ∷ rest) vs e
fails_expect ts d i w rest vs e h = rw h.0 (step.token_misses table 200 ts d i w rest vs h.1)

pub fails_deep : (ts : List Token) (d i : ℕ) (c : Token) (n : Line) (rhs rest : Stack) (vs : List Val) (e : Stopped) →
    (e ≡ TooDeep i) × (200 ≤ d) → slice_get ts i ≡ Some c → table.after n c ≡ Some rhs →
    marks table (rhs ++ rest) ≡ 1 → Fails ts d i (Nt n ∷ rest) vs e
fails_deep ts d i c n rhs rest vs e h q r m =
    rw h.0 (step.line_too_deep table 200 ts d i c n rhs rest vs q r (omega (arith, m, h.1)))

-- the exit of a `?`
pub refused : {A : Type 0} (P : A → Type 0) (Q : Stopped → Type 0) (r : Result A Stopped) (s : Stopped) →
    IsErrAnd r (λ e. e ≡ s) → Q s → MatchResult r P Q
refused P Q r s h q = let p = err_from_is_err_and r h in rw (p.1, p.2) q

-- rows
pub not_fits : (w : Wanted) (o : Option Token) (c : Token) → next_of table w o ≡ None → o ≡ Some c →
    fits w c.kind ≡ false
not_fits w o c e q = step.not_fits table w o c e q

pub after_bound : (c : Kind) (q : Quantifier) → binder_of c ≡ Some q → type_after c ≡ Some (bound_owed q)
after_bound k.All q e = cc
after_bound k.Some q e = cc
after_bound _ q e = absurd (cc)

not_bound : (c : Kind) → binder_of c ≡ None → type_after c ≡ then_more (unit_after c) type_tail
not_bound k.All e = absurd (cc)
not_bound k.Some e = absurd (cc)
not_bound _ e = refl

-- the token of a binder
pub token_of : (o : Option Token) (q : Quantifier) → binder_next o ≡ Some q → (c : Token) × (o ≡ Some c)
    × (binder_of c.kind ≡ Some q)
token_of None q e = absurd (cc)
token_of (Some c) q e = (c, refl, e)

unbound : (o : Option Token) (c : Token) → binder_next o ≡ None → o ≡ Some c → binder_of c.kind ≡ None
unbound None c e h = absurd (cc)
unbound (Some t) c e h = let same : t ≡ c = cc in rw (sym same) e

abbrev pub tuple_owed : Stack
tuple_owed = Nt LTypes ∷ (Mark ∷ (Do TypeTuple ∷ []))

abbrev pub paren_owed : Stack
paren_owed = Nt LT ∷ (Tm want.RightParen ∷ (Mark ∷ (Do TypeParen ∷ [])))

abbrev pub ref_owed : Stack
ref_owed = Nt LU ∷ (Mark ∷ (Do TypeRef ∷ []))

abbrev pub arrow_owed : Stack
arrow_owed = Nt LT ∷ (Mark ∷ (Do TypeArrow ∷ []))

pub after_arrow : (c : Kind) → fits want.Arrow c ≡ true → arrow_after c ≡ Some arrow_owed
after_arrow k.Arrow e = refl
after_arrow _ e = absurd (cc)

not_arrow : (c : Kind) → fits want.Arrow c ≡ false → arrow_after c ≡ None
not_arrow k.Arrow e = absurd (cc)
not_arrow _ e = refl

after_more : (c : Kind) → fits want.RightAngle c ≡ true → types_after c ≡ Some (Do TypeUnit ∷ [])
after_more k.RightAngle e = refl
after_more _ e = absurd (cc)

not_more : (c : Kind) → fits want.RightAngle c ≡ false → types_after c ≡ then_more (type_after c) types_tail
not_more k.RightAngle e = absurd (cc)
not_more _ e = refl

after_comma : (c : Kind) → fits want.Comma c ≡ true →
    type_commas_after c ≡ Some (Nt LT ∷ (Do TypeNext ∷ (Nt MoreTypes ∷ [])))
after_comma k.Comma e = refl
after_comma _ e = absurd (cc)

not_comma : (c : Kind) → fits want.Comma c ≡ false → type_commas_after c ≡ None
not_comma k.Comma e = absurd (cc)
not_comma _ e = refl

pub none_of : (c : Kind) → c ≢ k.Name → c ≢ k.LeftParen → c ≢ k.LeftAngle → c ≢ k.Int → c ≢ k.Ref → unit_after c ≡ None
none_of k.Name a b d e f = absurd (a refl)
none_of k.LeftParen a b d e f = absurd (b refl)
none_of k.LeftAngle a b d e f = absurd (d refl)
none_of k.Int a b d e f = absurd (e refl)
none_of k.Ref a b d e f = absurd (f refl)
none_of _ a b d e f = refl

pub within : (ts : List Token) (i : ℕ) (w : Wanted) (c : Token) → next_of table w (slice_get ts i) ≡ Some c →
    i < length ts
within ts i w c e = slice_get_within ts i c (step.is_next table ts i w c e)

module _ (ts : List Token) (d i : ℕ) where
  -- the last line of a form that opened a construct, and what is made of it
  pub closes : {j k m : ℕ} {us ws : List Val} (n l : Line) (x : Act) (out : List Val) →
      Moves ts d i (Nt n ∷ []) [] j (Nt l ∷ (Mark ∷ (Do x ∷ []))) us → i < j → m ≡ d + 1 → Reads l ts m j k ws →
      ((below : List Val) → table.act x ((ws ++ us) ++ below) ≡ out ++ below) → Reads n ts d i k out
  closes {j} {k} {m} {us} {ws} n l x out h f p r e = record {
    forward = omega (arith, f, r.forward);
    in_range = r.in_range;
    same = step.then_goes table 200 ts d (by_line ts d m (Mark ∷ (Do x ∷ [])) us h (omega (arith, p)) r.same)
        (step.then_goes table 200 ts d (step.mark_goes table 200 ts d k (Do x ∷ []) (ws ++ us))
        (step.do_goes table 200 ts d k x [] (ws ++ us) out e));
  }

  -- T ::= all name . T | some name . T
  module _ (a : Token) (q : Quantifier) (e : slice_get ts i ≡ Some a) (y : binder_of a.kind ≡ Some q)
      (h : d < 200) where
    pub bound_1 : Moves ts d i (Nt LT ∷ []) [] (i + 1) (bound_owed q) (OfToken a ∷ [])
    bound_1 = step.line_goes table 200 ts d i a LT (bound_owed q) [] [] e (after_bound a.kind q y) (omega arith)

    pub bound_2 : (n : Token) → next_of table want.Name (slice_get ts (i + 1)) ≡ Some n →
        Moves ts d i (Nt LT ∷ []) [] (i + 2) (Tm want.Dot ∷ (Nt LT ∷ (Mark ∷ (Do (TypeBound q) ∷ []))))
        (OfToken n ∷ (OfToken a ∷ []))
    bound_2 n f = step.goes_to table 200 ts d (omega arith) (by_token ts d want.Name n
        (Tm want.Dot ∷ (Nt LT ∷ (Mark ∷ (Do (TypeBound q) ∷ [])))) (OfToken a ∷ []) bound_1 f (omega arith))

    pub bound_3 : (n s : Token) → next_of table want.Name (slice_get ts (i + 1)) ≡ Some n →
        next_of table want.Dot (slice_get ts (i + 2)) ≡ Some s →
        Moves ts d i (Nt LT ∷ []) [] (i + 3) (Nt LT ∷ (Mark ∷ (Do (TypeBound q) ∷ [])))
        (OfToken s ∷ (OfToken n ∷ (OfToken a ∷ [])))
    bound_3 n s f z = step.goes_to table 200 ts d (omega arith) (by_token ts d want.Dot s
        (Nt LT ∷ (Mark ∷ (Do (TypeBound q) ∷ []))) (OfToken n ∷ (OfToken a ∷ [])) (bound_2 n f) z (omega arith))

  -- T ::= U -> T | U
  pub left_1 : binder_next (slice_get ts i) ≡ None → Moves ts d i (Nt LT ∷ []) [] i (Nt LU ∷ (Nt MoreArrow ∷ [])) []
  left_1 e = step.as_any table 200 ts d i LU LT type_tail [] [] refl refl
      (λ c q. not_bound c.kind (unbound (slice_get ts i) c e q))

  pub left_2 : (j : ℕ) (t : TyPiece) → binder_next (slice_get ts i) ≡ None → Reads LU ts d i j (OfType t ∷ []) →
      Moves ts d i (Nt LT ∷ []) [] j (Nt MoreArrow ∷ []) (OfType t ∷ [])
  left_2 j t e r =
      step.then_goes table 200 ts d (left_1 e)
      (step.call_goes table 200 ts d (Nt MoreArrow ∷ []) [] (omega arith) r.same)

  pub left_whole : (j : ℕ) (t : TyPiece) → binder_next (slice_get ts i) ≡ None → Reads LU ts d i j (OfType t ∷ []) →
      next_of table want.Arrow (slice_get ts j) ≡ None → Reads LT ts d i j (OfType t ∷ [])
  left_whole j t e r f = record {
    forward = r.forward;
    in_range = r.in_range;
    same = step.then_goes table 200 ts d (left_2 j t e r)
        (step.line_ends table 200 ts d j MoreArrow [] (OfType t ∷ []) refl
        (step.lacks_all table ts j want.Arrow MoreArrow (λ c q. not_arrow c.kind q) f));
  }

  pub arrow_1 : (j : ℕ) (t : TyPiece) (a : Token) → binder_next (slice_get ts i) ≡ None →
      Reads LU ts d i j (OfType t ∷ []) → next_of table want.Arrow (slice_get ts j) ≡ Some a → d < 200 →
      Moves ts d i (Nt LT ∷ []) [] (j + 1) arrow_owed (OfToken a ∷ (OfType t ∷ []))
  arrow_1 j t a e r f h = step.then_goes table 200 ts d (left_2 j t e r)
      (step.line_goes table 200 ts d j a MoreArrow arrow_owed [] (OfType t ∷ [])
      (step.is_next table ts j want.Arrow a f) (after_arrow a.kind (step.is_of table ts j want.Arrow a f))
      (omega arith))

  -- U
  pub unit_1 : (c : Token) (rhs : Stack) → slice_get ts i ≡ Some c → unit_after c.kind ≡ Some rhs →
      marks table rhs + d ≤ 200 → Moves ts d i (Nt LU ∷ []) [] (i + 1) (rhs ++ []) (OfToken c ∷ [])
  unit_1 c rhs e f h =
      step.line_goes table 200 ts d i c LU rhs [] [] e f
      (subst (λ (x : Stack). marks table x + d ≤ 200) (sym (append-nil rhs)) h)

  pub word : (c : Token) (x : Act) (t : TyPiece) → slice_get ts i ≡ Some c → d ≤ 200 →
      unit_after c.kind ≡ Some (Do x ∷ []) →
      ((below : List Val) → table.act x (OfToken c ∷ below) ≡ OfType t ∷ below) →
      Reads LU ts d i (i + 1) (OfType t ∷ [])
  word c x t e h q f = record {
    forward = omega arith;
    in_range = (let l = slice_get_within ts i c e in omega arith);
    same = step.then_goes table 200 ts d (unit_1 c (Do x ∷ []) e q (omega arith))
        (step.do_goes table 200 ts d (i + 1) x [] (OfToken c ∷ []) (OfType t ∷ []) f);
  }

  pub paren_2 : (c : Token) (m j : ℕ) (t : TyPiece) → slice_get ts i ≡ Some c → c.kind ≡ k.LeftParen → d < 200 →
      m ≡ d + 1 → Reads LT ts m (i + 1) j (OfType t ∷ []) →
      Moves ts d i (Nt LU ∷ []) [] j (Tm want.RightParen ∷ (Mark ∷ (Do TypeParen ∷ []))) (OfType t ∷ (OfToken c ∷ []))
  paren_2 c m j t e q h p r =
      by_line ts d m (Tm want.RightParen ∷ (Mark ∷ (Do TypeParen ∷ []))) (OfToken c ∷ [])
      (unit_1 c paren_owed e (rw q refl) (omega arith)) (omega (arith, p)) r.same

  pub paren_whole : (c s : Token) (m j : ℕ) (t : TyPiece) → slice_get ts i ≡ Some c → c.kind ≡ k.LeftParen → d < 200 →
      m ≡ d + 1 → Reads LT ts m (i + 1) j (OfType t ∷ []) →
      next_of table want.RightParen (slice_get ts j) ≡ Some s →
      Reads LU ts d i (j + 1) (OfType (paren_ty t s.span) ∷ [])
  paren_whole c s m j t e q h p r f = record {
    forward = omega (arith, r.forward);
    in_range = (let l = within ts j want.RightParen s f in omega arith);
    same = step.then_goes table 200 ts d
        (by_token ts d want.RightParen s (Mark ∷ (Do TypeParen ∷ [])) (OfType t ∷ (OfToken c ∷ []))
        (paren_2 c m j t e q h p r) f (omega arith))
        (step.then_goes table 200 ts d (step.mark_goes table 200 ts d (j + 1) (Do TypeParen ∷ []) _)
        (step.do_goes table 200 ts d (j + 1) TypeParen [] (OfToken s ∷ (OfType t ∷ (OfToken c ∷ [])))
        (OfType (paren_ty t s.span) ∷ []) (λ below. refl)));
  }

  pub no_unit : (c : Token) → slice_get ts i ≡ Some c → unit_after c.kind ≡ None →
      Stops table 200 ts d i (Nt LU ∷ []) [] (table_of.Unexpected (drop i ts))
  no_unit c e f = step.line_lacks table 200 ts d i LU [] [] refl (other c e f)

  pub no_unit_end : slice_get ts i ≡ None → Stops table 200 ts d i (Nt LU ∷ []) [] (table_of.Unexpected (drop i ts))
  no_unit_end e = step.line_lacks table 200 ts d i LU [] [] refl (at_the_end e)

  -- lists
  pub none_whole : (s : Token) → next_of table want.RightAngle (slice_get ts i) ≡ Some s → d ≤ 200 →
      Reads LTypes ts d i (i + 1) (OfToken s ∷ (OfTypes [] ∷ []))
  none_whole s e h = record {
    forward = omega arith;
    in_range = (let l = within ts i want.RightAngle s e in omega arith);
    same = step.then_goes table 200 ts d
        (step.line_goes table 200 ts d i s LTypes (Do TypeUnit ∷ []) [] []
        (step.is_next table ts i want.RightAngle s e)
        (after_more s.kind (step.is_of table ts i want.RightAngle s e)) (omega arith))
        (step.do_goes table 200 ts d (i + 1) TypeUnit [] (OfToken s ∷ []) (OfToken s ∷ (OfTypes [] ∷ []))
        (λ below. refl));
  }

  pub first_1 : next_of table want.RightAngle (slice_get ts i) ≡ None →
      Moves ts d i (Nt LTypes ∷ []) [] i (Nt LT ∷ types_tail) []
  first_1 e = step.as_any table 200 ts d i LT LTypes types_tail [] [] refl refl
      (λ c q. not_more c.kind (not_fits want.RightAngle (slice_get ts i) c e q))

  pub first_whole : (j : ℕ) (t : TyPiece) (us : List RawTy) → next_of table want.RightAngle (slice_get ts i) ≡ None →
      Reads LT ts d i j (OfType t ∷ []) → us ≡ t.ty ∷ [] → ReadsSome ts d i j us
  first_whole j t us e r x = record {
    forward = r.forward;
    in_range = r.in_range;
    same = rw x (step.then_goes table 200 ts d (first_1 e)
        (step.then_goes table 200 ts d (step.call_goes table 200 ts d types_tail [] (omega arith) r.same)
        (step.do_goes table 200 ts d j TypeFirst (Nt MoreTypes ∷ (Tm want.RightAngle ∷ [])) (OfType t ∷ [])
        (OfTypes (t.ty ∷ []) ∷ []) (λ below. refl))));
  }

  pub comma_1 : (j : ℕ) (us : List RawTy) (c : Token) → d ≤ 200 → ReadsSome ts d i j us →
      next_of table want.Comma (slice_get ts j) ≡ Some c →
      Moves ts d i (Nt LTypes ∷ []) [] (j + 1) (Nt LT ∷ (Do TypeNext ∷ (Nt MoreTypes ∷ (Tm want.RightAngle ∷ []))))
      (OfToken c ∷ (OfTypes us ∷ []))
  comma_1 j us c h r e = step.then_goes table 200 ts d r.same
      (step.line_goes table 200 ts d j c MoreTypes (Nt LT ∷ (Do TypeNext ∷ (Nt MoreTypes ∷ [])))
      (Tm want.RightAngle ∷ []) (OfTypes us ∷ []) (step.is_next table ts j want.Comma c e)
      (after_comma c.kind (step.is_of table ts j want.Comma c e)) (omega arith))

  pub comma_whole : (j n : ℕ) (us vs : List RawTy) (t : TyPiece) (c : Token) → d ≤ 200 → ReadsSome ts d i j us →
      next_of table want.Comma (slice_get ts j) ≡ Some c → Reads LT ts d (j + 1) n (OfType t ∷ []) →
      vs ≡ us ++ t.ty ∷ [] → ReadsSome ts d i n vs
  comma_whole j n us vs t c h r e q x = record {
    forward = omega (arith, r.forward, q.forward);
    in_range = q.in_range;
    same = rw x (step.then_goes table 200 ts d (comma_1 j us c h r e)
        (step.then_goes table 200 ts d
        (step.call_goes table 200 ts d (Do TypeNext ∷ (Nt MoreTypes ∷ (Tm want.RightAngle ∷ [])))
        (OfToken c ∷ (OfTypes us ∷ [])) (omega arith) q.same)
        (step.do_goes table 200 ts d n TypeNext (Nt MoreTypes ∷ (Tm want.RightAngle ∷ []))
        (OfType t ∷ (OfToken c ∷ (OfTypes us ∷ []))) (OfTypes (us ++ t.ty ∷ []) ∷ []) (λ below. refl))));
  }

  pub list_1 : (j : ℕ) (us : List RawTy) → ReadsSome ts d i j us → next_of table want.Comma (slice_get ts j) ≡ None →
      Moves ts d i (Nt LTypes ∷ []) [] j (Tm want.RightAngle ∷ []) (OfTypes us ∷ [])
  list_1 j us r e = step.then_goes table 200 ts d r.same
      (step.line_ends table 200 ts d j MoreTypes (Tm want.RightAngle ∷ []) (OfTypes us ∷ []) refl
      (step.lacks_all table ts j want.Comma MoreTypes (λ c q. not_comma c.kind q) e))

  pub list_whole : (j : ℕ) (us : List RawTy) (s : Token) → d ≤ 200 → ReadsSome ts d i j us →
      next_of table want.Comma (slice_get ts j) ≡ None → next_of table want.RightAngle (slice_get ts j) ≡ Some s →
      Reads LTypes ts d i (j + 1) (OfToken s ∷ (OfTypes us ∷ []))
  list_whole j us s h r e f = record {
    forward = omega (arith, r.forward);
    in_range = (let l = within ts j want.RightAngle s f in omega arith);
    same = step.then_goes table 200 ts d (list_1 j us r e)
        (step.token_taken table 200 ts d j s want.RightAngle [] (OfTypes us ∷ []) f (omega arith));
  }

-- ( name : T )
abbrev pub param_owed : Stack
param_owed = Tm want.Name ∷ (Tm want.Colon ∷ (Nt LT ∷ (Tm want.RightParen ∷ (Mark ∷ []))))

after_paren : (c : Kind) → fits want.LeftParen c ≡ true → param_after c ≡ Some param_owed
after_paren k.LeftParen e = refl
after_paren _ e = absurd (cc)

not_paren : (c : Kind) → fits want.LeftParen c ≡ false → param_after c ≡ None
not_paren k.LeftParen e = absurd (cc)
not_paren _ e = refl

module _ (ts : List Token) (d i : ℕ) where
  pub no_param : next_of table want.LeftParen (slice_get ts i) ≡ None →
      Stops table 200 ts d i (Nt LParam ∷ []) [] (table_of.Unexpected (drop i ts))
  no_param e =
      step.line_lacks table 200 ts d i LParam [] [] refl
      (step.lacks_all table ts i want.LeftParen LParam (λ c q. not_paren c.kind q) e)

  module _ (o : Token) (e : next_of table want.LeftParen (slice_get ts i) ≡ Some o) where
    pub deep_param : (s : Stopped) → (s ≡ TooDeep i) × (200 ≤ d) → Fails ts d i (Nt LParam ∷ []) [] s
    deep_param s h =
        fails_deep ts d i o LParam param_owed [] [] s h (step.is_next table ts i want.LeftParen o e)
        (after_paren o.kind (step.is_of table ts i want.LeftParen o e)) refl

    module _ (h : d < 200) where
      pub param_1 : Moves ts d i (Nt LParam ∷ []) [] (i + 1) param_owed (OfToken o ∷ [])
      param_1 = step.line_goes table 200 ts d i o LParam param_owed [] [] (step.is_next table ts i want.LeftParen o e)
          (after_paren o.kind (step.is_of table ts i want.LeftParen o e)) (omega arith)

      pub param_2 : (n : Token) → next_of table want.Name (slice_get ts (i + 1)) ≡ Some n →
          Moves ts d i (Nt LParam ∷ []) [] (i + 2) (Tm want.Colon ∷ (Nt LT ∷ (Tm want.RightParen ∷ (Mark ∷ []))))
          (OfToken n ∷ (OfToken o ∷ []))
      param_2 n f =
          step.goes_to table 200 ts d (omega arith)
          (by_token ts d want.Name n (Tm want.Colon ∷ (Nt LT ∷ (Tm want.RightParen ∷ (Mark ∷ []))))
          (OfToken o ∷ []) param_1 f (omega arith))

      pub param_3 : (n c : Token) → next_of table want.Name (slice_get ts (i + 1)) ≡ Some n →
          next_of table want.Colon (slice_get ts (i + 2)) ≡ Some c →
          Moves ts d i (Nt LParam ∷ []) [] (i + 3) (Nt LT ∷ (Tm want.RightParen ∷ (Mark ∷ [])))
          (OfToken c ∷ (OfToken n ∷ (OfToken o ∷ [])))
      param_3 n c f g =
          step.goes_to table 200 ts d (omega arith)
          (by_token ts d want.Colon c (Nt LT ∷ (Tm want.RightParen ∷ (Mark ∷ []))) (OfToken n ∷ (OfToken o ∷ []))
          (param_2 n f) g (omega arith))

      pub param_4 : (n c : Token) (m j : ℕ) (t : TyPiece) → next_of table want.Name (slice_get ts (i + 1)) ≡ Some n →
          next_of table want.Colon (slice_get ts (i + 2)) ≡ Some c → m ≡ d + 1 →
          Reads LT ts m (i + 3) j (OfType t ∷ []) →
          Moves ts d i (Nt LParam ∷ []) [] j (Tm want.RightParen ∷ (Mark ∷ []))
          (OfType t ∷ (OfToken c ∷ (OfToken n ∷ (OfToken o ∷ []))))
      param_4 n c m j t f g q r =
          by_line ts d m (Tm want.RightParen ∷ (Mark ∷ [])) (OfToken c ∷ (OfToken n ∷ (OfToken o ∷ [])))
          (param_3 n c f g) (omega (arith, q)) r.same

      pub param_whole : (n c p : Token) (m j : ℕ) (t : TyPiece) →
          next_of table want.Name (slice_get ts (i + 1)) ≡ Some n → next_of table want.Colon (slice_get ts (i + 2))
          ≡ Some c → m ≡ d + 1 →
          Reads LT ts m (i + 3) j (OfType t ∷ []) → next_of table want.RightParen (slice_get ts j) ≡ Some p →
          Reads LParam ts d i (j + 1) (OfToken p ∷ (OfType t ∷ (OfToken c ∷ (OfToken n ∷ (OfToken o ∷ [])))))
      param_whole n c p m j t f g q r x = record {
        forward = omega (arith, r.forward);
        in_range = (let l = within ts j want.RightParen p x in omega arith);
        same = step.then_goes table 200 ts d
            (by_token ts d want.RightParen p (Mark ∷ []) (OfType t ∷ (OfToken c ∷ (OfToken n ∷ (OfToken o ∷ []))))
            (param_4 n c m j t f g q r) x (omega arith))
            (step.mark_goes table 200 ts d (j + 1) [] _);
      }
