-- What the machine of a table owes with its values aside is what it owes with them, and so the line is the same.
use Rattle.std.proofs.Common.{◌≡◌, ℕ, List, [], ◌∷◌, ◌++◌, refl, sym, ◌∙◌, ap}
use Rattle.std.proofs.Common.{Option, Some, None, Bool, true, false, if◌then◌else◌, ◌&&◌, not}
use Rattle.std.specs.Option.{is_some}
use Rattle.idx_core.specs.declared.span.Span.{Span}
use Rattle.text_core.specs.Table.{Table, Stack, State, Tm, Nt, Do, Mark, step, finish, on_line}
use Rattle.talc_wanted.specs.declared.language.Sym.{Sym}
use Rattle.talc_wanted.specs.declared.language.Sym.TheVariants.{Token, Line}
use Rattle.talc_wanted.specs.Owing.{Owes, IsKept, onto, next_owed, may_finish, owing, kept, kept_row}
use Rattle.talc_wanted.specs.Wanted.{machine_of, takes, goes_on, stop, Kinds, takes_some, told, told_of, line_at}
use Rattle.talc_wanted.specs.Wanted.{wanted_line, the_end, heading, found_end, found_token, bytes_at, same_place}
use Rattle.talc_wanted.specs.Wanted.{end_of}

-- equal parts of a step, of the words and of a line
by_row : {A : Type 0} (p q : Option (List A)) (a b : Bool) (s : List A) (x : Option (List A)) → p ≡ q → a ≡ b →
    onto p s (if a then x else None) ≡ onto q s (if b then x else None)
by_row p q a b s x e f = rw (e, f) refl

by_kind : (a b p q : Bool) (w : List ℕ) (x y : List (List ℕ)) → a ≡ b → p ≡ q → x ≡ y →
    (if a && not p then w ∷ x else x) ≡ (if b && not q then w ∷ y else y)
by_kind a b p q w x y e f h = rw (e, f, h) refl

by_ends : (a b : Bool) (x y : List (List ℕ)) → a ≡ b → x ≡ y →
    (if a then the_end ∷ x else x) ≡ (if b then the_end ∷ y else y)
by_ends a b x y e f = rw (e, f) refl

by_place : (s a b : Bool) (x y : List (List ℕ)) → a ≡ b → x ≡ y →
    (if s && not a then heading x ++ found_end else []) ≡ (if s && not b then heading y ++ found_end else [])
by_place s a b x y e f = rw (e, f) refl

module _ {L K : Type 0} (g : Table) (o : Owes g.Class L K g.Tok) (line : g.Line → L) where
  kept_append : (r s : Stack g) → kept g line (r ++ s) ≡ kept g line r ++ kept g line s
  kept_append [] s = refl
  kept_append (Tm c ∷ r) s = ap (λ t. Token c ∷ t) (kept_append r s)
  kept_append (Nt n ∷ r) s = ap (λ t. Line (line n) ∷ t) (kept_append r s)
  kept_append (Do a ∷ r) s = kept_append r s
  kept_append (Mark ∷ r) s = kept_append r s

  abbrev owed_of : State g → List (Sym g.Class L)
  owed_of st = kept g line st.owed

  abbrev kept_next : Option (State g) → Option (List (Sym g.Class L))
  kept_next None = None
  kept_next (Some b) = Some (owed_of b)

  by_class : (b : Bool) (s : Stack g) (vs : List g.Val) →
      (if b then Some (kept g line s) else None) ≡ kept_next (if b then Some (record { owed = s; made = vs }) else None)
  by_class true s vs = refl
  by_class false s vs = refl

  by_end : (b : Bool) (x : Option (List (Sym g.Class L))) (y : Option (State g)) → x ≡ kept_next y →
      (if b then x else None) ≡ kept_next (if b then y else None)
  by_end true x y e = e
  by_end false x y e = refl

  by_line : (r : Option (Stack g)) (s : Stack g) (vs : List g.Val) (c : g.Tok) (x : Option (List (Sym g.Class L)))
      (y : Option (State g)) → x ≡ kept_next y →
      onto (kept_row g line r) (kept g line s) x ≡ kept_next (on_line g r s vs c y)
  by_line None s vs c x y e = e
  by_line (Some r) s vs c x y e = ap (λ t. Some t) (sym (kept_append r s))

  module _ (k : IsKept g o line) where
    keeps_step : (s : Stack g) (vs : List g.Val) (c : g.Tok) →
        next_owed o (kept g line s) c ≡ kept_next (step g s vs c)
    keeps_step [] vs c = refl
    keeps_step (Tm a ∷ s) vs c =
        ap (λ b. if b then Some (kept g line s) else None) (k.same_fits a c) ∙ by_class (g.fits a c) s (g.value c ∷ vs)
    keeps_step (Nt n ∷ s) vs c =
        by_row _ _ _ _ (kept g line s) (next_owed o (kept g line s) c) (k.same_after n c) (k.same_ends n)
        ∙ by_line (g.after n c) s vs c _ _ (by_end (g.may_end n) _ _ (keeps_step s vs c))
    keeps_step (Do a ∷ s) vs c = keeps_step s (g.act a vs) c
    keeps_step (Mark ∷ s) vs c = keeps_step s vs c

    by_rest : (b : Bool) (x : Bool) (y : Option (List g.Val)) → x ≡ is_some y →
        (if b then x else false) ≡ is_some (if b then y else None)
    by_rest true x y e = e
    by_rest false x y e = refl

    keeps_finish : (s : Stack g) (vs : List g.Val) → may_finish o (kept g line s) ≡ is_some (finish g s vs)
    keeps_finish [] vs = refl
    keeps_finish (Tm a ∷ s) vs = refl
    keeps_finish (Nt n ∷ s) vs =
        ap (λ b. if b then may_finish o (kept g line s) else false) (k.same_ends n)
        ∙ by_rest (g.may_end n) _ _ (keeps_finish s vs)
    keeps_finish (Do a ∷ s) vs = keeps_finish s (g.act a vs)
    keeps_finish (Mark ∷ s) vs = keeps_finish s vs

    some_next : (x : Option (State g)) → is_some (kept_next x) ≡ is_some x
    some_next None = refl
    some_next (Some b) = refl

    keeps_takes : (st : State g) (c : g.Tok) → takes (owing o) (owed_of st) c ≡ takes (machine_of g) st c
    keeps_takes st c = ap (λ t. is_some t) (keeps_step st.owed st.made c) ∙ some_next _

    abbrev kept_place : State g × List g.Tok → List (Sym g.Class L) × List g.Tok
    kept_place x = (owed_of x.0, x.1)

    by_step : (w : List g.Tok) (st : State g) (c : g.Tok) →
        ((b : State g) → stop (owing o) w (owed_of b) ≡ kept_place (stop (machine_of g) w b)) → (x : Option (State g)) →
        goes_on (stop (owing o) w) (owed_of st) (c ∷ w) (kept_next x)
        ≡ kept_place (goes_on (stop (machine_of g) w) st (c ∷ w) x)
    by_step w st c further None = refl
    by_step w st c further (Some b) = further b

    keeps_stop : (w : List g.Tok) (st : State g) →
        stop (owing o) w (owed_of st) ≡ kept_place (stop (machine_of g) w st)
    keeps_stop [] st = refl
    keeps_stop (c ∷ w) st =
        ap (λ x. goes_on (stop (owing o) w) (owed_of st) (c ∷ w) x) (keeps_step st.owed st.made c)
        ∙ by_step w st c (λ b. keeps_stop w b) (step g st.owed st.made c)

    module _ {N : Type 0} (j : Kinds N g.Tok) (st : State g) where
      keeps_some : (kind : Option N) → takes_some (owing o) j (owed_of st) kind ≡ takes_some (machine_of g) j st kind
      keeps_some None = refl
      keeps_some (Some kind) = keeps_takes st (j.sample kind)

      keeps_told : (ks : List (N × Option N × List ℕ)) →
          told (owing o) j (owed_of st) ks ≡ told (machine_of g) j st ks
      keeps_told [] = refl
      keeps_told ((kind, wider, words) ∷ ks) =
          by_kind _ _ _ _ words _ _ (keeps_takes st (j.sample kind)) (keeps_some wider) (keeps_told ks)

      keeps_all : told_of (owing o) j (owed_of st) ≡ told_of (machine_of g) j st
      keeps_all = by_ends _ _ _ _ (keeps_finish st.owed st.made) (keeps_told j.kinds)

    keeps_at : {N : Type 0} (j : Kinds N g.Tok) (text : List ℕ) (at : Span) (x : State g × List g.Tok) →
        line_at (owing o) j text at (kept_place x) ≡ line_at (machine_of g) j text at x
    keeps_at j text at (st, []) =
        by_place (same_place at (end_of text)) _ _ _ _ (keeps_finish st.owed st.made) (keeps_all j st)
    keeps_at j text at (st, c ∷ w) =
        ap (λ ws. if same_place at (j.place c) then heading ws ++ found_token (bytes_at text at) else [])
        (keeps_all j st)

    pub keeps_line : {N : Type 0} (j : Kinds N g.Tok) (text : List ℕ) (at : Span) (w : List g.Tok) →
        wanted_line (owing o) j text at w ≡ wanted_line (machine_of g) j text at w
    keeps_line j text at w =
        ap (λ l. line_at (owing o) j text at (stop (owing o) w (Line l ∷ []))) k.same_first
        ∙ (ap (λ x. line_at (owing o) j text at x) (keeps_stop w (machine_of g).start)
        ∙ keeps_at j text at (stop (machine_of g) w (machine_of g).start))
