-- A tree stands for a term or has a first unbound name, and a text for a term within the limits or has a first fault.
use Rattle.std.proofs.Common.{◌≡◌, ◌≤◌, ◌⊎◌, inl, inr, ℕ, zero, suc, nat_le, Bool, true, false, List, [], ◌∷◌, ◌++◌}
use Rattle.std.proofs.Common.{length, refl, arith}
use Rattle.std.proofs.lemmas.Bool.{cases_eq, leb-true, leb-false}
use Rattle.idx_core.specs.declared.span.Span.{Span}
use Rattle.idx_core.specs.Names.{Name, IsPlace, IsAbsent}
use Rattle.text_core.specs.Table.{Verdict, Fine, Unexpected, Passed, bounded, whole}
use Rattle.text_core.specs.Verdicts.{Says}
use Rattle.f_terms.specs.declared.fault.Code.{Code}
use Rattle.f_terms.specs.declared.fault.Code.TheVariants as code
use Rattle.f_terms.specs.Ty.{Ty, Tys}
use Rattle.f_terms.specs.Tm.{Tm, Tms}
use Rattle.f_lexer.specs.declared.token.Token.{Token}
use Rattle.f_lexer.specs.Source.{IsCut, FirstTokenFault}
use Rattle.f_lexer.proofs.Exact as lexer
use Rattle.f_grammar.specs.Raw.{RawTy, RInt, RName, RTuple, RArrow, RAll, RSome, RRef, RawTys, NoRawTys, MoreRawTys}
use Rattle.f_grammar.specs.Raw.{RawTm, RVar, RNum, RFix, RGen, RApp, RInst, RFields, RProj, RArith, RIf0, RLet, RPack}
use Rattle.f_grammar.specs.Raw.{ROpen, RCell, RDeref, RAssign, RawTms, NoRawTms, MoreRawTms, Piece, nodes, raw_span}
use Rattle.f_grammar.specs.Machine.{table}
use Rattle.f_grammar.proofs.Instance.{source_exact}
use Rattle.f_grammar.specs.Scope.{spelled, TypeOf, of_int, of_name, of_tuple, of_arrow, of_all, of_some, of_ref}
use Rattle.f_grammar.specs.Scope.{TypesOf, of_no_types, of_more_types, TermOf, of_var, of_num, of_fix, of_gen, of_app}
use Rattle.f_grammar.specs.Scope.{of_inst, of_fields, of_proj, of_arith, of_if0, of_let, of_pack, of_open, of_cell}
use Rattle.f_grammar.specs.Scope.{of_deref, of_assign, TermsOf, of_no_terms, of_more_terms, Use, use_at, type_uses}
use Rattle.f_grammar.specs.Scope.{types_uses, uses, all_uses, AllBound, IsFirstUnbound, unbound_code}
use Rattle.f_grammar.specs.Text.{SourceWithin, whole_of, end_of, FewBytes, HasTokens, HasShape, FirstFault, too_long}
use Rattle.f_grammar.specs.Text.{no_token, unexpected, cut_short, too_deep, too_large, unbound, TermOrFault}
use Rattle.f_grammar.proofs.Bound.{type_bound, term_bound, first_left, first_right}
use Rattle.f_grammar.proofs.Closed.{same_nodes}

-- a name has a first place in the names, or is not there
same_name : (x y : Name) → (x ≡ y) ⊎ (x ≡ y → ⊥)
same_name [] [] = inl refl
same_name [] (b ∷ y) = inr (λ e. cc)
same_name (a ∷ x) [] = inr (λ e. cc)
same_name (a ∷ x) (b ∷ y) = by_first (cases_eq a b) (same_name x y)
  where
    by_first : (a ≡ b) ⊎ (a ≡ b → ⊥) → (x ≡ y) ⊎ (x ≡ y → ⊥) → ((a ∷ x) ≡ (b ∷ y)) ⊎ ((a ∷ x) ≡ (b ∷ y) → ⊥)
    by_first (inl e) (inl f) = inl (cc)
    by_first (inl e) (inr n) = inr (λ g. n (cc))
    by_first (inr n) d = inr (λ g. n (cc))

place_or_absent : (x : Name) (ns : List Name) → ((i : ℕ) × IsPlace x ns i) ⊎ IsAbsent x ns
place_or_absent x [] = inr tt
place_or_absent x (n ∷ ns) = by_first (same_name x n) (place_or_absent x ns)
  where
    by_first : (x ≡ n) ⊎ (x ≡ n → ⊥) → ((i : ℕ) × IsPlace x ns i) ⊎ IsAbsent x ns → ((i : ℕ) × IsPlace x (n ∷ ns) i)
        ⊎ IsAbsent x (n ∷ ns)
    by_first (inl e) d = inl (zero, e)
    by_first (inr m) (inl (i, p)) = inl (suc i, (m, p))
    by_first (inr m) (inr p) = inr (m, p)

module _ (text : List ℕ) where
  -- the first name without a binder
  record Unbound (us : List Use) : Type 0 where
    name : Use
    first : IsFirstUnbound text us name

  alone : (u : Use) → IsAbsent (spelled text u.at) u.scope → Unbound (u ∷ [])
  alone u p = record { name = u; first = record { before = []; after = []; place = refl; bound = tt; unbound = p } }

  -- one part after the other
  and_then : {X Y : Type 0} {us vs : List Use} → (X → AllBound text us) → X ⊎ Unbound us → Y ⊎ Unbound vs →
      (X × Y) ⊎ Unbound (us ++ vs)
  and_then {us} {vs} b (inr f) d = inr (record { name = f.name; first = first_left text us vs f.name f.first })
  and_then {us} {vs} b (inl x) (inr f) =
      inr (record { name = f.name; first = first_right text us vs f.name (b x) f.first })
  and_then b (inl x) (inl y) = inl (x, y)

  then_whole : {X Y : Type 0} {us : List Use} → (X → Y) → X ⊎ Unbound us → Y ⊎ Unbound us
  then_whole f (inl x) = inl (f x)
  then_whole f (inr u) = inr u

  mutual
    type_named : (a : List Name) (t : RawTy) → ((u : Ty) × TypeOf text a t u) ⊎ Unbound (type_uses text a t)
    type_named a RInt = inl (_, of_int)
    type_named a (RName s) = by_place (place_or_absent (spelled text s) a)
      where
        by_place : ((i : ℕ) × IsPlace (spelled text s) a i) ⊎ IsAbsent (spelled text s) a →
            ((u : Ty) × TypeOf text a (RName s) u) ⊎ Unbound (use_at s true a ∷ [])
        by_place (inl (i, p)) = inl (_, of_name s i p)
        by_place (inr p) = inr (alone (use_at s true a) p)
    type_named a (RTuple ts) = then_whole (λ x. (_, of_tuple x.1)) (types_named a ts)
    type_named a (RArrow t r) =
        then_whole (λ x. (_, of_arrow x.0.1 x.1.1)) (and_then (λ x. type_bound x.1) (type_named a t) (type_named a r))
    type_named a (RAll n t) = then_whole (λ x. (_, of_all n x.1)) (type_named (spelled text n ∷ a) t)
    type_named a (RSome n t) = then_whole (λ x. (_, of_some n x.1)) (type_named (spelled text n ∷ a) t)
    type_named a (RRef t) = then_whole (λ x. (_, of_ref x.1)) (type_named a t)

    types_named : (a : List Name) (ts : RawTys) → ((us : Tys) × TypesOf text a ts us) ⊎ Unbound (types_uses text a ts)
    types_named a NoRawTys = inl (_, of_no_types)
    types_named a (MoreRawTys t ts) =
        then_whole (λ x. (_, of_more_types x.0.1 x.1.1))
        (and_then (λ x. type_bound x.1) (type_named a t) (types_named a ts))

  mutual
    term_named : (v a : List Name) (e : RawTm) → ((d : Tm) × TermOf text v a e d) ⊎ Unbound (uses text v a e)
    term_named v a (RVar s) = by_place (place_or_absent (spelled text s) v)
      where
        by_place : ((i : ℕ) × IsPlace (spelled text s) v i) ⊎ IsAbsent (spelled text s) v →
            ((d : Tm) × TermOf text v a (RVar s) d) ⊎ Unbound (use_at s false v ∷ [])
        by_place (inl (i, p)) = inl (_, of_var s i p)
        by_place (inr p) = inr (alone (use_at s false v) p)
    term_named v a (RNum s z) = inl (_, of_num s z)
    term_named v a (RFix s f x t r e) =
        then_whole (λ y. (_, of_fix s f x y.0.1 y.1.0.1 y.1.1.1))
        (and_then (λ y. type_bound y.1) (type_named a t)
        (and_then (λ y. type_bound y.1) (type_named a r) (term_named (spelled text x ∷ (spelled text f ∷ v)) a e)))
    term_named v a (RGen s n e) = then_whole (λ y. (_, of_gen s n y.1)) (term_named v (spelled text n ∷ a) e)
    term_named v a (RApp s d e) =
        then_whole (λ y. (_, of_app s y.0.1 y.1.1))
        (and_then (λ y. term_bound y.1) (term_named v a d) (term_named v a e))
    term_named v a (RInst s e t) =
        then_whole (λ y. (_, of_inst s y.0.1 y.1.1))
        (and_then (λ y. term_bound y.1) (term_named v a e) (type_named a t))
    term_named v a (RFields s es) = then_whole (λ y. (_, of_fields s y.1)) (terms_named v a es)
    term_named v a (RProj s n e) = then_whole (λ y. (_, of_proj s n y.1)) (term_named v a e)
    term_named v a (RArith s op d e) =
        then_whole (λ y. (_, of_arith s op y.0.1 y.1.1))
        (and_then (λ y. term_bound y.1) (term_named v a d) (term_named v a e))
    term_named v a (RIf0 s c d e) =
        then_whole (λ y. (_, of_if0 s y.0.1 y.1.0.1 y.1.1.1))
        (and_then (λ y. term_bound y.1) (term_named v a c)
        (and_then (λ y. term_bound y.1) (term_named v a d) (term_named v a e)))
    term_named v a (RLet s x d e) =
        then_whole (λ y. (_, of_let s x y.0.1 y.1.1))
        (and_then (λ y. term_bound y.1) (term_named v a d) (term_named (spelled text x ∷ v) a e))
    term_named v a (RPack s t e r) =
        then_whole (λ y. (_, of_pack s y.0.1 y.1.0.1 y.1.1.1))
        (and_then (λ y. type_bound y.1) (type_named a t)
        (and_then (λ y. term_bound y.1) (term_named v a e) (type_named a r)))
    term_named v a (ROpen s n x d e) =
        then_whole (λ y. (_, of_open s n x y.0.1 y.1.1))
        (and_then (λ y. term_bound y.1) (term_named v a d)
        (term_named (spelled text x ∷ v) (spelled text n ∷ a) e))
    term_named v a (RCell s e) = then_whole (λ y. (_, of_cell s y.1)) (term_named v a e)
    term_named v a (RDeref s e) = then_whole (λ y. (_, of_deref s y.1)) (term_named v a e)
    term_named v a (RAssign s d e) =
        then_whole (λ y. (_, of_assign s y.0.1 y.1.1))
        (and_then (λ y. term_bound y.1) (term_named v a d) (term_named v a e))

    terms_named : (v a : List Name) (es : RawTms) → ((ds : Tms) × TermsOf text v a es ds)
        ⊎ Unbound (all_uses text v a es)
    terms_named v a NoRawTms = inl (_, of_no_terms)
    terms_named v a (MoreRawTms e es) =
        then_whole (λ y. (_, of_more_terms y.0.1 y.1.1))
        (and_then (λ y. term_bound y.1) (term_named v a e) (terms_named v a es))

  abbrev Decided : Type 0
  Decided = ((tm : Tm) × SourceWithin text tm) ⊎ ((c : Code) × (s : Span) × FirstFault text c s)

  named : (p : Piece) → HasShape text p → nodes p.tree ≤ 100000 → ((d : Tm) × TermOf text [] [] p.tree d)
      ⊎ Unbound (uses text [] [] p.tree) → Decided
  named p h l (inl (d, b)) = inl (
    d,
    record {
      source = record { tokens = h.tokens; shape = p; cut = h.has_tokens.cut; is_shape = h.is_shape; bound = b };
      few_bytes = h.has_tokens.few_bytes;
      few_open = h.few_open;
      few_nodes = omega (arith, same_nodes b, l);
    },
  )
  named p h l (inr f) = inr (unbound_code f.name.of_type, f.name.at, unbound p f.name h l f.first)

  shaped : (p : Piece) → HasShape text p → (b : Bool) → nat_le (nodes p.tree) 100000 ≡ b → Decided
  shaped p h true e = named p h (leb-true (nodes p.tree) 100000 e) (term_named [] [] p.tree)
  shaped p h false e = inr (code.L3, raw_span p.tree, too_large p h (leb-false (nodes p.tree) 100000 e))

  judged : (w : List Token) → HasTokens text w → (v : Verdict table) → Says table 200 w v → Decided
  judged w h (Fine vs) x =
      shaped x.value (record { tokens = w; has_tokens = h; is_shape = x.shape; few_open = x.within })
      (nat_le (nodes x.value.tree) 100000) refl
  judged w h (Unexpected []) x = inr (code.E04, end_of text, cut_short h x)
  judged w h (Unexpected (t ∷ z)) (u, x) = inr (code.E03, t.span, unexpected u t z h x)
  judged w h (Passed []) x = absurd x
  judged w h (Passed (t ∷ z)) (u, x) = inr (code.L2, t.span, too_deep u t z h x)

  tokenized : FewBytes text → ((w : List Token) × IsCut text w)
      ⊎ ((c : Code) × (s : Span) × FirstTokenFault text c s) → Decided
  tokenized l (inl (w, c)) =
      judged w (record { few_bytes = l; cut = c }) (bounded table 200 w (whole table w)) (source_exact 200 w)
  tokenized l (inr (c, s, f)) = inr (c, s, no_token l f)

  measured : (b : Bool) → nat_le (length text) 16777216 ≡ b → Decided
  measured true e = tokenized (leb-true (length text) 16777216 e) (lexer.cut_or_fault text)
  measured false e = inr (code.L1, whole_of text, too_long (leb-false (length text) 16777216 e))

pub term_or_fault : TermOrFault
term_or_fault text = measured text (nat_le (length text) 16777216) refl
