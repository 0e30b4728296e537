-- The walk over what is owed, from the next symbol on.
use Rattle.std.proofs.Common.{◌≡◌, ◌≤◌, ℕ, ◌+◌, List, [], ◌∷◌, ◌++◌, take, length, get_or, refl, sym, ◌∙◌, ap}
use Rattle.std.proofs.Common.{Option, Some, None, Bool, true, false, arith, add-one, if◌then◌else◌}
use Rattle.std.proofs.lemmas.List.{append-nil}
use Rattle.std.proofs.Math.Seq.{take-suc}
use Rattle.std.specs.Option.{is_some}
use Rattle.talc_wanted.specs.declared.language.Sym.{Sym}
use Rattle.talc_wanted.specs.declared.language.Sym.TheVariants.{Token, Line}
use Rattle.talc_wanted.specs.Owing.{Owes, from_top, onto, after, may_end, next_owed, may_finish, IsRow, IsStep}
use Rattle.talc_wanted.proofs.Rows.{top_append}

-- a line that begins with the token, one that may be of no tokens, and another
row_on : {A : Type 0} (p : Option (List A)) (r s : List A) (x : Option (List A)) → p ≡ Some r →
    onto p s x ≡ Some (r ++ s)
row_on p r s x e = rw e refl

row_past : {A : Type 0} (p : Option (List A)) (b : Bool) (s : List A) (x : Option (List A)) → p ≡ None → true ≡ b →
    onto p s (if b then x else None) ≡ x
row_past p b s x e f = rw (e, ← f) refl

row_none : {A : Type 0} (p : Option (List A)) (b : Bool) (s : List A) (x : Option (List A)) → p ≡ None → false ≡ b →
    onto p s (if b then x else None) ≡ None
row_none p b s x e f = rw (e, ← f) refl

module _ {C L K T : Type 0} (o : Owes C L K T) (owed : List (Sym C L)) (t : T) where
  -- as many symbols are left, and none of those above takes the token
  pub record Down (at : ℕ) : Type 0 where
    pub in_range : at ≤ length owed
    pub same : next_owed o (from_top owed) t ≡ next_owed o (from_top (take at owed)) t

  top_take : (i at : ℕ) (d : Sym C L) → at ≡ i + 1 → at ≤ length owed →
      from_top (take at owed) ≡ get_or owed i d ∷ from_top (take i owed)
  top_take i at d e h =
      ap (λ n. from_top (take n owed)) (e ∙ add-one i)
      ∙ (ap (λ s. from_top s) (take-suc owed i d (omega arith)) ∙ top_append (take i owed) (get_or owed i d ∷ []))

  at_symbol : (i at : ℕ) (d s : Sym C L) → Down at → at ≡ i + 1 → get_or owed i d ≡ s →
      next_owed o (from_top owed) t ≡ next_owed o (s ∷ from_top (take i owed)) t
  at_symbol i at d s h e q =
      h.same
      ∙ (ap (λ x. next_owed o x t) (top_take i at d e h.in_range)
      ∙ ap (λ x. next_owed o (x ∷ from_top (take i owed)) t) q)

  pub down_fits : (i at : ℕ) (row : List (Sym C L)) (d : Sym C L) (c : C) → Down at → at ≡ i + 1 →
      get_or owed i d ≡ Token c → true ≡ o.fits c t → row ≡ [] →
      IsStep (next_owed o (from_top owed) t) owed row (Some i)
  down_fits i at row d c h e q f r =
      at_symbol i at d (Token c) h e q
      ∙ (rw (← f) (ap (λ s. Some (from_top s)) (sym (append-nil (take i owed)) ∙ ap (λ s. take i owed ++ s) (sym r))))

  pub down_misses : (i at : ℕ) (row : List (Sym C L)) (d : Sym C L) (c : C) → Down at → at ≡ i + 1 →
      get_or owed i d ≡ Token c → false ≡ o.fits c t → IsStep (next_owed o (from_top owed) t) owed row None
  down_misses i at row d c h e q f = at_symbol i at d (Token c) h e q ∙ (rw (← f) refl)

  pub down_begins : (i at : ℕ) (row : List (Sym C L)) (b : Bool) (d : Sym C L) (l : L) → Down at → at ≡ i + 1 →
      get_or owed i d ≡ Line l → b ≡ true → IsRow (after o l t) row b →
      IsStep (next_owed o (from_top owed) t) owed row (Some i)
  down_begins i at row true d l h e q y r =
      at_symbol i at d (Line l) h e q ∙ (row_on _ _ _ _ r ∙ ap (λ s. Some s) (sym (top_append (take i owed) row)))
  down_begins i at row false d l h e q y r = absurd (cc)

  pub down_ends : (i at : ℕ) (row : List (Sym C L)) (b : Bool) (d : Sym C L) (l : L) → Down at → at ≡ i + 1 →
      get_or owed i d ≡ Line l → b ≡ false → IsRow (after o l t) row b → false ≡ may_end o l →
      IsStep (next_owed o (from_top owed) t) owed row None
  down_ends i at row true d l h e q y r f = absurd (cc)
  down_ends i at row false d l h e q y r f = at_symbol i at d (Line l) h e q ∙ row_none _ _ _ _ r f

  pub down_on : (i at : ℕ) (row : List (Sym C L)) (b : Bool) (d : Sym C L) (l : L) → Down at → at ≡ i + 1 →
      get_or owed i d ≡ Line l → b ≡ false → IsRow (after o l t) row b → true ≡ may_end o l → Down i
  down_on i at row true d l h e q y r f = absurd (cc)
  down_on i at row false d l h e q y r f = record {
    in_range = let r = h.in_range in omega arith;
    same = at_symbol i at d (Line l) h e q ∙ row_past _ _ _ _ r f;
  }

-- whether there is a step
pub taken_is : {A : Type 0} (next : Option (List A)) (owed row : List A) (x : Option ℕ) → IsStep next owed row x →
    is_some x ≡ is_some next
taken_is next owed row None e = rw e refl
taken_is next owed row (Some n) e = rw e refl

-- whether all may end is asked of the symbols in any order
module _ {C L K T : Type 0} (o : Owes C L K T) where
  finish_append : (a b : List (Sym C L)) → may_finish o (a ++ b) ≡ (if may_finish o a then may_finish o b else false)
  finish_append [] b = refl
  finish_append (Token c ∷ a) b = refl
  finish_append (Line l ∷ a) b = by_first (may_end o l) _ _ _ (finish_append a b)
    where
      by_first : (m x y z : Bool) → x ≡ (if y then z else false) →
          (if m then x else false) ≡ (if (if m then y else false) then z else false)
      by_first true x y z e = e
      by_first false x y z e = refl

  swap : (a b : Bool) → (if a then (if b then true else false) else false) ≡ (if b then a else false)
  swap true true = refl
  swap true false = refl
  swap false true = refl
  swap false false = refl

  never : (a : Bool) → (if a then false else false) ≡ false
  never true = refl
  never false = refl

  pub finish_top : (owed : List (Sym C L)) → may_finish o (from_top owed) ≡ may_finish o owed
  finish_top [] = refl
  finish_top (Token c ∷ owed) = finish_append (from_top owed) (Token c ∷ []) ∙ never _
  finish_top (Line l ∷ owed) =
      finish_append (from_top owed) (Line l ∷ []) ∙ (rw (finish_top owed) (swap (may_finish o owed) (may_end o l)))
