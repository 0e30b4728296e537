-- A tree stands for a term exactly where all its names are bound, and for one alone; there is one first unbound name.
use Rattle.std.proofs.Common.{◌≡◌, ℕ, zero, suc, List, [], ◌∷◌, ◌++◌, refl, sym, ◌∙◌, ap, subst, append_assoc}
use Rattle.idx_core.specs.Names.{Name, IsPlace, IsAbsent}
use Rattle.f_terms.specs.Ty.{Ty, TVar, TAll, TTuple, TSome, TRef, Tys}
use Rattle.f_terms.specs.Tm.{Tm, SVar, Tms}
use Rattle.f_terms.specs.Read.{place}
use Rattle.f_grammar.specs.Raw.{RawTy, RawTys, RawTm, RawTms}
use Rattle.f_grammar.specs.Scope.{TypeOf, of_int, of_name, of_tuple, of_arrow, of_all, of_some, of_ref, TypesOf}
use Rattle.f_grammar.specs.Scope.{of_no_types, of_more_types, TermOf, of_var, of_num, of_fix, of_gen, of_app, of_inst}
use Rattle.f_grammar.specs.Scope.{of_fields, of_proj, of_arith, of_if0, of_let, of_pack, of_open, of_cell, of_deref}
use Rattle.f_grammar.specs.Scope.{of_assign, TermsOf, of_no_terms, of_more_terms, Use, type_uses, types_uses, uses}
use Rattle.f_grammar.specs.Scope.{all_uses, IsBound, IsUnbound, AllBound, IsFirstUnbound}

pub joined : (text : List ℕ) (a b : List Use) → AllBound text a → AllBound text b → AllBound text (a ++ b)
joined text [] b h g = g
joined text (u ∷ a) b h g = (h.0, joined text a b h.1 g)

left : (text : List ℕ) (a b : List Use) → AllBound text (a ++ b) → AllBound text a
left text [] b h = tt
left text (u ∷ a) b h = (h.0, left text a b h.1)

right : (text : List ℕ) (a b : List Use) → AllBound text (a ++ b) → AllBound text b
right text [] b h = h
right text (u ∷ a) b h = right text a b h.1

one_place : (x : Name) (ns : List Name) (i j : ℕ) → IsPlace x ns i → IsPlace x ns j → i ≡ j
one_place x [] i j p q = absurd p
one_place x (n ∷ ns) zero zero p q = refl
one_place x (n ∷ ns) zero (suc j) p q = absurd (q.0 p)
one_place x (n ∷ ns) (suc i) zero p q = absurd (p.0 q)
one_place x (n ∷ ns) (suc i) (suc j) p q = ap (λ (k : ℕ). suc k) (one_place x ns i j p.1 q.1)

not_both : (x : Name) (ns : List Name) (i : ℕ) → IsPlace x ns i → IsAbsent x ns → ⊥
not_both x [] i p q = p
not_both x (n ∷ ns) zero p q = q.0 p
not_both x (n ∷ ns) (suc i) p q = not_both x ns i p.1 q.1

-- what stands for a term has no unbound name
mutual
  pub type_bound : {text : List ℕ} {a : List Name} {t : RawTy} {u : Ty} → TypeOf text a t u →
      AllBound text (type_uses text a t)
  type_bound of_int = tt
  type_bound (of_name s i p) = ((i, p), tt)
  type_bound (of_tuple p) = types_bound p
  type_bound (of_arrow p q) = joined _ _ _ (type_bound p) (type_bound q)
  type_bound (of_all n p) = type_bound p
  type_bound (of_some n p) = type_bound p
  type_bound (of_ref p) = type_bound p

  pub types_bound : {text : List ℕ} {a : List Name} {ts : RawTys} {us : Tys} → TypesOf text a ts us →
      AllBound text (types_uses text a ts)
  types_bound of_no_types = tt
  types_bound (of_more_types p q) = joined _ _ _ (type_bound p) (types_bound q)

mutual
  pub term_bound : {text : List ℕ} {v a : List Name} {e : RawTm} {d : Tm} → TermOf text v a e d →
      AllBound text (uses text v a e)
  term_bound (of_var s i p) = ((i, p), tt)
  term_bound (of_num s n) = tt
  term_bound (of_fix s f x p q r) = joined _ _ _ (type_bound p) (joined _ _ _ (type_bound q) (term_bound r))
  term_bound (of_gen s n p) = term_bound p
  term_bound (of_app s p q) = joined _ _ _ (term_bound p) (term_bound q)
  term_bound (of_inst s p q) = joined _ _ _ (term_bound p) (type_bound q)
  term_bound (of_fields s p) = terms_bound p
  term_bound (of_proj s n p) = term_bound p
  term_bound (of_arith s op p q) = joined _ _ _ (term_bound p) (term_bound q)
  term_bound (of_if0 s p q r) = joined _ _ _ (term_bound p) (joined _ _ _ (term_bound q) (term_bound r))
  term_bound (of_let s x p q) = joined _ _ _ (term_bound p) (term_bound q)
  term_bound (of_pack s p q r) = joined _ _ _ (type_bound p) (joined _ _ _ (term_bound q) (type_bound r))
  term_bound (of_open s n x p q) = joined _ _ _ (term_bound p) (term_bound q)
  term_bound (of_cell s p) = term_bound p
  term_bound (of_deref s p) = term_bound p
  term_bound (of_assign s p q) = joined _ _ _ (term_bound p) (term_bound q)

  pub terms_bound : {text : List ℕ} {v a : List Name} {es : RawTms} {ds : Tms} → TermsOf text v a es ds →
      AllBound text (all_uses text v a es)
  terms_bound of_no_terms = tt
  terms_bound (of_more_terms p q) = joined _ _ _ (term_bound p) (terms_bound q)

-- one type, one term
mutual
  pub one_type : {text : List ℕ} {a : List Name} {t : RawTy} {u v : Ty} → TypeOf text a t u → TypeOf text a t v → u ≡ v
  one_type of_int of_int = refl
  one_type (of_name s i p) (of_name _ j q) = ap (λ (n : ℕ). TVar n) (one_place _ _ i j p q)
  one_type (of_tuple p) (of_tuple q) = ap (λ (x : Tys). TTuple x) (one_types p q)
  one_type (of_arrow p q) (of_arrow r s) = let e = one_type p r in let f = one_type q s in cc
  one_type (of_all n p) (of_all _ q) = ap (λ (x : Ty). TAll x) (one_type p q)
  one_type (of_some n p) (of_some _ q) = ap (λ (x : Ty). TSome x) (one_type p q)
  one_type (of_ref p) (of_ref q) = ap (λ (x : Ty). TRef x) (one_type p q)

  pub one_types : {text : List ℕ} {a : List Name} {t : RawTys} {u v : Tys} → TypesOf text a t u → TypesOf text a t v →
      u ≡ v
  one_types of_no_types of_no_types = refl
  one_types (of_more_types p q) (of_more_types r s) = let e = one_type p r in let f = one_types q s in cc

mutual
  pub one_term : {text : List ℕ} {v a : List Name} {e : RawTm} {b d : Tm} → TermOf text v a e b → TermOf text v a e d →
      b ≡ d
  one_term (of_var s i p) (of_var _ j q) = ap (λ (n : ℕ). SVar (place s) n) (one_place _ _ i j p q)
  one_term (of_num s n) (of_num _ _) = refl
  one_term (of_fix s f x p q r) (of_fix _ _ _ i j l) =
      let e = one_type p i in let g = one_type q j in let h = one_term r l in cc
  one_term (of_gen s n p) (of_gen _ _ q) = let e = one_term p q in cc
  one_term (of_app s p q) (of_app _ i j) = let e = one_term p i in let f = one_term q j in cc
  one_term (of_inst s p q) (of_inst _ i j) = let e = one_term p i in let f = one_type q j in cc
  one_term (of_fields s p) (of_fields _ i) = let e = one_terms p i in cc
  one_term (of_proj s n p) (of_proj _ _ i) = let e = one_term p i in cc
  one_term (of_arith s op p q) (of_arith _ _ i j) = let e = one_term p i in let f = one_term q j in cc
  one_term (of_if0 s p q r) (of_if0 _ i j l) =
      let e = one_term p i in let f = one_term q j in let g = one_term r l in cc
  one_term (of_let s x p q) (of_let _ _ i j) = let e = one_term p i in let f = one_term q j in cc
  one_term (of_pack s p q r) (of_pack _ i j l) =
      let e = one_type p i in let f = one_term q j in let g = one_type r l in cc
  one_term (of_open s n x p q) (of_open _ _ _ i j) = let e = one_term p i in let f = one_term q j in cc
  one_term (of_cell s p) (of_cell _ i) = let e = one_term p i in cc
  one_term (of_deref s p) (of_deref _ i) = let e = one_term p i in cc
  one_term (of_assign s p q) (of_assign _ i j) = let e = one_term p i in let f = one_term q j in cc

  pub one_terms : {text : List ℕ} {v a : List Name} {es : RawTms} {b d : Tms} → TermsOf text v a es b →
      TermsOf text v a es d → b ≡ d
  one_terms of_no_terms of_no_terms = refl
  one_terms (of_more_terms p q) (of_more_terms i j) = let e = one_term p i in let f = one_terms q j in cc

-- the first unbound name: where it is passed on by the code, and that there is one
pub first_left : (text : List ℕ) (a b : List Use) (u : Use) → IsFirstUnbound text a u → IsFirstUnbound text (a ++ b) u
first_left text a b u h = record {
  before = h.before;
  after = h.after ++ b;
  bound = h.bound;
  unbound = h.unbound;
  place = ap (λ (x : List Use). x ++ b) h.place ∙ append_assoc h.before (u ∷ h.after) b;
}

pub first_right : (text : List ℕ) (a b : List Use) (u : Use) → AllBound text a → IsFirstUnbound text b u →
    IsFirstUnbound text (a ++ b) u
first_right text a b u g h = record {
  before = a ++ h.before;
  after = h.after;
  bound = joined text a h.before g h.bound;
  unbound = h.unbound;
  place = ap (λ (x : List Use). a ++ x) h.place ∙ sym (append_assoc a h.before (u ∷ h.after));
}

one_first' : (text : List ℕ) (a b c d : List Use) (u v : Use) → a ++ u ∷ c ≡ b ++ v ∷ d → AllBound text a →
    AllBound text b → IsUnbound text u → IsUnbound text v → (a ≡ b) × (u ≡ v)
one_first' text [] [] c d u v e g h i j = (refl, cc)
one_first' text [] (y ∷ b) c d u v e g h i j =
    let q : y ≡ u = cc in
    let b : IsBound text u = subst (λ (x : Use). IsBound text x) q h.0 in absurd (not_both _ _ b.0 b.1 i)
one_first' text (y ∷ a) [] c d u v e g h i j =
    let q : y ≡ v = cc in
    let b : IsBound text v = subst (λ (x : Use). IsBound text x) q g.0 in absurd (not_both _ _ b.0 b.1 j)
one_first' text (y ∷ a) (z ∷ b) c d u v e g h i j =
    let q : y ≡ z = cc in
    let r : a ++ u ∷ c ≡ b ++ v ∷ d = cc in
    let p = one_first' text a b c d u v r g.1 h.1 i j in
    let s = p.0 in (cc, p.1)

pub one_first : (text : List ℕ) (us : List Use) (u v : Use) → IsFirstUnbound text us u → IsFirstUnbound text us v →
    u ≡ v
one_first text us u v h g =
    (one_first' text h.before g.before h.after g.after u v (sym h.place ∙ g.place) h.bound g.bound h.unbound
    g.unbound).1

pub not_first : (text : List ℕ) (us : List Use) (u : Use) → AllBound text us → ¬ IsFirstUnbound text us u
not_first text us u h g =
    let b = (right text g.before (u ∷ g.after) (subst (λ (x : List Use). AllBound text x) g.place h)).0 in
    not_both _ _ b.0 b.1 g.unbound
