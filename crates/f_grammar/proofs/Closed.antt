-- What stands for a tree where names are in scope has no other free names, and as many nodes as the tree.
use Rattle.std.proofs.Common.{◌≡◌, ◌<◌, ◌+◌, ℕ, zero, suc, List, [], ◌∷◌, length, refl, ap, subst, arith}
use Rattle.idx_core.specs.Names.{Name, IsPlace}
use Rattle.f_terms.specs.Ty.{Ty, Tys, Below, each_all}
use Rattle.f_terms.specs.Tm.{Tm, Tms, plain, plain_all}
use Rattle.f_terms.specs.Scope.{InScope, AllInScope}
use Rattle.f_terms.specs.Limits as limits
use Rattle.idx_core.specs.Over.{BelowAt, AnyDepth}
use Rattle.f_grammar.specs.Raw.{RawTy, RawTys, RawTm, RawTms, nodes, nodes_all}
use Rattle.f_grammar.specs.Scope.{TypeOf, of_int, of_name, of_tuple, of_arrow, of_all, of_some, of_ref, TypesOf}
use Rattle.f_grammar.specs.Scope.{of_no_types, of_more_types, TermOf, of_var, of_num, of_fix, of_gen, of_app, of_inst}
use Rattle.f_grammar.specs.Scope.{of_fields, of_proj, of_arith, of_if0, of_let, of_pack, of_open, of_cell, of_deref}
use Rattle.f_grammar.specs.Scope.{of_assign, TermsOf, of_no_terms, of_more_terms}

pub place_below : (x : Name) (ns : List Name) (i : ℕ) → IsPlace x ns i → i < length ns
place_below x [] i p = absurd p
place_below x (n ∷ ns) zero p = omega arith
place_below x (n ∷ ns) (suc i) p = let h = place_below x ns i p.1 in omega arith

one_more : (n : ℕ) → suc n ≡ n + 1
one_more n = omega arith

two_more : (n : ℕ) → suc (suc n) ≡ n + 2
two_more n = omega arith

mutual
  pub type_below : {text : List ℕ} {a : List Name} {t : RawTy} {u : Ty} → TypeOf text a t u → Below (length a) u
  type_below of_int = tt
  type_below (of_name s i p) = place_below _ _ i p
  type_below (of_tuple p) = types_below p
  type_below (of_arrow p q) = (type_below p, type_below q)
  type_below (of_all {a} {t} {u} n p) = (tt, subst (λ (k : ℕ). Below k u) (one_more (length a)) (type_below p))
  type_below (of_some {a} {t} {u} n p) = (tt, subst (λ (k : ℕ). Below k u) (one_more (length a)) (type_below p))
  type_below (of_ref p) = type_below p

  pub types_below : {text : List ℕ} {a : List Name} {ts : RawTys} {us : Tys} → TypesOf text a ts us →
      each_all BelowAt AnyDepth (length a) us
  types_below of_no_types = tt
  types_below (of_more_types p q) = (type_below p, types_below q)

mutual
  pub term_in_scope : {text : List ℕ} {v a : List Name} {e : RawTm} {d : Tm} → TermOf text v a e d →
      InScope (plain d) (length a) (length v)
  term_in_scope (of_var s i p) = place_below _ _ i p
  term_in_scope (of_num s n) = tt
  term_in_scope (of_fix {v} {a} {t} {r} {e} {t'} {r'} {e'} s f x p q i) = (
    type_below p,
    type_below q,
    subst (λ (k : ℕ). InScope (plain e') (length a) k) (two_more (length v))
        (term_in_scope i),
  )
  term_in_scope (of_gen {v} {a} {e} {e'} s n p) =
      subst (λ (k : ℕ). InScope (plain e') k (length v)) (one_more (length a)) (term_in_scope p)
  term_in_scope (of_app s p q) = (term_in_scope p, term_in_scope q)
  term_in_scope (of_inst s p q) = (term_in_scope p, type_below q)
  term_in_scope (of_fields s p) = terms_in_scope p
  term_in_scope (of_proj s n p) = term_in_scope p
  term_in_scope (of_arith s op p q) = (term_in_scope p, term_in_scope q)
  term_in_scope (of_if0 s p q r) = (term_in_scope p, term_in_scope q, term_in_scope r)
  term_in_scope (of_let {v} {a} {d} {e} {d'} {e'} s x p q) =
      (term_in_scope p, subst (λ (k : ℕ). InScope (plain e') (length a) k) (one_more (length v)) (term_in_scope q))
  term_in_scope (of_pack s p q r) = (type_below p, type_below r, term_in_scope q)
  term_in_scope (of_open {v} {a} {d} {e} {d'} {e'} s n x p q) = (
    term_in_scope p,
    subst (λ (k : ℕ). InScope (plain e') (length a + 1) k) (one_more (length v))
        (subst (λ (k : ℕ). InScope (plain e') k (suc (length v))) (one_more (length a)) (term_in_scope q)),
  )
  term_in_scope (of_cell s p) = term_in_scope p
  term_in_scope (of_deref s p) = term_in_scope p
  term_in_scope (of_assign s p q) = (term_in_scope p, term_in_scope q)

  pub terms_in_scope : {text : List ℕ} {v a : List Name} {es : RawTms} {ds : Tms} → TermsOf text v a es ds →
      AllInScope (plain_all ds) (length a) (length v)
  terms_in_scope of_no_terms = tt
  terms_in_scope (of_more_terms p q) = (term_in_scope p, terms_in_scope q)

mutual
  pub same_nodes : {text : List ℕ} {v a : List Name} {e : RawTm} {d : Tm} → TermOf text v a e d →
      limits.nodes (plain d) ≡ nodes e
  same_nodes (of_var s i p) = refl
  same_nodes (of_num s n) = refl
  same_nodes (of_fix s f x p q r) = ap (λ (n : ℕ). 1 + n) (same_nodes r)
  same_nodes (of_gen s n p) = ap (λ (n : ℕ). 1 + n) (same_nodes p)
  same_nodes (of_app s p q) = let h = same_nodes p in let g = same_nodes q in omega arith
  same_nodes (of_inst s p q) = ap (λ (n : ℕ). 1 + n) (same_nodes p)
  same_nodes (of_fields s p) = ap (λ (n : ℕ). 1 + n) (same_nodes_all p)
  same_nodes (of_proj s n p) = ap (λ (n : ℕ). 1 + n) (same_nodes p)
  same_nodes (of_arith s op p q) = let h = same_nodes p in let g = same_nodes q in omega arith
  same_nodes (of_if0 s p q r) = let h = same_nodes p in let g = same_nodes q in let k = same_nodes r in omega arith
  same_nodes (of_let s x p q) = let h = same_nodes p in let g = same_nodes q in omega arith
  same_nodes (of_pack s p q r) = ap (λ (n : ℕ). 1 + n) (same_nodes q)
  same_nodes (of_open s n x p q) = let h = same_nodes p in let g = same_nodes q in omega arith
  same_nodes (of_cell s p) = ap (λ (n : ℕ). 1 + n) (same_nodes p)
  same_nodes (of_deref s p) = ap (λ (n : ℕ). 1 + n) (same_nodes p)
  same_nodes (of_assign s p q) = let h = same_nodes p in let g = same_nodes q in omega arith

  pub same_nodes_all : {text : List ℕ} {v a : List Name} {es : RawTms} {ds : Tms} → TermsOf text v a es ds →
      limits.nodes_all (plain_all ds) ≡ nodes_all es
  same_nodes_all of_no_terms = refl
  same_nodes_all (of_more_terms p q) = let h = same_nodes p in let g = same_nodes_all q in omega arith
