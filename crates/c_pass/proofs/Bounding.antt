-- What is bound, and lists that grow at their ends.
use Rattle.std.proofs.Common.{◌≡◌, ℕ, zero, suc, ◌+◌, ◌<◌, ◌≤◌, List, [], ◌∷◌, ◌++◌, refl, ap, sym, length}
use Rattle.std.proofs.Common.{get_or, take, arith, Bool}
use Rattle.c_terms.specs.C as C
use Rattle.c_emit.specs.declared.parts.Note.{Note}
use Rattle.c_emit.specs.Read.{note}
use Rattle.c_rules.specs.Know as W
use Rattle.c_rules.specs.Emit as E
use Rattle.c_emit.specs.declared.parts.Info.{Info}
use Rattle.c_emit.specs.Read.{info}
use Rattle.c_pass.specs.declared.state.Bound.{Bound}
use Rattle.c_pass.specs.Read.{bound, bounds, infos_onto, notes_onto}

pub at_in : (xs : List Bound) (l : ℕ) (x : Bound) → l < length xs → x ≡ get_or xs l x →
    W.bound_at (bounds xs) l ≡ bound x
at_in [] l x h e = absurd (omega (arith, h))
at_in (y ∷ xs) zero x h e = ap bound (sym e)
at_in (y ∷ xs) (suc l) x h e = at_in xs l x (omega (arith, h)) e

pub at_out : (xs : List Bound) (l : ℕ) → length xs ≤ l → W.bound_at (bounds xs) l ≡ W.no_bound
at_out [] l h = refl
at_out (y ∷ xs) zero h = absurd (omega (arith, h))
at_out (y ∷ xs) (suc l) h = at_out xs l (omega (arith, h))

pub bounds_take : (n : ℕ) (xs : List Bound) → bounds (take n xs) ≡ take n (bounds xs)
bounds_take zero xs = refl
bounds_take (suc n) [] = refl
bounds_take (suc n) (x ∷ xs) = ap (λ (ys : List W.Bound). bound x ∷ ys) (bounds_take n xs)

pub bounds_push : (xs : List Bound) (x : Bound) → bounds (xs ++ x ∷ []) ≡ bounds xs ++ bound x ∷ []
bounds_push [] x = refl
bounds_push (y ∷ xs) x = ap (λ (ys : List W.Bound). bound y ∷ ys) (bounds_push xs x)

pub infos_push : (xs : List Info) (x : Info) (rest : List E.Info) →
    infos_onto (xs ++ x ∷ []) rest ≡ infos_onto xs (info x ∷ rest)
infos_push [] x rest = refl
infos_push (y ∷ xs) x rest = ap (λ (ys : List E.Info). info y ∷ ys) (infos_push xs x rest)

pub notes_push : (xs : List Note) (x : Note) (rest : List E.Note) →
    notes_onto (xs ++ x ∷ []) rest ≡ notes_onto xs (note x ∷ rest)
notes_push [] x rest = refl
notes_push (y ∷ xs) x rest = ap (λ (ys : List E.Note). note y ∷ ys) (notes_push xs x rest)

abbrev pub packed : List ℕ → Bool → C.CTy → C.CTy → C.CTys → C.CTy → C.CTy → C.CTys → ℕ → C.CTys → E.Info
packed kept own h s a hi si ai owes args =
    record {
      kept = kept;
      own = own;
      owes = owes;
      args = args;
      apply = a;
      hidden = h;
      shape = s;
      apply_in = ai;
      hidden_in = hi;
      shape_in = si;
    }
