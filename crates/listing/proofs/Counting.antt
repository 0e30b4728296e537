-- The first part at a place, found by a look at each in turn.
use Rattle.std.proofs.Common.{◌≡◌, ◌<◌, ◌≤◌, ◌∙◌, ℕ, zero, suc, ◌+◌, List, [], ◌∷◌, length, get_or, take, refl, sym, ap}
use Rattle.std.proofs.Common.{subst}
use Rattle.std.proofs.Common.{true, false, arith, add-one, Option, Some, None}
use Rattle.std.proofs.Math.Seq.{take-length}
use Rattle.idx_core.specs.declared.span.Span.{Span}
use Rattle.t_terms.specs.declared.instr.Instr.{Instr}
use Rattle.t_terms.specs.Read.{body, instr}
use Rattle.t_terms.specs.Tree.{TInstr}
use Rattle.t_terms.specs.Spanned.{SBlock}
use Rattle.listing.specs.Before.{is_at}
use Rattle.listing.specs.Steps.{Clear, IsFirstAt, IsLastAt, IsCount}

abbrev Steps : Type 0
Steps = List (Instr × Span)

pub count_is : (xs : Steps) → length (body xs) ≡ length xs
count_is [] = refl
count_is (x ∷ xs) = ap suc (count_is xs)

module _ (place : Span) where
  next : (i : ℕ) (xs : Steps) (x : Instr × Span) → x ≡ get_or xs i x → i < length xs → Clear place i (body xs) →
      is_at place x.1 ≡ false → Clear place (suc i) (body xs)
  next zero [] x e lt h f = absurd (omega (arith, lt))
  next zero (y ∷ ys) x e lt h f = (subst (λ (z : Instr × Span). is_at place z.1 ≡ false) e f, tt)
  next (suc i) [] x e lt h f = absurd (omega (arith, lt))
  next (suc i) (y ∷ ys) x e lt h f = (h.0, next i ys x e (omega (arith, lt)) h.1 f)

  pub clear_next : (i : ℕ) (xs : Steps) (x : Instr × Span) → x ≡ get_or xs i x → i < length xs →
      Clear place i (body xs) → is_at place x.1 ≡ false → Clear place (i + 1) (body xs)
  clear_next i xs x e lt h f = subst (λ k. Clear place k (body xs)) (sym (add-one i)) (next i xs x e lt h f)

  -- the first one at the place was found
  pub clear_found : (i : ℕ) (xs : Steps) (x : Instr × Span) → x ≡ get_or xs i x → i < length xs →
      Clear place i (body xs) → is_at place x.1 ≡ true → IsFirstAt place (body xs) (Some i)
  clear_found zero [] x e lt h t = absurd (omega (arith, lt))
  clear_found zero (y ∷ ys) x e lt h t =
      let at : is_at place y.1 ≡ true = subst (λ (z : Instr × Span). is_at place z.1 ≡ true) e t in (
        rw at refl,
        omega arith,
        rw at refl,
      )
  clear_found (suc i) [] x e lt h t = absurd (omega (arith, lt))
  clear_found (suc i) (y ∷ ys) x e lt h t =
      let rest = clear_found i ys x e (omega (arith, lt)) h.1 t in
      let le = rest.1 in (
        rw h.0 rest.0,
        omega (arith, le),
        rw h.0 (ap (λ (zs : List (TInstr × Span)). (instr y.0, y.1) ∷ zs) rest.2),
      )

  -- there is none
  pub clear_end : (i : ℕ) (xs : Steps) → length xs ≤ i → Clear place i (body xs) → IsFirstAt place (body xs) None
  clear_end i [] le h = (refl, refl)
  clear_end zero (x ∷ xs) le h = absurd (omega (arith, le))
  clear_end (suc i) (x ∷ xs) le h =
      let rest = clear_end i xs (omega (arith, le)) h.1 in
      (rw h.0 rest.0, rw h.0 (ap (λ (zs : List (TInstr × Span)). (instr x.0, x.1) ∷ zs) rest.1))

  -- an instruction of the block, or its end
  pub at_step : (b : SBlock) (xs : List (TInstr × Span)) (n : ℕ) → xs ≡ b.body → IsFirstAt place xs (Some n) →
      IsCount place b (Some n)
  at_step b xs n same first =
      let h = subst (λ (ys : List (TInstr × Span)). IsFirstAt place ys (Some n)) same first in (rw h.0 refl, h.1, h.2)

  at_end : (b : SBlock) (o : Option ℕ) → IsFirstAt place b.body None → IsLastAt place b.body b.last_span o →
      IsCount place b o
  at_end b None h f = rw (h.0, f) refl
  at_end b (Some n) h f =
      subst (λ k. IsCount place b (Some k)) (sym f.1)
      (rw (h.0, f.0) refl, omega arith, h.1 ∙ sym (take-length b.body))

  pub at_last : (b : SBlock) (xs : List (TInstr × Span)) (o : Option ℕ) → xs ≡ b.body → IsFirstAt place xs None →
      IsLastAt place xs b.last_span o → IsCount place b o
  at_last b xs o same h f =
      at_end b o (subst (λ (ys : List (TInstr × Span)). IsFirstAt place ys None) same h)
      (subst (λ (ys : List (TInstr × Span)). IsLastAt place ys b.last_span o) same f)
