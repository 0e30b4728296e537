-- Whether a file fits, register by register: what is left to show, from the registers that are left to check.
use Rattle.std.proofs.Common.{◌≡◌, ℕ, ◌+◌, ◌<◌, ◌≤◌, List, ◌∷◌, length, drop, get_or, Option, Some, None, refl, sym, ap}
use Rattle.std.proofs.Common.{◌∙◌, subst, inl, inr, Result}
use Rattle.std.proofs.lemmas.List.{drop_more, drop_all}
use Rattle.idx_core.specs.declared.span.Span.{Span}
use Rattle.text_core.specs.Refusals.{check, nothing}
use Rattle.t_types.specs.Tree.{Ty}
use Rattle.t_types.specs.Fits.{Fits, FitsFile, RegTypes}
use Rattle.t_terms.specs.declared.fault.TCode.TheVariants.{T18}
use Rattle.t_intern.specs.Grown.{Grown}
use Rattle.t_intern.specs.Nodes.{at, regs_at}
use Rattle.t_intern.proofs.Growing.{grown_at}
use Rattle.t_known.specs.Known.{known, IsSound}
use Rattle.t_rules.specs.Mismatch.{told, Register}
use Rattle.t_rules.specs.Faults.{KnownFits, Note, FaultWith, at_odds, FileFaultWith}
use Rattle.t_known.specs.Refusals.{SaysWith}
use Rattle.t_check.specs.Verdict.{IsRegFit}
use Rattle.t_known.specs.declared.refusal.Refusal.{Refusal}
use Rattle.t_known.specs.declared.refusal.Refusal.TheVariants.{AtOdds}
use Rattle.t_known.specs.declared.odds.Odds.TheVariants as odds
use Rattle.t_known.specs.declared.registers.Registers.{Registers}
use Rattle.t_known.proofs.Noting.{known_grown}
use Rattle.t_known.proofs.Rising.{known_fit}
use Rattle.t_check.proofs.Typing.{says_map}

-- T18 of a register
abbrev RegFault : ℕ → RegTypes → Span → ℕ → Ty → FaultWith
RegFault n g s r t = check (KnownFits g r t) (at_odds T18 (Register r t (g r) n) s) nothing

module _ (n : ℕ) (g : RegTypes) (s : Span) (ts : List Ty) where
  pub record FileLeft (xs left : List (ℕ × ℕ)) : Type 0 where
    pub fits : FitsFile g (regs_at ts left) → FitsFile g (regs_at ts xs)
    pub fault : (c : Note) (p : Span) → FileFaultWith n g s (regs_at ts left) c p →
        FileFaultWith n g s (regs_at ts xs) c p

  pub file_left : (xs : List (ℕ × ℕ)) → FileLeft xs xs
  file_left xs = record { fits = λ h. h; fault = λ c p h. h }

  module _ (xs : List (ℕ × ℕ)) (i : ℕ) (x : ℕ × ℕ) (is : x ≡ get_or xs i x) (lt : i < length xs) where
    next : drop i xs ≡ x ∷ drop (i + 1) xs
    next = drop_more xs i x lt ∙ ap (λ (y : ℕ × ℕ). y ∷ drop (i + 1) xs) (sym is)

    pub reg_more : KnownFits g x.0 (at ts x.1) → FileLeft xs (drop i xs) → FileLeft xs (drop (i + 1) xs)
    reg_more h left = record {
      fits = λ f. left.fits (subst (λ ys. FitsFile g (regs_at ts ys)) (sym next) (h, f));
      fault = λ c p f. left.fault c p (subst (λ ys. FileFaultWith n g s (regs_at ts ys) c p) (sym next) (inr (h, f)));
    }

    pub reg_fault : FileLeft xs (drop i xs) → (us : List Ty) (f : Refusal) →
        SaysWith us f (RegFault n g s x.0 (at ts x.1)) → SaysWith us f (FileFaultWith n g s (regs_at ts xs))
    reg_fault left us f h = says_map us f (RegFault n g s x.0 (at ts x.1)) (FileFaultWith n g s (regs_at ts xs)) go h
      where
        go : (c : Note) (p : Span) → RegFault n g s x.0 (at ts x.1) c p → FileFaultWith n g s (regs_at ts xs) c p
        go c p (inl k) = left.fault c p (subst (λ ys. FileFaultWith n g s (regs_at ts ys) c p) (sym next) (inl k))
        go c p (inr k) = absurd k.1

  pub file_end : (xs : List (ℕ × ℕ)) (i : ℕ) → length xs ≤ i → FileLeft xs (drop i xs) → FitsFile g (regs_at ts xs)
  file_end xs i le left = left.fits (subst (λ ys. FitsFile g (regs_at ts ys)) (sym (drop_all i xs le)) tt)

-- a register that is missing, and one of another type
module _ (n : ℕ) (g : RegTypes) (s : Span) (r : ℕ) (t : Ty) (us : List Ty) (w : ℕ) (lt : w < length us)
    (is : at us w ≡ t) where
  reg_says : (o : Option Ty) → g r ≡ o → (KnownFits g r t → ⊥) →
      RegFault n g s r t (T18, told (Register r (at us w) o n)) s
  reg_says o e none =
      subst (λ x. RegFault n g s r t (T18, told (Register r (at us w) x n)) s) e
      (subst (λ x. RegFault n g s r t (T18, told (Register r x (g r) n)) s) (sym is) (inl (none, (refl, refl))))

  pub missing : g r ≡ None → SaysWith us (AtOdds T18 s (odds.Register r w None n)) (RegFault n g s r t)
  missing e = ((lt, tt), reg_says None e (λ k. let some = k.1 in cc))

  pub other_type : (m : ℕ) (u : Ty) → m < length us → g r ≡ Some u → at us m ≡ u → (Fits u t → ⊥) →
      SaysWith us (AtOdds T18 s (odds.Register r w (Some m) n)) (RegFault n g s r t)
  other_type m u there e same unfit =
      ((lt, there), reg_says (Some (at us m)) (e ∙ ap Some (sym same)) (λ k. unfit (known_fit g r u t e k)))

-- by more types
pub reg_grown : (ts us : List Ty) → Grown ts us → (k : Registers) → IsSound ts k → (n : ℕ) (s : Span) (r w : ℕ) →
    w < length ts → (vs : List Ty) (a : Result (Unit {0}) Refusal) →
    IsRegFit vs n (known us k) s r (at us w) a → IsRegFit vs n (known ts k) s r (at ts w) a
reg_grown ts us g k sound n s r w lt vs a h =
    subst (λ (x : RegTypes). IsRegFit vs n x s r (at ts w) a) (known_grown ts us g k sound)
    (subst (λ (t : Ty). IsRegFit vs n (known us k) s r t a) (grown_at ts us g w lt) h)
