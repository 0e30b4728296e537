-- Pairs of types that were seen to fit, after a note and as the list grows.
use Rattle.std.proofs.Common.{◌≡◌, ℕ, ◌<◌, Bool, true, false, List, length, refl, sym, ◌∙◌, ap, ap₂, arith, subst}
use Rattle.std.proofs.Common.{cond, true≢false, Result, Ok, Err, OnOk, OnErr}
use Rattle.std.specs.Cmp.{unsigned_Decides}
use Rattle.std.proofs.lemmas.Bool.Decides.{Decides-and}
use Rattle.t_types.specs.Tree.{Ty}
use Rattle.t_types.specs.Fits.{Fits}
use Rattle.t_intern.specs.Fitting.{AllFit}
use Rattle.t_intern.specs.Found.{same_key}
use Rattle.t_intern.specs.Grown.{Grown}
use Rattle.t_intern.specs.Nodes.{at}
use Rattle.t_intern.proofs.Growing.{grown_length, grown_at}

pub no_pairs : (seen : ℕ × ℕ → Bool) (ts : List Ty) → ((k : ℕ × ℕ) → seen k ≡ false) → AllFit seen ts
no_pairs seen ts none k h = absurd (true≢false (sym h ∙ none k))

pub same_pairs : (old new : ℕ × ℕ → Bool) (ts : List Ty) → ((k : ℕ × ℕ) → new k ≡ old k) → AllFit old ts → AllFit new ts
same_pairs old new ts u all k h = all k (sym (u k) ∙ h)

pub pair_noted : (old new : ℕ × ℕ → Bool) (ts : List Ty) (a b : ℕ) →
    ((q : ℕ × ℕ) → new q ≡ cond (same_key (a, b) q) true (old q)) → AllFit old ts → a < length ts → b < length ts →
    Fits (at ts a) (at ts b) → AllFit new ts
pair_noted old new ts a b u all l m fit k h = by_test (same_key (a, b) k) refl (u k)
  where
    by_test : (t : Bool) → same_key (a, b) k ≡ t → new k ≡ cond (same_key (a, b) k) true (old k) →
        (k.0 < length ts) × (k.1 < length ts) × Fits (at ts k.0) (at ts k.1)
    by_test true q r =
        let both = (Decides-and _ _ (unsigned_Decides a k.0) (unsigned_Decides b k.1)).0 q in
        let key : (a, b) ≡ k = ap₂ (λ x y. (x, y)) both.0 both.1 in
        subst (λ (j : ℕ × ℕ). (j.0 < length ts) × (j.1 < length ts) × Fits (at ts j.0) (at ts j.1)) key (l, m, fit)
    by_test false q r = all k (sym (r ∙ ap (λ t. cond t true (old k)) q) ∙ h)

pub pairs_grown : (seen : ℕ × ℕ → Bool) (ts us : List Ty) → Grown ts us → AllFit seen ts → AllFit seen us
pairs_grown seen ts us g all k h =
    let p = all k h in
    let l = grown_length ts us g in
    let left = sym (grown_at ts us g k.0 p.0) in
    let right = sym (grown_at ts us g k.1 p.1) in
    let fit = subst (λ t. Fits t (at us k.1)) left (subst (Fits (at ts k.0)) right p.2) in
    (omega (arith, p.0, l), omega (arith, p.1, l), fit)

-- what holds either way
pub either : {A E P Q R : Type 0} (r : Result A E) → OnOk r P → OnErr r Q → (P → R) → (Q → R) → R
either (Ok x) p q f g = f p
either (Err e) p q f g = g q
