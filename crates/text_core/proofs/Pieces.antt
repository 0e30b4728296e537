-- What the code finds at a place, for each kind of piece.
use Rattle.std.proofs.Common.{◌≡◌, ◌≤◌, ◌<◌, ℕ, suc, ◌+◌, ◌-◌, List, [], ◌∷◌, length, take, drop, get_or, Bool, true}
use Rattle.std.proofs.Common.{false, sym, ◌∙◌, ap, arith}
use Rattle.std.specs.List.{prefix_len}
use Rattle.std.proofs.lemmas.List.{drop-drop, length-drop}
use Rattle.std.proofs.lemmas.List.Sums.{prefix_len-le-length}
use Rattle.text_core.specs.Byte.{space, digit, letter, of_word, of_line}
use Rattle.text_core.specs.Lexeme.{PGap, PWord, PNegative, piece, at_dashes, at_negative, Within, IsValue}
use Rattle.text_core.proofs.Runs.{here}

within : (p : ℕ → Bool) (t : List ℕ) (at i end : ℕ) → at < i → i ≤ length t → end ≡ i + prefix_len p (drop i t) →
    Within t at end
within p t at i end l m e =
    let a = prefix_len-le-length p (drop i t) in
    let b = length-drop i t in
    record { forward = omega arith; in_range = omega arith }

dashes_long : (s : List ℕ) → at_dashes s ≡ true → 2 ≤ length s
dashes_long [] e = absurd (cc)
dashes_long (b ∷ []) e = absurd (cc)
dashes_long (b ∷ (c ∷ s)) e = omega arith

module _ (t : List ℕ) (at : ℕ) (l : at < length t) where
  pub comment_found : (end : ℕ) → end ≡ at + 2 + prefix_len of_line (drop (at + 2) t) → space (get_or t at 0) ≡ false →
      at_dashes (drop at t) ≡ true →
      Within t at end × (piece (drop at t) ≡ PGap (end - at))
  comment_found end e p q =
      let long : at + 2 ≤ length t = omega (arith, dashes_long (drop at t) q, length-drop at t) in
      let w : Within t at end = within of_line t at (at + 2) end (omega arith) long e in
      let d : at_dashes (get_or t at 0 ∷ drop (at + 1) t) ≡ true =
      ap (λ (s : List ℕ). at_dashes s) (sym (here t at l)) ∙ q in
      let s : drop 1 (drop (at + 1) t) ≡ drop (at + 2) t =
      drop-drop 1 (at + 1) t ∙ ap (λ (n : ℕ). drop n t) (omega arith) in
      (w, rw (here t at l, p, d) (ap (λ (n : ℕ). PGap n) (rw s (omega arith))))

  pub word_found : (end : ℕ) → end ≡ at + 1 + prefix_len of_word (drop (at + 1) t) → space (get_or t at 0) ≡ false →
      at_dashes (drop at t) ≡ false → letter (get_or t at 0) ≡ true →
      Within t at end × (piece (drop at t) ≡ PWord (end - at))
  word_found end e p q r =
      let w : Within t at end = within of_word t at (at + 1) end (omega arith) (omega arith) e in
      let d : at_dashes (get_or t at 0 ∷ drop (at + 1) t) ≡ false =
      ap (λ (s : List ℕ). at_dashes s) (sym (here t at l)) ∙ q in
      (w, rw (here t at l, p, d, r) (ap (λ (n : ℕ). PWord n) (omega arith)))

  pub negative_found : (v : ℕ) (f : Bool) (end : ℕ) → end ≡ at + 1 + prefix_len digit (drop (at + 1) t) →
      IsValue v f (take (prefix_len digit (drop (at + 1) t)) (drop (at + 1) t)) →
      space (get_or t at 0) ≡ false → at_dashes (drop at t) ≡ false → letter (get_or t at 0) ≡ false →
      digit (get_or t at 0) ≡ false → at_negative (drop at t) ≡ true →
      Within t at end × (piece (drop at t) ≡ PNegative (end - at)) × IsValue v f (drop 1 (take (end - at) (drop at t)))
  negative_found v f end e i p q r o n =
      let w : Within t at end = within digit t at (at + 1) end (omega arith) (omega arith) e in
      let d : at_dashes (get_or t at 0 ∷ drop (at + 1) t) ≡ false =
      ap (λ (s : List ℕ). at_dashes s) (sym (here t at l)) ∙ q in
      let m : at_negative (get_or t at 0 ∷ drop (at + 1) t) ≡ true =
      ap (λ (s : List ℕ). at_negative s) (sym (here t at l)) ∙ n in
      let z : end - at ≡ suc (prefix_len digit (drop (at + 1) t)) = omega arith in
      (w, rw (here t at l, p, d, r, o, m) (ap (λ (n : ℕ). PNegative n) (omega arith)), rw (z, here t at l) i)
