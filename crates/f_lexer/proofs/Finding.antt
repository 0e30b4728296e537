-- What the code finds at a place of a source text.
use Rattle.std.proofs.Common.{◌≡◌, ◌≤◌, ◌<◌, ◌==◌, ◌&&◌, ℕ, pos, ◌+◌, ◌-◌, List, [], ◌∷◌, length, take, drop, Bool}
use Rattle.std.proofs.Common.{true, false, if◌then◌else◌, refl, ◌∙◌, ap, arith, Some, None, neg_ℤ}
use Rattle.std.specs.Prelude.{nat_le}
use Rattle.std.proofs.lemmas.Bool.{eqb-true, leb-true, leb-false, and_parts}
use Rattle.std.proofs.lemmas.Int.{ints}
use Rattle.std.proofs.lemmas.List.{length-drop}
use Rattle.text_core.specs.Byte.{mark, value}
use Rattle.text_core.specs.Tokens.{HasSigns, Spelling}
use Rattle.text_core.specs.Lexeme.{Piece, POther, PPlain, PNegative, piece, of_piece, item, Within, IsValue, IsFound}
use Rattle.text_core.specs.declared.lexeme.Digits.{Digits}
use Rattle.text_core.proofs.Signs.{look_marked}
use Rattle.f_lexer.specs.declared.kind.Kind.{Kind}
use Rattle.f_lexer.specs.declared.kind.Kind.TheVariants as k
use Rattle.f_lexer.specs.Source.{source, signs, pair, Keeps}
use Rattle.f_lexer.specs.Scan.{at_pair, plain_found, negative_found}

-- no sign of the source begins as a word or a number
pub source_signs : HasSigns source
source_signs = record { of_sign = λ b x e. look_marked signs refl b x e; of_pair = λ b c x e. of_two b c x e }
  where
    of_two : (b c : ℕ) (x : Kind) → pair b c ≡ Some x → mark b ≡ true
    of_two b c x e = go (b == 45) (c == 62) (b == 58) (c == 61) refl refl e
      where
        go : (p q r s : Bool) → (b == 45) ≡ p → (b == 58) ≡ r →
            (if p && q then Some k.Arrow else if r && s then Some k.Assign else None) ≡ Some x → mark b ≡ true
        go true q r s a h e = rw (eqb-true b 45 a) refl
        go false q true s a h e = rw (eqb-true b 58 h) refl
        go false q false s a h e = absurd (cc)

pair_long : (a b : ℕ) (s : List ℕ) → at_pair a b s ≡ true → 2 ≤ length s
pair_long a b [] e = absurd (cc)
pair_long a b (c ∷ []) e = absurd (cc)
pair_long a b (c ∷ (d ∷ s)) e = omega arith

pair_item : (a b : ℕ) (x : Kind) → pair a b ≡ Some x → (s : List ℕ) → piece s ≡ POther → at_pair a b s ≡ true →
    item source s ≡ Spelling x 2
pair_item a b x h [] p e = absurd (cc)
pair_item a b x h (c ∷ []) p e = absurd (cc)
pair_item a b x h (c ∷ (d ∷ s)) p e =
    let m = eqb-true c a (and_parts _ _ e).0 in
    let n = eqb-true d b (and_parts _ _ e).1 in
    let i : pair c d ≡ Some x = rw (m, n) h in
    ap (λ (x : Piece). of_piece source (c ∷ (d ∷ s)) x) p ∙ rw i refl

pub pair_found : (a b : ℕ) (x : Kind) → pair a b ≡ Some x → Keeps x → (t : List ℕ) (at : ℕ) → at < length t →
    piece (drop at t) ≡ POther → at_pair a b (drop at t) ≡ true →
    Within t at (at + 2) × (item source (drop at t) ≡ Spelling x (at + 2 - at)) × Keeps x
pair_found a b x h y t at l p e =
    let m = pair_long a b (drop at t) e in
    let n = length-drop at t in
    let z : at + 2 - at ≡ 2 = omega arith in
    (record { forward = omega arith; in_range = omega arith }, rw z (pair_item a b x h (drop at t) p e), y)

pub plain_is_found : (t : List ℕ) (at : ℕ) (d : Digits) → Within t at d.end → piece (drop at t) ≡ PPlain (d.end - at) →
    IsValue d.value d.fits (take (d.end - at) (drop at t)) →
    IsFound source t at (plain_found d)
plain_is_found t at d w p v = go d.fits refl (nat_le d.value 9223372036854775807) refl
  where
    u : List ℕ
    u = take (d.end - at) (drop at t)

    is : item source (drop at t) ≡ Spelling (k.Plain (pos (value u))) (d.end - at)
    is = ap (λ (x : Piece). of_piece source (drop at t) x) p

    go : (f : Bool) → d.fits ≡ f → (l : Bool) → nat_le d.value 9223372036854775807 ≡ l →
        IsFound source t at (plain_found d)
    go true e true q =
        let s = (v.small e).0 in
        let m = leb-true d.value 9223372036854775807 q in rw (e, q) (w, rw s is, omega (arith, ints))
    go true e false q =
        let s = (v.small e).0 in
        let m = leb-false d.value 9223372036854775807 q in
        rw (e, q) (w, (k.Plain (pos (value u)), is, λ x. omega (arith, ints)))
    go false e l q = let s = v.large e in rw e (w, (k.Plain (pos (value u)), is, λ x. omega (arith, ints)))

pub negative_is_found : (t : List ℕ) (at : ℕ) (d : Digits) → Within t at d.end →
    piece (drop at t) ≡ PNegative (d.end - at) → IsValue d.value d.fits (drop 1 (take (d.end - at) (drop at t))) →
    IsFound source t at (negative_found d)
negative_is_found t at d w p v = go d.fits refl
  where
    u : List ℕ
    u = drop 1 (take (d.end - at) (drop at t))

    is : item source (drop at t) ≡ Spelling (k.Negative (neg_ℤ (pos (value u)))) (d.end - at)
    is = ap (λ (x : Piece). of_piece source (drop at t) x) p

    go : (f : Bool) → d.fits ≡ f → IsFound source t at (negative_found d)
    go true e = let s = (v.small e).0 in let m = (v.small e).1 in rw e (w, rw s is, omega (arith, ints))
    go false e = let s = v.large e in rw e (w, (k.Negative (neg_ℤ (pos (value u))), is, λ x. omega (arith, ints)))
