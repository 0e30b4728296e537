-- Registers that are read and written.
use Rattle.std.proofs.Common.{◌≡◌, ◌≢◌, ℕ, zero, suc, ◌<◌, ◌≤◌, List, [], ◌∷◌, length, Option, Some, None, refl, sym}
use Rattle.std.proofs.Common.{ap, ◌∙◌, subst, arith, cond, nat_eq, true, false, slice_get, slice_set}
use Rattle.std.proofs.Common.{option_and_then, replicate, inl, inr, ◌⊎◌, ⊎_elim}
use Rattle.std.proofs.lemmas.Bool.{cases_lt}
use Rattle.std.proofs.Math.Path.{fun_ext}
use Rattle.std.proofs.lemmas.Bool.Decides.{nat_tests}
use Rattle.std.specs.Prelude.{ℤ}
use Rattle.t_terms.specs.Tree.{TBase}
use Rattle.t_terms.specs.Tree as tree
use Rattle.t_terms.specs.Registers.{with_reg}
use Rattle.t_rules.specs.Erase.{EWord, EInt, EAddress, ELabel, EEmpty, base_word}
use Rattle.t_rules.specs.Erase.{no_ewords}
use Rattle.t_machine.specs.Places.{PlaceList, register_place, ArePlaces}
use Rattle.t_collect.specs.Words.{tuple_of, IsInteger}
use Rattle.t_machine.specs.Words.{word, register_word, regs_of}
use Rattle.t_machine.specs.Code.{IsRegisterAt, IsBase, IsNoNumber, IsNumber}
use Rattle.t_machine.specs.Steps.{InRange, NumberInRange, at_place, value_of, number_of}
use Rattle.t_collect.specs.declared.word.Word.{Word}
use Rattle.t_collect.specs.declared.word.Word.TheVariants.{Int, Address, Label, Empty}
use Rattle.t_machine.specs.declared.code.Operand.{Operand}
use Rattle.t_machine.specs.declared.code.Operand.TheVariants as O
use Rattle.t_machine.specs.declared.code.Number.{Number}
use Rattle.t_machine.specs.declared.code.Number.TheVariants as N

held_at : (ws : List Word) (k : ℕ) (w : EWord) → option_and_then register_word (slice_get ws k) ≡ Some w →
    (k < length ws) × (register_word (at_place ws k) ≡ Some w)
held_at [] k w h = cc
held_at (x ∷ ws) zero w h = (omega arith, h)
held_at (x ∷ ws) (suc k) w h = let rest = held_at ws k w h in let lt = rest.0 in (omega arith, rest.1)

pub held_int : (v : Word) (i : ℤ) → register_word v ≡ Some (EInt i) → v ≡ Int i
held_int (Int j) i h = let e : j ≡ i = cc in ap Int e
held_int (Address a) i h = cc
held_int (Label l) i h = cc
held_int (Empty n) i h = cc

pub held_address : (v : Word) (a : ℕ) → register_word v ≡ Some (EAddress a) → (b : ℕ) × (v ≡ Address b) ×
    (tuple_of b ≡ a)
held_address (Address b) a h = let e : tuple_of b ≡ a = cc in (b, refl, e)
held_address (Int j) a h = cc
held_address (Label l) a h = cc
held_address (Empty n) a h = cc

pub held_label : (v : Word) (l : ℕ) → register_word v ≡ Some (ELabel l) → v ≡ Label l
held_label (Label k) l h = let e : k ≡ l = cc in ap Label e
held_label (Int j) l h = cc
held_label (Address a) l h = cc
held_label (Empty n) l h = cc

pub held_word : (v : Word) (w : EWord) → register_word v ≡ Some w → word v ≡ w
held_word (Int i) w h = cc
held_word (Address a) w h = cc
held_word (Label l) w h = cc
held_word (Empty n) w h = cc

-- a word that is not empty is register_word
pub held_full : (v : Word) (w : EWord) → (w ≡ EEmpty → ⊥) → word v ≡ w → register_word v ≡ Some w
held_full (Int i) w full e = ap Some e
held_full (Address a) w full e = ap Some e
held_full (Label l) w full e = ap Some e
held_full (Empty n) w full e = absurd (full (sym e))

pub is_integer : (v : Word) (i : ℤ) → v ≡ Int i → IsInteger v
is_integer v i e = subst IsInteger (sym e) tt

set_same : (ws : List Word) (d : ℕ) (v : Word) → d < length ws → slice_get (slice_set ws d v) d ≡ Some v
set_same [] d v lt = absurd (omega arith)
set_same (x ∷ ws) zero v lt = refl
set_same (x ∷ ws) (suc d) v lt = set_same ws d v (omega arith)

set_other : (ws : List Word) (d k : ℕ) (v : Word) → k ≢ d → slice_get (slice_set ws d v) k ≡ slice_get ws k
set_other [] d k v apart = refl
set_other (x ∷ ws) zero zero v apart = absurd (apart refl)
set_other (x ∷ ws) zero (suc k) v apart = refl
set_other (x ∷ ws) (suc d) zero v apart = refl
set_other (x ∷ ws) (suc d) (suc k) v apart = set_other ws d k v (λ e. apart (ap suc e))

same_or_not : (r q : ℕ) → (r ≡ q) ⊎ (r ≢ q)
same_or_not r q = ⊎_elim
    (λ (lt : r < q). inr (λ e. omega arith))
    (λ (ge : q ≤ r). ⊎_elim (λ (lt : q < r). inr (λ e. omega arith)) (λ (le : r ≤ q). inl (omega arith)) (cases_lt q r))
    (cases_lt r q)

module _ (m : PlaceList) (ws : List Word) where
  pub reads : (r k : ℕ) (w : EWord) → regs_of m ws r ≡ Some w → register_place m r ≡ Some k →
      (k < length ws) × (register_word (at_place ws k) ≡ Some w)
  reads r k w h e = held_at ws k w (sym (ap (option_and_then (λ j. option_and_then register_word (slice_get ws j))) e) ∙
      h)

  module _ (places : ArePlaces m) (count : length ws ≡ length m) where
    pub in_range : (r k : ℕ) → register_place m r ≡ Some k → k < length ws
    in_range r k e = let lt = places.0 r k e in omega arith

    pub place_in_range : (k : ℕ) (b : TBase) → IsRegisterAt m k b → k < length ws
    place_in_range k b h = in_range h.0 k h.1

    pub operand_in_range : (v : Operand) (b : TBase) → IsBase m v b → InRange (length ws) v
    operand_in_range (O.Register k) b h = place_in_range k b h
    operand_in_range (O.Int i) b h = tt
    operand_in_range (O.Label l) b h = tt
    operand_in_range (O.Data d) b h = tt

    written : (r d : ℕ) (v : Word) (w : EWord) → register_place m r ≡ Some d → register_word v ≡ Some w → (q : ℕ)
        (o : Option ℕ) →
        register_place m q ≡ o → regs_of m (slice_set ws d v) q ≡ cond (nat_eq r q) (Some w) (regs_of m ws q)
    written r d v w e h q None f =
        let apart : r ≢ q = λ s. let z : Some d ≡ None = sym e ∙ ap (register_place m) s ∙ f in cc in
        let test : nat_eq r q ≡ false = grind (arith, nat_tests) in
        ap (option_and_then (λ k. option_and_then register_word (slice_get (slice_set ws d v) k))) f
        ∙ sym (ap (option_and_then (λ k. option_and_then register_word (slice_get ws k))) f)
        ∙ sym (ap (λ b. cond b (Some w) (regs_of m ws q)) test)
    written r d v w e h q (Some k) f = ⊎_elim
        (λ (same : r ≡ q).
        let test : nat_eq r q ≡ true = grind (arith, nat_tests) in
        let z : Some d ≡ Some k = sym e ∙ ap (register_place m) same ∙ f in
        let at : k ≡ d = cc in
        ap (option_and_then (λ j. option_and_then register_word (slice_get (slice_set ws d v) j))) f
        ∙ ap (λ j. option_and_then register_word (slice_get (slice_set ws d v) j)) at
        ∙ ap (option_and_then register_word) (set_same ws d v (in_range r d e)) ∙ h
        ∙ sym (ap (λ b. cond b (Some w) (regs_of m ws q)) test))
        (λ (apart : r ≢ q).
        let test : nat_eq r q ≡ false = grind (arith, nat_tests) in
        let other : k ≢ d = λ z. apart (places.1 r q k (e ∙ ap Some (sym z)) f) in
        ap (option_and_then (λ j. option_and_then register_word (slice_get (slice_set ws d v) j))) f
        ∙ ap (option_and_then register_word) (set_other ws d k v other)
        ∙ sym (ap (option_and_then (λ j. option_and_then register_word (slice_get ws j))) f)
        ∙ sym (ap (λ b. cond b (Some w) (regs_of m ws q)) test))
        (same_or_not r q)

    pub writes : (r d : ℕ) (v : Word) (w : EWord) → register_place m r ≡ Some d → register_word v ≡ Some w →
        with_reg (regs_of m ws) r w ≡ regs_of m (slice_set ws d v)
    writes r d v w e h = fun_ext (λ q. sym (written r d v w e h q (register_place m q) refl))

    pub placed : (k : ℕ) (b : TBase) (w : EWord) → IsRegisterAt m k b → base_word (regs_of m ws) b ≡ Some w →
        register_word (at_place ws k) ≡ Some w
    placed k b w h e = (reads h.0 k w (sym (ap (base_word (regs_of m ws)) h.2) ∙ e) h.1).1

    pub operand : (v : Operand) (b : TBase) (w : EWord) → IsBase m v b → base_word (regs_of m ws) b ≡ Some w →
        register_word (value_of ws v) ≡ Some w
    operand (O.Register k) b w h e = placed k b w h e
    operand (O.Int i) b w h e = sym (ap (base_word (regs_of m ws)) h) ∙ e
    operand (O.Label l) b w h e = sym (ap (base_word (regs_of m ws)) h) ∙ e
    operand (O.Data d) b w h e = sym (ap (base_word (regs_of m ws)) h) ∙ e

    -- an integer comes of what is a number alone
    number_int : (v : ℤ) (b : TBase) (i : ℤ) → (b ≡ tree.Int v) ⊎ IsNoNumber b → base_word (regs_of m ws) b ≡ Some
        (EInt i) → v ≡ i
    number_int v (tree.Int j) i h e = ⊎_elim
        (λ (same : tree.Int j ≡ tree.Int v). cc)
        (λ (none : ⊥). absurd none)
        h
    number_int v (tree.Reg r) i h e = ⊎_elim
        (λ (same : tree.Reg r ≡ tree.Int v). cc)
        (λ (none : ⊥). absurd none)
        h
    number_int v (tree.Label l) i h e = cc
    number_int v (tree.Data d) i h e = cc

    pub number : (v : Number) (b : TBase) (i : ℤ) → IsNumber m v b → base_word (regs_of m ws) b ≡ Some (EInt i) →
        NumberInRange (length ws) v × (number_of ws v ≡ Int i)
    number (N.Register k) b i h e = (place_in_range k b h, held_int (at_place ws k) i (placed k b (EInt i) h e))
    number (N.Int j) b i h e = (tt, ap Int (number_int j b i h e))

pub set_count : (ws : List Word) (d : ℕ) (v : Word) → length (slice_set ws d v) ≡ length ws
set_count [] d v = refl
set_count (x ∷ ws) zero v = refl
set_count (x ∷ ws) (suc d) v = ap suc (set_count ws d v)

-- at first no register has a word
empty_at : (n k : ℕ) → option_and_then register_word (slice_get (replicate n (Empty 0)) k) ≡ None
empty_at zero k = refl
empty_at (suc n) zero = refl
empty_at (suc n) (suc k) = empty_at n k

none_yet : (n : ℕ) (o : Option ℕ) → option_and_then (λ k. option_and_then register_word (slice_get
    (replicate n (Empty 0)) k)) o ≡ None
none_yet n None = refl
none_yet n (Some k) = empty_at n k

pub no_words_yet : (m : PlaceList) (n : ℕ) → no_ewords ≡ regs_of m (replicate n (Empty 0))
no_words_yet m n = fun_ext (λ q. sym (none_yet n (register_place m q)))
