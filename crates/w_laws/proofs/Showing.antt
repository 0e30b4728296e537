-- What a program does keeps that word code shows its state.
use Rattle.std.proofs.Common.{◌≡◌, ◌≢◌, ℕ, ◌+◌, ◌*◌, ◌<◌, ◌≤◌, ◌^◌, nat_eq, cond, true, false, List, [], ◌∷◌, ◌++◌}
use Rattle.std.proofs.Common.{length}
use Rattle.std.proofs.Common.{Some, sym, ap, ◌∙◌, subst, arith, slice_get, slice_set, replicate, inl, inr, ◌⊎◌}
use Rattle.std.proofs.lemmas.Bool.Decides.{eqb_tells}
use Rattle.t_terms.specs.Registers.{with_reg}
use Rattle.t_rules.specs.Erase.{EWord, EEmpty, EHeap, ERegs}
use Rattle.w_terms.specs.Machine.{WRegs, Memory, with_word}
use Rattle.w_terms.proofs.Machine.{written_apart}
use Rattle.w_rooms.specs.Numbers.{reg, limit_reg, bytes}
use Rattle.w_rooms.proofs.Keeping as keeping
use Rattle.w_laws.specs.Shows.{Zone, IsWord, Shows}

module _ (place : ℕ → ℕ) (zone : Zone) (at : ℕ → ℕ) (h : EHeap) (r : ERegs) (R : WRegs) (m : Memory)
    (is : Shows place zone at h r R m) where
  pub limit_small : R limit_reg < 2 ^ 62
  limit_small =
      let a = is.represents.window_high in
      let b = is.represents.used.high in
      let c = is.represents.layout.queue_order in
      let d = is.represents.layout.top_order in
      let e = is.represents.layout.small in
      omega (arith, a, b, c, d, e)

  -- other registers with the same words
  pub regs_alike : (S : WRegs) → ((q : ℕ) → S (reg q) ≡ R (reg q)) → S 0 ≡ R 0 → S 1 ≡ R 1 → S 5 ≡ R 5 → S 6 ≡ R 6 →
      Shows place zone at h r S m
  regs_alike S same e0 e1 e5 e6 = record {
    represents = keeping.alike place zone.layout zone.fixed at h r r R S m is.represents
        (λ q w e. subst (IsWord place zone at (length h) w) (sym (same q)) (is.represents.regs q w e)) e0 e1 e5 e6;
    named = is.named;
    still = is.still;
  }

  -- a register for the moment is written
  pub own_put : (k n : ℕ) → 2 ≤ k → k < 5 → Shows place zone at h r (with_word R k n) m
  own_put k n ge lt = record {
    represents = keeping.own_put place zone.layout zone.fixed at h r R m k n ge lt is.represents;
    named = is.named;
    still = is.still;
  }

  -- a register of the program is written
  pub put : (rd : ℕ) (w : EWord) (n : ℕ) → rd < zone.many → IsWord place zone at (length h) w n →
      Shows place zone at h (with_reg r rd w) (with_word R (reg rd) n) m
  put rd w n lt word = record {
    represents = keeping.put place zone.layout zone.fixed at h r R m rd w n word is.represents;
    named = λ q v e. by_register q v e (eqb_tells rd q);
    still = is.still;
  }
    where
      by_register : (q : ℕ) (v : EWord) → with_reg r rd w q ≡ Some v →
          ((nat_eq rd q ≡ true) × (rd ≡ q)) ⊎ ((nat_eq rd q ≡ false) × (rd ≢ q)) → q < zone.many
      by_register q v e (inl p) = subst (λ z. z < zone.many) p.1 lt
      by_register q v e (inr p) = is.named q v (sym (ap (λ b. cond b (Some w) (r q)) p.0) ∙ e)

  -- a field is written
  pub stored : (a i : ℕ) (ws : List EWord) → slice_get h a ≡ Some ws → i < length ws → (w : EWord) (n : ℕ) →
      IsWord place zone at (length h) w n →
      Shows place zone at (slice_set h a (slice_set ws i w)) r R (with_word m (at a + 8 * i) (Some n))
  stored a i ws there within w n word = record {
    represents = keeping.stored place zone.layout zone.fixed at h r R m is.represents a i ws there within w n word;
    named = is.named;
    still = λ x lt.
        let low = (keeping.inside place zone.layout zone.fixed at h r R m is.represents a i (ws, there, within)).0 in
        written_apart m (at a + 8 * i) (Some n) x (λ e. omega (arith, e, lt, low)) ∙ is.still x lt;
  }

  -- a tuple of n fields is taken from free memory, and room for s fields
  pub taken : (n s : ℕ) → 1 ≤ s → n ≤ s → R 0 + bytes s ≤ R 1 → zone.fixed ≤ length h →
      Shows place zone (with_word at (length h) (R 0 + 8)) (h ++ replicate n EEmpty ∷ []) r
      (with_word R 0 (R 0 + bytes s)) (with_word m (R 0) (Some n))
  taken n s some fits room fit = record {
    represents = keeping.taken place zone.layout zone.fixed at h r R m is.represents n s some fits room fit;
    named = is.named;
    still = λ x lt.
        let low = is.represents.window_low in
        let a = is.represents.layout.roots_order in
        let b = is.represents.layout.base_order in
        written_apart m (R 0) (Some n) x (λ e. omega (arith, e, lt, low, a, b)) ∙ is.still x lt;
  }
