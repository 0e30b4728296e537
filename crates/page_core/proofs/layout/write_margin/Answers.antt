use Rattle.std.proofs.Common.{◌≡◌, ℕ, List, [], ◌∷◌, ◌++◌, ◌+◌, ◌*◌, replicate, ap, ◌∙◌, append_assoc, arith}
use Rattle.std.proofs.lemmas.List.{replicate-append-replicate}
use Rattle.page_core.proofs.layout.write_margin.Goals as goal

-- one more level
level_more : (old text next : List ℕ) (n : ℕ) → text ≡ old ++ replicate (2 * n) 32 → next ≡ text ++ 32 ∷ (32 ∷ []) →
    next ≡ old ++ replicate (2 * (n + 1)) 32
level_more old text next n e f =
    let m : 2 * n + 2 ≡ 2 * (n + 1) = omega arith in
    f ∙ ap (λ s. s ++ 32 ∷ (32 ∷ [])) e ∙ append_assoc old (replicate (2 * n) 32) (32 ∷ (32 ∷ [])) ∙ ap (λ s. old ++ s)
    (replicate-append-replicate (2 * n) 2 32 ∙ ap (λ k. replicate k 32) m)

pub loop-preserved : goal.loop-preserved
loop-preserved c = record {
  text = level_more _ _ _ c.loop.counter c.loop.invariant.text c.in_ok-extend_from_slice.ensures.items;
  within = omega (arith, c.loop-test.true, c.min-end.ensures);
}
