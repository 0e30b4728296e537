-- A compiled program weighs what the term weighs, and has as many blocks as the term says.
use Rattle.std.proofs.Common.{ℕ, ◌≡◌, ◌+◌, false, [], length, ap, arith}
use Rattle.f_terms.specs.Tm.{Term}
use Rattle.k_terms.specs.K.{KTm}
use Rattle.k_terms.specs.Size.{codes_t}
use Rattle.k_terms.proofs.Numbers.{next_t}
use Rattle.k_laws.specs.Annotate.{cps_term}
use Rattle.k_laws.specs.Sites.{sites}
use Rattle.c_terms.specs.C.{CTm, ct_next}
use Rattle.c_rules.specs.Close.{close_of, no_scope}
use Rattle.c_laws.proofs.Numbers as closing
use Rattle.h_terms.specs.H.{HBlks, HTm}
use Rattle.h_pass.specs.Hoist.{Nobody, blocks_of, main_of}
use Rattle.h_pass.proofs.Hoisting.{len_t}
use Rattle.a_terms.specs.Tree.{ATm, AProg}
use Rattle.a_terms.specs.Bound.{thirds, all_thirds}
use Rattle.a_laws.specs.Allocate.{alloc_prog, alloc_main, n_all}
use Rattle.t_terms.specs.Tree.{TProg}
use Rattle.t_gen_rules.specs.Gen.{generated}
use Rattle.t_gen_laws.specs.Layout.{LaidOut}
use Rattle.t_spill_rules.specs.Spill.{spilled}
use Rattle.pipeline.specs.Weights.{Weights, term_weight, blocks_weight}
use Rattle.pipeline.specs.Work.{only_choices, choices, HasBlocks, SameWeights, FramedWork}
use Rattle.pipeline.proofs.WeightsConverted.{k_t, converted_weight}
use Rattle.pipeline.proofs.WeightsClosed.{c_t, closed_weight}
use Rattle.pipeline.proofs.WeightsHoisted.{h_t, h_all, hoisted_weight}
use Rattle.pipeline.proofs.WeightsAllocated.{a_t, a_all, allocated_term, allocated_blocks, only_thirds, only_all_thirds}
use Rattle.pipeline.proofs.WeightsGenerated.{generated_weight}
use Rattle.pipeline.proofs.WeightsSpilled.{spilled_weight, one_more}
use Rattle.a_laws.proofs.Thirds.{length_all as same_length}

module _ (e : Term) (k : KTm) (c : CTm) (ks : HBlks) (t : HTm) (p : AProg) (main : ATm) (P : TProg)
    (is_k : k ≡ cps_term e) (is_c : c ≡ close_of k) (is_ks : ks ≡ blocks_of c) (is_t : t ≡ main_of c)
    (is_p : p ≡ alloc_prog ks t) (is_main : main ≡ alloc_main ks t) (is_P : P ≡ generated p main) where
  module _ (w : Weights) where
    of_hoisted : h_t w t + h_all w ks ≡ term_weight w false e + w.halting
    of_hoisted =
        let a = ap (h_t w) is_t in
        let b = ap (h_all w) is_ks in
        let d = hoisted_weight w c Nobody 0 0 in
        let f = ap (c_t w) is_c in
        let g = closed_weight w k in
        let h = ap (k_t w) is_k in
        let i = converted_weight w e in
        omega (arith, a, b, d, f, g, h, i)

    of_allocated : a_t w main + a_all w p.blocks ≡ term_weight w false e + w.halting
    of_allocated =
        let a = ap (a_t w) is_main in
        let b = allocated_term w t ks [] [] (n_all 0 ks) 0 in
        let d = ap (λ (x : AProg). a_all w x.blocks) is_p in
        let f = allocated_blocks w ks ks 0 in
        let g = of_hoisted in
        omega (arith, a, b, d, f, g)

    of_generated : blocks_weight w P.blocks ≡ term_weight w false e + w.halting
    of_generated =
        let a = ap (λ (x : TProg). blocks_weight w x.blocks) is_P in
        let b = generated_weight w p main in
        let d = of_allocated in
        omega (arith, a, b, d)

  pub same_weights : SameWeights e P
  same_weights w = of_generated w

  -- the third parts are those of the term's choices
  thirds_are : thirds main + all_thirds p.blocks ≡ choices e
  thirds_are =
      let a = only_thirds main in
      let b = only_all_thirds p.blocks in
      let d = of_allocated only_choices in
      omega (arith, a, b, d)

  -- the blocks are the codes of the converted term
  codes_are : length p.blocks ≡ codes_t k
  codes_are =
      let x = ap (λ (x : AProg). length x.blocks) is_p in
      let y = same_length ks ks 0 in
      let a = ap length is_ks in
      let b = len_t c 0 in
      let d = ap (ct_next 0) is_c in
      let f = closing.t_next k no_scope 0 in
      let g = next_t k 0 in
      omega (arith, x, y, a, b, d, f, g)

  pub blocks_counted : LaidOut → codes_t k ≡ sites false e → HasBlocks e P
  blocks_counted laid codes =
      let a = ap (λ (x : TProg). length x.blocks) is_P in
      let b = (laid p main).count in
      omega (arith, a, b, thirds_are, codes_are, codes)

-- a program that gets frames
pub framed : (k : ℕ) (e : Term) (P Q : TProg) → Q ≡ spilled k P → HasBlocks e P → SameWeights e P → FramedWork e Q
framed k e P Q is work weights =
    let same = ap (λ (x : TProg). length x.blocks) is in
    let more = one_more k P in
    record {
      blocks = omega (arith, same, more, work);
      weights = λ w.
          let a = ap (λ (x : TProg). blocks_weight w x.blocks) is in
          let b = spilled_weight w k P in
          let d = weights w in
          omega (arith, a, b, d);
    }
