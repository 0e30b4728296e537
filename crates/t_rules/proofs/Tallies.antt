-- A run weighs no more than its places allow: each place of the program is tallied as often as it is executed.
use Rattle.std.proofs.Common.{◌≡◌, ℕ, zero, suc, ◌+◌, ◌*◌, ◌≤◌, true, cond, List, [], ◌∷◌, map, Some, None}
use Rattle.std.proofs.Common.{refl, ap, subst, arith, slice_get, option_and_then}
use Rattle.std.specs.Prelude.{count_by}
use Rattle.std.proofs.Math.Nat.{mul-le-mul_right}
use Rattle.std.proofs.lemmas.Bool.Decides.{nat_tests}
use Rattle.t_terms.specs.Tree.{Jmp, Halt, TSeq, Then, Ends, TBlock, TProg}
use Rattle.t_rules.specs.Machine.{State, At, Where, Step, Place, Spot, After}
use Rattle.t_rules.specs.Times.{places, is_spot, seq_size, blocks_size}
use Rattle.t_rules.specs.Erase.{EInstr, ESeq, EThen, EJmp, EHalt, erase, erase_seq, erase_block, erase_blocks}
use Rattle.t_rules.specs.Erase.{drop_seq, seq_at}
use Rattle.t_rules.specs.LawsErased.{seq_of}
use Rattle.t_rules.specs.LawsTimes.{RunsWithinTimes, RunsWeighWithinTimes}
use Rattle.t_rules.specs.Weights.{next_weight, seq_weight, blocks_weight, run_weight}
use Rattle.t_rules.proofs.Counts.{count_more}
use Rattle.t_rules.proofs.Lock.{placed}

-- how often each place is executed, by its block and its index
abbrev Counting : Type 0
Counting = ℕ → ℕ → ℕ

abbrev NoFewer : Counting → Counting → Type 0
NoFewer k l = (b i : ℕ) → k b i ≤ l b i

nowhere : {y : ESeq} → None ≡ Some y → ⊥
nowhere e = cc

module _ (w : EInstr → ℕ) (j : ℕ) where
  -- what the places of block b from index i on weigh, each as often as it is executed
  abbrev tally : Counting → ℕ → ℕ → ESeq → ℕ
  tally k b i (EThen x r) = k b i * w x + tally k b (i + 1) r
  tally k b i (EJmp v) = k b i * j
  tally k b i EHalt = 0

  -- and those of the blocks from number b on
  abbrev tallies : Counting → ℕ → List ESeq → ℕ
  tallies k b [] = 0
  tallies k b (c ∷ cs) = tally k b 0 c + tallies k (b + 1) cs

  tally_within : (k : Counting) (n : ℕ) → ((b i : ℕ) → k b i ≤ n) → (b i : ℕ) (c : ESeq) →
      tally k b i c ≤ n * seq_weight w j c
  tally_within k n h b i (EThen x r) =
      let here = mul-le-mul_right (w x) (h b i) in
      let rest = tally_within k n h b (i + 1) r in
      omega (arith, here, rest)
  tally_within k n h b i (EJmp v) = mul-le-mul_right j (h b i)
  tally_within k n h b i EHalt = omega arith

  tallies_within : (k : Counting) (n : ℕ) → ((b i : ℕ) → k b i ≤ n) → (b : ℕ) (cs : List ESeq) →
      tallies k b cs ≤ n * blocks_weight w j cs
  tallies_within k n h b [] = omega arith
  tallies_within k n h b (c ∷ cs) =
      let here = tally_within k n h b 0 c in
      let rest = tallies_within k n h (b + 1) cs in
      omega (arith, here, rest)

  -- no place less often
  tally_more : (k l : Counting) → NoFewer k l → (b i : ℕ) (c : ESeq) → tally k b i c ≤ tally l b i c
  tally_more k l h b i (EThen x r) =
      let here = mul-le-mul_right (w x) (h b i) in
      let rest = tally_more k l h b (i + 1) r in
      omega (arith, here, rest)
  tally_more k l h b i (EJmp v) = mul-le-mul_right j (h b i)
  tally_more k l h b i EHalt = omega arith

  tallies_more : (k l : Counting) → NoFewer k l → (b : ℕ) (cs : List ESeq) → tallies k b cs ≤ tallies l b cs
  tallies_more k l h b [] = omega arith
  tallies_more k l h b (c ∷ cs) =
      let here = tally_more k l h b 0 c in
      let rest = tallies_more k l h (b + 1) cs in
      omega (arith, here, rest)

  -- the place d instructions on once more
  tally_hit : (k l : Counting) → NoFewer k l → (b i d : ℕ) → k b (i + d) + 1 ≤ l b (i + d) → (c y : ESeq) →
      drop_seq d c ≡ Some y → tally k b i c + next_weight w j y ≤ tally l b i c
  tally_hit k l h b i zero more (EThen x r) y e =
      let same : EThen x r ≡ y = cc in
      let weight = ap (next_weight w j) same in
      let at : i + 0 ≡ i = omega arith in
      let here = mul-le-mul_right (w x) (subst (λ a. k b a + 1 ≤ l b a) at more) in
      let rest = tally_more k l h b (i + 1) r in
      omega (arith, weight, here, rest)
  tally_hit k l h b i zero more (EJmp v) y e =
      let same : EJmp v ≡ y = cc in
      let weight = ap (next_weight w j) same in
      let at : i + 0 ≡ i = omega arith in
      let here = mul-le-mul_right j (subst (λ a. k b a + 1 ≤ l b a) at more) in
      omega (arith, weight, here)
  tally_hit k l h b i zero more EHalt y e =
      let same : EHalt ≡ y = cc in
      let weight = ap (next_weight w j) same in
      omega (arith, weight)
  tally_hit k l h b i (suc d) more (EThen x r) y e =
      let on : i + suc d ≡ i + 1 + d = omega arith in
      let here = mul-le-mul_right (w x) (h b i) in
      let rest = tally_hit k l h b (i + 1) d (subst (λ a. k b a + 1 ≤ l b a) on more) r y e in
      omega (arith, here, rest)
  tally_hit k l h b i (suc d) more (EJmp v) y e = absurd (nowhere e)
  tally_hit k l h b i (suc d) more EHalt y e = absurd (nowhere e)

  tallies_hit : (k l : Counting) → NoFewer k l → (b a d : ℕ) → k (b + a) d + 1 ≤ l (b + a) d →
      (cs : List ESeq) (y : ESeq) → option_and_then (drop_seq d) (slice_get cs a) ≡ Some y →
      tallies k b cs + next_weight w j y ≤ tallies l b cs
  tallies_hit k l h b a d more [] y e = absurd (nowhere e)
  tallies_hit k l h b zero d more (c ∷ cs) y e =
      let at : b + 0 ≡ b = omega arith in
      let from : d ≡ 0 + d = omega arith in
      let once = subst (λ z. k b z + 1 ≤ l b z) from (subst (λ z. k z d + 1 ≤ l z d) at more) in
      let here = tally_hit k l h b 0 d once c y e in
      let rest = tallies_more k l h (b + 1) cs in
      omega (arith, here, rest)
  tallies_hit k l h b (suc a) d more (c ∷ cs) y e =
      let on : b + suc a ≡ b + 1 + a = omega arith in
      let here = tally_more k l h b 0 c in
      let rest = tallies_hit k l h (b + 1) a d (subst (λ z. k z d + 1 ≤ l z d) on more) cs y e in
      omega (arith, here, rest)

  -- how often each place stands in a list
  abbrev counts : List Place → Counting
  counts log b i = count_by (is_spot b i) log

  one_more : (P : TProg) (log : List Place) (q : Place) (y : ESeq) → seq_at (erase_blocks P) q ≡ Some y →
      tallies (counts log) 0 (erase_blocks P) + next_weight w j y ≤ tallies (counts (q ∷ log)) 0 (erase_blocks P)
  one_more P log (Spot b i) y e =
      let at : b ≡ 0 + b = omega arith in
      let hit : is_spot b i (Spot b i) ≡ true = grind (arith, nat_tests) in
      let one = ap (λ z. cond {A = ℕ} z 1 0) hit in
      let own = count_more (is_spot b i) (Spot b i) log in
      let once : counts log b i + 1 ≤ counts (Spot b i ∷ log) b i = omega (arith, one, own) in
      tallies_hit (counts log) (counts (Spot b i ∷ log))
      (λ a d. let more = count_more (is_spot a d) (Spot b i) log in omega (arith, more)) 0 b i
      (subst (λ a. counts log a i + 1 ≤ counts (Spot b i ∷ log) a i) at once) (erase_blocks P) y e

  -- each step is tallied at its place
  weighed : (P : TProg) (m : ℕ) (s : State) (p : Place) (run : After P m s p) →
      run_weight w j P m s p run ≤ tallies (counts (places P m s p run)) 0 (erase_blocks P)
  weighed P zero s p run = omega arith
  weighed P (suc m) s p run =
      let before = weighed P m run.0 run.1 run.3 in
      let one =
      one_more P (places P m run.0 run.1 run.3) run.1 (seq_of (erase run.0)) (placed P m run.0 run.1 run.3) in
      omega (arith, before, one)

pub runs_weigh_within_times : RunsWeighWithinTimes
runs_weigh_within_times w j P m s p run n h =
    let all = weighed w j P m s p run in
    let each = tallies_within w j (counts w j (places P m s p run)) n h 0 (erase_blocks P) in
    omega (arith, all, each)

-- where each instruction and jump weighs 1, a run weighs what it has steps
step_weighs : (P : TProg) (s : State) (k : Where) (t : State) → Step P s k t →
    next_weight (λ _. 1) 1 (seq_of (erase s)) ≡ 1
step_weighs P (At h r (Then i c)) k t step = refl
step_weighs P (At h r (Ends (Jmp v))) k t step = refl
step_weighs P (At h r (Ends Halt)) k t step = absurd step

steps_weigh : (P : TProg) (m : ℕ) (s : State) (p : Place) (run : After P m s p) →
    run_weight (λ _. 1) 1 P m s p run ≡ m
steps_weigh P zero s p run = refl
steps_weigh P (suc m) s p run =
    omega (arith, steps_weigh P m run.0 run.1 run.3, step_weighs P run.0 run.2 s run.4)

-- and a program what it has instructions and jumps
seq_weighs : (c : TSeq) → seq_weight (λ _. 1) 1 (erase_seq c) ≡ seq_size c
seq_weighs (Then i c) = omega (arith, seq_weighs c)
seq_weighs (Ends (Jmp v)) = refl
seq_weighs (Ends Halt) = refl

blocks_weigh : (bs : List TBlock) → blocks_weight (λ _. 1) 1 (map erase_block bs) ≡ blocks_size bs
blocks_weigh [] = refl
blocks_weigh (b ∷ bs) = omega (arith, seq_weighs b.code, blocks_weigh bs)

pub runs_within_times : RunsWithinTimes
runs_within_times P m s p run n h =
    subst (λ k. k ≤ n * blocks_size P.blocks) (steps_weigh P m s p run)
    (subst (λ k. run_weight (λ _. 1) 1 P m s p run ≤ n * k) (blocks_weigh P.blocks)
    (runs_weigh_within_times (λ _. 1) 1 P m s p run n h))
