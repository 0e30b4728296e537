-- Which block of an assembly program comes from which allocated block, and that no other block is executed.
use Rattle.std.proofs.Common.{◌≡◌, ℕ, zero, suc, ◌+◌, ◌<◌, ◌≤◌, ◌==◌, cond, List, [], ◌∷◌, length, map, Some, None}
use Rattle.std.proofs.Common.{refl, ◌∙◌, subst, arith, ◌⊎◌, inl, inr, ⊎_elim, slice_get, option_and_then}
use Rattle.std.specs.Prelude.{count_by}
use Rattle.std.proofs.lemmas.Bool.{cases_lt}
use Rattle.std.proofs.lemmas.List.Sums.{sum_by-cons}
use Rattle.std.proofs.lemmas.Bool.Decides.{nat_tests}
use Rattle.a_terms.specs.Tree.{ABlk, ATm, AProg}
use Rattle.a_terms.specs.Bound.{thirds, all_thirds}
use Rattle.t_terms.specs.Tree.{TBlock, TProg}
use Rattle.t_rules.specs.Machine.{State, Where, Next, Into, Place, Spot, moved, After}
use Rattle.t_rules.specs.Times.{places, entered_by, entries, is_spot, Times, Entries}
use Rattle.t_rules.specs.Erase.{ESeq, erase, erase_block, erase_blocks, drop_seq}
use Rattle.t_rules.specs.LawsErased.{StandsAt, seq_of}
use Rattle.t_gen_laws.specs.Counting.{first_of, first_third, MadeOf}
use Rattle.t_gen_laws.specs.Correct.{FromMain}

nowhere : (y : ESeq) → None ≡ Some y → ⊥
nowhere y e = cc

within : (bs : List TBlock) (b i : ℕ) (y : ESeq) → option_and_then (drop_seq i) (slice_get (map erase_block bs) b)
    ≡ Some y → b < length bs
within [] b i y e = absurd (nowhere y e)
within (x ∷ bs) zero i y e = omega arith
within (x ∷ bs) (suc b) i y e = let r = within bs b i y e in omega (arith, r)

not_here : (q : Place) (block index n : ℕ) → ((b i : ℕ) → q ≡ Spot b i → b < n) → n ≤ block →
    cond {A = ℕ} (is_spot block index q) 1 0 ≡ 0
not_here (Spot b i) block index n h le = let lt = h b i refl in grind (arith, lt, le, nat_tests)

-- a block that is not there is never executed
pub absent : StandsAt → (P : TProg) (m : ℕ) (s : State) (p : Place) (run : After P m s p) (block index : ℕ) →
    length P.blocks ≤ block → Times P m s p run block index ≡ 0
absent stands P zero s p run block index le = refl
absent stands P (suc m) s p run block index le =
    let rest = absent stands P m run.0 run.1 run.3 block index le in
    let here = not_here run.1 block index (length P.blocks) there le in
    let more = sum_by-cons (λ y. cond (is_spot block index y) 1 0) run.1 (places P m run.0 run.1 run.3) in
    omega (arith, rest, here, more)
  where
    there : (b i : ℕ) → run.1 ≡ Spot b i → b < length P.blocks
    there b i e =
        within P.blocks b i (seq_of (erase run.0))
        (stands P m (erase_blocks P) (erase run.0) (Spot b i)
        (refl, (run.0, subst (λ q. After P m run.0 q) e run.3, refl)))

-- nor entered
not_entered : (l block n : ℕ) → l < n → n ≤ block → cond {A = ℕ} (l == block) 1 0 ≡ 0
not_entered l block n lt le = grind (arith, lt, le, nat_tests)

into_is : (q : Place) (l : ℕ) → moved q (Into l) ≡ Spot l 0
into_is (Spot b i) l = refl

stands_there : StandsAt → (P : TProg) (m : ℕ) (s : State) (p : Place) (run : After P m s p) (b i : ℕ) → p ≡ Spot b i →
    b < length P.blocks
stands_there stands P m s p run b i e =
    within P.blocks b i (seq_of (erase s))
    (stands P m (erase_blocks P) (erase s) (Spot b i) (refl, (s, subst (λ q. After P m s q) e run, refl)))

pub absent_entries : StandsAt → (P : TProg) (m : ℕ) (s : State) (p : Place) (run : After P m s p) (block : ℕ) →
    length P.blocks ≤ block → Entries P m s p run block ≡ 0
absent_entries stands P zero s p run block le =
    let lt = stands_there stands P zero s p run 0 0 run.1 in
    let here = not_entered 0 block (length P.blocks) lt le in
    let more = sum_by-cons (λ l. cond (l == block) 1 0) 0 [] in
    omega (arith, here, more)
absent_entries stands P (suc m) s p run block le = go (absent_entries stands P m run.0 run.1 run.3 block le) run.2 run.5
  where
    go : Entries P m run.0 run.1 run.3 block ≡ 0 → (k : Where) → p ≡ moved run.1 k →
        count_by (λ l. l == block) (entered_by k (entries P m run.0 run.1 run.3)) ≡ 0
    go rest Next e = rest
    go rest (Into l) e =
        let lt = stands_there stands P (suc m) s p run l 0 (e ∙ into_is run.1 l) in
        let here = not_entered l block (length P.blocks) lt le in
        let more = sum_by-cons (λ k. cond (k == block) 1 0) l (entries P m run.0 run.1 run.3) in
        omega (arith, rest, here, more)

pub record Found (bs : List ABlk) (at k : ℕ) : Type 0 where
  pub label : ℕ
  pub block : ABlk
  pub made : MadeOf bs at k label block

-- a number among those of the third parts is one of some block
third : (bs : List ABlk) (at k : ℕ) → at ≤ k → k < at + all_thirds bs →
    (l : ℕ) × (b : ABlk) × (slice_get bs l ≡ Some b) × (first_of bs at l ≤ k) × (k < first_of bs at l + thirds b.body)
third [] at k le lt = absurd (omega (arith, le, lt))
third (b ∷ bs) at k le lt = ⊎_elim
    (λ (h : k < at + thirds b.body). (0, b, refl, le, h))
    (λ (h : at + thirds b.body ≤ k). let r = third bs (at + thirds b.body) k h (omega (arith, lt)) in
    (suc r.0, r.1, r.2, r.3, r.4))
    (cases_lt k (at + thirds b.body))

own : (bs : List ABlk) (l : ℕ) → l < length bs → (b : ABlk) × (slice_get bs l ≡ Some b)
own [] l lt = absurd (omega (arith, lt))
own (b ∷ bs) zero lt = (b, refl)
own (b ∷ bs) (suc l) lt = own bs l (omega (arith, lt))

-- each block is of the main term, or of an allocated block, or not there
pub each_block : (p : AProg) (main : ATm) (k : ℕ) → FromMain p main k ⊎ Found p.blocks (first_third p main) k
    ⊎ (suc (length p.blocks) + thirds main + all_thirds p.blocks ≤ k)
each_block p main zero = inl (omega arith, inl refl)
each_block p main (suc k) = ⊎_elim
    (λ (h : k < length p.blocks). let r = own p.blocks k h in
    inr (inl (record { label = k; block = r.0; made = record { there = r.1; own = inl refl } })))
    (λ (h : length p.blocks ≤ k). ⊎_elim
    (λ (a : suc k < first_third p main). inl (a, inr (omega (arith, h))))
    (λ (a : first_third p main ≤ suc k). ⊎_elim
    (λ (c : suc k < first_third p main + all_thirds p.blocks). let r = third p.blocks (first_third p main)
    (suc k) a c in
    inr (inl (record { label = r.0; block = r.1; made = record { there = r.2; own = inr (r.3, r.4) } })))
    (λ (c : first_third p main + all_thirds p.blocks ≤ suc k). inr (inr c))
    (cases_lt (suc k) (first_third p main + all_thirds p.blocks)))
    (cases_lt (suc k) (first_third p main)))
    (cases_lt k (length p.blocks))
