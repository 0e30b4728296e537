-- Tables of how often the places of a program are executed, as a run goes on.
use Rattle.std.proofs.Common.{◌≡◌, ℕ, zero, suc, ◌+◌, ◌-◌, ◌<◌, ◌≤◌, List, [], ◌∷◌, ◌++◌, length, get_or, set}
use Rattle.std.proofs.Common.{replicate}
use Rattle.std.proofs.Common.{true, cond, refl, sym, ap, ◌∙◌, subst, arith}
use Rattle.std.specs.List.{sum, count_by}
use Rattle.std.proofs.lemmas.List.Sums.{sum_by-cons}
use Rattle.std.proofs.lemmas.Bool.Decides.{nat_tests}
use Rattle.t_terms.specs.Tree.{TProg}
use Rattle.t_terms.specs.Whole.{WellFormedProgram}
use Rattle.t_rules.specs.Rules.{Accepted}
use Rattle.t_rules.specs.Machine.{State, Place, Spot, After}
use Rattle.t_rules.specs.Times.{places, is_spot}
use Rattle.t_rules.specs.Erase.{ESeq, EThen, EJmp, EHalt, erase_blocks}
use Rattle.t_collect.specs.declared.word.Word.{Word}
use Rattle.t_machine.specs.Laid.{size, sizes, Within}
use Rattle.t_machine.specs.Along.{Ends, later}
use Rattle.t_machine.specs.ProgramLaws.{ProgramLaws}
use Rattle.t_machine.specs.Runs.{steps_made}
use Rattle.t_machine.specs.State.{Represents}
use Rattle.t_machine.specs.Tables.{last_places, seq_table, blocks_table, table, AreCounts, FirstCounts}
use Rattle.t_machine.specs.Tables.{CountsOn, HasTable, raised}
use Rattle.t_machine.specs.declared.code.Code.{Code}
use Rattle.t_machine.specs.declared.heap.Heap.{Heap}
use Rattle.t_machine.specs.declared.machine.Ran.{Ran}
use Rattle.t_machine.specs.declared.machine.Ran.TheVariants as ran
use Rattle.t_machine.proofs.Placed.{here, stands_at}

-- how often each place is executed, by its block and its index
abbrev Counting : Type 0
Counting = ℕ → ℕ → ℕ

-- ---- numbers of a table

pub get_within_sum : (xs : List ℕ) (k : ℕ) → get_or xs k 0 ≤ sum xs
get_within_sum [] k = omega arith
get_within_sum (x ∷ xs) zero = let all = sum_by-cons (λ (n : ℕ). n) x xs in omega (arith, all)
get_within_sum (x ∷ xs) (suc k) =
    let all = sum_by-cons (λ (n : ℕ). n) x xs in
    let rest = get_within_sum xs k in
    omega (arith, all, rest)

pub sum_more : (xs : List ℕ) (k : ℕ) → k < length xs → sum (set xs k (get_or xs k 0 + 1)) ≡ sum xs + 1
sum_more [] k lt = absurd (omega arith)
sum_more (x ∷ xs) zero lt =
    let all = sum_by-cons (λ (n : ℕ). n) x xs in
    let new = sum_by-cons (λ (n : ℕ). n) (x + 1) xs in
    omega (arith, all, new)
sum_more (x ∷ xs) (suc k) lt =
    let all = sum_by-cons (λ (n : ℕ). n) x xs in
    let new = sum_by-cons (λ (n : ℕ). n) x (set xs k (get_or xs k 0 + 1)) in
    let rest = sum_more xs k (omega arith) in
    omega (arith, all, new, rest)

pub sum_none : (n : ℕ) → sum (replicate n 0) ≡ 0
sum_none zero = refl
sum_none (suc n) = omega (arith, sum_by-cons (λ (k : ℕ). k) 0 (replicate n 0), sum_none n)

-- ---- tables

-- g is f, with 1 more at the place
record Once (f g : Counting) (b i : ℕ) : Type 0 where
  here : g b i ≡ f b i + 1
  apart : (a j : ℕ) → (a ≡ b → j ≡ i → ⊥) → g a j ≡ f a j

seq_same : (f g : Counting) (b i : ℕ) (c : ESeq) → ((j : ℕ) → i ≤ j → g b j ≡ f b j) →
    seq_table g b i c ≡ seq_table f b i c
seq_same f g b i (EThen x c) h =
    ap (λ k. k ∷ seq_table g b (i + 1) c) (h i (omega arith))
    ∙ ap (λ ks. f b i ∷ ks) (seq_same f g b (i + 1) c (λ j le. h j (omega arith)))
seq_same f g b i (EJmp v) h = ap (λ k. k ∷ []) (h i (omega arith))
seq_same f g b i EHalt h = ap (λ k. k ∷ []) (h i (omega arith))

blocks_same : (f g : Counting) (b : ℕ) (cs : List ESeq) → ((a j : ℕ) → b ≤ a → g a j ≡ f a j) →
    blocks_table g b cs ≡ blocks_table f b cs
blocks_same f g b [] h = refl
blocks_same f g b (c ∷ cs) h =
    ap (λ ks. ks ++ blocks_table g (b + 1) cs) (seq_same f g b 0 c (λ j le. h b j (omega arith)))
    ∙ ap (λ ks. seq_table f b 0 c ++ ks) (blocks_same f g (b + 1) cs (λ a j le. h a j (omega arith)))

-- behind the table of a block
raised_behind : (f : Counting) (b i : ℕ) (c : ESeq) (rest : List ℕ) (k : ℕ) →
    raised (seq_table f b i c ++ rest) (size c + k) ≡ seq_table f b i c ++ raised rest k
raised_behind f b i (EThen x c) rest k =
    let one : suc (size c) + k ≡ suc (size c + k) = omega arith in
    ap (raised (f b i ∷ seq_table f b (i + 1) c ++ rest)) one
    ∙ ap (λ ks. f b i ∷ ks) (raised_behind f b (i + 1) c rest k)
raised_behind f b i (EJmp v) rest k =
    let one : 1 + k ≡ suc k = omega arith in
    ap (raised (f b i ∷ rest)) one
raised_behind f b i EHalt rest k =
    let one : 1 + k ≡ suc k = omega arith in
    ap (raised (f b i ∷ rest)) one

-- in the table of a block, the place d places on
raised_in : (f g : Counting) (b i d : ℕ) → Once f g b (i + d) → (c : ESeq) (rest : List ℕ) → d < size c →
    seq_table g b i c ++ rest ≡ raised (seq_table f b i c ++ rest) d
raised_in f g b i zero once (EThen x c) rest lt =
    let at : i + 0 ≡ i = omega arith in
    let one = subst (λ j. g b j ≡ f b j + 1) at once.here in
    ap (λ k. k ∷ (seq_table g b (i + 1) c ++ rest)) one
    ∙ ap (λ ks. (f b i + 1) ∷ (ks ++ rest))
    (seq_same f g b (i + 1) c (λ j le. once.apart b j (λ u v. omega (arith, v))))
raised_in f g b i zero once (EJmp v) rest lt =
    let at : i + 0 ≡ i = omega arith in
    ap (λ k. k ∷ rest) (subst (λ j. g b j ≡ f b j + 1) at once.here)
raised_in f g b i zero once EHalt rest lt =
    let at : i + 0 ≡ i = omega arith in
    ap (λ k. k ∷ rest) (subst (λ j. g b j ≡ f b j + 1) at once.here)
raised_in f g b i (suc d) once (EThen x c) rest lt =
    let on : i + suc d ≡ i + 1 + d = omega arith in
    let here = once.apart b i (λ u v. omega (arith, v)) in
    ap (λ k. k ∷ (seq_table g b (i + 1) c ++ rest)) here
    ∙ ap (λ ks. f b i ∷ ks)
    (raised_in f g b (i + 1) d (subst (λ j. Once f g b j) on once) c rest (omega arith))
raised_in f g b i (suc d) once (EJmp v) rest lt = absurd (omega arith)
raised_in f g b i (suc d) once EHalt rest lt = absurd (omega arith)

-- a place lies behind the blocks before its own
behind_start : (n : ℕ) (cs : List ESeq) (b i at : ℕ) → Within n cs b i at → n ≤ at
behind_start n [] b i at w = absurd w
behind_start n (c ∷ cs) zero i at w = omega (arith, w.1)
behind_start n (c ∷ cs) (suc b) i at w =
    let le = behind_start (n + size c) cs b i at w in
    omega (arith, le)

-- in the table of blocks of which the first has the number a, and begins at n
raised_at : (f g : Counting) (n a : ℕ) (cs : List ESeq) (b i k : ℕ) → Within n cs b i (n + k) →
    Once f g (a + b) i → blocks_table g a cs ≡ raised (blocks_table f a cs) k
raised_at f g n a [] b i k w once = absurd w
raised_at f g n a (c ∷ cs) zero i k w once =
    let at : a + 0 ≡ a = omega arith in
    let index : i ≡ 0 + k = omega (arith, w.1) in
    let here = subst (λ z. Once f g z (0 + k)) at (subst (λ j. Once f g (a + 0) j) index once) in
    ap (λ ks. seq_table g a 0 c ++ ks)
    (blocks_same f g (a + 1) cs (λ z j le. here.apart z j (λ u v. omega (arith, u))))
    ∙ raised_in f g a 0 k here c (blocks_table f (a + 1) cs) (omega (arith, w.0, w.1))
raised_at f g n a (c ∷ cs) (suc b) i k w once =
    let le = behind_start (n + size c) cs b i (n + k) w in
    let on : a + suc b ≡ a + 1 + b = omega arith in
    let far : n + k ≡ n + size c + (k - size c) = omega arith in
    let back : size c + (k - size c) ≡ k = omega arith in
    let later = subst (λ z. Once f g z i) on once in
    let rest = raised_at f g (n + size c) (a + 1) cs b i (k - size c)
    (subst (Within (n + size c) cs b i) far w) later in
    ap (λ ks. ks ++ blocks_table g (a + 1) cs)
    (seq_same f g a 0 c (λ j z. once.apart a j (λ u v. omega (arith, u))))
    ∙ ap (λ ks. seq_table f a 0 c ++ ks) rest
    ∙ sym (raised_behind f a 0 c (blocks_table f (a + 1) cs) (k - size c))
    ∙ ap (raised (blocks_table f a (c ∷ cs))) back

-- ---- steps

-- a place is counted once more where the list has it once more
counted_once : (q : Place) (log : List Place) (b i : ℕ) → q ≡ Spot b i →
    Once (λ a j. count_by (is_spot a j) log) (λ a j. count_by (is_spot a j) (q ∷ log)) b i
counted_once q log b i is = record {
  here =
      let all = sum_by-cons (λ (z : Place). cond (is_spot b i z) 1 0) q log in
      let hit : is_spot b i q ≡ true = ap (is_spot b i) is ∙ same b i in
      let one = ap (λ t. cond {A = ℕ} t 1 0) hit in
      omega (arith, all, one);
  apart = λ a j ne.
      let all = sum_by-cons (λ (z : Place). cond (is_spot a j z) 1 0) q log in
      let none = ap (λ z. cond {A = ℕ} (is_spot a j z) 1 0) is ∙ other b i a j ne in
      omega (arith, all, none);
}
  where
    same : (b i : ℕ) → is_spot b i (Spot b i) ≡ true
    same b i = grind (arith, nat_tests)

    other : (b i a j : ℕ) → (a ≡ b → j ≡ i → ⊥) → cond {A = ℕ} (is_spot a j (Spot b i)) 1 0 ≡ 0
    other b i a j ne = grind (arith, nat_tests, ne)

module _ (P : TProg) where
  -- one step more, from the place at which the program stands
  Raises : ℕ → List ℕ → ℕ → ℕ → Type 0
  Raises n ys m k = AreCounts P n k ys

  pub counts_more : (n m : ℕ) (xs : List ℕ) (b i at : ℕ) → AreCounts P n m xs →
      ((t : State) (q : Place) → After P m t q → q ≡ Spot b i) → Within 0 (erase_blocks P) b i at →
      AreCounts P (n + 1) (m + 1) (raised xs at)
  counts_more n m xs b i at counts place within =
      let one : suc n ≡ n + 1 = omega arith in
      let all : suc m ≡ m + 1 = omega arith in
      subst (λ z. AreCounts P z (m + 1) (raised xs at)) one
      (subst (λ z. AreCounts P (suc n) z (raised xs at)) all here)
    where
      here : AreCounts P (suc n) (suc m) (raised xs at)
      here s p run =
          let log = last_places P n m run.0 run.1 run.3 in
          let from : at ≡ 0 + at = omega arith in
          let block : b ≡ 0 + b = omega arith in
          ap (λ ys. raised ys at) (counts run.0 run.1 run.3)
          ∙ sym (raised_at (λ a j. count_by (is_spot a j) log) (λ a j. count_by (is_spot a j) (run.1 ∷ log)) 0 0
          (erase_blocks P) b i at (subst (Within 0 (erase_blocks P) b i) from within) (subst (λ z.
          Once (λ a j. count_by (is_spot a j) log) (λ a j. count_by (is_spot a j) (run.1 ∷ log)) z i) block
          (counted_once run.1 log b i (place run.0 run.1 run.3))))

  -- no step
  none_in : (b i : ℕ) (c : ESeq) → seq_table (λ a j. 0) b i c ≡ replicate (size c) 0
  none_in b i (EThen x c) = ap (λ ks. 0 ∷ ks) (none_in b (i + 1) c)
  none_in b i (EJmp v) = refl
  none_in b i EHalt = refl

  zeros : ℕ → List ℕ
  zeros n = replicate n 0

  none_both : (m n : ℕ) → zeros m ++ zeros n ≡ zeros (m + n)
  unfolding zeros
  none_both zero n =
      let all : n ≡ 0 + n = omega arith in
      ap zeros all
  none_both (suc m) n =
      let on : suc (m + n) ≡ suc m + n = omega arith in
      ap (λ ks. 0 ∷ ks) (none_both m n) ∙ ap zeros on

  none_in_blocks : (b : ℕ) (cs : List ESeq) → blocks_table (λ a j. 0) b cs ≡ replicate (sizes cs) 0
  unfolding zeros
  none_in_blocks b [] = refl
  none_in_blocks b (c ∷ cs) =
      ap (λ ks. ks ++ blocks_table (λ a j. 0) (b + 1) cs) (none_in b 0 c)
      ∙ ap (λ ks. replicate (size c) 0 ++ ks) (none_in_blocks (b + 1) cs)
      ∙ none_both (size c) (sizes cs)

  pub counts_none : (m : ℕ) (xs : List ℕ) → xs ≡ replicate (sizes (erase_blocks P)) 0 → AreCounts P 0 m xs
  counts_none m xs is s p run = is ∙ sym (none_in_blocks 0 (erase_blocks P))

-- all steps
all_places : (P : TProg) (m : ℕ) (s : State) (p : Place) (run : After P m s p) →
    last_places P m m s p run ≡ places P m s p run
all_places P zero s p run = refl
all_places P (suc m) s p run = ap (λ log. run.1 ∷ log) (all_places P m run.0 run.1 run.3)

pub first_counts : FirstCounts
first_counts P m xs counts s p run =
    let all : 0 + m ≡ m = omega arith in
    subst (λ k. AreCounts P m k xs) all counts s p run
    ∙ ap (λ (log : List Place). table (λ b i. count_by (is_spot b i) log) P) (all_places P m s p run)

-- ---- runs

abbrev Shown : Heap → List Word → Code → ℕ → ℕ → Heap → List Word → ℕ → Type 0
Shown x ws code at k y us to =
    (P : TProg) → WellFormedProgram P → Accepted P → (m : ℕ) → Represents P m x ws code at →
    Represents P (m + k) y us code to

pub on_none : (x : Heap) (ws : List Word) (code : Code) (at : ℕ) (xs : List ℕ) → CountsOn x ws code at 0 xs xs
on_none x ws code at xs = record {
  counts = λ P whole acc n m s counts.
      let a : n ≡ n + 0 = omega arith in
      let b : m ≡ m + 0 = omega arith in
      subst (λ k. AreCounts P k (m + 0) xs) a (subst (λ k. AreCounts P n k xs) b counts);
  sum = omega arith;
}

-- one step more
pub on_more : (laws : ProgramLaws) (x : Heap) (ws : List Word) (code : Code) (at k : ℕ) (y : Heap) (us : List Word)
    (to : ℕ) (xs ys : List ℕ) → Shown x ws code at k y us to → CountsOn x ws code at k xs ys → to < length ys →
    CountsOn x ws code at (k + 1) xs (raised ys to)
on_more laws x ws code at k y us to xs ys shown on lt =
    let more = sum_more ys to lt in
    let before = on.sum in
    record {
      counts = λ P whole acc n m s counts.
          let t = shown P whole acc m s in
          let a : n + k + 1 ≡ n + (k + 1) = omega arith in
          let b : m + k + 1 ≡ m + (k + 1) = omega arith in
          subst (λ z. AreCounts P z (m + (k + 1)) (raised ys to)) a
          (subst (λ z. AreCounts P (n + k + 1) z (raised ys to)) b
          (counts_more P (n + k) (m + k) ys t.block t.index to (on.counts P whole acc n m s counts)
          (stands_at laws P (m + k) y us code to t) (here laws P (m + k) y us code to t)));
      sum = omega (arith, more, before);
    }

-- steps, and those after them
pub on_then : (x : Heap) (ws : List Word) (code : Code) (at k j : ℕ) (y : Heap) (us : List Word) (to : ℕ)
    (xs ys zs : List ℕ) → Shown x ws code at k y us to → CountsOn x ws code at k xs ys →
    CountsOn y us code to j ys zs → CountsOn x ws code at (k + j) xs zs
on_then x ws code at k j y us to xs ys zs shown first then' =
    let one = first.sum in
    let two = then'.sum in
    record {
      counts = λ P whole acc n m s counts.
          let a : n + k + j ≡ n + (k + j) = omega arith in
          let b : m + k + j ≡ m + (k + j) = omega arith in
          subst (λ z. AreCounts P z (m + (k + j)) zs) a (subst (λ z. AreCounts P (n + k + j) z zs) b
          (then'.counts P whole acc (n + k) (m + k) (shown P whole acc m s) (first.counts P whole acc n m s counts)));
      sum = omega (arith, one, two);
    }

-- where a machine stands for the same as before
pub on_same : (x : Heap) (ws : List Word) (code : Code) (at k : ℕ) (y : Heap) (us : List Word) (xs ys : List ℕ) →
    ((P : TProg) (m : ℕ) → Represents P m x ws code at → Represents P m y us code at) → CountsOn y us code at k xs ys →
    CountsOn x ws code at k xs ys
on_same x ws code at k y us xs ys same on = record {
  counts = λ P whole acc n m s counts. on.counts P whole acc n m (same P m s) counts;
  sum = on.sum;
}

-- where no step is left
pub on_none_left : (x : Heap) (ws : List Word) (code : Code) (at made : ℕ) (xs : List ℕ) →
    CountsOn x ws code at (made - made) xs xs
on_none_left x ws code at made xs =
    let none : 0 ≡ made - made = omega arith in
    subst (λ j. CountsOn x ws code at j xs xs) none (on_none x ws code at xs)

-- the steps of a run that goes on after so many
pub left_made : (budget made : ℕ) (r : Ran) → steps_made (budget - made) r ≡ steps_made budget (later made r) - made
left_made budget made (ran.Halted i n) = omega arith
left_made budget made ran.Spent = refl
left_made budget made (ran.NoMemory n) = omega arith

pub more_made : (budget made : ℕ) (r : Ran) → made ≤ budget → made ≤ steps_made budget (later made r)
more_made budget made (ran.Halted i n) le = omega arith
more_made budget made ran.Spent le = le
more_made budget made (ran.NoMemory n) le = omega arith

-- A run that wanted memory after so many steps, and then went on.
pub resumed_table : (x : Heap) (ws : List Word) (code : Code) (at budget made : ℕ) (r : Ran) → r ≡ ran.NoMemory made →
    (y : Heap) (us : List Word) (to : ℕ) (xs ys zs : List ℕ) (more : Ran) → Ends x ws code at budget r y us to →
    made ≤ steps_made budget more → CountsOn x ws code at (steps_made budget r) xs ys →
    CountsOn y us code to (steps_made budget more - made) ys zs → CountsOn x ws code at (steps_made budget more) xs zs
resumed_table x ws code at budget made r is y us to xs ys zs more ends le first then' =
    let j = steps_made budget more - made in
    let all : made + j ≡ steps_made budget more = omega (arith, le) in
    let same = subst (λ z. Ends x ws code at budget z y us to) is ends in
    subst (λ k. CountsOn x ws code at k xs zs) all
    (on_then x ws code at made j y us to xs ys zs (λ P whole acc m s. (same P whole acc m s).stands)
    (subst (λ z. CountsOn x ws code at (steps_made budget z) xs ys) is first) then')

-- ---- a table of zeros

pub no_table : (code : Code) (budget n : ℕ) (xs : List ℕ) → xs ≡ replicate n 0 → n ≡ length code.instructions.items →
    budget < 18446744073709551616 → HasTable code budget xs
no_table code budget n xs is count few =
    let none : sum xs ≡ 0 = ap sum is ∙ sum_none n in
    record {
      sized = ap (λ ys. length ys) is ∙ zeros n ∙ count;
      room = omega (arith, none, few);
    }
  where
    zeros : (k : ℕ) → length (replicate {A = ℕ} k 0) ≡ k
    zeros zero = refl
    zeros (suc k) = ap suc (zeros k)

pub counted_all : (x : Heap) (ws : List Word) (code : Code) (at k n : ℕ) (xs ys : List ℕ) →
    CountsOn x ws code at k xs ys → xs ≡ replicate n 0 → sum ys ≡ k
counted_all x ws code at k n xs ys on is =
    let none : sum xs ≡ 0 = ap sum is ∙ sum_none n in
    let all = on.sum in
    omega (arith, none, all)

pub counted_first : (x : Heap) (ws : List Word) (code : Code) (at k n : ℕ) (xs ys : List ℕ) →
    CountsOn x ws code at k xs ys → xs ≡ replicate n 0 → n ≡ length code.instructions.items →
    (P : TProg) → WellFormedProgram P → Accepted P → (m : ℕ) → Represents P m x ws code at → AreCounts P k (m + k) ys
counted_first x ws code at k n xs ys on is count P whole acc m s =
    let all : n ≡ sizes (erase_blocks P) = count ∙ s.machine.laid.1 in
    let from : 0 + k ≡ k = omega arith in
    subst (λ j. AreCounts P j (m + k) ys) from
    (on.counts P whole acc 0 m s (counts_none P m xs (is ∙ ap (λ j. replicate j 0) all)))
