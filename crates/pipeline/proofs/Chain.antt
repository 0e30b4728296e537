-- What the passes keep, from the source to the machine.
use Rattle.std.proofs.Common.{◌≡◌, ◌↔◌, ℕ, suc, ℤ, ◌+◌, ◌≤◌, List, [], ◌∷◌, length, refl, sym, ap, ◌∙◌, arith, ◌⊎◌}
use Rattle.std.proofs.Common.{⊎_elim}
use Rattle.f_terms.specs.Tm.{Term}
use Rattle.calc_core.specs.Ends.{End, Halted, Spent, Stuck}
use Rattle.k_terms.specs.K.{KTm}
use Rattle.k_terms.specs.Meaning.{krun}
use Rattle.k_laws.specs.Count as K
use Rattle.k_laws.specs.Correct.{Kept}
use Rattle.c_terms.specs.C.{CTm}
use Rattle.c_terms.specs.Meaning.{crun}
use Rattle.h_terms.specs.H.{HBlks, HTm}
use Rattle.h_terms.specs.Meaning.{hrun}
use Rattle.a_terms.specs.Tree.{ATm, AProg}
use Rattle.a_terms.specs.Bound.{thirds, all_thirds}
use Rattle.a_terms.specs.Meaning as A
use Rattle.a_laws.specs.Statements.{onto_log, finish, ends}
use Rattle.t_terms.specs.Tree.{TProg}
use Rattle.t_rules.specs.LawsErased.{StandsAt}
use Rattle.t_rules.specs.LawsTimes.{RunsWithinTimes}
use Rattle.t_gen_laws.specs.Counting.{count, log_of, first_third}
use Rattle.t_gen_laws.specs.Correct.{FromMain, Keeps}
use Rattle.pipeline.specs.Meaning.{SameMeaning, RunsSeldom, EntersSeldom, HaltsSoon}
use Rattle.pipeline.proofs.Blocks.{Found, each_block, absent, absent_entries}

count_onto : (k : ℕ) (bs log : List ℕ) → count k (onto_log bs log) ≡ K.count k bs + count k log
count_onto k [] log = omega arith
count_onto k (b ∷ bs) log = let r = count_onto k bs (b ∷ log) in omega (arith, r)

log_is : (e : End) (log : List ℕ) → log_of (finish e log) ≡ log
log_is (Halted i) log = refl
log_is Spent log = refl
log_is Stuck log = refl

finish_halted : (e : End) (log other : List ℕ) (i : ℤ) → finish e log ≡ A.Halted i other → e ≡ Halted i
finish_halted (Halted j) log other i e = cc
finish_halted Spent log other i e = absurd (impossible e)
  where
    impossible : A.Spent log ≡ A.Halted i other → ⊥
    impossible q = cc
finish_halted Stuck log other i e = absurd (impossible e)
  where
    impossible : A.Wrong log ≡ A.Halted i other → ⊥
    impossible q = cc

-- what each pass says of its own result, from the source term e to the program P
module _ (e : Term) (k : KTm) (c : CTm) (ks : HBlks) (t : HTm) (p : AProg) (main : ATm) (P : TProg) (kept : Kept e k)
    (closed : (n : ℕ) (i : ℤ) → (crun n c).end ≡ Halted i ↔ (krun n k).end ≡ Halted i)
    (codes : (n : ℕ) → (crun n c).entered ≡ (krun n k).entered) (hoisted : (n : ℕ) → hrun n ks t ≡ crun n c)
    (allocated : (n : ℕ) → A.meaning p main n ≡ ends [] (hrun n ks t)) (made : Keeps p main P) where
  -- the meaning, from the closed calculus to the allocated one
  same : (m : ℕ) → A.meaning p main m ≡ ends [] (crun m c)
  same m = allocated m ∙ ap (ends []) (hoisted m)

  entries : (m l : ℕ) → count l (log_of (A.meaning p main m)) ≡ K.count l (krun m k).entered
  entries m l =
      let r = crun m c in
      let x = ap (λ a. count l (log_of a)) (same m) in
      let y = ap (count l) (log_is r.end (onto_log r.entered [])) in
      let z = count_onto l r.entered [] in
      let w = ap (K.count l) (codes m) in
      omega (arith, x, y, z, w)

  pub same_meaning : SameMeaning e P
  same_meaning = record {
    forth = λ n i ev.
        (let r = kept.forth n i ev in
        made.forth r.0 i (onto_log (crun r.0 c).entered [])
        (same r.0 ∙ ap (λ x. finish x (onto_log (crun r.0 c).entered [])) ((closed r.0 i).1 r.1)));
    back = λ n i h.
        (let r = made.back n i h in
        kept.back n i
        ((closed n i).0 (finish_halted (crun n c).end (onto_log (crun n c).entered []) r.0 i (sym (same n) ∙ r.1))));
  }

  pub seldom : StandsAt → length P.blocks ≡ suc (length p.blocks) + thirds main + all_thirds p.blocks → RunsSeldom e P
  seldom stands long n i ev m s q run block index = ⊎_elim
      (λ (h : FromMain p main block). let x = made.main_places m s q run block index h in omega (arith, x))
      (λ (h : Found p.blocks (first_third p main) block
      ⊎ (suc (length p.blocks) + thirds main + all_thirds p.blocks ≤ block)). ⊎_elim
      (λ (f : Found p.blocks (first_third p main) block).
      let x = made.places m s q run block f.label index f.block f.made in
      let y = entries m f.label in
      let z = kept.seldom n i m f.label ev in
      omega (arith, x, y, z))
      (λ (f : suc (length p.blocks) + thirds main + all_thirds p.blocks ≤ block).
      let x = absent stands P m s q run block index (omega (arith, f, long)) in
      omega (arith, x))
      h)
      (each_block p main block)

  pub entered : StandsAt → length P.blocks ≡ suc (length p.blocks) + thirds main + all_thirds p.blocks →
      EntersSeldom e P
  entered stands long n i ev m s q run block = ⊎_elim
      (λ (h : FromMain p main block). let x = made.main_entries m s q run block h in omega (arith, x))
      (λ (h : Found p.blocks (first_third p main) block
      ⊎ (suc (length p.blocks) + thirds main + all_thirds p.blocks ≤ block)). ⊎_elim
      (λ (f : Found p.blocks (first_third p main) block).
      let x = made.entries m s q run block f.label f.block f.made in
      let y = entries m f.label in
      let z = kept.seldom n i m f.label ev in
      omega (arith, x, y, z))
      (λ (f : suc (length p.blocks) + thirds main + all_thirds p.blocks ≤ block).
      let x = absent_entries stands P m s q run block (omega (arith, f, long)) in
      omega (arith, x))
      h)
      (each_block p main block)

-- a program that runs no place often halts soon
pub soon : (e : Term) (P : TProg) → RunsWithinTimes → SameMeaning e P → RunsSeldom e P → HaltsSoon e P
soon e P within means runs n i ev =
    let r = means.forth n i ev in
    let h = r.1 in
    (h.0, within P h.0 h.2.0 h.2.1 h.2.2 (n + 1) (λ block index. runs n i ev h.0 h.2.0 h.2.1 h.2.2 block index), h.2)
