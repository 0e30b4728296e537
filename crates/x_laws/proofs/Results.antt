-- A process of compiled code is one of the program that its word code means.
use Rattle.std.proofs.Common.{◌≡◌, ◌⊎◌, ℕ, ℤ, List, [], ◌∷◌, Some, refl, subst, inl, inr, slice_get}
use Rattle.x_terms.specs.Machine.{Image, State, Answer, Call, Outcome, Next, Exits as Ended, Stuck, run}
use Rattle.x_terms.specs.Process.{Ends, EndsWithLine, EndsFull, EndedSo, IsSound, IsProcessOf}
use Rattle.x_laws.specs.Homes.{Home}
use Rattle.x_laws.specs.Laws.{places, held_words, IsCompiled, EndsLike, ToldLike, IsAllowed, BehavesAs, MeansSo}
use Rattle.x_laws.specs.Laws.{CompiledCodeBehaves}
use Rattle.w_terms.specs.Tree.{WSeq, WProg}
use Rattle.w_terms.specs.Machine.{WRegs, Written, Put, Exits}

module _ (halts : ℤ → Type 0) (line : ℤ → List ℕ) (full_line : List ℕ) (place : ℕ → ℕ) (p : WProg) (r : WRegs)
    (means : MeansSo halts line full_line place p r) where
  abbrev Meant : ℕ → List Written → Type 0
  Meant status out =
      ((i : ℤ) × halts i × (status ≡ 0) × (out ≡ Put 1 (line i) ∷ []))
      ⊎ ((status ≡ 7) × (out ≡ Put 2 full_line ∷ []))

  told : (t : State) (status : ℕ) (out : List Written) → ToldLike out t.calls → Meant status out →
      IsSound halts line full_line (Next t)
  told t status out h (inl g) =
      inr (inl (g.0, g.1, subst (λ o. ToldLike o t.calls) g.3 h))
  told t status out h (inr g) = inr (inr (subst (λ o. ToldLike o t.calls) g.1 h))

  by_line : (i : ℤ) (k : ℕ) (calls : List Call) → halts i → EndsLike 0 (Put 1 (line i) ∷ []) k calls →
      EndedSo halts line full_line k calls
  by_line i k calls h (inl e) = inl (i, h, e.0, e.1)
  by_line i k calls h (inr e) = inr (inl (i, h, e.0, e.1))

  by_full : (k : ℕ) (calls : List Call) → EndsLike 7 (Put 2 full_line ∷ []) k calls →
      EndedSo halts line full_line k calls
  by_full k calls (inl e) = inr (inr (e.0, inl e.1))
  by_full k calls (inr e) = inr (inr (e.0, inr e.1))

  meant : (status : ℕ) (out : List Written) (a : ℕ) (x : List Written) (k : ℕ) (calls : List Call) →
      status ≡ a → out ≡ x → EndsLike status out k calls → EndsLike a x k calls
  meant status out a x k calls e f h =
      subst (λ o. EndsLike a o k calls) f (subst (λ j. EndsLike j out k calls) e h)

  ended : (status : ℕ) (out : List Written) (k : ℕ) (calls : List Call) → EndsLike status out k calls →
      Meant status out → EndedSo halts line full_line k calls
  ended status out k calls h (inl g) =
      by_line g.0 k calls g.1 (meant status out 0 (Put 1 (line g.0) ∷ []) k calls g.2 g.3 h)
  ended status out k calls h (inr g) =
      by_full k calls (meant status out 7 (Put 2 full_line ∷ []) k calls g.0 g.1 h)

  sound : (o : Outcome) → IsAllowed place p r o → IsSound halts line full_line o
  sound (Next t) (inl e) = inl e
  sound (Next t) (inr g) = told t g.0 g.1 g.3 (means.back g.0 g.1 g.2)
  sound (Ended k calls) g = ended g.0 g.1 k calls g.3 (means.back g.0 g.1 g.2)
  sound Stuck g = g

  module _ (m : Image) (s : State) (world : ℕ → Answer) where
    ends_as : (k j : ℕ) (calls : List Call) → k ≡ j → Ends m world s k calls → Ends m world s j calls
    ends_as k j calls e h = subst (λ a. Ends m world s a calls) e h

    with_line : (i : ℤ) (k : ℕ) (calls : List Call) → Ends m world s k calls →
        EndsLike 0 (Put 1 (line i) ∷ []) k calls → EndsWithLine m world s (line i)
    with_line i k calls h (inl e) = inl (calls, ends_as k 0 calls e.0 h, e.1)
    with_line i k calls h (inr e) = inr (calls, ends_as k 6 calls e.0 h, e.1)

    when_full : (k : ℕ) (calls : List Call) → Ends m world s k calls → EndsLike 7 (Put 2 full_line ∷ []) k calls →
        EndsFull m world s full_line
    when_full k calls h (inl e) = (calls, ends_as k 7 calls e.0 h, inl e.1)
    when_full k calls h (inr e) = (calls, ends_as k 7 calls e.0 h, inr e.1)

    forth_by : (i : ℤ) → BehavesAs place p r m s →
        Exits place p r 0 (Put 1 (line i) ∷ []) ⊎ Exits place p r 7 (Put 2 full_line ∷ []) →
        EndsWithLine m world s (line i) ⊎ EndsFull m world s full_line
    forth_by i b (inl e) =
        let g = b.forth world 0 (Put 1 (line i) ∷ []) e in inl (with_line i g.0 g.1 g.2 g.3)
    forth_by i b (inr e) =
        let g = b.forth world 7 (Put 2 full_line ∷ []) e in inr (when_full g.0 g.1 g.2 g.3)

    goes_by : ((i : ℤ) → halts i → ⊥) → (k : ℕ) (o : Outcome) → run m world k s ≡ o → IsSound halts line full_line o →
        ((t : State) × (run m world k s ≡ Next t)) ⊎ EndsFull m world s full_line
    goes_by never k (Next t) e h = inl (t, e)
    goes_by never k (Ended status calls) e (inl g) = absurd (never g.0 g.1)
    goes_by never k (Ended status calls) e (inr (inl g)) = absurd (never g.0 g.1)
    goes_by never k (Ended status calls) e (inr (inr g)) =
        inr (calls, ends_as status 7 calls g.0 (k, e), g.1)
    goes_by never k Stuck e h = absurd h

  process : (m : Image) (s : State) → BehavesAs place p r m s → IsProcessOf halts line full_line m s
  process m s b = record {
    back = λ world k. sound (run m world k s) (b.back world k);
    forth = λ world i h. forth_by m s world i b (means.forth i h);
    goes_on = λ world never k.
        let o : Outcome = run m world k s in goes_by m s world never k o refl (sound o (b.back world k));
  }

-- from what word code means to what the process does
pub is_process : CompiledCodeBehaves → (halts : ℤ → Type 0) (line : ℤ → List ℕ) (full_line : List ℕ) (m : Image) (n : ℕ)
    (homes : ℕ → Home) (p : WProg) (s : State) → IsCompiled m n homes p s → (c : WSeq) →
    slice_get p.blocks 0 ≡ Some c → MeansSo halts line full_line (places m homes p) p (held_words homes s) →
    IsProcessOf halts line full_line m s
is_process law halts line full_line m n homes p s h c first means =
    process halts line full_line (places m homes p) p (held_words homes s) means m s
    (law m n homes p s h c first means.goes_on)
