-- A walk through a text, item by item.
use Rattle.std.proofs.Common.{◌≡◌, ◌≤◌, ◌<◌, ℕ, ◌+◌, ◌-◌, List, [], ◌∷◌, ◌++◌, length, drop, get_or, refl, sym, ◌∙◌}
use Rattle.std.proofs.Common.{ap, subst, arith, append_assoc}
use Rattle.std.proofs.lemmas.List.{append-nil, drop-drop}
use Rattle.std.proofs.Math.ListN.{drop_of_length-le}
use Rattle.text_core.specs.Tokens.{Tokens, Item, Gap, Spelling, Nothing, Next, Cut, c_end, c_gap, c_token, Reaches}
use Rattle.text_core.specs.Tokens.{r_here, r_gap, r_token, NoToken, OutOfRange, w_none, w_bounds, FirstWrong, HasSigns}
use Rattle.text_core.specs.Lexeme.{item, Within}
use Rattle.text_core.proofs.Runs.{here}
use Rattle.text_core.proofs.Items.{some_next}

-- what a walk keeps that has come to the place at with these tokens
pub record SoFar (g : Tokens) (text : List ℕ) (at : ℕ) (out : List g.Token) : Type 0 where
  pub cut : (w : List g.Token) → Cut g at (drop at text) w → Cut g 0 text (out ++ w)
  pub reached : (j : ℕ) (r : List ℕ) → Reaches g at (drop at text) j r → Reaches g 0 text j r

pub start : (g : Tokens) (t : List ℕ) → SoFar g t 0 []
start g t = record { cut = λ w c. c; reached = λ j r x. x }

pub finish : (g : Tokens) (t : List ℕ) (i : ℕ) (out : List g.Token) → SoFar g t i out → length t ≤ i → Cut g 0 t out
finish g t i out h l =
    let d : drop i t ≡ [] = drop_of_length-le t l in
    let c : Cut g i (drop i t) [] = rw d c_end in
    let x : Cut g 0 t (out ++ []) = h.cut [] c in rw append-nil at x

module _ (g : Tokens) (signs : HasSigns g) (t : List ℕ) (i : ℕ) (out : List g.Token) (h : SoFar g t i out)
    (l : i < length t) where
  next_at : (x : Item g.Kind) → item g (drop i t) ≡ x → Next g (drop i t) x
  next_at x e =
      rw (here t i l)
      (subst (λ (y : Item g.Kind). Next g (get_or t i 0 ∷ drop (i + 1) t) y)
      (ap (λ (w : List ℕ). item g w) (sym (here t i l)) ∙ e) (some_next g signs (get_or t i 0) (drop (i + 1) t)))

  pub skip : (j : ℕ) → Within t i j → item g (drop i t) ≡ Gap (j - i) → SoFar g t j out
  skip j b e =
      let q : j ≡ i + (j - i) = let f = b.forward in omega arith in
      record {
        cut = λ w c. h.cut w (c_gap (next_at (Gap (j - i)) e) (rw (drop-drop (j - i) i t, ← q) c));
        reached = λ k r x. h.reached k r (r_gap (next_at (Gap (j - i)) e) (rw (drop-drop (j - i) i t, ← q) x));
      }

  pub read : (j : ℕ) (k : g.Kind) → Within t i j → item g (drop i t) ≡ Spelling k (j - i) → g.Keeps k →
      SoFar g t j (out ++ g.token k i j ∷ [])
  read j k b e x =
      let q : j ≡ i + (j - i) = let f = b.forward in omega arith in
      record {
        cut = λ w c. rw (append_assoc out (g.token k i j ∷ []) w)
            (h.cut (g.token k i j ∷ w) (subst (λ (n : ℕ). Cut g i (drop i t) (g.token k i n ∷ w)) (sym q)
            (c_token (next_at (Spelling k (j - i)) e) x (rw (drop-drop (j - i) i t, ← q) c))));
        reached =
            λ m r y. h.reached m r (r_token (next_at (Spelling k (j - i)) e) x (rw (drop-drop (j - i) i t, ← q) y));
      }

  pub bad : item g (drop i t) ≡ Nothing → FirstWrong g t NoToken i (i + 1)
  bad e = record {
    rest = drop i t;
    length = 1;
    reached = h.reached i (drop i t) r_here;
    wrong = w_none (next_at Nothing e);
    ends = refl;
  }

  pub large : (j : ℕ) (k : g.Kind) → Within t i j → item g (drop i t) ≡ Spelling k (j - i) → ¬ g.Keeps k →
      FirstWrong g t OutOfRange i j
  large j k b e x =
      record {
        rest = drop i t;
        length = j - i;
        reached = h.reached i (drop i t) r_here;
        wrong = w_bounds (next_at (Spelling k (j - i)) e) x;
        ends = let f = b.forward in omega arith;
      }
