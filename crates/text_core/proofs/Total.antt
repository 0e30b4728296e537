-- Every text is cut into tokens or has a first fault in them, where the bounds on a token's value can be tested.
use Rattle.std.proofs.Common.{◌≡◌, ◌<◌, ◌≤◌, ◌⊎◌, inl, inr, ℕ, zero, suc, ◌+◌, List, [], ◌∷◌, length, drop, refl, arith}
use Rattle.std.proofs.lemmas.List.{length-drop}
use Rattle.text_core.specs.Tokens.{Tokens, Item, Gap, Spelling, Nothing, Next, n_gap, n_spelling, n_nothing, Cut}
use Rattle.text_core.specs.Tokens.{c_end, c_gap, c_token, Reaches, r_here, r_gap, r_token, Reason, NoToken, OutOfRange}
use Rattle.text_core.specs.Tokens.{Wrong, w_none, w_bounds, FirstWrong, HasSigns}
use Rattle.text_core.specs.Lexeme.{item}
use Rattle.text_core.proofs.Once.{gap_long, spelling_long}
use Rattle.text_core.proofs.Items.{some_next}

module _ (g : Tokens) (signs : HasSigns g) (bounds : (k : g.Kind) → g.Keeps k ⊎ (g.Keeps k → ⊥)) where
  -- an item takes a byte at least
  gap_takes : {s : List ℕ} {x : Item g.Kind} → Next g s x → (n : ℕ) → x ≡ Gap n → 0 < n
  gap_takes (n_gap {u} {r} h) n e = let l = gap_long u r h in let same : length u ≡ n = cc in omega (arith, same)
  gap_takes (n_spelling m l) n e = absurd (cc)
  gap_takes (n_nothing z m f) n e = absurd (cc)

  spelling_takes : {s : List ℕ} {x : Item g.Kind} → Next g s x → (k : g.Kind) (n : ℕ) → x ≡ Spelling k n → 0 < n
  spelling_takes (n_gap h) k n e = absurd (cc)
  spelling_takes (n_spelling {u} {r} {k} m l) j n e =
      let o = spelling_long g u k l.spells in let same : length u ≡ n = cc in omega (arith, same)
  spelling_takes (n_nothing z m f) k n e = absurd (cc)

  -- what is wrong first from the place i on
  record Fault (i : ℕ) (s : List ℕ) : Type 0 where
    why : Reason
    start : ℕ
    rest : List ℕ
    length : ℕ
    reached : Reaches g i s start rest
    wrong : Wrong g rest why length

  abbrev Decided : ℕ → List ℕ → Type 0
  Decided i s = ((w : List g.Token) × Cut g i s w) ⊎ Fault i s

  after_gap : (i n : ℕ) (s : List ℕ) → Next g s (Gap n) → Decided (i + n) (drop n s) → Decided i s
  after_gap i n s h (inl (w, c)) = inl (w, c_gap h c)
  after_gap i n s h (inr f) =
      inr (record {
        why = f.why;
        start = f.start;
        rest = f.rest;
        length = f.length;
        reached = r_gap h f.reached;
        wrong = f.wrong;
      })

  after_token : (i n : ℕ) (s : List ℕ) (k : g.Kind) → Next g s (Spelling k n) → g.Keeps k →
      Decided (i + n) (drop n s) → Decided i s
  after_token i n s k h b (inl (w, c)) = inl (g.token k i (i + n) ∷ w, c_token h b c)
  after_token i n s k h b (inr f) =
      inr (record {
        why = f.why;
        start = f.start;
        rest = f.rest;
        length = f.length;
        reached = r_token h b f.reached;
        wrong = f.wrong;
      })

  by_item : (i : ℕ) (s : List ℕ) (x : Item g.Kind) → Next g s x → ((n : ℕ) → 0 < n → Decided (i + n) (drop n s)) →
      Decided i s
  by_item i s (Gap n) h f = after_gap i n s h (f n (gap_takes h n refl))
  by_item i s (Spelling k n) h f = by_bounds (bounds k)
    where
      by_bounds : g.Keeps k ⊎ (g.Keeps k → ⊥) → Decided i s
      by_bounds (inl b) = after_token i n s k h b (f n (spelling_takes h k n refl))
      by_bounds (inr b) =
          inr (record { why = OutOfRange; start = i; rest = s; length = n; reached = r_here; wrong = w_bounds h b })
  by_item i s Nothing h f =
      inr (record { why = NoToken; start = i; rest = s; length = 1; reached = r_here; wrong = w_none h })

  decided : (bytes i : ℕ) (s : List ℕ) → length s ≤ bytes → Decided i s
  decided bytes i [] le = inl ([], c_end)
  decided zero i (b ∷ s) le = absurd (omega arith)
  decided (suc bytes) i (b ∷ s) le =
      by_item i (b ∷ s) (item g (b ∷ s)) (some_next g signs b s)
      (λ n l. decided bytes (i + n) (drop n (b ∷ s)) (omega (arith, length-drop n (b ∷ s))))

  pub cut_or_wrong : (text : List ℕ) → ((w : List g.Token) × Cut g 0 text w)
      ⊎ ((why : Reason) × (start : ℕ) × (end : ℕ) × FirstWrong g text why start end)
  cut_or_wrong text = by_case (decided (length text) 0 text (omega arith))
    where
      by_case : Decided 0 text → ((w : List g.Token) × Cut g 0 text w)
          ⊎ ((why : Reason) × (start : ℕ) × (end : ℕ) × FirstWrong g text why start end)
      by_case (inl c) = inl c
      by_case (inr f) =
          inr (
            f.why,
            f.start,
            f.start + f.length,
            record { rest = f.rest; length = f.length; reached = f.reached; wrong = f.wrong; ends = refl },
          )
