-- One token more among those that are kept.
use Rattle.std.proofs.Common.{◌≡◌, ◌≢◌, ◌<◌, ◌==◌, ◌||◌, ℕ, ◌+◌, Bool, true, false, List, [], ◌∷◌, ◌++◌, length}
use Rattle.std.proofs.Common.{get_or, map, refl, ◌∙◌, arith}
use Rattle.std.specs.Prelude.{nat_lt, not, if◌then◌else◌}
use Rattle.std.specs.List.{list_all}
use Rattle.std.proofs.lemmas.Bool.{ltb-true, ltb-false, eqb-true, and_parts}
use Rattle.std.proofs.lemmas.List.{get_or_append_left, map_push, length_push}
use Rattle.std.proofs.Math.Seq.{get_or-append_seam}
use Rattle.t_text.specs.declared.token.Token.{Token}
use Rattle.t_text.specs.declared.kept.Word.{Word}
use Rattle.t_text.specs.Kept.{token_in, short_token, nothing, reaches}

pub long_in : (xs : List Token) (w : Word) → w.length ≡ 0 → token_in xs w ≡ get_or xs w.start nothing
unfolding token_in
long_in xs w e = rw e refl

pub short_in : (xs : List Token) (w : Word) → w.length ≢ 0 → token_in xs w ≡ short_token w
unfolding token_in
short_in xs w n = go (w.length == 0) refl
  where
    go : (b : Bool) → (w.length == 0) ≡ b → (if b then get_or xs w.start nothing else short_token w) ≡ short_token w
    go true e = absurd (n (eqb-true w.length 0 e))
    go false e = refl

-- the word stands for the same token, and for one of the first n + 1
same_token : (xs : List Token) (x : Token) (w : Word) → reaches (length xs) w ≡ true →
    token_in (xs ++ x ∷ []) w ≡ token_in xs w
unfolding token_in reaches
same_token xs x w r = go (w.length == 0) refl r
  where
    go : (b : Bool) → (w.length == 0) ≡ b → (not b || nat_lt w.start (length xs)) ≡ true →
        (if b then get_or (xs ++ x ∷ []) w.start nothing else short_token w)
        ≡ (if b then get_or xs w.start nothing else short_token w)
    go true e h = get_or_append_left xs (x ∷ []) nothing w.start (ltb-true w.start (length xs) h)
    go false e h = refl

lt_is : (a b : ℕ) → a < b → nat_lt a b ≡ true
lt_is a b h = go (nat_lt a b) refl
  where
    go : (x : Bool) → nat_lt a b ≡ x → x ≡ true
    go true q = refl
    go false q = let r = ltb-false a b q in absurd (omega (arith, r, h))

lt_more : (a n : ℕ) → nat_lt a n ≡ true → nat_lt a (n + 1) ≡ true
lt_more a n h = let r = ltb-true a n h in lt_is a (n + 1) (omega (arith, r))

reaches_more : (n : ℕ) (w : Word) → reaches n w ≡ true → reaches (n + 1) w ≡ true
unfolding reaches
reaches_more n w r = go (not (w.length == 0)) r
  where
    go : (b : Bool) → (b || nat_lt w.start n) ≡ true → (b || nat_lt w.start (n + 1)) ≡ true
    go true h = refl
    go false h = lt_more w.start n h

-- words that stand for the first n long tokens, with one more word behind them
all_more : (n : ℕ) (ws : List Word) (w : Word) → list_all (λ (v : Word). reaches n v) ws ≡ true →
    reaches n w ≡ true → list_all (λ (v : Word). reaches n v) (ws ++ w ∷ []) ≡ true
all_more n [] w h r = rw r refl
all_more n (v ∷ ws) w h r =
    let (p, q) = and_parts (reaches n v) (list_all (λ (v : Word). reaches n v) ws) h in
    rw (p, all_more n ws w q r) refl

all_reach_more : (n : ℕ) (ws : List Word) → list_all (λ (v : Word). reaches n v) ws ≡ true →
    list_all (λ (v : Word). reaches (n + 1) v) ws ≡ true
all_reach_more n [] h = refl
all_reach_more n (v ∷ ws) h =
    let (p, q) = and_parts (reaches n v) (list_all (λ (v : Word). reaches n v) ws) h in
    rw (reaches_more n v p, all_reach_more n ws q) refl

same_tokens : (xs : List Token) (x : Token) (ws : List Word) →
    list_all (λ (v : Word). reaches (length xs) v) ws ≡ true →
    map (λ (v : Word). token_in (xs ++ x ∷ []) v) ws ≡ map (λ (v : Word). token_in xs v) ws
same_tokens xs x [] h = refl
same_tokens xs x (v ∷ ws) h =
    let (p, q) = and_parts (reaches (length xs) v) (list_all (λ (v : Word). reaches (length xs) v) ws) h in
    rw (same_token xs x v p, same_tokens xs x ws q) refl

pub short_kept : (xs : List Token) (ws : List Word) (w : Word) → w.length ≢ 0 →
    list_all (λ (v : Word). reaches (length xs) v) ws ≡ true →
    (list_all (λ (v : Word). reaches (length xs) v) (ws ++ w ∷ []) ≡ true)
    × (map (λ (v : Word). token_in xs v) (ws ++ w ∷ []) ≡ map (λ (v : Word). token_in xs v) ws ++ short_token w ∷ [])
unfolding reaches
short_kept xs ws w n h =
    (all_more (length xs) ws w h r, map_push (λ (v : Word). token_in xs v) ws w ∙ rw (short_in xs w n) refl)
  where
    r : reaches (length xs) w ≡ true
    r = go (w.length == 0) refl
      where
        go : (b : Bool) → (w.length == 0) ≡ b → (not b || nat_lt w.start (length xs)) ≡ true
        go true e = absurd (n (eqb-true w.length 0 e))
        go false e = refl

pub long_kept : (xs : List Token) (x : Token) (ws : List Word) (w : Word) → w.length ≡ 0 → w.start ≡ length xs →
    list_all (λ (v : Word). reaches (length xs) v) ws ≡ true →
    (list_all (λ (v : Word). reaches (length (xs ++ x ∷ [])) v) (ws ++ w ∷ []) ≡ true)
    × (map (λ (v : Word). token_in (xs ++ x ∷ []) v) (ws ++ w ∷ []) ≡ map (λ (v : Word). token_in xs v) ws ++ x ∷ [])
unfolding reaches
long_kept xs x ws w e s h = (rw len (all_more (length xs + 1) ws w (all_reach_more (length xs) ws h) r), words)
  where
    len : length (xs ++ x ∷ []) ≡ length xs + 1
    len = length_push xs x

    r : reaches (length xs + 1) w ≡ true
    r = rw (e, s) (lt_is (length xs) (length xs + 1) (omega arith))

    is : token_in (xs ++ x ∷ []) w ≡ x
    is = long_in (xs ++ x ∷ []) w e ∙ (rw s (get_or-append_seam xs x [] nothing))

    words : map (λ (v : Word). token_in (xs ++ x ∷ []) v) (ws ++ w ∷ [])
        ≡ map (λ (v : Word). token_in xs v) ws ++ x ∷ []
    words = map_push (λ (v : Word). token_in (xs ++ x ∷ []) v) ws w ∙ rw (same_tokens xs x ws h, is) refl
