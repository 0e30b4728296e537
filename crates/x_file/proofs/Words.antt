-- Data that are words: each stands at its address, and zeros behind them.
use Rattle.std.proofs.Common.{◌≡◌, ℕ, zero, suc, ◌+◌, ◌-◌, ◌*◌, List, [], ◌∷◌, ◌++◌, take, drop, get_or, ap, ◌∙◌}
use Rattle.std.proofs.Common.{arith, sym, append_assoc, drop_of_length-le, replicate}
use Rattle.std.proofs.lemmas.List.{drop-drop, replicate-append-replicate}
use Rattle.x_terms.specs.Machine.{State}
use Rattle.x_terms.specs.Elf.{le, IsStart}
use Rattle.x_file.specs.File.{data_address}
use Rattle.x_file.specs.Loaded.{IsLoaded, words_bytes, AreWords}
use Rattle.x_file.proofs.Numbers.{le_back}

word_in : (ws : List ℕ) → AreWords ws → (k : ℕ) → le (take 8 (drop (8 * k) (words_bytes ws))) ≡ get_or ws k 0
word_in [] h k = ap (λ c. le (take 8 c)) (drop_of_length-le [] {i = 8 * k} (omega arith))
word_in (w ∷ ws) h zero = le_back w h.0
word_in (w ∷ ws) h (suc k) =
    let more : 8 * suc k ≡ 8 + 8 * k = omega arith in
    ap (λ o. le (take 8 (drop o (words_bytes (w ∷ ws))))) more
    ∙ ap (λ c. le (take 8 c)) (sym (drop-drop (8 * k) 8 (words_bytes (w ∷ ws))))
    ∙ word_in ws h.1 k

-- at the start, of a file that was made of these words
pub start_words : (code ws : List ℕ) (heap : ℕ) (file : List ℕ) (s : State) → IsLoaded code (words_bytes ws) heap file →
    IsStart file s → AreWords ws → (k : ℕ) → s.memory (data_address + 8 * k) ≡ get_or ws k 0
start_words code ws heap file s h g f k =
    let apart : data_address + 8 * k - data_address ≡ 8 * k = omega arith in
    h.words s g (data_address + 8 * k) (omega arith)
    ∙ ap (λ o. le (take 8 (drop o (words_bytes ws)))) apart
    ∙ word_in ws f k

-- zeros, and one more
pub one_more : (old now next : List ℕ) (n : ℕ) → now ≡ old ++ replicate n 0 → next ≡ now ++ 0 ∷ [] →
    next ≡ old ++ replicate (n + 1) 0
one_more old now next n e f =
    f ∙ ap (λ s. s ++ 0 ∷ []) e ∙ append_assoc old (replicate n 0) (0 ∷ []) ∙ ap (λ s. old ++ s)
    (replicate-append-replicate n 1 0)
