-- Where the levels of the source stand.
use Rattle.std.proofs.Common.{◌≡◌, ℕ, zero, suc, ◌+◌, ◌-◌, ◌<◌, ◌≤◌, Bool, true, false, cond, List, [], ◌∷◌, Option}
use Rattle.std.proofs.Common.{Some, length, refl, sym, ap, ◌∙◌, arith}
use Rattle.std.specs.Prelude.{nat_lt}
use Rattle.std.proofs.lemmas.Bool.{lt-ltb, le-ltb, le-leb, lt-leb}
use Rattle.c_rules.specs.Places.{Places, place}
use Rattle.calc_core.specs.Ends.{after_one}
use Rattle.c_terms.specs.C.{CVals, NoCVals, MoreCVals}
use Rattle.c_rules.specs.Close.{var_value, pick_one, picked, rank}
use Rattle.c_terms.specs.Stream.{CNd, MVar, clin_vs, cwidth}
use Rattle.calc_core.specs.Levels.{level_of}
use Rattle.c_rules.specs.Emit.{Frame, levels, pick_level, below, spot, spots}
use Rattle.calc_core.proofs.Levels.{level_below}
use Rattle.c_laws.proofs.Closing.{after_add}
use Rattle.c_laws.proofs.Translating.{after_add_right}

pub length_levels : (keep : ℕ → Bool) (d : ℕ) (acc : List ℕ) → length (levels keep d acc) ≡ rank keep d + length acc
length_levels keep zero acc = omega arith
length_levels keep (suc d) acc =
    length_step (keep 0) (λ i. keep (suc i)) d acc (length_levels (λ i. keep (suc i)) d (pick_level (keep 0) d acc))
  where
    length_step : (b : Bool) (keep : ℕ → Bool) (d : ℕ) (acc : List ℕ) →
        length (levels keep d (pick_level b d acc)) ≡ rank keep d + length (pick_level b d acc) →
        length (levels keep d (pick_level b d acc)) ≡ after_one b (rank keep d) + length acc
    length_step true keep d acc h = omega (arith, h)
    length_step false keep d acc h = h

pub below_skip : (b : Bool) (l d : ℕ) (acc : List ℕ) → l ≤ d → below l (pick_level b d acc) ≡ below l acc
below_skip true l d acc h = ap (λ q. after_one q (below l acc)) (le-ltb d l h)
below_skip false l d acc h = refl

below_take : (b : Bool) (l d : ℕ) (acc : List ℕ) → d < l → below l (pick_level b d acc) ≡ after_one b (below l acc)
below_take true l d acc h = ap (λ q. after_one q (below l acc)) (lt-ltb d l h)
below_take false l d acc h = refl

-- all of the levels below d are below l
pub below_all : (keep : ℕ → Bool) (d l : ℕ) (acc : List ℕ) → d ≤ l →
    below l (levels keep d acc) ≡ rank keep d + below l acc
below_all keep zero l acc h = omega arith
below_all keep (suc d) l acc h =
    below_all (λ i. keep (suc i)) d l (pick_level (keep 0) d acc) (omega arith)
    ∙ ap (λ q. rank (λ i. keep (suc i)) d + q) (below_take (keep 0) l d acc (omega arith))
    ∙ after_add_right (keep 0) (rank (λ i. keep (suc i)) d) (below l acc)
    ∙ sym (after_add (keep 0) (rank (λ i. keep (suc i)) d) (below l acc))

pub below_rank : (keep : ℕ → Bool) (d i : ℕ) (acc : List ℕ) → i < d →
    below (level_of d i) (levels keep d acc) + rank keep (suc i) ≡ rank keep d + below (level_of d i) acc
below_rank keep zero i acc h = absurd (omega arith)
below_rank keep (suc d) zero acc h =
    ap (λ q. q + after_one (keep 0) 0) (below_all (λ i. keep (suc i)) d d (pick_level (keep 0) d acc) (omega arith)
    ∙ ap (λ q. rank (λ i. keep (suc i)) d + q) (below_skip (keep 0) d d acc (omega arith)))
    ∙ after_add_right (keep 0) (rank (λ i. keep (suc i)) d + below d acc) 0
    ∙ ap (after_one (keep 0))
    (let e : rank (λ i. keep (suc i)) d + below d acc + 0 ≡ rank (λ i. keep (suc i)) d
    + below d acc = omega arith in e)
    ∙ sym (after_add (keep 0) (rank (λ i. keep (suc i)) d) (below d acc))
below_rank keep (suc d) (suc i) acc h =
    let l = level_of d i in
    let at = level_below d i (omega arith) in
    let r = rank (λ j. keep (suc j)) in
    after_add_right (keep 0) (below l (levels (λ j. keep (suc j)) d (pick_level (keep 0) d acc))) (r (suc i))
    ∙ ap (after_one (keep 0)) (below_rank (λ j. keep (suc j)) d i (pick_level (keep 0) d acc) (omega arith)
    ∙ ap (λ q. r d + q) (below_skip (keep 0) l d acc (omega (arith, at))))
    ∙ sym (after_add (keep 0) (r d) (below l acc))

pub rank_here : (keep : ℕ → Bool) (i : ℕ) → keep i ≡ true → rank keep (suc i) ≡ suc (rank keep i)
rank_here keep zero h = ap (λ q. after_one q 0) h
rank_here keep (suc i) h =
    ap (after_one (keep 0)) (rank_here (λ j. keep (suc j)) i h) ∙ over (keep 0) (rank (λ j. keep (suc j)) i)
  where
    over : (b : Bool) (n : ℕ) → after_one b (suc n) ≡ suc (after_one b n)
    over true n = refl
    over false n = refl

pub spot_in : (f : Frame) (l : ℕ) → f.split ≤ l → spot f l ≡ (l - f.split) + f.start
spot_in f l h =
    ap (λ q. cond q ((l - f.split) + f.start)
    (cond (nat_lt f.level l) ((l - f.level) + 1)
    (cond (nat_lt l f.level) (f.first + below l f.kept) (f.first + length f.kept)))) (le-leb f.split l h)

pub spot_arg : (f : Frame) (l : ℕ) → l < f.split → f.level < l → spot f l ≡ (l - f.level) + 1
spot_arg f l h g =
    ap (λ q. cond q ((l - f.split) + f.start)
    (cond (nat_lt f.level l) ((l - f.level) + 1)
    (cond (nat_lt l f.level) (f.first + below l f.kept) (f.first + length f.kept)))) (lt-leb f.split l h)
    ∙ ap (λ q. cond q ((l - f.level) + 1)
    (cond (nat_lt l f.level) (f.first + below l f.kept) (f.first + length f.kept))) (lt-ltb f.level l g)

pub spot_kept : (f : Frame) (l : ℕ) → l < f.split → l < f.level → spot f l ≡ f.first + below l f.kept
spot_kept f l h g =
    ap (λ q. cond q ((l - f.split) + f.start)
    (cond (nat_lt f.level l) ((l - f.level) + 1)
    (cond (nat_lt l f.level) (f.first + below l f.kept) (f.first + length f.kept)))) (lt-leb f.split l h)
    ∙ ap (λ q. cond q ((l - f.level) + 1)
    (cond (nat_lt l f.level) (f.first + below l f.kept) (f.first + length f.kept)))
    (le-ltb f.level l (omega arith))
    ∙ ap (λ q. cond q (f.first + below l f.kept) (f.first + length f.kept)) (lt-ltb l f.level g)

pub spot_own : (f : Frame) (l : ℕ) → l < f.split → l ≡ f.level → spot f l ≡ f.first + length f.kept
spot_own f l h g =
    ap (λ q. cond q ((l - f.split) + f.start)
    (cond (nat_lt f.level l) ((l - f.level) + 1)
    (cond (nat_lt l f.level) (f.first + below l f.kept) (f.first + length f.kept)))) (lt-leb f.split l h)
    ∙ ap (λ q. cond q ((l - f.level) + 1)
    (cond (nat_lt l f.level) (f.first + below l f.kept) (f.first + length f.kept)))
    (le-ltb f.level l (omega (arith, g)))
    ∙ ap (λ q. cond q (f.first + below l f.kept) (f.first + length f.kept)) (le-ltb l f.level (omega (arith, g)))

-- a variable's place, and where its level stands
abbrev pub At : Frame → ℕ → ℕ → Places → ℕ → Type 0
At f d e ps i = (i < d) × (j : ℕ) × (place ps i ≡ Some j) × (j < e) × (spot f (level_of d i) ≡ level_of e j)

pub record Stands (f : Frame) (d e : ℕ) (ps : Places) (live : ℕ → Bool) : Type 0 where
  pub long : length ps ≡ d
  pub at : (i : ℕ) → live i ≡ true → At f d e ps i

-- the tuple of the kept variables
abbrev Spotted : Frame → ℕ → ℕ → Option ℕ → Type 0
Spotted f l e p = (j : ℕ) × (p ≡ Some j) × (spot f l ≡ level_of e j)

env_one : (f : Frame) (l e : ℕ) (b : Bool) (p : Option ℕ) (acc : CVals) (ls : List ℕ) (rest : List CNd) →
    (b ≡ true → Spotted f l e p) → clin_vs e acc rest ≡ spots f ls rest →
    clin_vs e (pick_one b p acc) rest ≡ spots f (pick_level b l ls) rest
env_one f l e false p acc ls rest h q = q
env_one f l e true p acc ls rest h q =
    let r = h refl in
    ap (λ x. clin_vs e (MoreCVals (var_value x) acc) rest) r.1 ∙ ap (λ n. MVar n ∷ clin_vs e acc rest) (sym r.2)
    ∙ ap (λ ns. MVar (spot f l) ∷ ns) q

env_nodes : (f : Frame) (e : ℕ) (keep : ℕ → Bool) (ps : Places) (acc : CVals) (ls : List ℕ) (rest : List CNd) →
    ((i : ℕ) → keep i ≡ true → Spotted f (level_of (length ps) i) e (place ps i)) →
    clin_vs e acc rest ≡ spots f ls rest →
    clin_vs e (picked keep ps acc) rest ≡ spots f (levels keep (length ps) ls) rest
env_nodes f e keep [] acc ls rest h q = q
env_nodes f e keep (p ∷ ps) acc ls rest h q =
    env_nodes f e (λ i. keep (suc i)) ps (pick_one (keep 0) p acc) (pick_level (keep 0) (length ps) ls) rest
    (λ i. h (suc i)) (env_one f (length ps) e (keep 0) p acc ls rest (h 0) q)

pub env_kept : (f : Frame) (d e : ℕ) (ps : Places) (keep : ℕ → Bool) (rest : List CNd) → Stands f d e ps keep →
    clin_vs e (picked keep ps NoCVals) rest ≡ spots f (levels keep d []) rest
env_kept f d e ps keep rest s =
    env_nodes f e keep ps NoCVals [] rest
    (λ i h. let r = s.at i h in (r.1, r.2, ap (λ n. spot f (level_of n i)) s.long ∙ r.4)) refl
    ∙ ap (λ n. spots f (levels keep n []) rest) s.long

width_one : (b : Bool) (p : Option ℕ) (acc : CVals) → cwidth (pick_one b p acc) ≡ after_one b (cwidth acc)
width_one true p acc = refl
width_one false p acc = refl

pub width_picked : (keep : ℕ → Bool) (ps : Places) (acc : CVals) → cwidth (picked keep ps acc) ≡ rank keep (length ps)
    + cwidth acc
width_picked keep [] acc = omega arith
width_picked keep (p ∷ ps) acc =
    width_picked (λ i. keep (suc i)) ps (pick_one (keep 0) p acc)
    ∙ ap (λ n. rank (λ i. keep (suc i)) (length ps) + n) (width_one (keep 0) p acc)
    ∙ after_add_right (keep 0) (rank (λ i. keep (suc i)) (length ps)) (cwidth acc)
    ∙ sym (after_add (keep 0) (rank (λ i. keep (suc i)) (length ps)) (cwidth acc))
