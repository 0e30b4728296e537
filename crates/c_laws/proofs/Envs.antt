-- Environments and places.
use Rattle.std.proofs.Common.{pos, ◌≡◌, ℕ, zero, suc, Bool, true, false, ◌||◌, [], ◌∷◌, Option, Some, None, refl}
use Rattle.std.proofs.Common.{sym, ap, ◌∙◌, subst}
use Rattle.c_rules.specs.Places.{Places, further, place, from_on, kept_places, kept_count, keep_one}
use Rattle.calc_core.specs.Ends.{after_one, lift}
use Rattle.calc_core.specs.Words.{WInt, NoWords, MoreWords, at, size, onto}
use Rattle.k_terms.specs.Meaning.{KWord, KWords}
use Rattle.c_terms.specs.Meaning.{CWord, CWords, cv_value, cvs_value}
use Rattle.c_terms.specs.C.{CVals}
use Rattle.c_rules.specs.Close.{var_value, pick_one, picked}
use Rattle.c_laws.proofs.Rel.{Spans, KeptHead, Rel, Rels, RelKept, at_place, Agree}
use Rattle.calc_core.proofs.WordLists.{join, without_first, without_one_more}

pub or_left : (a b : Bool) → a ≡ true → a || b ≡ true
or_left true b e = refl
or_left false b e = cc

pub or_right : (a b : Bool) → b ≡ true → a || b ≡ true
or_right true b e = refl
or_right false b e = e

pub agree_at : (live : ℕ → Bool) (ps : Places) (env : KWords) (cenv : CWords) (i : ℕ) → Agree live ps env cenv →
    live i ≡ true → Rel (at env i) (at_place (place ps i) cenv)
agree_at live [] NoWords cenv i h e = refl
agree_at live [] (MoreWords v env) cenv i h e = absurd h
agree_at live (p ∷ ps) NoWords cenv i h e = absurd h
agree_at live (p ∷ ps) (MoreWords v env) cenv zero h e = h.0 e
agree_at live (p ∷ ps) (MoreWords v env) cenv (suc i) h e = agree_at (λ j. live (suc j)) ps env cenv i h.1 e

pub agree_further : (live : ℕ → Bool) (ps : Places) (env : KWords) (c : CWord) (cenv : CWords) →
    Agree live ps env cenv → Agree live (further ps) env (MoreWords c cenv)
agree_further live [] NoWords c cenv h = tt
agree_further live [] (MoreWords v env) c cenv h = absurd h
agree_further live (p ∷ ps) NoWords c cenv h = absurd h
agree_further live (None ∷ ps) (MoreWords v env) c cenv h = (h.0, agree_further (λ j. live (suc j)) ps env c cenv h.1)
agree_further live (Some k ∷ ps) (MoreWords v env) c cenv h = (h.0, agree_further (λ j. live (suc j)) ps env c cenv h.1)

pub agree_fewer : (live few : ℕ → Bool) (ps : Places) (env : KWords) (cenv : CWords) →
    ((i : ℕ) → few i ≡ true → live i ≡ true) → Agree live ps env cenv → Agree few ps env cenv
agree_fewer live few [] NoWords cenv f h = tt
agree_fewer live few [] (MoreWords v env) cenv f h = absurd h
agree_fewer live few (p ∷ ps) NoWords cenv f h = absurd h
agree_fewer live few (p ∷ ps) (MoreWords v env) cenv f h =
    (λ e. h.0 (f 0 e), agree_fewer (λ j. live (suc j)) (λ j. few (suc j)) ps env cenv (λ i. f (suc i)) h.1)

pub agree_spans : (live : ℕ → Bool) (ps : Places) (env : KWords) (cenv : CWords) → Agree live ps env cenv → Spans ps env
agree_spans live [] NoWords cenv h = tt
agree_spans live [] (MoreWords v env) cenv h = absurd h
agree_spans live (p ∷ ps) NoWords cenv h = absurd h
agree_spans live (p ∷ ps) (MoreWords v env) cenv h = agree_spans (λ j. live (suc j)) ps env cenv h.1

pub var_value_at : (b : ℕ) (p : Option ℕ) (cenv : CWords) → cv_value b (var_value p) cenv ≡ at_place p cenv
var_value_at b None cenv = refl
var_value_at b (Some j) cenv = refl

-- the kept values, and the tuple of the kept variables
abbrev pub Picks : (ℕ → Bool) → Places → KWords → CWords → Type 0
Picks keep ps env cenv = (xs : CWords) × RelKept env keep xs
    × ((b : ℕ) (acc : CVals) → cvs_value b (picked keep ps acc) cenv ≡ onto xs (cvs_value b acc cenv))

pick_step : (k : Bool) (p : Option ℕ) (v : KWord) (keep : ℕ → Bool) (ps : Places) (env : KWords) (cenv : CWords) →
    (k ≡ true → Rel v (at_place p cenv)) → Picks keep ps env cenv →
    (xs : CWords) × KeptHead k (λ y. Rel v y) (λ ys. RelKept env keep ys) xs
    × ((b : ℕ) (acc : CVals) → cvs_value b (picked keep ps (pick_one k p acc)) cenv ≡ onto xs (cvs_value b acc cenv))
pick_step true None v keep ps env cenv h r =
    (MoreWords (WInt (pos 0)) r.0, (WInt (pos 0), r.0, refl, h refl, r.1), λ b acc. r.2 b (pick_one true None acc))
pick_step true (Some j) v keep ps env cenv h r = (
  MoreWords (at cenv j) r.0,
  (at cenv j, r.0, refl, h refl, r.1),
  λ b acc.
      r.2 b (pick_one true (Some j) acc),
)
pick_step false p v keep ps env cenv h r = (r.0, r.1, r.2)

pub picks : (keep : ℕ → Bool) (ps : Places) (env : KWords) (cenv : CWords) → Agree keep ps env cenv →
    Picks keep ps env cenv
picks keep [] NoWords cenv h = (NoWords, refl, λ b acc. refl)
picks keep [] (MoreWords v env) cenv h = absurd h
picks keep (p ∷ ps) NoWords cenv h = absurd h
picks keep (p ∷ ps) (MoreWords v env) cenv h =
    pick_step (keep 0) p v (λ i. keep (suc i)) ps env cenv h.0 (picks (λ i. keep (suc i)) ps env cenv h.1)

pub rels_size : (vs : KWords) (ws : CWords) → Rels vs ws → size ws ≡ size vs
rels_size NoWords ws r = ap size r
rels_size (MoreWords v vs) ws r = ap size r.2 ∙ ap suc (rels_size vs r.1 r.4)

pub rels_onto : (us vs : KWords) (xs ys : CWords) → Rels us xs → Rels vs ys → Rels (onto us vs) (onto xs ys)
rels_onto NoWords vs xs ys r q = subst (λ z. Rels vs (onto z ys)) (sym r) q
rels_onto (MoreWords u us) vs xs ys r q =
    subst (λ z. Rels (onto us (MoreWords u vs)) (onto z ys)) (sym r.2)
    (rels_onto us (MoreWords u vs) r.1 (MoreWords r.0 ys) r.4 (r.0, ys, refl, r.3, q))

kept_step : (k : Bool) (v : KWord) (env : KWords) (keep : ℕ → Bool) (ps : Places) (xs : CWords) →
    ((ys : CWords) → RelKept env keep ys → kept_count keep ps ≡ size ys) →
    KeptHead k (λ y. Rel v y) (λ ys. RelKept env keep ys) xs → after_one k (kept_count keep ps) ≡ size xs
kept_step true v env keep ps xs f r = ap suc (f r.1 r.4) ∙ sym (ap size r.2)
kept_step false v env keep ps xs f r = f xs r

pub kept_size : (keep : ℕ → Bool) (ps : Places) (env : KWords) (xs : CWords) → Spans ps env → RelKept env keep xs →
    kept_count keep ps ≡ size xs
kept_size keep [] NoWords xs h r = sym (ap size r)
kept_size keep [] (MoreWords v env) xs h r = absurd h
kept_size keep (p ∷ ps) NoWords xs h r = absurd h
kept_size keep (p ∷ ps) (MoreWords v env) xs h r =
    kept_step (keep 0) v env (λ i. keep (suc i)) ps xs (λ ys q. kept_size (λ i. keep (suc i)) ps env ys h q) r

-- the places of the kept variables
place_step : (k : Bool) (v : KWord) (env : KWords) (keep : ℕ → Bool) (ps : Places) (xs rest cenv : CWords) (o : ℕ) →
    ((ys : CWords) (j : ℕ) → RelKept env keep ys → without_first j cenv ≡ join ys rest →
    Agree keep (kept_places j keep ps) env cenv) → KeptHead k (λ y. Rel v y) (λ ys. RelKept env keep ys) xs →
    without_first o cenv ≡ join xs rest → (k ≡ true → Rel v (at_place (keep_one k o) cenv))
    × Agree keep (kept_places (after_one k o) keep ps) env cenv
place_step true v env keep ps xs rest cenv o f r e =
    let d = without_one_more o cenv r.0 (join r.1 rest) (e ∙ ap (λ z. join z rest) r.2) in
    (λ _. subst (Rel v) (sym d.1) r.3, f r.1 (suc o) r.4 d.2)
place_step false v env keep ps xs rest cenv o f r e = (λ q. absurd cc, f xs o r e)

pub kept_agree : (keep : ℕ → Bool) (ps : Places) (env : KWords) (xs rest cenv : CWords) (o : ℕ) → Spans ps env →
    RelKept env keep xs → without_first o cenv ≡ join xs rest → Agree keep (kept_places o keep ps) env cenv
kept_agree keep [] NoWords xs rest cenv o h r e = tt
kept_agree keep [] (MoreWords v env) xs rest cenv o h r e = absurd h
kept_agree keep (p ∷ ps) NoWords xs rest cenv o h r e = absurd h
kept_agree keep (p ∷ ps) (MoreWords v env) xs rest cenv o h r e =
    place_step (keep 0) v env (λ i. keep (suc i)) ps xs rest cenv o
    (λ ys j q d. kept_agree (λ i. keep (suc i)) ps env ys rest cenv j h q d) r e

-- the places of the arguments
pub args_agree : (live : ℕ → Bool) (vs env : KWords) (ws base cenv : CWords) (o : ℕ) (ps : Places) → Rels vs ws →
    without_first o cenv ≡ join ws base → Agree (λ i. live (lift (size vs) i)) ps env cenv →
    Agree live (from_on o (size vs) ps) (join vs env) cenv
args_agree live NoWords env ws base cenv o ps r e h = h
args_agree live (MoreWords v vs) env ws base cenv o ps r e h =
    let d = without_one_more o cenv r.0 (join r.1 base) (e ∙ ap (λ z. join z base) r.2) in
    (λ _. subst (Rel v) (sym d.1) r.3, args_agree (λ i. live (suc i)) vs env r.1 base cenv (suc o) ps r.4 d.2 h)

-- one more value, where it is kept
abbrev pub cadd : Bool → CWord → CWords → CWords
cadd true x xs = MoreWords x xs
cadd false x xs = xs

pub cadd_size : (k : Bool) (x : CWord) (xs : CWords) (n : ℕ) → n ≡ size xs → after_one k n ≡ size (cadd k x xs)
cadd_size true x xs n e = ap suc e
cadd_size false x xs n e = e

pub cadd_kept : (k : Bool) (v : KWord) (x : CWord) (xs : CWords) (Q : CWords → Type 0) → Rel v x → Q xs →
    KeptHead k (λ y. Rel v y) Q (cadd k x xs)
cadd_kept true v x xs Q h q = (x, xs, refl, h, q)
cadd_kept false v x xs Q h q = q
