-- Values by their parts, and values that a loop writes one by one.
use Rattle.std.proofs.Common.{◌≡◌, ◌≤◌, ◌<◌, ℕ, suc, ◌+◌, List, [], ◌∷◌, ◌++◌, length, drop, get_or, refl, sym}
use Rattle.std.proofs.Common.{◌∙◌, ap, append_assoc, arith, take, ◌-◌}
use Rattle.std.proofs.lemmas.List.{append-nil}
use Rattle.page_core.specs.Names.{separator}
use Rattle.page_core.proofs.Listed.{Left, left_none, listed}
use Rattle.a_terms.specs.declared.types.AType.{AType}
use Rattle.a_terms.specs.declared.nodes.AWrap.{AWrap}
use Rattle.a_terms.specs.declared.nodes.AWrap.TheVariants.{Apply, Pack}
use Rattle.a_terms.specs.declared.nodes.AValue.{AValue}
use Rattle.a_terms.specs.Tree.{AVal}
use Rattle.a_terms.specs.NodeTrees.{a_consts, a_value, a_values, base, no_value, wrap, wrapped}
use Rattle.a_terms.specs.ReadLaws.{took}
use Rattle.calc_core.specs.Row.{others, top}
use Rattle.a_notation.specs.Notation.{consts_text, value_text, values_text}
use Rattle.a_notation.specs.Wraps.{after_text, before_text, closing, opening}

-- one more wrap
wrap_text : (n m : ℕ) (v : AVal) (w : AWrap) →
    value_text n m (wrap w v) ≡ opening n w ++ (value_text n m v ++ closing n w)
wrap_text n m v (Apply ts) = refl
wrap_text n m v (Pack h s) = simp append_assoc

wrapped_text : (n m : ℕ) (v : AVal) (ws : List AWrap) →
    value_text n m (wrapped v ws) ≡ before_text n ws ++ (value_text n m v ++ after_text n ws)
wrapped_text n m v [] = sym (append-nil (value_text n m v))
wrapped_text n m v (w ∷ ws) =
    wrapped_text n m (wrap w v) ws
    ∙ ap (λ (s : List ℕ). before_text n ws ++ (s ++ after_text n ws)) (wrap_text n m v w) ∙ simp append_assoc

pub value_done : (n m : ℕ) (v : AValue) (us ws : List AWrap) (t0 t1 t2 t3 : List ℕ) → us ≡ v.wraps.items →
    ws ≡ v.wraps.items → t1 ≡ t0 ++ before_text n us → t2 ≡ t1 ++ value_text n m (base v.base) →
    t3 ≡ t2 ++ after_text n ws → t3 ≡ t0 ++ value_text n m (a_value v)
value_done n m v us ws t0 t1 t2 t3 same also e1 e2 e3 =
    rw (e3, e2, e1, same, also, wrapped_text n m (base v.base) v.wraps.items) (simp append_assoc)

-- one wrap more before others
pub before_more : (n : ℕ) (ws : List AWrap) (w : AWrap) → before_text n (ws ++ w ∷ []) ≡ opening n w ++ before_text n ws
before_more n [] w = sym (append-nil (opening n w))
before_more n (x ∷ ws) w = rw (before_more n ws w) (append_assoc (opening n w) (before_text n ws) (opening n x))

pub before_step : (n : ℕ) (ws : List AWrap) (left : ℕ) (w : AWrap) (text next whole : List ℕ) → 0 < left →
    left ≤ length ws → w ≡ get_or ws (left - 1) w → text ++ before_text n (take left ws) ≡ whole →
    next ≡ text ++ opening n w → next ++ before_text n (take (left - 1) ws) ≡ whole
before_step n ws left w text next whole some within is h e =
    let one : left ≡ left - 1 + 1 = omega arith in
    let in_list : left - 1 < length ws = omega arith in
    let last = ap (λ k. take k ws) one ∙ took ws (left - 1) w in_list is in
    let rest = before_text n (take (left - 1) ws) in
    ap (λ (s : List ℕ). s ++ rest) e ∙ append_assoc text (opening n w) rest
    ∙ ap (λ (s : List ℕ). text ++ s) (sym (before_more n (take (left - 1) ws) w))
    ∙ ap (λ (xs : List AWrap). text ++ before_text n xs) (sym last) ∙ h

abbrev pub value_item : ℕ → ℕ → ℕ → AValue → List ℕ
value_item n m i v = separator i ++ value_text n m (a_value v)

abbrev pub const_item : ℕ → AValue × AType → List ℕ
const_item i c = separator i ++ value_text 0 0 (a_value c.0)

pub values_listed : (i n m : ℕ) (xs : List AValue) → values_text i n m (a_values xs) ≡ listed (value_item n m) i xs
values_listed i n m [] = refl
values_listed i n m (x ∷ xs) = rw (values_listed (suc i) n m xs) (simp append_assoc)

pub consts_listed : (i : ℕ) (xs : List (AValue × AType)) → consts_text i (a_consts xs) ≡ listed const_item i xs
consts_listed i [] = refl
consts_listed i (x ∷ xs) = rw (consts_listed (suc i) xs) (simp append_assoc)

pub consts_done : (xs : List (AValue × AType)) (old new : List ℕ) (i k : ℕ) →
    Left const_item new i k xs (old ++ listed const_item 0 xs) → length xs ≤ k →
    new ≡ old ++ consts_text 0 (a_consts xs)
consts_done xs old new i k h le =
    left_none const_item new i k xs _ h le ∙ ap (λ (s : List ℕ). old ++ s) (sym (consts_listed 0 xs))

others_are : (xs : List AValue) → others (a_values xs) ≡ a_values (drop 1 xs)
others_are [] = refl
others_are (x ∷ xs) = refl

pub others_done : (n m : ℕ) (xs : List AValue) (old new : List ℕ) (i k : ℕ) →
    Left (value_item n m) new i k xs (old ++ listed (value_item n m) 0 (drop 1 xs)) → length xs ≤ k →
    new ≡ old ++ values_text 0 n m (others (a_values xs))
others_done n m xs old new i k h le =
    left_none (value_item n m) new i k xs _ h le
    ∙ ap (λ (s : List ℕ). old ++ s)
    (sym (ap (values_text 0 n m) (others_are xs) ∙ values_listed 0 n m (drop 1 xs)))

-- the first and the second of some values
pub first_is : (xs : List AValue) (x : AValue) → x ≡ get_or xs 0 x → 0 < length xs →
    a_value x ≡ top no_value (a_values xs)
first_is [] x is lt = absurd (omega (arith, lt))
first_is (y ∷ ys) x is lt = ap a_value is

pub second_is : (xs : List AValue) (x : AValue) → x ≡ get_or xs 1 x → 1 < length xs →
    a_value x ≡ top no_value (others (a_values xs))
second_is [] x is lt = absurd (omega (arith, lt))
second_is (y ∷ []) x is lt = absurd (omega (arith, lt))
second_is (y ∷ z ∷ ys) x is lt = ap a_value is
