-- Pieces that stand for values.
use Rattle.std.proofs.Common.{◌≡◌, ◌≤◌, ◌<◌, ℕ, zero, suc, ◌+◌, ◌-◌, List, [], ◌∷◌, ◌++◌, length, drop, take, get_or}
use Rattle.std.proofs.Common.{map, Vec, Global, refl, sym, ◌∙◌, ap, ap₂, append_assoc, codes, arith, subst}
use Rattle.std.proofs.Common.{add-one}
use Rattle.std.proofs.lemmas.List.{append-nil, take_more, map_push}
use Rattle.std.proofs.Math.ListN.{drop_of_length-le}
use Rattle.page_core.specs.Pieces.{text_at, Keeps, HasText}
use Rattle.page_core.specs.declared.pieces.Pieces.{Pieces}
use Rattle.c_terms.specs.C.{CTy}
use Rattle.h_terms.specs.H.{HPack, HTuple, HVal}
use Rattle.h_terms.specs.Nodes.{at_last, more, reads, tied, tupled}
use Rattle.h_terms.specs.declared.node.HPart.{HPart}
use Rattle.page_core.specs.Names.{separator}
use Rattle.page_core.proofs.Listed.{listed}
use Rattle.h_notation.specs.Notation.{value_text, values_text}
use Rattle.let_types.specs.TypeTexts.{pack_behind, pack_front}
use Rattle.h_notation.specs.Values.{HaveValues, texts_of}
use Rattle.h_terms.proofs.Parts.{reads_push, at_last_push}

pub stand_keeps : (p q : Pieces) (n m : ℕ) (xs : List ℕ) (vs : List HVal) → Keeps p q → HaveValues p n m xs vs →
    HaveValues q n m xs vs
stand_keeps p q n m [] [] k h = tt
stand_keeps p q n m [] (v ∷ vs) k h = absurd h
stand_keeps p q n m (x ∷ xs) [] k h = absurd h
stand_keeps p q n m (x ∷ xs) (v ∷ vs) k h = (k x (value_text n m v) h.0, stand_keeps p q n m xs vs k h.1)

stand_snoc : (p : Pieces) (n m : ℕ) (xs : List ℕ) (vs : List HVal) (x : ℕ) (v : HVal) → HaveValues p n m xs vs →
    HasText p x (value_text n m v) → HaveValues p n m (xs ++ x ∷ []) (vs ++ v ∷ [])
stand_snoc p n m [] [] x v h s = (s, tt)
stand_snoc p n m [] (w ∷ vs) x v h s = absurd h
stand_snoc p n m (y ∷ xs) [] x v h s = absurd h
stand_snoc p n m (y ∷ xs) (w ∷ vs) x v h s = (h.0, stand_snoc p n m xs vs x v h.1 s)

stand_length : (p : Pieces) (n m : ℕ) (xs : List ℕ) (vs : List HVal) → HaveValues p n m xs vs → length xs ≡ length vs
stand_length p n m [] [] h = refl
stand_length p n m [] (v ∷ vs) h = absurd h
stand_length p n m (x ∷ xs) [] h = absurd h
stand_length p n m (x ∷ xs) (v ∷ vs) h = ap suc (stand_length p n m xs vs h.1)

stand_take : (k : ℕ) (p : Pieces) (n m : ℕ) (xs : List ℕ) (vs : List HVal) → HaveValues p n m xs vs →
    HaveValues p n m (take k xs) (take k vs)
stand_take zero p n m xs vs h = tt
stand_take (suc k) p n m [] [] h = tt
stand_take (suc k) p n m [] (v ∷ vs) h = absurd h
stand_take (suc k) p n m (x ∷ xs) [] h = absurd h
stand_take (suc k) p n m (x ∷ xs) (v ∷ vs) h = (h.0, stand_take k p n m xs vs h.1)

stand_drop : (k : ℕ) (p : Pieces) (n m : ℕ) (xs : List ℕ) (vs : List HVal) → HaveValues p n m xs vs →
    HaveValues p n m (drop k xs) (drop k vs)
stand_drop zero p n m xs vs h = h
stand_drop (suc k) p n m [] [] h = tt
stand_drop (suc k) p n m [] (v ∷ vs) h = absurd h
stand_drop (suc k) p n m (x ∷ xs) [] h = absurd h
stand_drop (suc k) p n m (x ∷ xs) (v ∷ vs) h = stand_drop k p n m xs vs h.1

-- the texts of all
pub stand_texts : (p : Pieces) (n m : ℕ) (xs : List ℕ) (vs : List HVal) → HaveValues p n m xs vs →
    map (text_at p) xs ≡ map (value_text n m) vs
stand_texts p n m [] [] h = refl
stand_texts p n m [] (v ∷ vs) h = absurd h
stand_texts p n m (x ∷ xs) [] h = absurd h
stand_texts p n m (x ∷ xs) (v ∷ vs) h = ap₂ (λ s t. s ∷ t) (h.0).is (stand_texts p n m xs vs h.1)

-- the value of a piece
stand_at : (p : Pieces) (n m i : ℕ) (xs : List ℕ) (vs : List HVal) (x : ℕ) → HaveValues p n m xs vs →
    x ≡ get_or xs i x → i < length xs →
    (v : HVal) × (drop i vs ≡ v ∷ drop (suc i) vs) × HasText p x (value_text n m v)
stand_at p n m i [] vs x h is lt = absurd (omega (arith, lt))
stand_at p n m i (y ∷ xs) [] x h is lt = absurd h
stand_at p n m zero (y ∷ xs) (v ∷ vs) x h is lt = (v, refl, subst (λ z. HasText p z (value_text n m v)) (sym is) h.0)
stand_at p n m (suc i) (y ∷ xs) (v ∷ vs) x h is lt = stand_at p n m i xs vs x h.1 is (omega (arith, lt))

-- one more value
pub put_done : (p q : Pieces) (n m : ℕ) (xs ys : List ℕ) (x : ℕ) (vs : List HVal) (v : HVal) (s : List ℕ) → Keeps p q →
    HasText q x s → ys ≡ xs ++ x ∷ [] → s ≡ value_text n m v → HaveValues p n m xs vs →
    HaveValues q n m ys (vs ++ v ∷ [])
put_done p q n m xs ys x vs v s k st e is h =
    subst (λ zs. HaveValues q n m zs (vs ++ v ∷ [])) (sym e)
    (stand_snoc q n m xs vs x v (stand_keeps p q n m xs vs k h) (subst (λ t. HasText q x t) is st))

stand_last : (p : Pieces) (n m : ℕ) (xs : List ℕ) (x : ℕ) (vs : List HVal) → HaveValues p n m (xs ++ x ∷ []) vs →
    (us : List HVal) × (v : HVal) × (vs ≡ us ++ v ∷ []) × HaveValues p n m xs us × HasText p x (value_text n m v)
stand_last p n m [] x [] h = absurd h
stand_last p n m [] x (v ∷ []) h = ([], v, refl, tt, h.0)
stand_last p n m [] x (v ∷ w ∷ vs) h = absurd h.1
stand_last p n m (y ∷ xs) x [] h = absurd h
stand_last p n m (y ∷ xs) x (v ∷ vs) h =
    let r = stand_last p n m xs x vs h.1 in (v ∷ r.0, r.1, ap (λ us. v ∷ us) r.2, (h.0, r.3), r.4)

pub wrap_done : (p q : Pieces) (n m : ℕ) (xs ys zs : List ℕ) (inner whole : ℕ) (vs : List HVal) (f : HVal → HVal)
    (before behind : List ℕ) → xs ≡ ys ++ inner ∷ [] → Keeps p q →
    ((s : List ℕ) → HasText p inner s → HasText q whole (before ++ (s ++ behind))) → zs ≡ ys ++ whole ∷ [] →
    ((v : HVal) → value_text n m (f v) ≡ before ++ (value_text n m v ++ behind)) → HaveValues p n m xs vs →
    HaveValues q n m zs (at_last f vs)
wrap_done p q n m xs ys zs inner whole vs f before behind e k st more is h =
    let r = stand_last p n m ys inner vs (subst (λ us. HaveValues p n m us vs) e h) in
    let last = subst (λ t. HasText q whole t) (sym (is r.1)) (st (value_text n m r.1) r.4) in
    let all = stand_snoc q n m ys r.0 whole (f r.1) (stand_keeps p q n m ys r.0 k r.3) last in
    let same : at_last f vs ≡ r.0 ++ f r.1 ∷ [] = ap (at_last f) r.2 ∙ at_last_push f r.0 r.1 in
    subst (λ us. HaveValues q n m us (at_last f vs)) (sym more)
    (subst (λ us. HaveValues q n m (ys ++ whole ∷ []) us) (sym same) all)

pub pack_text : (n m : ℕ) (v : HVal) (h s : CTy) (before behind : List ℕ) →
    before ≡ pack_front n h → behind ≡ pack_behind n s →
    value_text n m (HPack h v s) ≡ before ++ (value_text n m v ++ behind)
pack_text n m v h s before behind e f = sym (ap₂ (λ (a b : List ℕ). a ++ (value_text n m v ++ b)) e f)

-- the last values become a tuple
pub tuple_done : (p q : Pieces) (n m from k : ℕ) (xs ys zs : List ℕ) (whole : ℕ) (vs : List HVal) → Keeps p q →
    from ≡ length xs - k → ((us : List HVal) → HaveValues p n m (drop from xs) us →
    HasText q whole (value_text n m (HTuple (tied us)))) → ys ≡ take from xs → zs ≡ ys ++ whole ∷ [] →
    HaveValues p n m xs vs → HaveValues q n m zs (tupled k vs)
tuple_done p q n m from k xs ys zs whole vs keep is st e f h =
    let many = stand_length p n m xs vs h in
    let same : from ≡ length vs - k = is ∙ ap (λ l. l - k) many in
    let all = stand_snoc q n m (take from xs) (take from vs) whole (HTuple (tied (drop from vs)))
    (stand_keeps p q n m (take from xs) (take from vs) keep (stand_take from p n m xs vs h))
    (st (drop from vs) (stand_drop from p n m xs vs h)) in
    let stack : zs ≡ take from xs ++ whole ∷ [] = f ∙ ap (λ (us : List ℕ). us ++ whole ∷ []) e in
    subst (λ us. HaveValues q n m us (tupled k vs)) (sym stack)
    (subst (λ j. HaveValues q n m (take from xs ++ whole ∷ []) (take j vs ++ HTuple (tied (drop j vs)) ∷ [])) same all)

-- the fields of a tuple
abbrev pub value_item : ℕ → ℕ → ℕ → HVal → List ℕ
value_item n m i v = separator i ++ value_text n m v

values_listed : (i n m : ℕ) (vs : List HVal) → values_text i n m (tied vs) ≡ listed (value_item n m) i vs
values_listed i n m [] = refl
values_listed i n m (v ∷ vs) =
    ap (λ (s : List ℕ). separator i ++ (value_text n m v ++ s)) (values_listed (suc i) n m vs)
    ∙ sym (append_assoc (separator i) (value_text n m v) (listed (value_item n m) (suc i) vs))

-- what the loop over the fields keeps: the piece so far, and what is left
pub record Joining (p q : Pieces) (fields : List ℕ) (i piece : ℕ) : Type 0 where
  pub keeps : Keeps p q
  pub left : (n m : ℕ) (vs : List HVal) → HaveValues p n m fields vs → (s : List ℕ) × HasText q piece s
      × (s ++ listed (value_item n m) i (drop i vs) ≡ codes "<" ++ listed (value_item n m) 0 vs)

pub joining_more : (p q r : Pieces) (fields : List ℕ) (i piece x next : ℕ) → x ≡ get_or fields i x → i < length fields →
    Joining p q fields i piece → Keeps q r →
    ((s t : List ℕ) → HasText q piece s → HasText q x t → HasText r next (s ++ (separator i ++ t))) →
    Joining p r fields (i + 1) next
joining_more p q r fields i piece x next is lt h k st = record {
  keeps = λ y s stands. k y s (h.keeps y s stands);
  left = λ n m vs all.
      let l = h.left n m vs all in
      let at = stand_at p n m i fields vs x all is lt in
      let item = separator i ++ value_text n m at.0 in
      let rest = listed (value_item n m) (suc i) (drop (suc i) vs) in
      let e : (l.0 ++ item) ++ rest ≡ codes "<" ++ listed (value_item n m) 0 vs =
      append_assoc l.0 item rest
      ∙ ap (λ (us : List HVal). l.0 ++ listed (value_item n m) i us) (sym at.1) ∙ l.2 in (
        l.0 ++ item,
        st l.0 (value_text n m at.0) l.1 (h.keeps x (value_text n m at.0) at.2),
        subst (λ j. (l.0 ++ item) ++ listed (value_item n m) j (drop j vs) ≡ codes "<" ++ listed (value_item n m) 0 vs)
            (sym (add-one i)) e,
      );
}

pub joining_end : (p q r s : Pieces) (fields : List ℕ) (i piece close whole : ℕ) (t : List ℕ) → length fields ≤ i →
    Joining p q fields i piece → t ≡ codes ">" → Keeps q r → HasText r close t →
    ((u w : List ℕ) → HasText r piece u → HasText r close w → HasText s whole (u ++ w)) →
    (n m : ℕ) (vs : List HVal) → HaveValues p n m fields vs → HasText s whole (value_text n m (HTuple (tied vs)))
joining_end p q r s fields i piece close whole t le h is k last st n m vs all =
    let l = h.left n m vs all in
    let many = stand_length p n m fields vs all in
    let none = drop_of_length-le vs (subst (λ j. j ≤ i) many le) in
    let e : l.0 ≡ codes "<" ++ values_text 0 n m (tied vs) =
    sym (append-nil l.0) ∙ ap (λ (us : List HVal). l.0 ++ listed (value_item n m) i us) (sym none) ∙ l.2
    ∙ ap (λ (u : List ℕ). codes "<" ++ u) (sym (values_listed 0 n m vs)) in
    let same : l.0 ++ t ≡ codes "<" ++ (values_text 0 n m (tied vs) ++ codes ">") =
    ap₂ (λ (u w : List ℕ). u ++ w) e is ∙ append_assoc (codes "<") (values_text 0 n m (tied vs)) (codes ">") in
    subst (λ u. HasText s whole u) same (st l.0 t (k piece l.0 l.1) last)

-- one part more
pub reads_more : (ps : List HPart) (i : ℕ) (p : HPart) → p ≡ get_or ps i p → i < length ps →
    more p (reads [] (take i ps)) ≡ reads [] (take (i + 1) ps)
reads_more ps i p is lt =
    sym (ap (reads []) (take_more ps i p lt ∙ ap (λ q. take i ps ++ q ∷ []) (sym is)) ∙ reads_push [] (take i ps) p)

pub texts_snoc : (ts us : List (Vec ℕ Global)) (t : Vec ℕ Global) → us ≡ ts ++ t ∷ [] →
    texts_of us ≡ texts_of ts ++ t.items ∷ []
texts_snoc ts us t e = ap texts_of e ∙ here ts
  where
    here : (xs : List (Vec ℕ Global)) → texts_of (xs ++ t ∷ []) ≡ texts_of xs ++ t.items ∷ []
    here [] = refl
    here (x ∷ xs) = ap (λ ys. x.items ∷ ys) (here xs)

pub spelled_more : (f : ℕ → List ℕ) (ts us : List (Vec ℕ Global)) (t : Vec ℕ Global) (xs : List ℕ) (i x : ℕ) →
    x ≡ get_or xs i x → i < length xs → texts_of ts ≡ map f (take i xs) → us ≡ ts ++ t ∷ [] → t.items ≡ f x →
    texts_of us ≡ map f (take (i + 1) xs)
spelled_more f ts us t xs i x is lt h e same =
    texts_snoc ts us t e ∙ ap₂ (λ ys s. ys ++ s ∷ []) h same ∙ sym (map_push f (take i xs) x)
    ∙ sym (ap (map f) (take_more xs i x lt ∙ ap (λ y. take i xs ++ y ∷ []) (sym is)))

-- an item that is there, whatever stands for one that is not
pub item : (xs : List ℕ) (i : ℕ) → i < length xs → get_or xs i 0 ≡ get_or xs i (get_or xs i 0)
item [] i lt = absurd (omega (arith, lt))
item (x ∷ xs) zero lt = refl
item (x ∷ xs) (suc i) lt = item xs i (omega (arith, lt))
