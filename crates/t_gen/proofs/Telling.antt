-- The sets of the terms so far.
use Rattle.std.proofs.Common.{◌≡◌, ℕ, zero, suc, ◌+◌, ◌<◌, ◌≤◌, ◌++◌, List, [], ◌∷◌, length, drop, get_or, refl, sym}
use Rattle.std.proofs.Common.{ap, ap₂, ◌∙◌, subst, arith}
use Rattle.std.specs.Prelude.{Bool, true, false, ◌||◌, ◌&&◌, not}
use Rattle.std.proofs.lemmas.List.{drop_more}
use Rattle.a_terms.specs.Tree as a
use Rattle.a_terms.specs.NodeTrees.{a_values, a_decl, a_build, a_onto, is_decl, no_value, no_term, wrap, wrapped}
use Rattle.calc_core.specs.Row.{top, others, IsOne, IsSome}
use Rattle.a_terms.specs.Arity.{AArity, ARow, a_kids}
use Rattle.calc_core.specs.Ends.{lift}
use Rattle.calc_core.proofs.Lifts.{lift_add}
use Rattle.a_terms.specs.declared.nodes.AForm.{AForm}
use Rattle.a_terms.specs.declared.nodes.AForm.TheVariants.{Value, Proj, Arith, Unpack, Malloc, Init, Call, If0, Halt}
use Rattle.a_terms.specs.declared.nodes.ANode.{ANode}
use Rattle.a_terms.specs.declared.nodes.AWrap.{AWrap}
use Rattle.a_terms.specs.declared.nodes.AWrap.TheVariants.{Apply, Pack}
use Rattle.t_gen_rules.specs.Gen.{uses, uses_any, uses_decl, used}
use Rattle.t_gen.specs.Uses.{both_used, has, Holds, Leads, newest, back, AllHold, Tells, Told}
use Rattle.t_gen.specs.declared.used.Used.{Used}
use Rattle.t_gen.specs.declared.told.Ahead.{Ahead}
use Rattle.t_gen.specs.declared.ahead.Rest.{Rest}
use Rattle.t_gen.proofs.Sets.{or_none}

newest_push : (ss : List Rest) (s : Rest) → newest (ss ++ s ∷ []) ≡ s ∷ newest ss
newest_push [] s = refl
newest_push (x ∷ ss) s = ap (λ xs. xs ++ x ∷ []) (newest_push ss s)

back_push : (ss : List Ahead) (s : Ahead) → back (ss ++ s ∷ []) ≡ s ∷ back ss
back_push [] s = refl
back_push (x ∷ ss) s = ap (λ xs. xs ++ x ∷ []) (back_push ss s)

pub popped : (old new : List Rest) (s : Rest) (ts : List a.ATm) → old ≡ new ++ s ∷ [] → AllHold (newest old) ts →
    Holds s.used (top no_term ts) × Leads s.wants (top no_term ts) × AllHold (newest new) (others ts)
popped old new s ts e h =
    let k : AllHold (s ∷ newest new) ts = subst (λ xs. AllHold xs ts) (ap newest e ∙ newest_push new s) h in
    (k.0.0, k.0.1, k.1)

pub pushed : (old new : List Rest) (s : Rest) (t : a.ATm) (ts : List a.ATm) → new ≡ old ++ s ∷ [] → Holds s.used t →
    Leads s.wants t → AllHold (newest old) ts → AllHold (newest new) (t ∷ ts)
pushed old new s t ts e h l k = subst (λ xs. AllHold xs (t ∷ ts)) (sym (ap newest e ∙ newest_push old s)) ((h, l), k)

pub or_swap : (x y : Bool) → (x || y) ≡ (y || x)
or_swap true true = refl
or_swap true false = refl
or_swap false true = refl
or_swap false false = refl

one_uses : (vs : List a.AVal) (n : ℕ) → IsOne vs → uses_any vs n ≡ uses (top no_value vs) n
one_uses [] n h = absurd h
one_uses (v ∷ []) n h = sym (or_none (uses v n))
one_uses (v ∷ w ∷ vs) n h = absurd h

two_uses : (vs : List a.AVal) (n : ℕ) → AArity (Init 0) vs →
    uses_any vs n ≡ (uses (top no_value vs) n || uses (top no_value (others vs)) n)
two_uses [] n h = absurd h
two_uses (v ∷ vs) n h = ap (λ b. uses v n || b) (one_uses vs n h)

let_uses : (f : AForm) (vs : List a.AVal) (n : ℕ) → is_decl f ≡ true → AArity f vs →
    uses_any vs n ≡ uses_decl (a_decl f vs) n
let_uses Value vs n d h = one_uses vs n h
let_uses (Proj i) vs n d h = one_uses vs n h
let_uses (Arith o) vs n d h = two_uses vs n h
let_uses Unpack vs n d h = one_uses vs n h
let_uses (Malloc us) [] n d h = refl
let_uses (Malloc us) (v ∷ vs) n d h = absurd h
let_uses (Init i) vs n d h = two_uses vs n h
let_uses (Call us) vs n d h = cc
let_uses If0 vs n d h = cc
let_uses Halt vs n d h = cc

-- a declaration
pub let_holds : (f : AForm) (vs : List a.AVal) (e : a.ATm) (rest new : Used) (mid : ℕ → Bool) → is_decl f ≡ true →
    AArity f vs → Holds rest e → ((i : ℕ) → mid i ≡ has rest (suc i)) →
    ((i : ℕ) → has new i ≡ (mid i || uses_any vs i)) → Holds new (a.Let (a_decl f vs) e)
let_holds f vs e rest new mid d h k o n = λ i.
    n i ∙ ap₂ (λ x y. x || y) (o i ∙ k (suc i)) (let_uses f vs i d h)
    ∙ or_swap (used e (suc i)) (uses_decl (a_decl f vs) i)

-- the variables that end at a declaration
pub let_gone : (f : AForm) (vs : List a.AVal) (e : a.ATm) (rest mid : Used) (gone : ℕ → Bool) → is_decl f ≡ true →
    AArity f vs → Holds rest e → ((i : ℕ) → has mid i ≡ has rest (suc i)) →
    ((i : ℕ) → gone i ≡ (uses_any vs i && not (has mid i))) → (i : ℕ) →
    gone i ≡ (uses_decl (a_decl f vs) i && not (used e (suc i)))
let_gone f vs e rest mid gone d h k o g = λ i. g i ∙ ap₂ (λ x y. x && not y) (let_uses f vs i d h) (o i ∙ k (suc i))

or_end : (x y z : Bool) → ((x && z) || (y && z)) ≡ ((x || y) && z)
or_end true true true = refl
or_end true true false = refl
or_end true false true = refl
or_end true false false = refl
or_end false y z = refl

-- and at a choice
pub if_gone : (vs : List a.AVal) (x : a.ATm) (second : Used) (third first gone : ℕ → Bool) (listed : ℕ → Bool) →
    IsOne vs → Holds second x → ((i : ℕ) → listed i ≡ third i) →
    ((i : ℕ) → first i ≡ (uses_any vs i && not (has second i))) →
    ((i : ℕ) → gone i ≡ (first i || (listed i && not (has second i)))) → (i : ℕ) →
    gone i ≡ ((uses (top no_value vs) i || third i) && not (used x i))
if_gone vs x second third first gone listed h k l f g = λ i.
    g i ∙ ap₂ (λ p q. p || (q && not (has second i))) (f i) (l i)
    ∙ or_end (uses_any vs i) (third i) (not (has second i))
    ∙ ap₂ (λ p q. (p || third i) && not q) (one_uses vs i h) (k i)

-- a call
pub call_uses : (vs : List a.AVal) (n : ℕ) → IsSome vs → (uses (top no_value vs) n || uses_any (others vs) n)
    ≡ uses_any vs n
call_uses [] n h = absurd h
call_uses (v ∷ vs) n h = refl

-- an end
pub end_holds : (vs : List a.AVal) (e : a.ATm) (own new : Used) → ((i : ℕ) → has own i ≡ false) →
    ((i : ℕ) → has new i ≡ (has own i || uses_any vs i)) → ((i : ℕ) → used e i ≡ uses_any vs i) → Holds new e
end_holds vs e own new z n s = λ i. n i ∙ ap (λ b. b || uses_any vs i) (z i) ∙ sym (s i)

-- a choice
pub if_holds : (vs : List a.AVal) (x y : a.ATm) (second new : Used) (mid : ℕ → Bool) → IsOne vs → Holds second x →
    ((i : ℕ) → mid i ≡ (has second i || used y i)) → ((i : ℕ) → has new i ≡ (mid i || uses_any vs i)) →
    Holds new (a.If0 (top no_value vs) x y)
if_holds vs x y second new mid h k m n = λ i.
    n i ∙ ap₂ (λ p q. p || q) (m i ∙ ap (λ b. b || used y i) (k i)) (one_uses vs i h)
    ∙ or_swap (used x i || used y i) (uses (top no_value vs) i)

-- both names, of a value that is no bare variable
both_wrapped : (v : a.AVal) (w : AWrap) (ws : List AWrap) (e : a.ATm) → false ≡ both_used (wrapped v (w ∷ ws)) e
both_wrapped v (Apply ts) [] e = refl
both_wrapped v (Pack h s) [] e = refl
both_wrapped v w (x ∷ ws) e = both_wrapped (wrap w v) x ws e

pub both_some_wraps : (v : a.AVal) (ws : List AWrap) (e : a.ATm) → 0 < length ws → false ≡ both_used (wrapped v ws) e
both_some_wraps v [] e lt = absurd (omega arith)
both_some_wraps v (w ∷ ws) e lt = both_wrapped v w ws e

-- one node more, before the others
pub told_more : (ns : List ANode) (j left : ℕ) (x : ANode) (sets new : List Rest) (made more : List Ahead)
    (w : Ahead) → left ≡ suc j → j < length ns → x ≡ get_or ns j x → more ≡ made ++ w ∷ [] →
    ((ts : List a.ATm) → AllHold (newest sets) ts → Tells x.form (a_values x.values.items) ts w
    × AllHold (newest new) (a_build x.form (a_values x.values.items) ts)) →
    AllHold (newest sets) (a_onto (drop left ns) []) → Told (drop left ns) (back made) →
    AllHold (newest new) (a_onto (drop j ns) []) × Told (drop j ns) (back more)
told_more ns j left x sets new made more w l lt is e f h t =
    let rest = drop (j + 1) ns in
    let from : left ≡ j + 1 = omega arith in
    let h2 = subst (λ k. AllHold (newest sets) (a_onto (drop k ns) [])) from h in
    let t2 = subst (λ k. Told (drop k ns) (back made)) from t in
    let r = f (a_onto rest []) h2 in
    let here : drop j ns ≡ x ∷ rest = drop_more ns j x lt ∙ ap (λ y. y ∷ rest) (sym is) in
    let told : Told (x ∷ rest) (w ∷ back made) = (r.0, t2) in (
      subst (λ xs. AllHold (newest new) (a_onto xs [])) (sym here) r.1,
      subst (λ xs. Told xs (back more)) (sym here)
          (subst (Told (x ∷ rest)) (sym (ap back e ∙ back_push made w)) told),
    )

pub told_none : (ns : List ANode) (left : ℕ) → length ns ≤ left → AllHold [] (a_onto (drop left ns) [])
    × Told (drop left ns) []
told_none [] zero le = (tt, tt)
told_none [] (suc i) le = (tt, tt)
told_none (n ∷ ns) zero le = absurd (omega arith)
told_none (n ∷ ns) (suc i) le = told_none ns i (omega arith)

-- each node of a row has its values
pub row_at : (ns : List ANode) (k i : ℕ) (x : ANode) → i < length ns → x ≡ get_or ns i x → ARow ns k →
    AArity x.form (a_values x.values.items)
row_at [] k i x lt is h = absurd (omega arith)
row_at (n ∷ ns) zero i x lt is h = absurd h
row_at (n ∷ ns) (suc k) zero x lt is h = subst (λ (y : ANode). AArity y.form (a_values y.values.items)) (sym is) h.0
row_at (n ∷ ns) (suc k) (suc i) x lt is h = row_at ns (lift (a_kids n.form) k) i x (omega arith) is h.1

-- what is left of a row is one
row_rest : (ns : List ANode) (k i : ℕ) → ARow ns k → (m : ℕ) × ARow (drop i ns) m
row_rest ns k zero h = (k, h)
row_rest [] k (suc i) h = (k, h)
row_rest (n ∷ ns) zero (suc i) h = absurd h
row_rest (n ∷ ns) (suc k) (suc i) h = row_rest ns (lift (a_kids n.form) k) i h.1

-- the nodes of a row tell how many terms it has
row_count : (ns : List ANode) (k m : ℕ) → ARow ns k → ARow ns m → k ≡ m
row_count [] k m h g = h ∙ sym g
row_count (n ∷ ns) zero m h g = absurd h
row_count (n ∷ ns) (suc k) zero h g = absurd g
row_count (n ∷ ns) (suc k) (suc m) h g =
    let kids = a_kids n.form in
    let same = row_count ns (lift kids k) (lift kids m) h.1 g.1 in
    omega (arith, same, lift_add kids k, lift_add kids m)

-- of the terms that the nodes from `left` on make, the node before takes its own, and makes one
row_before : (ns : List ANode) (j left : ℕ) (x : ANode) (n : ℕ) → left ≡ suc j → j < length ns → x ≡ get_or ns j x →
    ARow ns 1 → ARow (drop left ns) n → (m : ℕ) × (n ≡ a_kids x.form + m) × ARow (drop j ns) (suc m)
row_before ns j left x n l lt is row h =
    let rest = drop (j + 1) ns in
    let from : left ≡ j + 1 = omega arith in
    let here : drop j ns ≡ x ∷ rest = drop_more ns j x lt ∙ ap (λ y. y ∷ rest) (sym is) in
    let all = row_rest ns 1 j row in
    some here (subst (λ k. ARow (drop k ns) n) from h) all.0 (subst (λ xs. ARow xs all.0) here all.1)
  where
    some : {rest : List ANode} → drop j ns ≡ x ∷ rest → ARow rest n → (k : ℕ) → ARow (x ∷ rest) k →
        (m : ℕ) × (n ≡ a_kids x.form + m) × ARow (drop j ns) (suc m)
    some here h zero g = absurd g
    some {rest} here h (suc m) g = (
      m,
      row_count rest n (lift (a_kids x.form) m) h g.1 ∙ lift_add (a_kids x.form) m,
      subst (λ xs. ARow xs (suc m)) (sym here) g,
    )

pub row_kids : (ns : List ANode) (j left : ℕ) (x : ANode) (n : ℕ) → left ≡ suc j → j < length ns →
    x ≡ get_or ns j x → ARow ns 1 → ARow (drop left ns) n → a_kids x.form ≤ n
row_kids ns j left x n l lt is row h = let b = row_before ns j left x n l lt is row h in omega (arith, b.1)

pub row_next : (ns : List ANode) (j left : ℕ) (x : ANode) (n new : ℕ) → left ≡ suc j → j < length ns →
    x ≡ get_or ns j x → ARow ns 1 → ARow (drop left ns) n → a_kids x.form + new ≡ suc n → ARow (drop j ns) new
row_next ns j left x n new l lt is row h e =
    let b = row_before ns j left x n l lt is row h in
    subst (ARow (drop j ns)) (omega (arith, b.1, e)) b.2

pub row_whole : (ns : List ANode) (left n : ℕ) → left ≡ 0 → ARow ns 1 → ARow (drop left ns) n → n ≡ 1
row_whole ns left n l row h = row_count ns n 1 (subst (λ k. ARow (drop k ns) n) l h) row

-- what is told of the next node
pub next_told : (ns rest : List ANode) (made left : List Ahead) (i : ℕ) (x : ANode) (w : Ahead) →
    drop i ns ≡ x ∷ rest → made ≡ left ++ w ∷ [] → Told (drop i ns) (back made) →
    Tells x.form (a_values x.values.items) (a_onto rest []) w × Told rest (back left)
next_told ns rest made left i x w is e h =
    let t : Told (x ∷ rest) (w ∷ back left) =
    subst (λ ws. Told (x ∷ rest) ws) (ap back e ∙ back_push left w) (subst (λ xs. Told xs (back made)) is h) in
    (t.0, t.1)
