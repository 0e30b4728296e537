-- Types that a loop goes over, and what is written of them.
use Rattle.std.proofs.Common.{◌≡◌, ◌≤◌, ◌<◌, ℕ, suc, ◌+◌, ◌-◌, Bool, true, false, List, [], ◌∷◌, ◌++◌, length, drop}
use Rattle.std.proofs.Common.{get_or, refl, sym, ◌∙◌, ap, subst, arith, append_assoc, codes, ◌&&◌}
use Rattle.std.proofs.Common.{◌||◌, ◌==◌, true≢false}
use Rattle.std.proofs.lemmas.List.{append-nil}
use Rattle.std.proofs.Math.ListN.{drop_of_length-le}
use Rattle.page_core.specs.Names.{separator, type_names}
use Rattle.c_terms.specs.C.{CTys, TCTuple, TCCode}
use Rattle.c_terms.specs.Read.{ctree, ctys}
use Rattle.calc_core.specs.declared.types.CoreType.{CoreType as CType}
use Rattle.let_types.specs.TypeTexts.{names_variable, one_names_variable, text_of, texts_after, closure_code}
use Rattle.let_types.specs.TypeTexts.{applied_text, others_text, takes_hidden, types_text, are_closure}
use Rattle.idx_core.proofs.Lists.{next_item}

-- the variable is named by the next type, or is not
pub named : (v : ℕ) (ts : List CType) (i : ℕ) (t : CType) → t ≡ get_or ts i t → i < length ts →
    names_variable v (ctree t) ≡ true → one_names_variable v (ctys (drop i ts)) ≡ true
named v ts i t is lt e = ap (λ xs. one_names_variable v (ctys xs)) (next_item ts i t is lt)
    ∙ ap (λ (b : Bool). b || one_names_variable v (ctys (drop (i + 1) ts))) e

pub passed : (v : ℕ) (ts : List CType) (i : ℕ) (t : CType) → t ≡ get_or ts i t → i < length ts →
    names_variable v (ctree t) ≡ false → one_names_variable v (ctys (drop (i + 1) ts))
    ≡ one_names_variable v (ctys (drop i ts))
passed v ts i t is lt e = sym (ap (λ xs. one_names_variable v (ctys xs)) (next_item ts i t is lt)
    ∙ ap (λ (b : Bool). b || one_names_variable v (ctys (drop (i + 1) ts))) e)

pub none_left : (v : ℕ) (ts : List CType) (i : ℕ) → length ts ≤ i → one_names_variable v (ctys (drop i ts)) ≡ false
none_left v ts i le = ap (λ xs. one_names_variable v (ctys xs)) (drop_of_length-le ts le)

regroup : (a b c d : List ℕ) → ((a ++ b) ++ c) ++ d ≡ a ++ (b ++ c ++ d)
regroup a b c d = simp append_assoc

-- one type more is written, and all are
pub type_more : (b : Bool) (n : ℕ) (ts : List CType) (from i : ℕ) (t : CType) (t0 t1 t2 whole : List ℕ) →
    t ≡ get_or ts i t → i < length ts → from ≤ i →
    t0 ++ texts_after b (i - from) n (ctys (drop i ts)) ≡ whole → t1 ≡ t0 ++ separator (i - from) →
    t2 ≡ t1 ++ text_of b n (ctree t) →
    t2 ++ texts_after b (i + 1 - from) n (ctys (drop (i + 1) ts)) ≡ whole
type_more b n ts from i t t0 t1 t2 whole is lt le h e f =
    let m : i + 1 - from ≡ suc (i - from) = omega arith in
    let w : t0 ++ texts_after b (i - from) n (ctys (t ∷ drop (i + 1) ts)) ≡ whole =
    subst (λ xs. t0 ++ texts_after b (i - from) n (ctys xs) ≡ whole) (next_item ts i t is lt) h in
    rw (m, f, e) (regroup t0 (separator (i - from)) (text_of b n (ctree t))
    (texts_after b (suc (i - from)) n (ctys (drop (i + 1) ts))) ∙ w)

pub types_done : (b : Bool) (n : ℕ) (ts : List CType) (from i : ℕ) (text whole : List ℕ) → length ts ≤ i → text
    ++ texts_after b (i - from) n (ctys (drop i ts)) ≡ whole → text ≡ whole
types_done b n ts from i text whole le h =
    sym (append-nil text)
    ∙ subst (λ xs. text ++ texts_after b (i - from) n (ctys xs) ≡ whole) (drop_of_length-le ts le) h

pub from_start : (b : Bool) (n from : ℕ) (ts : List CType) (text : List ℕ) → text
    ++ texts_after b (from - from) n (ctys (drop from ts)) ≡ text ++ texts_after b 0 n (ctys (drop from ts))
from_start b n from ts text = let e : from - from ≡ 0 = omega arith in rw e refl

pub others_are : (n : ℕ) (ts : List CType) → texts_after true 0 n (ctys (drop 1 ts)) ≡ others_text n (ctys ts)
others_are n [] = refl
others_are n (t ∷ ts) = refl

pub tuple_done : (b : Bool) (n : ℕ) (ts : CTys) (old first filled new : List ℕ) → first ≡ old ++ codes "<" →
    filled ≡ first ++ texts_after b 0 n ts → new ≡ filled ++ codes ">" → new ≡ old ++ text_of b n (TCTuple ts)
tuple_done b n ts old first filled new e f g = rw (g, f, e) (simp append_assoc)

owed_done : (word names types close old first filled new : List ℕ) → first ≡ old ++ (word ++ names ++ codes "(") →
    filled ≡ first ++ types → new ≡ filled ++ close → new ≡ old ++ (word ++ names ++ codes "(" ++ types ++ close)
owed_done word names types close old first filled new e f g = rw (g, f, e) (simp append_assoc)

pub code_done : (b : Bool) (n owes inner : ℕ) (ts : CTys) (old first filled new : List ℕ) → inner ≡ n + owes →
    first ≡ old ++ (codes "code" ++ type_names n owes ++ codes "(") → filled ≡ first ++ texts_after b 0 inner ts →
    new ≡ filled ++ codes ")" → new ≡ old ++ text_of b n (TCCode owes ts)
code_done b n owes inner ts old first filled new i e f g =
    owed_done (codes "code") (type_names n owes) (texts_after b 0 (n + owes) ts) (codes ")") old first filled new e
    (subst (λ d. filled ≡ first ++ texts_after b 0 d ts) i f) g

pub closure_done : (n owes inner : ℕ) (ts : List CType) (old first filled new : List ℕ) → inner ≡ n + owes →
    first ≡ old ++ (codes "closure" ++ type_names n owes ++ codes "(") →
    filled ≡ first ++ texts_after true 0 inner (ctys (drop 1 ts)) →
    new ≡ filled ++ codes ")" → new ≡ old ++ closure_code n (TCCode owes (ctys ts))
closure_done n owes inner ts old first filled new i e f g =
    owed_done (codes "closure") (type_names n owes) (others_text (n + owes) (ctys ts)) (codes ")") old first filled new
    e
    (subst (λ d. filled ≡ first ++ others_text d (ctys ts)) i (f ∙ ap (λ (s : List ℕ). first
    ++ s) (others_are inner ts))) g

and_false : (b : Bool) → false ≡ b && false
and_false true = refl
and_false false = refl

-- no other number of types than two is a closure's
pub no_closure : (ts : List CType) → ¬ (length ts ≡ 2) → false ≡ are_closure (ctys ts)
no_closure [] h = refl
no_closure (t ∷ []) h = and_false (takes_hidden (ctree t))
no_closure (t ∷ u ∷ []) h = absurd (h refl)
no_closure (t ∷ u ∷ v ∷ ts) h = and_false (takes_hidden (ctree t))

-- types behind a value
pub applied_done : (n : ℕ) (us : List CType) (b : Bool) (t1 t2 t3 : List ℕ) → b ≡ (length us == 0) → b ≡ false →
    t1 ≡ codes "[" → t2 ≡ t1 ++ types_text n (ctys us) → t3 ≡ t2 ++ codes "]" → t3 ≡ applied_text n (ctys us)
applied_done n [] b t1 t2 t3 e f e1 e2 e3 = let clash : true ≡ false = sym e ∙ f in absurd (true≢false clash)
applied_done n (u ∷ us) b t1 t2 t3 e f e1 e2 e3 =
    e3 ∙ ap (λ (s : List ℕ). s ++ codes "]") (e2 ∙ ap (λ (s : List ℕ). s ++ types_text n (ctys (u ∷ us))) e1)
