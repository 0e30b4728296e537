-- A token list has one tree and one first fault, over any table that meets its claims.
use Rattle.std.proofs.Common.{◌≡◌, ℕ, List, [], ◌∷◌, ◌++◌, refl, sym, ◌∙◌, ap, subst, append_assoc}
use Rattle.std.proofs.lemmas.List.{append-nil}
use Rattle.text_core.specs.Table.{Table, Done, seen, Verdict, Fine, Unexpected, Passed}
use Rattle.text_core.specs.Shapes.{Begins, Passes, NonePasses, IsUnexpected, IsPassed}
use Rattle.text_core.specs.Verdicts.{grammar_of, Says}
use Rattle.text_core.proofs.Claims.{Claims}

-- which of two places in one list is the earlier
data Order (g : Table) (u : List g.Tok) (c : g.Tok) (z u' : List g.Tok) (c' : g.Tok) (z' : List g.Tok) : Type 0 where
  same : u ≡ u' → (c ∷ z) ≡ (c' ∷ z') → Order g u c z u' c' z'
  before : (y : List g.Tok) → u' ≡ (u ++ c ∷ []) ++ y → Order g u c z u' c' z'
  after : (y : List g.Tok) → u ≡ (u' ++ c' ∷ []) ++ y → Order g u c z u' c' z'

order : (g : Table) → (u : List g.Tok) (c : g.Tok) (z u' : List g.Tok) (c' : g.Tok) (z' : List g.Tok) →
    u ++ c ∷ z ≡ u' ++ c' ∷ z' → Order g u c z u' c' z'
order g [] c z [] c' z' e = same refl e
order g [] c z (a ∷ u') c' z' e = before u' (let q : a ≡ c = cc in ap (λ (x : g.Tok). x ∷ u') q)
order g (a ∷ u) c z [] c' z' e = after u (let q : a ≡ c' = cc in ap (λ (x : g.Tok). x ∷ u) q)
order g (a ∷ u) c z (b ∷ u') c' z' e =
    let q : a ≡ b = cc in
    let r : u ++ c ∷ z ≡ u' ++ c' ∷ z' = cc in
    further a b u c z u' c' z' q (order g u c z u' c' z' r)
  where
    further : (a b : g.Tok) (u : List g.Tok) (c : g.Tok) (z u' : List g.Tok) (c' : g.Tok) (z' : List g.Tok) → a ≡ b →
        Order g u c z u' c' z' → Order g (a ∷ u) c z (b ∷ u') c' z'
    further a b u c z u' c' z' q (same p r) = same (cc) r
    further a b u c z u' c' z' q (before y p) = before y (cc)
    further a b u c z u' c' z' q (after y p) = after y (cc)

-- a place where the reading stops
record Halts (g : Table) (limit : ℕ) (w u : List g.Tok) (c : g.Tok) (z : List g.Tok) : Type 0 where
  place : w ≡ u ++ c ∷ z
  begins : Begins (grammar_of g) u
  quiet : NonePasses (grammar_of g) limit u
  blocks : Begins (grammar_of g) (u ++ c ∷ []) → Passes (grammar_of g) limit u c

begins_part : (g : Table) → (u : List g.Tok) (c : g.Tok) (y : List g.Tok) →
    Begins (grammar_of g) ((u ++ c ∷ []) ++ y) → Begins (grammar_of g) (u ++ c ∷ [])
begins_part g u c y (z, s) = (y ++ z, rw append_assoc at s)

begins_up_to : (g : Table) → (w u : List g.Tok) (c : g.Tok) (z : List g.Tok) → w ≡ u ++ c ∷ z →
    Begins (grammar_of g) w → Begins (grammar_of g) (u ++ c ∷ [])
begins_up_to g w u c z q b =
    begins_part g u c z (subst (λ (x : List g.Tok). Begins (grammar_of g) x) (q ∙ sym (append_assoc u (c ∷ []) z)) b)

begins_less : (g : Table) → (u : List g.Tok) (c : g.Tok) → Begins (grammar_of g) (u ++ c ∷ []) → Begins (grammar_of g) u
begins_less g u c (z, s) = (c ∷ z, rw append_assoc at s)

not_whole : (g : Table) → (limit : ℕ) (w u : List g.Tok) (c : g.Tok) (z : List g.Tok) → Begins (grammar_of g) w →
    NonePasses (grammar_of g) limit w → Halts g limit w u c z → ⊥
not_whole g limit w u c z b n h = n u c z h.place (h.blocks (begins_up_to g w u c z h.place b))

not_later : (g : Table) →
    (limit : ℕ) (w u : List g.Tok) (c : g.Tok) (z u' : List g.Tok) (c' : g.Tok) (z' y : List g.Tok) →
    Halts g limit w u c z → Halts g limit w u' c' z' →
    u' ≡ (u ++ c ∷ []) ++ y → ⊥
not_later g limit w u c z u' c' z' y h k q =
    let p : u' ≡ u ++ c ∷ y = q ∙ append_assoc u (c ∷ []) y in
    k.quiet u c y p (h.blocks (begins_up_to g u' u c y p k.begins))

record OnePlace (g : Table) (u : List g.Tok) (c : g.Tok) (z u' : List g.Tok) (c' : g.Tok) (z' : List g.Tok) :
    Type 0 where
  before : u ≡ u'
  rest : (c ∷ z) ≡ (c' ∷ z')

one_place : (g : Table) →
    (limit : ℕ) (w u : List g.Tok) (c : g.Tok) (z u' : List g.Tok) (c' : g.Tok) (z' : List g.Tok) →
    Halts g limit w u c z → Halts g limit w u' c' z' → OnePlace g u c z u' c' z'
one_place g limit w u c z u' c' z' h k = by_order (order g u c z u' c' z' (sym h.place ∙ k.place))
  where
    by_order : Order g u c z u' c' z' → OnePlace g u c z u' c' z'
    by_order (same p q) = record { before = p; rest = q }
    by_order (before y q) = absurd (not_later g limit w u c z u' c' z' y h k q)
    by_order (after y q) = absurd (not_later g limit w u' c' z' u c z y k h q)

halts_unexpected : (g : Table) → {limit : ℕ} {w u : List g.Tok} {c : g.Tok} {z : List g.Tok} →
    IsUnexpected (grammar_of g) limit w u c z → Halts g limit w u c z
halts_unexpected g f =
    record { place = f.place; begins = f.before; quiet = f.within; blocks = λ b. absurd (f.with_it b) }

halts_passed : (g : Table) → {limit : ℕ} {w u : List g.Tok} {c : g.Tok} {z : List g.Tok} →
    IsPassed (grammar_of g) limit w u c z → Halts g limit w u c z
halts_passed g {limit} {w} {u} {c} f =
    record { place = f.place; begins = begins_less g u c f.passes.begins; quiet = f.within; blocks = λ b. f.passes }

begins_whole : (g : Table) → (w : List g.Tok) (t : g.Tree) → g.Shape w t → Begins (grammar_of g) w
begins_whole g w t e = ([], (t, rw append-nil e))

last_same : (g : Table) (a b : List ℕ) (t r : List g.Val) → seen g a (Done t) ≡ seen g b (Done r) → t ≡ r
last_same g [] [] t r e = cc
last_same g [] (m ∷ b) t r e = absurd (cc)
last_same g (n ∷ a) [] t r e = absurd (cc)
last_same g (n ∷ a) (m ∷ b) t r e = let q : seen g a (Done t) ≡ seen g b (Done r) = cc in last_same g a b t r q

pub one_tree : (g : Table) (k : Claims g) {w : List g.Tok} {t r : g.Tree} → g.Shape w t → g.Shape w r → t ≡ r
one_tree g k {w} {t} {r} x y =
    let q : (g.tree t ∷ []) ≡ (g.tree r ∷ []) =
    last_same g (g.opens w t x) (g.opens w r y) (g.tree t ∷ []) (g.tree r ∷ [])
    (sym (k.complete w t x) ∙ k.complete w r y) in
    k.same_tree t r (cc)

mixed : (g : Table) → (limit : ℕ) (w u : List g.Tok) (c : g.Tok) (z u' : List g.Tok) (c' : g.Tok) (z' : List g.Tok) →
    IsUnexpected (grammar_of g) limit w u c z → IsPassed (grammar_of g) limit w u' c' z' → ⊥
mixed g limit w u c z u' c' z' f k =
    let o = one_place g limit w u c z u' c' z' (halts_unexpected g f) (halts_passed g k) in
    let p = o.before in
    let q = o.rest in
    let r : c ≡ c' = cc in
    let s : u ++ c ∷ [] ≡ u' ++ c' ∷ [] = cc in
    f.with_it (subst (λ (x : List g.Tok). Begins (grammar_of g) x) (sym s) k.passes.begins)

pub one_verdict : (g : Table) → Claims g → (limit : ℕ) (w : List g.Tok) (a b : Verdict g) → Says g limit w a →
    Says g limit w b → a ≡ b
one_verdict g k limit w (Fine t) (Fine r) x y =
    let q : r ≡ t = rw (x.is, y.is) (ap (λ (i : g.Tree). g.tree i ∷ []) (one_tree g k y.shape x.shape)) in
    ap (λ (i : List g.Val). Fine i) (sym q)
one_verdict g k limit w (Fine t) (Unexpected []) x y = absurd (y.none (x.value, x.shape))
one_verdict g k limit w (Fine t) (Unexpected (c ∷ z)) x (u, y) =
    absurd (not_whole g limit w u c z (begins_whole g w x.value x.shape) x.within (halts_unexpected g y))
one_verdict g k limit w (Fine t) (Passed []) x y = absurd y
one_verdict g k limit w (Fine t) (Passed (c ∷ z)) x (u, y) =
    absurd (not_whole g limit w u c z (begins_whole g w x.value x.shape) x.within (halts_passed g y))
one_verdict g k limit w (Unexpected []) (Fine t) x y = absurd (x.none (y.value, y.shape))
one_verdict g k limit w (Unexpected []) (Unexpected []) x y = refl
one_verdict g k limit w (Unexpected []) (Unexpected (c ∷ z)) x (u, y) =
    absurd (not_whole g limit w u c z x.begins x.within (halts_unexpected g y))
one_verdict g k limit w (Unexpected []) (Passed []) x y = absurd y
one_verdict g k limit w (Unexpected []) (Passed (c ∷ z)) x (u, y) =
    absurd (not_whole g limit w u c z x.begins x.within (halts_passed g y))
one_verdict g k limit w (Unexpected (c ∷ z)) (Fine t) (u, x) y =
    absurd (not_whole g limit w u c z (begins_whole g w y.value y.shape) y.within (halts_unexpected g x))
one_verdict g k limit w (Unexpected (c ∷ z)) (Unexpected []) (u, x) y =
    absurd (not_whole g limit w u c z y.begins y.within (halts_unexpected g x))
one_verdict g k limit w (Unexpected (c ∷ z)) (Unexpected (c' ∷ z')) (u, x) (u', y) =
    ap (λ (r : List g.Tok). Unexpected r)
    (one_place g limit w u c z u' c' z' (halts_unexpected g x) (halts_unexpected g y)).rest
one_verdict g k limit w (Unexpected (c ∷ z)) (Passed []) x y = absurd y
one_verdict g k limit w (Unexpected (c ∷ z)) (Passed (c' ∷ z')) (u, x) (u', y) =
    absurd (mixed g limit w u c z u' c' z' x y)
one_verdict g k limit w (Passed []) b x y = absurd x
one_verdict g k limit w (Passed (c ∷ z)) (Fine t) (u, x) y =
    absurd (not_whole g limit w u c z (begins_whole g w y.value y.shape) y.within (halts_passed g x))
one_verdict g k limit w (Passed (c ∷ z)) (Unexpected []) (u, x) y =
    absurd (not_whole g limit w u c z y.begins y.within (halts_passed g x))
one_verdict g k limit w (Passed (c ∷ z)) (Unexpected (c' ∷ z')) (u, x) (u', y) =
    absurd (mixed g limit w u' c' z' u c z y x)
one_verdict g k limit w (Passed (c ∷ z)) (Passed []) x y = absurd y
one_verdict g k limit w (Passed (c ∷ z)) (Passed (c' ∷ z')) (u, x) (u', y) =
    ap (λ (r : List g.Tok). Passed r) (one_place g limit w u c z u' c' z' (halts_passed g x) (halts_passed g y)).rest
