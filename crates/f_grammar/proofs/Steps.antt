-- The steps of a reading, over plain variables.
use Rattle.std.proofs.Common.{◌≡◌, ◌<◌, ℕ, ◌+◌, List, [], ◌∷◌, ◌++◌, length, Vec, Global, refl, sym, ◌∙◌, ap, subst}
use Rattle.std.proofs.Common.{Ok, arith, false, All}
use Rattle.std.proofs.lemmas.List.{length_push}
use Rattle.std.proofs.lemmas.List.Elements.{All-nil, All-cons}
use Rattle.f_lexer.specs.declared.token.Token.{Token}
use Rattle.f_lexer.specs.declared.kind.Kind.{Kind}
use Rattle.f_lexer.specs.declared.kind.Kind.TheVariants as k
use Rattle.text_core.specs.Table.{Nt, State}
use Rattle.calc_core.specs.Stack.{Chain}
use Rattle.f_grammar.specs.declared.raw.RawNode.{RawNode}
use Rattle.text_core.specs.Going.{Goes}
use Rattle.text_core.proofs.Going.{marks_append}
use Rattle.f_grammar.specs.Raw.{Piece}
use Rattle.f_grammar.specs.Nodes.{children}
use Rattle.f_grammar.specs.Machine.{table, LE, Stack, Val, OfTerm, marks}
use Rattle.f_grammar.specs.declared.raw.RawShape.{RawShape}
use Rattle.f_grammar.specs.declared.raw.RawShape.TheVariants as shape
use Rattle.f_grammar.specs.declared.forest.Forest.{Forest}
use Rattle.f_grammar.specs.declared.part.Part as parts
use Rattle.f_grammar.specs.declared.frame.Frame.{Frame}
use Rattle.f_grammar.specs.Forest.{size, Stores, Counted}
use Rattle.f_grammar.specs.Frames.{Around, nothing, Reached, Leads, Offered, IsLeaf, work, Went}
use Rattle.f_grammar.specs.declared.frame.Reader.{Reader}
use Rattle.f_grammar.specs.declared.frame.Control.{Control}
use Rattle.f_grammar.specs.declared.frame.Control.TheVariants as control
use Rattle.f_grammar.proofs.Reaching.{leave}

pub one_more : (fs gs : List Frame) (f : Frame) → gs ≡ fs ++ f ∷ [] → length gs ≡ length fs + 1
one_more fs gs f e = ap (λ (xs : List Frame). length xs) e ∙ length_push fs f

pub has_mark : {ts : List Token} {fs : List Frame} {b : Forest} {depth at : ℕ} {goal : Stack} {got : List Val} →
    0 < marks goal → Reached ts fs b depth at goal got → 0 < depth
has_mark {goal} m r = omega (arith, m, r.counts, marks_append table goal r.around.owed)

-- at the start nothing was read
pub started : (ts : List Token) (fs : List Frame) (b : Forest) → fs ≡ [] → b.full ≡ false → b.nodes.items ≡ [] →
    Reached ts fs b 0 0 (Nt LE ∷ []) []
started ts fs b e f n = record {
  around = nothing;
  framed = subst (λ (xs : List Frame). Chain (Around b) xs nothing nothing) (sym e) refl;
  goes = record { leads = λ s below q. refl };
  counted = record { all = λ x. ap (λ (ns : List RawNode). length ns) n; many = λ x. absurd (cc) };
  counts = refl;
  room = omega arith;
  in_range = omega arith;
}

-- at the end one term was read
pub ended : (ts : List Token) (fs : List Frame) (b : Forest) (depth at : ℕ) (q : Piece) → fs ≡ [] →
    Reached ts fs b depth at [] (OfTerm q ∷ []) →
    Goes table 200 ts 0 0 (Nt LE ∷ []) [] at [] (OfTerm q ∷ []) × Counted b (OfTerm q ∷ [])
ended ts fs b depth at q e r =
    let none : r.around ≡ nothing = subst (λ (xs : List Frame). Chain (Around b) xs r.around nothing) e r.framed in
    subst (λ (x : State table). Goes table 200 ts 0 0 (Nt LE ∷ []) [] at x.owed (OfTerm q ∷ x.made)
    × Counted b (OfTerm q ∷ x.made)) none (r.goes, r.counted)

pub at_frame : (ts : List Token) (r : Reader) (c : Control) (p : parts.Part) (fs : Vec Frame Global) (f : Frame) →
    r.frames.items ≡ fs.items ++ f ∷ [] → c ≡ control.Give p → (r.tokens.now ≡ ts) × Leads ts r c →
    Offered r.tokens.now (record r { frames = fs }) f p
at_frame ts r c p fs f e is h =
    let x = subst (Leads ts r) is h.1 in
    let y = leave ts [] (OfTerm x.0 ∷ []) f e x.2 in
    subst (λ xs. Offered xs (record r { frames = fs }) f p) (sym h.0) (x.0, y.0, x.1, y.1, y.2)

-- a step of the whole
pub went : (ts : List Token) (old new : Reader) (m : ℕ) (c : Control) → old.tokens.now ≡ ts →
    Went old.tokens.now new m (Ok c) → (new.tokens.now ≡ ts) × Leads ts new c × (work ts new c < m)
went ts old new m c e h = subst (λ xs. (new.tokens.now ≡ xs) × Leads xs new c × (work xs new c < m)) e h

-- a term was read
pub record Given (ts : List Token) (fs : List Frame) (b : Forest) (depth at : ℕ) (p : parts.Part) : Type 0 where
  pub piece : Piece
  pub stands : Stores b p piece
  pub reached : Reached ts fs b depth at [] (OfTerm piece ∷ [])

-- a leaf has no children
pub leaf_children : (kind : Kind) (form : RawShape) (n : ℕ) → IsLeaf kind form → All (λ i. i < n) (children form)
leaf_children k.Name shape.Var n h = All-nil (λ i. i < n)
leaf_children (k.Plain z) (shape.Num y) n h = All-nil (λ i. i < n)
leaf_children (k.Negative z) (shape.Num y) n h = All-nil (λ i. i < n)
leaf_children _ _ n h = absurd h

-- one, two and three children
pub one_child : {b : Forest} {p : parts.Part} {q : Piece} → Stores b p q → b.full ≡ false →
    All (λ i. i < size b) (p.node ∷ [])
one_child {b} {p} h f = All-cons (λ i. i < size b) p.node [] (h.node f).0 (All-nil (λ i. i < size b))

pub two_children : {b : Forest} {p p' : parts.Part} {q q' : Piece} → Stores b p q → Stores b p' q' → b.full ≡ false →
    All (λ i. i < size b) (p.node ∷ p'.node ∷ [])
two_children {b} {p} {p'} h g f = All-cons (λ i. i < size b) p.node (p'.node ∷ []) (h.node f).0 (one_child g f)

pub three_children : {b : Forest} {p p' p'' : parts.Part} {q q' q'' : Piece} → Stores b p q → Stores b p' q' →
    Stores b p'' q'' → b.full ≡ false → All (λ i. i < size b) (p.node ∷ p'.node ∷ p''.node ∷ [])
three_children {b} {p} {p'} {p''} h g i f =
    All-cons (λ i. i < size b) p.node (p'.node ∷ p''.node ∷ []) (h.node f).0 (two_children g i f)

-- the values that a frame holds are these
pub got_are : {ts : List Token} {fs : List Frame} {b : Forest} {depth at : ℕ} {goal : Stack} (q : Piece)
    (vs us : List Val) → vs ≡ us → Reached ts fs b depth at goal (OfTerm q ∷ vs) →
    Reached ts fs b depth at goal (OfTerm q ∷ us)
got_are {ts} {fs} {b} {depth} {at} {goal} q vs us e r =
    subst (λ (xs : List Val). Reached ts fs b depth at goal (OfTerm q ∷ xs)) e r
