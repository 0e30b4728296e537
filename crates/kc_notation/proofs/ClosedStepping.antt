-- The steps of the walk along a program's nodes, and its end.
use Rattle.std.proofs.Common.{◌≡◌, ◌≤◌, ◌<◌, ℕ, zero, suc, ◌+◌, Bool, true, false, List, [], ◌∷◌, length, drop, get_or}
use Rattle.std.proofs.Common.{refl, sym, Option, None, Some, ap, ap₂, ◌∙◌, arith, map, subst, Result, OnOk}
use Rattle.std.proofs.Math.ListN.{drop_of_length-le}
use Rattle.std.proofs.Math.Logic.{∥∥₁_elim}
use Rattle.std.proofs.Props.{props}
use Rattle.c_terms.specs.Bound.{CBound}
use Rattle.c_terms.specs.C.{CTm}
use Rattle.c_terms.specs.Reach.{CWithin}
use Rattle.c_terms.specs.Scope.{CScoped}
use Rattle.c_terms.specs.Stream.{CNd, clin_t}
use Rattle.c_terms.specs.Read.{cnode, ctree, written}
use Rattle.c_terms.specs.declared.node.CNode.{CNode}
use Rattle.c_terms.proofs.Each.{plain_t}
use Rattle.c_terms.proofs.Scoping.{good_within}
use Rattle.let_types.specs.Known.{Entry, Known, known_step, level_bound, nothing}
use Rattle.let_types.specs.KnownRead.{entry}
use Rattle.let_types.specs.declared.named.Named.{Named}
use Rattle.kc_notation.specs.declared.page.Page.{Page}
use Rattle.kc_notation.specs.Notation.{c_text}
use Rattle.let_types.specs.TypeTexts.{note_text}
use Rattle.kc_notation.specs.Standing.{IsPage}
use Rattle.kc_notation.specs.ClosedWalk.{Sheet, name_note, noted, note_at, shut, step, walk, blank}
use Rattle.kc_notation.proofs.ClosedWalking.{nodes_make}
use Rattle.idx_core.proofs.Lists.{next_item}

pub as_step : {T E : Type 0} (r : Result T E) (t : List ℕ) (n m : CNd) (g h : Page) → n ≡ m →
    OnOk r ((p : Sheet) → IsPage g p → IsPage h (step t m p)) →
    OnOk r ((p : Sheet) → IsPage g p → IsPage h (step t n p))
as_step r t n m g h e = subst (λ x. OnOk r ((p : Sheet) → IsPage g p → IsPage h (step t x p))) (sym e)

-- nothing stands behind a name where types are not shown
none_noted : (es : List Entry) (l : ℕ) → name_note false es l ≡ []
none_noted [] l = refl
none_noted (e ∷ es) zero = refl
none_noted (e ∷ es) (suc l) = none_noted es l

no_note : (es : List Entry) (l : Option ℕ) → note_at false es l ≡ []
no_note es None = refl
no_note es (Some l) = none_noted es l

pub nothing_noted : (b : Bool) (nd : CNd) (k : ℕ) (κ : Known) → b ≡ false → [] ≡ noted b nd (known_step k nd κ)
nothing_noted b nd k κ e =
    sym (no_note (known_step k nd κ).body.names (level_bound nd))
    ∙ ap (λ x. noted x nd (known_step k nd κ)) (sym e)

-- what is known, and what is noted, by what was known where types are shown
pub known_is : (b : Bool) (nd : CNd) (k n : ℕ) (old new κ : Known) → k ≡ n → (b ≡ true → old ≡ κ) →
    (b ≡ true → new ≡ known_step k nd old) → b ≡ true → new ≡ known_step n nd κ
known_is b nd k n old new κ e same is t = is t ∙ ap₂ (λ j x. known_step j nd x) e (same t)

pub note_is : (b : Bool) (nd : CNd) (k n : ℕ) (old κ : Known) (note : List ℕ) → k ≡ n → (b ≡ true → old ≡ κ) →
    note ≡ noted b nd (known_step k nd old) → note ≡ noted b nd (known_step n nd κ)
note_is true nd k n old κ note e same is = is ∙ ap₂ (λ j x. noted true nd (known_step j nd x)) e (same refl)
note_is false nd k n old κ note e same is =
    is ∙ no_note (known_step k nd old).body.names (level_bound nd)
    ∙ sym (no_note (known_step n nd κ).body.names (level_bound nd))

-- what stands behind the name of a level
note_here : (b : Bool) (es : List Named) (l : ℕ) (e : Named) → l < length es → e ≡ get_or es l e →
    note_text b e.types (ctree e.ty) ≡ name_note b (map entry es) l
note_here b [] l e lt is = absurd (omega arith)
note_here b (x ∷ es) zero e lt is = ap (λ (y : Named). note_text b y.types (ctree y.ty)) is
note_here b (x ∷ es) (suc l) e lt is = note_here b es l e (omega arith) is

note_none : (b : Bool) (es : List Named) (l : ℕ) → length es ≤ l → [] ≡ name_note b (map entry es) l
note_none b [] l le = refl
note_none b (x ∷ es) zero le = absurd (omega arith)
note_none b (x ∷ es) (suc l) le = note_none b es l (omega arith)

pub bound_here : (es : List Named) (names : List Entry) (o : Option ℕ) (l : ℕ) (e : Named) → map entry es ≡ names →
    Some l ≡ o → l < length es → e ≡ get_or es l e → note_text true e.types (ctree e.ty) ≡ note_at true names o
bound_here es names o l e same is lt at =
    note_here true es l e lt at ∙ ap₂ (λ (xs : List Entry) x. note_at true xs x) same is

pub bound_none : (es : List Named) (names : List Entry) (o : Option ℕ) (l : ℕ) → map entry es ≡ names →
    Some l ≡ o → length es ≤ l → [] ≡ note_at true names o
bound_none es names o l same is le =
    note_none true es l le ∙ ap₂ (λ (xs : List Entry) x. note_at true xs x) same is

pub walk_more : (b : Bool) (ns : List CNode) (i : ℕ) (n : CNode) (κ : Known) (p q : Sheet) → n ≡ get_or ns i n →
    i < length ns → walk b (written (drop i ns) []) κ p ≡ q →
    walk b (written (drop (i + 1) ns) []) (known_step p.body.scope.types (cnode n) κ)
    (step (noted b (cnode n) (known_step p.body.scope.types (cnode n) κ)) (cnode n) p) ≡ q
walk_more b ns i n κ p q is lt h = subst (λ xs. walk b (written xs []) κ p ≡ q) (next_item ns i n is lt) h

pub scoped : (t : CTm) → CBound t → CScoped 0 t
scoped t h = good_within t 0 [] (plain_t (CWithin 17592186044416 1604 17592186044416) t 0 [] h.0)

pub walk_done : (b : Bool) (ns : List CNode) (i : ℕ) (κ : Known) (p : Sheet) (t : CTm) → length ns ≤ i →
    walk b (written (drop i ns) []) κ p ≡ walk b (written ns []) nothing blank → written ns [] ≡ clin_t 0 t [] →
    ∥ CBound t ∥₁ → shut p.body ≡ c_text b t
walk_done b ns i κ p t le h read bound =
    let e : p ≡ walk b (written ns []) nothing blank =
    subst (λ xs. walk b (written xs []) κ p ≡ walk b (written ns []) nothing blank) (drop_of_length-le ns le) h in
    ap (λ (q : Sheet). shut q.body) (e ∙ ap (λ xs. walk b xs nothing blank) read)
    ∙ ∥∥₁_elim bound (texts_set (shut (walk b (clin_t 0 t []) nothing blank).body) (c_text b t))
    (λ h. nodes_make b t (scoped t h))
  where
    texts_set : IsSet (List ℕ)
    texts_set = hlevel props
