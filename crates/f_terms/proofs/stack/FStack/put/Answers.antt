use Rattle.std.proofs.Common.{◌≡◌, ◌-◌, ◌++◌, ◌∷◌, [], List, ℕ, ap, sym, subst, ◌∙◌, map, take, drop, arith, All}
use Rattle.std.proofs.lemmas.List.{take-append-drop, take_rest}
use Rattle.f_terms.specs.Tm.{Tm}
use Rattle.f_terms.specs.Read.{place}
use Rattle.f_terms.specs.Shape.{children}
use Rattle.f_terms.specs.ReadTerm.{part, IsLoose}
use Rattle.f_terms.specs.Made.{IsStack}
use Rattle.f_terms.specs.Stacked.{step_tree}
use Rattle.calc_core.specs.Roots.{Differ}
use Rattle.f_terms.proofs.Stacking.{top_loose, top_differ, stack_put, stack_trees, stacked_is}
use Rattle.f_terms.proofs.stack.FStack.put.Goals as goal

pub add-requires-clause-loose : goal.add-requires-clause-loose
add-requires-clause-loose c =
    let s = c.args.self.now in
    let ns = s.numbers.items in
    let m = c.len.result - c.arity.result in
    let e : children c.in_ok-shape.shape ≡ drop m ns =
    c.in_ok-shape.ensures.0 ∙ take_rest c.deref.result.now m ∙ ap (drop m) c.deref.ensures.value in
    subst (λ (xs : List ℕ). All (λ k. IsLoose s.parts k) xs) (sym e)
    (top_loose s.parts (take m ns) (drop m ns) (s.only ∙ sym (take-append-drop m ns)))

pub add-requires-clause-differ : goal.add-requires-clause-differ
add-requires-clause-differ c =
    let s = c.args.self.now in
    let ns = s.numbers.items in
    let m = c.len.result - c.arity.result in
    let e : children c.in_ok-shape.shape ≡ drop m ns =
    c.in_ok-shape.ensures.0 ∙ take_rest c.deref.result.now m ∙ ap (drop m) c.deref.ensures.value in
    subst Differ (sym e) (top_differ s.parts (take m ns) (drop m ns) (s.only ∙ sym (take-append-drop m ns)))

pub invariant_of-self-2 : goal.invariant_of-self-2
invariant_of-self-2 c =
    let s = c.args.self.now in
    let ns = s.numbers.items in
    let m = c.len.result - c.arity.result in
    let e : children c.in_ok-shape.shape ≡ drop m ns =
    c.in_ok-shape.ensures.0 ∙ take_rest c.deref.result.now m ∙ ap (drop m) c.deref.ensures.value in
    let made : c.push_reserved.new.self.items ≡ take m ns ++ c.in_ok-part.part ∷ [] = c.push_reserved.ensures.items
    ∙ ap (λ (xs : List ℕ). xs ++ c.in_ok-part.part ∷ [])
    (c.truncate.ensures.items ∙ ap (take m) c.reserve.ensures.items) in
    record {
      only = subst (IsStack c.add.new.parts) (sym made)
          (stack_put s.parts (take m ns) (drop m ns) (s.only ∙ sym (take-append-drop m ns)) c.add.new.parts
          (place c.args.span) c.in_ok-shape.shape c.in_ok-part.part e c.in_ok-part.ensures.added);
    }

pub returns-clause-done : goal.returns-clause-done
returns-clause-done c =
    let s = c.args.self.now in
    let ns = s.numbers.items in
    let p = place c.args.span in
    let m = c.len.result - c.arity.result in
    let e : children c.in_ok-shape.shape ≡ drop m ns =
    c.in_ok-shape.ensures.0 ∙ take_rest c.deref.result.now m ∙ ap (drop m) c.deref.ensures.value in
    let made : c.push_reserved.new.self.items ≡ take m ns ++ c.in_ok-part.part ∷ [] = c.push_reserved.ensures.items
    ∙ ap (λ (xs : List ℕ). xs ++ c.in_ok-part.part ∷ [])
    (c.truncate.ensures.items ∙ ap (take m) c.reserve.ensures.items) in
    let form = c.in_ok-shape.ensures.1 (part s.parts) p
    ∙ ap (λ (xs : List ℕ). step_tree p c.args.step (map (part s.parts) xs)) (sym c.in_ok-shape.ensures.0 ∙ e) in
    ap (map (part c.add.new.parts)) made
    ∙ stack_trees s.parts (take m ns) (drop m ns) (s.only ∙ sym (take-append-drop m ns)) c.add.new.parts p
    c.in_ok-shape.shape c.in_ok-part.part e c.in_ok-part.ensures.added
    ∙ ap (λ (t : Tm). map (part s.parts) (take m ns) ++ t ∷ []) form
    ∙ sym (stacked_is (part s.parts) p c.args.step ns m (omega (arith, c.len.ensures, c.arity.ensures, s.numbers.ok.0)))
