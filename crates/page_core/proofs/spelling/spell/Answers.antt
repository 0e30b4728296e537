use Rattle.std.proofs.Common.{◌≡◌, ◌++◌, ◌∷◌, [], List, ℕ, ap, ◌∙◌, sym, arith, rules}
use Rattle.std.proofs.lemmas.List.{append-nil}
use Rattle.page_core.specs.Texts.{texts, spelled, steps}
use Rattle.page_core.proofs.Spelled.{spelled_push, work_push}
use Rattle.page_core.proofs.spelling.spell.Goals as goal

pub loop-number-init : goal.loop-number-init
loop-number-init c =
    ap (λ (w : List ℕ). w ++ spelled (texts c.args.pieces.now) c.push.new.self.items) c.new-text.ensures.items
    ∙ spelled_push (texts c.args.pieces.now) [] c.push.new.self.items c.args.piece
    (c.in_ok-push.ensures.items ∙ ap (λ (w : List ℕ). w ++ c.args.piece ∷ []) c.new-pending.ensures.items)
    ∙ append-nil _

pub loop-number-smaller : goal.loop-number-smaller
loop-number-smaller c =
    let less = c.in_ok-step.ensures.less in
    let old = work_push (steps c.args.pieces.now) c.pop.new.self.items c.loop-number.pending.items _
    c.in-Some.ensures.items in
    omega (arith, less, old)

pub loop-number-preserved : goal.loop-number-preserved
loop-number-preserved c =
    c.in_ok-step.ensures.is
    ∙ ap (λ (w : List ℕ). c.loop-number.text.items ++ w)
    (sym (spelled_push (texts c.args.pieces.now) c.pop.new.self.items c.loop-number.pending.items _
    c.in-Some.ensures.items))
    ∙ c.loop-number.invariant

pub returns : goal.returns
returns c =
    sym (append-nil c.loop-number.text.items)
    ∙ ap (λ (xs : List ℕ). c.loop-number.text.items ++ spelled (texts c.args.pieces.now) xs)
    (let e : [] ≡ c.loop-number.pending.items = search rules in e)
    ∙ c.loop-number.invariant
