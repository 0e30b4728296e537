use Rattle.std.proofs.Common.{◌∙◌, ◌+◌, ap, sym, List, ℕ, drop}
use Rattle.std.proofs.lemmas.List.{drop_more, drop_all}
use Rattle.c_terms.specs.C as C
use Rattle.c_rules.specs.Know as W
use Rattle.calc_core.specs.declared.types.CoreType.{CoreType as CType}
use Rattle.calc_core.specs.Read.{joined}
use Rattle.c_emit.specs.Names.{side}
use Rattle.calc_core.proofs.Trees.{joined_push, joined_nil}
use Rattle.c_pass.specs.Read.{bounds, var_of}
use Rattle.c_pass.proofs.translate.types_at.Goals as goal

pub loop-l-preserved : goal.loop-l-preserved
loop-l-preserved c =
    let p = c.args.place.now in
    let r = var_of p.outside (side p.side.now) in
    let xs = bounds c.args.xs.now in
    let rest = W.bound_types r p.depth xs (drop (c.loop-l.l-index + 1) c.args.levels.now) in
    ap (λ (ys : List CType). joined ys rest) c.in_ok-push.ensures.items
    ∙ joined_push _ _ rest
    ∙ ap (λ x. joined c.loop-l.made.items (C.MoreCTys x rest)) c.in_ok-t.ensures
    ∙ ap (λ (ls : List ℕ). joined c.loop-l.made.items (W.bound_types r p.depth xs ls))
    (sym (drop_more c.args.levels.now c.loop-l.l-index 0 c.loop-l-test.true))
    ∙ c.loop-l.invariant

pub returns : goal.returns
returns c =
    let p = c.args.place.now in
    let r = var_of p.outside (side p.side.now) in
    sym (joined_nil c.loop-l.made.items)
    ∙ ap (λ (ls : List ℕ). joined c.loop-l.made.items (W.bound_types r p.depth (bounds c.args.xs.now) ls))
    (sym (drop_all c.loop-l.l-index c.args.levels.now c.loop-l-test.false)) ∙ c.loop-l.invariant
