use Rattle.std.proofs.Common.{◌≡◌, ◌∙◌, ◌+◌, ap, sym, List, ℕ, rules, length}
use Rattle.c_terms.specs.C as C
use Rattle.c_rules.specs.Close as L
use Rattle.c_rules.specs.Know as W
use Rattle.k_terms.specs.Read.{ktys}
use Rattle.c_terms.specs.Read.{ctree, ctys}
use Rattle.c_emit.specs.Names.{side}
use Rattle.c_pass.specs.Read.{bounds, info_parts, told}
use Rattle.c_pass.proofs.info.info_from.Goals as goal
use Rattle.calc_core.proofs.Lifts.{lift_add}
use Rattle.c_laws.proofs.Knowing.{packed_same}

pub returns : goal.returns
returns c =
    let h = c.args.header.now in
    let xs = bounds c.args.xs.now in
    let f = side c.args.sides.now.around.now in
    let g = side c.args.sides.now.inside.now in
    let j = told (info_parts h.depth h.owes (ktys h.args.now) c.args.found.kept.list.items c.args.found.own xs f g) in
    let ks = c.args.sides.now.inside.now.kept.list.items in
    let n : c.len.result ≡ length ks = search rules in
    packed_same c.args.found.kept.list.items c.args.found.own
    (ctree c.in_ok-hidden.hidden) (ctree c.in_ok-shape.shape) (ctys c.in_ok-apply.apply.items)
    (ctree c.in_ok-inside.inside.hidden) (ctree c.in_ok-inside.inside.shape) (ctys c.in_ok-inside.inside.apply.items)
    c.in_ok-owes.owes (ctys c.in_ok-args.args.items)
    j.hidden j.shape j.apply j.hidden_in j.shape_in j.apply_in j.owes j.args
    (c.in_ok-hidden.ensures
    ∙ ap (λ (ls : List ℕ). C.TCTuple (W.bound_types (W.side_var f) h.depth xs ls)) c.deref.ensures.value)
    (c.in_ok-shape.ensures ∙ ap (L.ctype (W.side_var f)) c.requires)
    (c.in_ok-apply.ensures ∙ ap (λ (ls : List ℕ). W.variables (W.side_var f) h.depth ls) c.deref-2.ensures.value)
    c.in_ok-inside.ensures.hidden
    c.in_ok-inside.ensures.shape
    c.in_ok-inside.ensures.apply
    (c.in_ok-owes.ensures ∙ ap (λ x. h.owes + x) n ∙ sym (lift_add h.owes (length ks)))
    (c.in_ok-args.ensures ∙ ap (λ x. C.MoreCTys x (L.ctypes (W.side_var g) (ktys h.args.now)))
    (c.in_ok-first.ensures ∙ ap (λ (ls : List ℕ). C.TCTuple (W.bound_types (W.outer_var g) h.depth xs ls))
    c.deref-3.ensures.value))
