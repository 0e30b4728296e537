use Rattle.std.proofs.Common.{◌∙◌, ap, sym, cond, List, ℕ}
use Rattle.k_terms.specs.K.{TKCode}
use Rattle.k_terms.specs.Read.{ktys}
use Rattle.c_terms.specs.C as C
use Rattle.c_terms.specs.Read.{ctys}
use Rattle.calc_core.specs.declared.types.CoreType.{CoreType as CType}
use Rattle.c_rules.specs.Close as L
use Rattle.c_rules.specs.Know as W
use Rattle.c_emit.specs.Names.{side}
use Rattle.c_pass.specs.Read.{bounds}
use Rattle.c_pass.proofs.info.closure_inside.Goals as goal

pub returns-in_ok-apply-clause-apply : goal.returns-in_ok-apply-clause-apply
returns-in_ok-apply-clause-apply c =
    let g = side c.args.g.now in
    let d = c.args.header.now.depth in
    c.in_ok-apply.ensures ∙ ap (λ (ls : List ℕ). W.variables (W.outer_var g) d ls) c.deref-then-found.ensures.value
    ∙ sym (ap (λ b. cond b (W.variables (W.outer_var g) d g.kept) C.NoCTys) c.if-found.true)

pub returns-in_ok-apply-clause-hidden : goal.returns-in_ok-apply-clause-hidden
returns-in_ok-apply-clause-hidden c =
    let g = side c.args.g.now in
    let d = c.args.header.now.depth in
    let xs = bounds c.args.xs.now in
    c.in_ok-hidden.ensures ∙ ap (λ (ls : List ℕ). C.TCTuple (W.bound_types (W.outer_var g) d xs ls))
    c.deref.ensures.value
    ∙ sym (ap (λ b. cond b (C.TCTuple (W.bound_types (W.outer_var g) d xs c.args.found.now.kept.list.items)) C.TCInt)
    c.if-found.true)

pub returns-in_ok-apply-clause-shape : goal.returns-in_ok-apply-clause-shape
returns-in_ok-apply-clause-shape c =
    let g = side c.args.g.now in
    let h = c.args.header.now in
    c.in_ok-shape.ensures ∙ ap (L.ctype (W.outer_var g)) c.requires
    ∙ sym (ap (λ b. cond b (L.ctype (W.outer_var g) (TKCode h.owes (ktys h.args.now))) C.TCInt) c.if-found.true)

pub returns-else-found-clause-apply : goal.returns-else-found-clause-apply
returns-else-found-clause-apply c =
    let g = side c.args.g.now in
    ap (λ (ts : List CType). ctys ts) c.new.ensures.items
    ∙ sym (ap (λ b. cond b (W.variables (W.outer_var g) c.args.header.now.depth g.kept) C.NoCTys) c.if-found.false)

pub returns-else-found-clause-hidden : goal.returns-else-found-clause-hidden
returns-else-found-clause-hidden c =
    let g = side c.args.g.now in
    sym (ap (λ b. cond b (C.TCTuple (W.bound_types (W.outer_var g) c.args.header.now.depth (bounds c.args.xs.now)
    c.args.found.now.kept.list.items)) C.TCInt) c.if-found.false)

pub returns-else-found-clause-shape : goal.returns-else-found-clause-shape
returns-else-found-clause-shape c =
    let h = c.args.header.now in
    sym (ap (λ b. cond b (L.ctype (W.outer_var (side c.args.g.now)) (TKCode h.owes (ktys h.args.now))) C.TCInt)
    c.if-found.false)
