use Rattle.std.proofs.Common.{List, ◌+◌, refl, sym, subst}
use Rattle.idx_core.specs.declared.span.Span.{Span}
use Rattle.t_terms.specs.declared.instr.Instr.{Instr}
use Rattle.t_terms.specs.Spanned.{BodyBelow}
use Rattle.t_terms.specs.Read.{body, end_of}
use Rattle.t_terms.proofs.bodies.block_below.Goals as goal

pub returns-then-file_below : goal.returns-then-file_below
returns-then-file_below c =
    let b = c.args.b.now in
    let n = c.args.n + b.owes in
    let bound = c.deeper-bound.ensures c.args.n refl in
    let file = c.file_below.ensures n bound in
    let rest = c.body_below.ensures n bound in
    let below = λ (xs : List (Instr × Span)). BodyBelow n (body xs) (end_of b.«end») in
    let items = c.deref.ensures.value in (
      λ h. let r = subst below items (rest.0 h) in (tt, file.0 c.if-file_below.true, r.0, r.1),
      λ h. rest.1 (subst below (sym items) (h.2, h.3)),
    )
