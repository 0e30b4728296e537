use Rattle.std.proofs.Common.{sym, ◌∙◌, true≢false}
use Rattle.t_terms.specs.Tree.{names_after}
use Rattle.t_terms.specs.Read.{instr, end_of}
use Rattle.t_terms.proofs.BodyWalks.{below_on, below_here, below_done}
use Rattle.t_terms.proofs.bodies.body_below.Goals as goal

pub loop-entry-init : goal.loop-entry-init
loop-entry-init c = λ n b. (n, b, ((λ x. x), (λ x. x)))

pub returns-then-not-instr_below : goal.returns-then-not-instr_below
returns-then-not-instr_below c = λ n b.
    let h = c.loop-entry.invariant n b in (
      λ x. absurd (true≢false (sym x)),
      λ x. sym c.if-not-instr_below.true
          ∙ (c.instr_below.ensures h.0 h.1).1
          (below_here n c.args.entries.now (end_of c.args.last.now) c.loop-entry.entry-index h.0 c.entry-item.result
          c.entry-item.is c.loop-entry-test.true h.2 x),
    )

pub loop-entry-preserved : goal.loop-entry-preserved
loop-entry-preserved c = λ n b.
    let h = c.loop-entry.invariant n b in
    let x = c.entry-item.result in (
      names_after (instr x.0) h.0,
      c.bound_after-here.ensures h.0 h.1,
      below_on n c.args.entries.now (end_of c.args.last.now) c.loop-entry.entry-index h.0 x c.entry-item.is
          c.loop-entry-test.true ((c.instr_below.ensures h.0 h.1).0 c.if-not-instr_below.false) h.2,
    )

pub returns : goal.returns
returns c = λ n b.
    let h = c.loop-entry.invariant n b in
    let done = below_done n c.args.entries.now (end_of c.args.last.now) c.loop-entry.entry-index h.0
    c.loop-entry-test.false h.2 in
    let last = c.end_below.ensures h.0 h.1 in
    (λ x. done.1 (last.0 x), λ x. last.1 (done.0 x))
