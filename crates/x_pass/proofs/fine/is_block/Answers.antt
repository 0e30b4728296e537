use Rattle.std.proofs.Common.{sym, subst}
use Rattle.x_laws.specs.Going.{IsSeq}
use Rattle.w_terms.specs.Read.{seq}
use Rattle.x_pass.proofs.Allowed.{next_alone, no_exit}
use Rattle.x_pass.proofs.fine.is_block.Goals as goal
use Rattle.x_pass.proofs.fine.is_block.Goals.{then-wrote-via-then-wrote}
use Rattle.x_pass.proofs.fine.is_block.Goals.{then-wrote-via-else-wrote+then-not-is_instr}

pub returns-then-wrote-clause-fails : goal.returns-then-wrote-clause-fails
returns-then-wrote-clause-fails c = λ no all.
    let n = c.args.registers in
    let end = c.args.block.now.end in
    let items = c.as_slice-body.result.now in
    let i = c.loop-instr.instr-index in
    let rest = c.loop-instr.invariant.fails
    (subst (λ xs. IsSeq n (seq xs end)) (sym c.as_slice-body.ensures.value) all) in
    elim c.then-wrote.branch [
      | then-wrote-via-then-wrote w ↦ no_exit i items end c.loop-instr-test.true (rest.1 w.if-wrote.true)
      | then-wrote-via-else-wrote+then-not-is_instr w ↦ w.is_instr.ensures.fails w.if-not-is_instr.true
          (next_alone n i items end _ c.loop-instr-test.true rest.0)
    ]
