use Rattle.std.proofs.Common.{List, ◌<◌, length, arith, refl, sym, subst, Result, true≢false}
use Rattle.std.proofs.lemmas.Result.{err_from_is_err_and}
use Rattle.t_terms.specs.declared.block.Block.{Block}
use Rattle.t_terms.specs.declared.data.Data.{Data}
use Rattle.t_known.specs.declared.refusal.Refusal.{Refusal}
use Rattle.t_terms.specs.Read.{spanned_blocks, spanned_heap, data_of}
use Rattle.t_terms.specs.ReadProgram.{program, spanned_program}
use Rattle.t_terms.proofs.Blocks.{blocks_count}
use Rattle.t_rules.specs.Rules.{HeapAccepted}
use Rattle.t_rules.specs.Faults.{HeapFaultWith}
use Rattle.t_known.specs.Refusals.{SaysWith}
use Rattle.t_check.specs.Verdict.{AreBlocks, IsProgram}
use Rattle.t_check.proofs.Bodies.{first_takes, first_fault, heap_fault, program_is}
use Rattle.t_known.proofs.Numbering.{labels_grown}
use Rattle.t_check.proofs.program.check_program.Goals as goal

pub check_blocks-requires-clause-labels : goal.check_blocks-requires-clause-labels
check_blocks-requires-clause-labels c =
    labels_grown c.of_program.new.types c.check_heap.new.types c.args.program.now c.in_ok-labels.labels
    c.in_ok-check_heap.ensures.grown c.in_ok-labels.ensures.labels

pub returns-then-not-takes_nothing : goal.returns-then-not-takes_nothing
returns-then-not-takes_nothing c =
    let p = c.args.program.now in
    let some = p.whole.0.0 in
    let lt : 0 < length p.blocks.items = omega (arith, blocks_count p.blocks.items) in
    subst (λ (r : Result (Unit {0}) Refusal). IsProgram (spanned_program p) c.args.types.now r) (sym c.refused.ensures)
    (first_fault p c.index-first.result.now lt c.index-first.ensures
    (λ h. true≢false (sym (c.if-not-takes_nothing.ensures.1 h))))

pub returns : goal.returns
returns c =
    let p = c.args.program.now in
    let some = p.whole.0.0 in
    let lt : 0 < length p.blocks.items = omega (arith, blocks_count p.blocks.items) in
    let first = first_takes p.blocks.items c.index-first.result.now lt c.index-first.ensures
    (c.if-not-takes_nothing.ensures.0 refl) in
    let heap = subst (λ (xs : List Data). HeapAccepted (program p) (data_of xs)) c.deref.ensures.value
    c.in_ok-check_heap.ensures.heap in
    let us = c.check_blocks.new.types in
    program_is p first heap us c.check_blocks.result
    (subst (λ (bs : List Block). AreBlocks (program p) us (spanned_blocks bs) c.check_blocks.result)
    c.deref-2.ensures.value c.check_blocks.ensures)

pub returns-in_err-check_heap : goal.returns-in_err-check_heap
returns-in_err-check_heap c =
    let p = c.args.program.now in
    let some = p.whole.0.0 in
    let lt : 0 < length p.blocks.items = omega (arith, blocks_count p.blocks.items) in
    let first = first_takes p.blocks.items c.index-first.result.now lt c.index-first.ensures
    (c.if-not-takes_nothing.ensures.0 refl) in
    let q = err_from_is_err_and c.from_residual-in_err-check_heap.result c.from_residual-in_err-check_heap.ensures.1 in
    let e = c.in_err-check_heap.field-0.0 in
    let us = c.check_heap.new.types in
    rw (q.1, q.2)
    (heap_fault p first us e
    (subst (λ (xs : List Data). SaysWith us e (HeapFaultWith (program p) (spanned_heap xs))) c.deref.ensures.value
    c.in_err-check_heap.ensures.heap))
